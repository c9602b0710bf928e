-- A tree, level by level, beside what it stands for.
use Rattle.std.proofs.Common.{◌≡◌, ℕ, Bool, List, [], ◌∷◌, map, Option, option_map, Vec, Box, Global, Bor, rules}
use Rattle.oer_module_lexer.specs.Token.{spots_of}
use Rattle.oer_module_lexer.specs.declared.token.Spot.{Spot as RawSpot}
use Rattle.oer_module_syntax.specs.Tree.{Tree, Element, plain, named, tagged, structure, list_of, selection, instance_of, any_defined_by}
use Rattle.oer_module_syntax.specs.Tree.{marker, group, components_of, component, elements_from, need_of, tree_of, element_of}
use Rattle.oer_module_syntax.specs.declared.tree.Element as raw_element
use Rattle.oer_module_syntax.specs.declared.tree.Element.{the_lemmas}
use Rattle.oer_module_syntax.specs.declared.tree.Mode.{Mode}
use Rattle.oer_module_syntax.specs.declared.tree.Need as raw_need
use Rattle.oer_module_syntax.specs.declared.tree.TypeSyntax as raw
use Rattle.oer_module_syntax.specs.declared.word.Builtin.{Builtin}

pub tree_of-Plain : (at : ℕ) (b : Builtin) (items constraints : Bor (List RawSpot)) → tree_of (raw.Plain at b items constraints) ≡ plain at b (spots_of items.now) (spots_of constraints.now)
tree_of-Plain at b items constraints = search (rules, the_lemmas)

pub tree_of-Named : (at : ℕ) (name : Bor (List ℕ)) (path parameters constraints : Bor (List RawSpot)) → tree_of (raw.Named at name path parameters constraints) ≡ named at name.now (spots_of path.now) (spots_of parameters.now) (spots_of constraints.now)
tree_of-Named at name path parameters constraints = search (rules, the_lemmas)

pub tree_of-Tagged : (at : ℕ) (tag : Bor (List RawSpot)) (mode : Mode) (inner : Box raw.TypeSyntax Global) → tree_of (raw.Tagged at tag mode inner) ≡ tagged at (spots_of tag.now) mode (tree_of inner.value)
tree_of-Tagged at tag mode inner = search (rules, the_lemmas)

pub tree_of-Structure : (at : ℕ) (b : Builtin) (elements : Vec raw_element.Element Global) (constraints : Bor (List RawSpot)) → tree_of (raw.Structure at b elements constraints) ≡ structure at b (elements_from (map element_of elements.items)) (spots_of constraints.now)
tree_of-Structure at b elements constraints = search (rules, the_lemmas)

pub tree_of-ListOf : (at : ℕ) (b : Builtin) (sized : Bool) (size : Bor (List RawSpot)) (name : Option (Bor (List ℕ))) (item : Box raw.TypeSyntax Global)
    → tree_of (raw.ListOf at b sized size name item) ≡ list_of at b sized (spots_of size.now) (option_map (λ w. w.now) name) (tree_of item.value)
tree_of-ListOf at b sized size name item = search (rules, the_lemmas)

pub tree_of-Selection : (at : ℕ) (name : Bor (List ℕ)) (from : Box raw.TypeSyntax Global) → tree_of (raw.Selection at name from) ≡ selection at name.now (tree_of from.value)
tree_of-Selection at name from = search (rules, the_lemmas)

pub tree_of-InstanceOf : (at : ℕ) (class : Bor (List ℕ)) (path constraints : Bor (List RawSpot))
    → tree_of (raw.InstanceOf at class path constraints) ≡ instance_of at class.now (spots_of path.now) (spots_of constraints.now)
tree_of-InstanceOf at class path constraints = search (rules, the_lemmas)

pub tree_of-AnyDefinedBy : (at : ℕ) (by : Bor (List ℕ)) → tree_of (raw.AnyDefinedBy at by) ≡ any_defined_by at by.now
tree_of-AnyDefinedBy at by = search (rules, the_lemmas)

pub element_of-Marker : (at : ℕ) (exception : Bor (List RawSpot)) → element_of (raw_element.Marker at exception) ≡ marker at (spots_of exception.now)
element_of-Marker at exception = search (rules, the_lemmas)

pub element_of-Group : (at : ℕ) (elements : Vec raw_element.Element Global) → element_of (raw_element.Group at elements) ≡ group at (elements_from (map element_of elements.items))
element_of-Group at elements = search (rules, the_lemmas)

pub element_of-ComponentsOf : (at : ℕ) (from : Box raw.TypeSyntax Global) → element_of (raw_element.ComponentsOf at from) ≡ components_of at (tree_of from.value)
element_of-ComponentsOf at from = search (rules, the_lemmas)

pub element_of-Component : (at : ℕ) (name : Bor (List ℕ)) (from : Box raw.TypeSyntax Global) (need : raw_need.Need) → element_of (raw_element.Component at name from need) ≡ component at name.now (tree_of from.value) (need_of need)
element_of-Component at name from need = search (rules, the_lemmas)

-- each level
pub ruleset trees = (tree_of-Plain, tree_of-Named, tree_of-Tagged, tree_of-Structure, tree_of-ListOf, tree_of-Selection, tree_of-InstanceOf, tree_of-AnyDefinedBy, element_of-Marker, element_of-Group, element_of-ComponentsOf, element_of-Component)
