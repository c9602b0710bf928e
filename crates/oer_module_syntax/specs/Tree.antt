-- The tree that is made of tokens.
use Rattle.std.specs.Prelude.{ℕ, List, [], ◌∷◌, map, Bool, Option, option_map}
use Rattle.oer_module_lexer.specs.Token.{Spot, spots_of}
use Rattle.oer_module_syntax.specs.declared.word.Builtin.{Builtin}
use Rattle.oer_module_syntax.specs.declared.tree.Assignment.{Assignment as RawAssignment}
use Rattle.oer_module_syntax.specs.declared.tree.Body as raw_body
use Rattle.oer_module_syntax.specs.declared.tree.Body.TheVariants as raw_body_variants
use Rattle.oer_module_syntax.specs.declared.tree.Exports as raw_exports
use Rattle.oer_module_syntax.specs.declared.tree.Exports.TheVariants as raw_exports_variants
use Rattle.oer_module_syntax.specs.declared.tree.Import.{Import as RawImport}
use Rattle.oer_module_syntax.specs.declared.tree.Mode.{Mode}
use Rattle.oer_module_syntax.specs.declared.tree.Module.{Module as RawModule}
use Rattle.oer_module_syntax.specs.declared.tree.Symbol.{Symbol as RawSymbol}
use Rattle.oer_module_syntax.specs.declared.tree.Tags.{Tags}
use Rattle.oer_module_syntax.specs.declared.tree.Versions.{Versions}
use Rattle.oer_module_syntax.specs.declared.tree.Need as raw_need
use Rattle.oer_module_syntax.specs.declared.tree.Need.TheVariants as raw_need_variants
use Rattle.oer_module_syntax.specs.declared.tree.TypeSyntax.{TypeSyntax, fold-TypeSyntax}
use Rattle.oer_module_syntax.specs.declared.tree.Element.TheOpen.{TypeSyntax-F, Element-F}
use Rattle.oer_module_syntax.specs.declared.tree.Element.{Element as RawElement, fold-Element}

-- whether a component may be absent; a default is the tokens of its value
pub data Need : Type 0 where
  must may : Need
  default : List Spot → Need

mutual
  -- Each begins at a place. The lists are tokens: items, constraints, the steps behind a name, actual parameters, a tag.
  pub data Tree : Type 0 where
    plain : ℕ → Builtin → List Spot → List Spot → Tree
    named : ℕ → List ℕ → List Spot → List Spot → List Spot → Tree
    tagged : ℕ → List Spot → Mode → Tree → Tree
    structure : ℕ → Builtin → Elements → List Spot → Tree
    list_of : ℕ → Builtin → Bool → List Spot → Option (List ℕ) → Tree → Tree
    selection : ℕ → List ℕ → Tree → Tree
    instance_of : ℕ → List ℕ → List Spot → List Spot → Tree
    any_defined_by : ℕ → List ℕ → Tree

  -- what stands between the commas; the tokens of a marker are its exception
  pub data Element : Type 0 where
    marker : ℕ → List Spot → Element
    group : ℕ → Elements → Element
    components_of : ℕ → Tree → Element
    component : ℕ → List ℕ → Tree → Need → Element

  pub data Elements : Type 0 where
    no_elements : Elements
    element : Element → Elements → Elements

abbrev pub elements_from : List Element → Elements
elements_from [] = no_elements
elements_from (e ∷ es) = element e (elements_from es)

abbrev pub need_of : raw_need.Need → Need
need_of raw_need_variants.Must = must
need_of raw_need_variants.May = may
need_of (raw_need_variants.Default value) = default (spots_of value.now)

abbrev pub type_step : TypeSyntax-F Element Tree → Tree
type_step (TypeSyntax-F.Plain at builtin items constraints) = plain at builtin (spots_of items.now) (spots_of constraints.now)
type_step (TypeSyntax-F.Named at name path parameters constraints) = named at name.now (spots_of path.now) (spots_of parameters.now) (spots_of constraints.now)
type_step (TypeSyntax-F.Tagged at tag mode inner) = tagged at (spots_of tag.now) mode inner.value
type_step (TypeSyntax-F.Structure at builtin elements constraints) = structure at builtin (elements_from elements.items) (spots_of constraints.now)
type_step (TypeSyntax-F.ListOf at builtin sized size name item) = list_of at builtin sized (spots_of size.now) (option_map (λ w. w.now) name) item.value
type_step (TypeSyntax-F.Selection at name from) = selection at name.now from.value
type_step (TypeSyntax-F.InstanceOf at class path constraints) = instance_of at class.now (spots_of path.now) (spots_of constraints.now)
type_step (TypeSyntax-F.AnyDefinedBy at by) = any_defined_by at by.now

abbrev pub element_step : Element-F Element Tree → Element
element_step (Element-F.Marker at exception) = marker at (spots_of exception.now)
element_step (Element-F.Group at elements) = group at (elements_from elements.items)
element_step (Element-F.ComponentsOf at from) = components_of at from.value
element_step (Element-F.Component at name from need) = component at name.now from.value (need_of need)

abbrev pub tree_of : TypeSyntax → Tree
tree_of = fold-TypeSyntax Element Tree element_step type_step

abbrev pub element_of : RawElement → Element
element_of = fold-Element Element Tree element_step type_step

-- ---- modules

-- a name in EXPORTS or IMPORTS, and its place
pub record Symbol : Type 0 where
  pub at : ℕ
  pub name : List ℕ

pub data Exports : Type 0 where
  all : Exports
  these : List Symbol → Exports

-- names from one module, the place of its name, its object identifier, and which versions of it they may come from
pub record Import : Type 0 where
  pub symbols : List Symbol
  pub at : ℕ
  pub from : List ℕ
  pub id : List Spot
  pub versions : Versions

-- what a name stands for; a value and a set have their governor before them
pub data Body : Type 0 where
  type_body : Tree → Body
  class_body : List Spot → List Spot → Body
  value_body set_body : Tree → List Spot → Body

pub record Assignment : Type 0 where
  pub at : ℕ
  pub name : List ℕ
  pub parameters : List Spot
  pub body : Body

pub record Module : Type 0 where
  pub at : ℕ
  pub name : List ℕ
  pub id : List Spot
  pub instructions : Option (List ℕ)
  pub tags : Tags
  pub extensible : Bool
  pub exports : Exports
  pub imports : List Import
  pub assignments : List Assignment
  pub control : List Spot

abbrev pub symbol_of : RawSymbol → Symbol
symbol_of s = record { at = s.at; name = s.name.now }

abbrev pub exports_of : raw_exports.Exports → Exports
exports_of raw_exports_variants.All = all
exports_of (raw_exports_variants.These symbols) = these (map symbol_of symbols.items)

abbrev pub import_of : RawImport → Import
import_of i = record { symbols = map symbol_of i.symbols.items; at = i.at; from = i.from.now; id = spots_of i.id.now; versions = i.versions }

abbrev pub body_of : raw_body.Body → Body
body_of (raw_body_variants.Type t) = type_body (tree_of t)
body_of (raw_body_variants.Class fields syntax) = class_body (spots_of fields.now) (spots_of syntax.now)
body_of (raw_body_variants.Value governor value) = value_body (tree_of governor) (spots_of value.now)
body_of (raw_body_variants.Set governor set) = set_body (tree_of governor) (spots_of set.now)

abbrev pub assignment_of : RawAssignment → Assignment
assignment_of a = record { at = a.at; name = a.name.now; parameters = spots_of a.parameters.now; body = body_of a.body }

abbrev pub module_of : RawModule → Module
module_of m = record {
  at = m.at;
  name = m.name.now;
  id = spots_of m.id.now;
  instructions = option_map (λ w. w.now) m.instructions;
  tags = m.tags;
  extensible = m.extensible;
  exports = exports_of m.exports;
  imports = map import_of m.imports.items;
  assignments = map assignment_of m.assignments.items;
  control = spots_of m.control.now;
}
