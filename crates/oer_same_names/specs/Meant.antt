-- What is found for a type and a Name of the notation in a module.
use Rattle.std.specs.Prelude.{◌≡◌, ◌⊎◌, ◌<◌, ◌≤◌, ℕ, List, [], ◌∷◌, length, Result, Ok, Err}
use Rattle.oer_model.specs.AsnType.{Alternatives, AsnType, no_alternatives, alternative, later}
use Rattle.oer_module_names.specs.Standing.{IsAt}
use Rattle.oer_module_syntax.specs.Tree.{Assignment, type_body}
use Rattle.oer_module_syntax.specs.Tree.{Tree, named, tagged}
use Rattle.oer_module_text.specs.Errors.{Read, tag_number}
use Rattle.oer_module_values.specs.Errors.{Error, circular}
use Rattle.oer_module_values.specs.Types.{Meaning, type_in}
use Rattle.oer_notation.specs.Reading.{Known}
use Rattle.oer_same_names.specs.Home.{IsBare, IsFront}
use Rattle.oer_same_trees.specs.Says.{Says}
use Rattle.oer_units.specs.declared.tagging.Tag.{Tag}

-- no tag, and no Name
abbrev pub IsBuilt : Tree → Type 0
IsBuilt (named at w steps parameters constraints) = ⊥
IsBuilt (tagged at tag mode t) = ⊥
IsBuilt t = Unit {0}

-- The tree says the type by definitions with which ks begins.
pub record SaysFrom (ks : List Known) (T : AsnType) (t : Tree) : Type 0 where
  pub known : List Known
  pub front : IsFront known ks
  pub says : Says known T t

-- The tree is that of the assignment which stands behind as many as are known.
pub record IsTreeBehind (found : List Assignment) (known : List Known) (t : Tree) : Type 0 where
  pub assignment : Assignment
  pub is : IsAt found (length known) assignment
  pub body_is : assignment.body ≡ type_body t

-- the tree behind a tag, if there is one
abbrev pub untagged : Tree → Tree
untagged (tagged at tag mode t) = t
untagged t = t

-- From a tree with so many definitions before it the way leads to a tree with others before it: to the tree itself, without its tag,
-- or to that of one of these definitions.
abbrev pub LeadsTo : List Assignment → List Known → Tree → List Known → Tree → Type 0
LeadsTo found known t by u = ((by ≡ known) × (u ≡ untagged t)) ⊎ ((length by < length known) × IsTreeBehind found by u)

-- An assignment of the Name without parameters, whose tree says the type.
pub record Defines (ks : List Known) (w : List ℕ) (T : AsnType) (a : Assignment) : Type 0 where
  pub tree : Tree
  pub name_is : a.name ≡ w
  pub without : a.parameters ≡ []
  pub body_is : a.body ≡ type_body tree
  pub says : SaysFrom ks T tree

-- A tree of module 0 that is no tag and no Name, and says the type; on the way nothing was given but empty constraints.
pub record IsMeant (ks : List Known) (T : AsnType) (m : Meaning) : Type 0 where
  pub tree : Tree
  pub of : m.of ≡ type_in 0 tree
  pub built : IsBuilt tree
  pub says : SaysFrom ks T tree
  pub bare : IsBare m.given

-- the same for a tree that says the type by known definitions, and where the tree stands
pub record IsMeantBy (found : List Assignment) (ks known : List Known) (T : AsnType) (t : Tree) (m : Meaning) : Type 0 where
  pub meant : IsMeant ks T m
  pub leads : LeadsTo found known t meant.says.known meant.tree

-- What is found is such a tree; or so many steps are too few, and then as many definitions stand before the tree.
abbrev pub LeadsIn : ℕ → List Assignment → List Known → List Known → AsnType → Tree → Result Meaning Error → Type 0
LeadsIn steps found ks known T t (Ok m) = IsMeantBy found ks known T t m
LeadsIn steps found ks known T t (Err e) = (e.why ≡ circular) × (steps ≤ length known)

-- The reader takes 255 steps; the first may be to the type behind a tag.
abbrev pub LeadsToType : List Assignment → List Known → List Known → AsnType → Tree → Result Meaning Error → Type 0
LeadsToType found ks known T t r = LeadsIn 254 found ks known T t r

-- the tags of alternatives, in their order
abbrev pub tags_of : Alternatives → List Tag
tags_of no_alternatives = []
tags_of (alternative w t T more) = t ∷ tags_of more
tags_of (later w t T more) = t ∷ tags_of more

-- What is read are these tags; or a number of a tag has more than 32 bits.
abbrev pub AreTagsOf : List Tag → Read (List Tag) → Type 0
AreTagsOf own (Ok gs) = gs ≡ own
AreTagsOf own (Err e) = e.why ≡ tag_number
