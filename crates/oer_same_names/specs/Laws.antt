-- Laws of Names, of what types stand for, and of the tags of alternatives, in a module that says definitions of the notation.
use Rattle.std.specs.Prelude.{◌≡◌, ◌<◌, ℕ, List, Bool, Some, Ok, length, slice_get}
use Rattle.oer_model.specs.AsnType.{Alternatives, AsnType}
use Rattle.oer_module_names.specs.Finding.{find, find_anywhere}
use Rattle.oer_module_names.specs.Tables.{assignments_in}
use Rattle.oer_module_names.specs.declared.error.Found.{Found}
use Rattle.oer_module_syntax.specs.Tree.{Assignment, Elements, Module, Tree}
use Rattle.oer_module_tags.specs.Alternatives.{alternative_tags}
use Rattle.oer_module_values.specs.Types.{meaning, type_in}
use Rattle.oer_notation.specs.Grammar.{IsDefined}
use Rattle.oer_notation.specs.Reading.{Known}
use Rattle.oer_same_names.specs.Home.{IsFront, IsHome}
use Rattle.oer_same_names.specs.Meant.{AreTagsOf, Defines, LeadsToType, tags_of}
use Rattle.oer_same_trees.specs.Says.{Says, SaysAlternatives, SaysTagged}
use Rattle.oer_units.specs.declared.tagging.Tag.{Tag}

-- What is found for the Name of a definition is an assignment in the one module, and this defines the Name as the definition does,
-- by the definitions before it.
abbrev pub FindsDefinition : List Module → List Known → List ℕ → AsnType → Found → Type 0
FindsDefinition ms ks w T f =
    (a : Assignment) × (f.«module» ≡ 0) × (slice_get (assignments_in ms f.«module») f.assignment ≡ Some a)
    × (d : Defines ks w T a) × (length d.says.known ≡ f.assignment)

-- The Name of a definition is found, among the assignments of those known where it is one of them.
abbrev pub NamesAreFound : Type 0
NamesAreFound = (ms : List Module) (ks known : List Known) (w : List ℕ) (T : AsnType) → IsHome ms ks → IsFront known ks
    → IsDefined w T known → (f : Found) × (find ms 0 w ≡ Ok f) × FindsDefinition ms ks w T f × (f.assignment < length known)

-- So is a Name that is sought in all modules.
abbrev pub NamesAreFoundAnywhere : Type 0
NamesAreFoundAnywhere = (ms : List Module) (ks : List Known) (w : List ℕ) (T : AsnType) → IsHome ms ks → IsDefined w T ks
    → (f : Found) × (find_anywhere ms w ≡ Ok f) × FindsDefinition ms ks w T f

-- What is found for a tree that says a type of the notation says this type, and is neither a tag nor a Name. It is the tree itself,
-- or that of a definition before it. Nothing is found only where that takes too many steps, and so many definitions stand before it.
abbrev pub TypesAreMeant : Type 0
TypesAreMeant = (ms : List Module) (ks known : List Known) (T : AsnType) (t : Tree) (home : IsHome ms ks) → IsFront known ks
    → Says known T t → LeadsToType home.home.assignments ks known T t (meaning ms (type_in 0 t))

-- the same of the type of an alternative, which may have a tag before it
abbrev pub AlternativesAreMeant : Type 0
AlternativesAreMeant = (ms : List Module) (ks known : List Known) (is_tagged : Bool) (place : ℕ) (g : Tag) (T : AsnType) (t : Tree)
    (home : IsHome ms ks) → IsFront known ks → SaysTagged known is_tagged place g T t
    → LeadsToType home.home.assignments ks known T t (meaning ms (type_in 0 t))

-- The tags that are found for alternatives are theirs, of the root and later ones, in order.
abbrev pub TagsAreTheirs : Type 0
TagsAreTheirs = (ms : List Module) (ks known : List Known) (is_tagged : Bool) (more : Alternatives) (marker : Bool) (es : Elements)
    → IsHome ms ks → SaysAlternatives known is_tagged 0 more marker es → AreTagsOf (tags_of more) (alternative_tags ms 0 es)
