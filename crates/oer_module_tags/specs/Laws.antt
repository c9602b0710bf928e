-- What holds of tags.
use Rattle.std.specs.Prelude.{◌≡◌, ℕ, List, Ok}
use Rattle.oer_module_syntax.specs.Tree.{Module, Tree, Elements}
use Rattle.oer_module_values.specs.Types.{type_in}
use Rattle.oer_units.specs.declared.tagging.Tag.{Tag}
use Rattle.oer_module_tags.specs.Alternatives.{AreTags, alternative_tags}
use Rattle.oer_module_tags.specs.Outermost.{HasTag, outermost_tag}

-- What is found for a type is its outermost tag.
abbrev pub TagsAreSound : Type 0
TagsAreSound = (ms : List Module) (m : ℕ) (t : Tree) (g : Tag) → outermost_tag ms (type_in m t) ≡ Ok g → HasTag ms m t g

-- A type has one outermost tag.
abbrev pub TagsAreSole : Type 0
TagsAreSole = (ms : List Module) (m : ℕ) (t : Tree) (g h : Tag) → HasTag ms m t g → HasTag ms m t h → g ≡ h

-- What is found for the alternatives of a CHOICE are their tags.
abbrev pub AlternativesAreSound : Type 0
AlternativesAreSound = (ms : List Module) (m : ℕ) (es : Elements) (gs : List Tag) → alternative_tags ms m es ≡ Ok gs → AreTags ms m es gs
