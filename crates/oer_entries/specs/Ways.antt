-- The texts of the way to a part.
use Rattle.std.specs.Prelude.{ℕ, List, [], ◌∷◌, ◌++◌, map, Option, Some}
use Rattle.std.specs.Fmt.{decimal}
use Rattle.oer_units.specs.declared.tagging.Tag.{Tag}
use Rattle.oer_model.specs.AsnType.{AsnType}
use Rattle.oer_model.specs.Parts as plain
use Rattle.oer_model.specs.Parts.{to_addition, to_chosen, to_component, to_item}
use Rattle.oer_parts.specs.Walk.{step_of}
use Rattle.oer_parts.specs.declared.step.Step.{Step}
use Rattle.oer_entries.specs.Kinds.{kind_text}
use Rattle.oer_entries.specs.Known.{part_in}

-- a text, and a point behind it where it isn't empty
abbrev pub pointed : List ℕ → List ℕ
pointed [] = []
pointed (x ∷ xs) = (x ∷ xs) ++ 46 ∷ []

-- a text, and then others, with a point between each two that aren't empty
abbrev pub joined : List ℕ → List (List ℕ) → List ℕ
joined text [] = text
joined text (one ∷ more) = joined (pointed text ++ one) more

-- a letter for the kind of the step, and its number
abbrev pub letter_text : plain.Step → List ℕ
letter_text (to_component i) = 99 ∷ decimal i
letter_text (to_addition i) = 97 ∷ decimal i
letter_text (to_item i) = 105 ∷ decimal i
letter_text to_chosen = 118 ∷ []

abbrev pub step_text : Step → List ℕ
step_text step = letter_text (step_of step)

-- the path in the spelling of `oer part`
abbrev pub path_text : List plain.Step → List ℕ
path_text path = joined [] (map letter_text path)

-- what the parts on a path are called, from one of this type on, to which `front` leads; `tags`: the tags of CHOICEs
abbrev pub names_on : (List plain.Step → Option Tag) → Option AsnType → List plain.Step → List plain.Step → List (List ℕ)
names_on tags T front [] = []
names_on tags T front (step ∷ path) =
    let part = part_in T (tags front) step in part.name ∷ names_on tags part.type (front ++ step ∷ []) path

-- the names on a path from a value of the type
abbrev pub names_text : AsnType → (List plain.Step → Option Tag) → List plain.Step → List ℕ
names_text T tags path = joined [] (names_on tags (Some T) [] path)

-- the type of the part at the end of a path, from a part of this type on, to which `front` leads
abbrev pub type_on : (List plain.Step → Option Tag) → Option AsnType → List plain.Step → List plain.Step → Option AsnType
type_on tags T front [] = T
type_on tags T front (step ∷ path) = type_on tags (part_in T (tags front) step).type (front ++ step ∷ []) path

-- what that type is called, on a path from a value of the type
abbrev pub kind_at : AsnType → (List plain.Step → Option Tag) → List plain.Step → List ℕ
kind_at T tags path = kind_text (type_on tags (Some T) [] path)
