-- The line that `oer compare` prints.
use Rattle.std.specs.Prelude.{List, [], ◌∷◌, ◌++◌, Bool, true, false, not, is_some, Option, Some, None, codes}
use Rattle.std.specs.Fmt.{decimal}
use Rattle.clap.specs.Words.{Text}
use Rattle.oer_model.specs.AsnType.{AsnType}
use Rattle.oer_cmd.specs.Expected.{Expected, Refusal, refusal, value}
use Rattle.oer_compare.specs.Difference.{Difference, Part, at_addition, at_alternative, at_component, at_element, differ}
use Rattle.oer_compare.specs.declared.difference.Aspect.{Aspect}
use Rattle.oer_compare.specs.declared.difference.Aspect.TheVariants.{Bounds, Extra, Items, Kind, Marker, Missing, Name, Presence, Size, Tagging}

-- a step of a path; of elements the first
abbrev pub step_text : Part → Text
step_text (at_component i name) = 99 ∷ decimal i
step_text (at_addition i name) = 97 ∷ decimal i
step_text at_element = codes "i0"
step_text (at_alternative name) = codes "v"

abbrev pub name_text : Part → Text
name_text (at_component i name) = name
name_text (at_addition i name) = name
name_text at_element = codes "0"
name_text (at_alternative name) = name

-- a text, and a point behind it where it isn't empty
abbrev pub pointed : Text → Text
pointed [] = []
pointed (x ∷ xs) = (x ∷ xs) ++ 46 ∷ []

-- a text, and then those of parts, with a point between each two
abbrev pub joined : (Part → Text) → Text → List Part → Text
joined f text [] = text
joined f text (part ∷ parts) = joined f (pointed text ++ f part) parts

abbrev pub aspect_text : Aspect → Text
aspect_text Kind = codes "another type"
aspect_text Marker = codes "an extension marker in one of them"
aspect_text Bounds = codes "other bounds"
aspect_text Size = codes "another size"
aspect_text Items = codes "other items"
aspect_text Name = codes "another name"
aspect_text Tagging = codes "another tag"
aspect_text Presence = codes "another OPTIONAL or DEFAULT"
aspect_text Missing = codes "missing in the second"
aspect_text Extra = codes "only in the second"

-- the path and the names of a part
abbrev pub located_text : List Part → Text
located_text parts = codes " at " ++ joined step_text [] parts ++ codes " (" ++ joined name_text [] parts ++ codes ")"

-- nothing of the whole
abbrev pub place_text : List Part → Text
place_text [] = []
place_text (part ∷ parts) = located_text (part ∷ parts)

-- The second type doesn't only add to the first.
abbrev pub differs : Difference → Refusal
differs d = record { status = 1; text = codes "differs" ++ place_text d.0 ++ codes ": " ++ aspect_text d.1 }

abbrev pub verdict_text : Bool → Text
verdict_text true = codes "same"
verdict_text false = codes "extends"

-- by what differs first in the second type from the first, and the other way round
abbrev pub verdict : Option Difference → Option Difference → Expected Text
verdict None back = value (verdict_text (not (is_some back)))
verdict (Some d) back = refusal (differs d)

-- the line on two types
abbrev pub compare_of : AsnType → AsnType → Expected Text
compare_of T U = verdict (differ T U) (differ U T)
