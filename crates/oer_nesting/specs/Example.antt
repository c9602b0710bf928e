-- A type that contains itself, Nest ::= SEQUENCE {inner Nest OPTIONAL}, written out so many times.
use Rattle.std.specs.Prelude.{ℕ, zero, suc, List, [], false}
use Rattle.oer_model.specs.AsnType.{AsnType, alternative, choice, field, may, no_alternatives, no_fields, null, sequence}
use Rattle.oer_model.specs.AsnValue.{AsnValue, absent, no_places, present, seq}
use Rattle.oer_nesting.specs.Deeper.{Deeper, HasNoEnd, end_tag}

abbrev pub unnamed : List ℕ
unnamed = []

abbrev pub nest : ℕ → AsnType
nest zero = choice false (alternative unnamed end_tag null no_alternatives)
nest (suc n) = sequence (field unnamed may (nest n) no_fields)

-- so many values, one in the other, in one more
abbrev pub nested : ℕ → AsnValue
nested zero = seq (absent no_places) no_places []
nested (suc n) = seq (present (nested n) no_places) no_places []

-- Written out once more, it has its end replaced. What nests n times in a value meets no end of the type that is written
-- out once more, and meets one otherwise.
abbrev pub NestsOnceMore : Type 0
NestsOnceMore = (n : ℕ) → Deeper (nest n) (nest (suc n)) × HasNoEnd (nest (suc n)) (nested n) × (HasNoEnd (nest n) (nested n) → ⊥)
