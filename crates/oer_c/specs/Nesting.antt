-- What the call that asks for the nesting of octets answers.
use Rattle.std.specs.Prelude.{◌≡◌, ◌⊎◌, ℕ, List, Option, None, Some}
use Rattle.oer_model.specs.AsnType.{AsnType}
use Rattle.oer_ends.specs.Nests.{nests_at}
use Rattle.oer_c.specs.Checking.{only}
use Rattle.oer_c.specs.declared.check.Checked.{Checked}

-- after how many octets they nest too deep, if they do, in numbers
abbrev pub nested : Option ℕ → Checked
nested None = only 0
nested (Some n) = record { status = 1; why = 19; octets = n; canonical = 0 }

-- Where the octets nest deeper than the type is written out, if they do; or an allocation failed.
abbrev pub IsNested : AsnType → List ℕ → Checked → Type 0
IsNested T octets a = (a ≡ nested (nests_at T octets)) ⊎ (a ≡ only 4)
