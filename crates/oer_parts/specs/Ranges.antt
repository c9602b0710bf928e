-- What the caller of `part_range` learns.
use Rattle.std.specs.Prelude.{◌≤◌, ℕ, List, length, slice_range, Option, Some}
use Rattle.std.specs.declared.ops.Range.{Range}
use Rattle.oer_model.specs.AsnType.{AsnType}
use Rattle.oer_model.specs.Parts as plain
use Rattle.oer_parts.specs.Handing.{Begins}
use Rattle.oer_parts.specs.Offsets.{StandsAt}

-- the octets that a range of them names
abbrev pub octets_in_range : List ℕ → Range ℕ → List ℕ
octets_in_range octets r = slice_range octets r.start r.end

-- In the encoding at the front the path leads to s, before which n octets stand.
abbrev pub LeadsFrom : AsnType → List ℕ → List plain.Step → List ℕ → ℕ → Type 0
LeadsFrom T octets path s n = Begins T octets (λ b. (U : Option AsnType) × StandsAt (Some T) b path U s n)

-- It is a range of the octets, and the part stands there.
abbrev pub Lies : AsnType → List ℕ → List plain.Step → Range ℕ → Type 0
Lies T octets path r = (r.start ≤ r.end) × (r.end ≤ length octets) × LeadsFrom T octets path (octets_in_range octets r) r.start
