-- How many octets numbers of fixed size have.
use Rattle.std.specs.Prelude.{ℕ, ◌*◌, ◌-◌, ◌^◌, ◌<◌, ℤ, pos, neg_ℤ, ◌≤ℤ◌, ◌<ℤ◌}
use Rattle.oer_units.specs.declared.width.Width.{Width}
use Rattle.oer_units.specs.declared.width.Width.TheVariants.{One, Two, Four, Eight}

abbrev pub octets_of_width : Width → ℕ
octets_of_width One = 1
octets_of_width Two = 2
octets_of_width Four = 4
octets_of_width Eight = 8

-- n has no more octets
abbrev pub FitsUnsignedWidth : Width → ℕ → Type 0
FitsUnsignedWidth width n = n < 256 ^ octets_of_width width

-- nor has z, in two's complement
abbrev pub FitsSignedWidth : Width → ℤ → Type 0
FitsSignedWidth width z = (neg_ℤ (pos (2 ^ (8 * octets_of_width width - 1))) ≤ℤ z) × (z <ℤ pos (2 ^ (8 * octets_of_width width - 1)))
