-- Steps that reader and checker take alike: a number in its form, unused bits, components that are there.
use Rattle.std.specs.Prelude.{ℕ, ℤ, List, Bool, true, ◌&&◌, ◌||◌, leb, eqb}
use Rattle.oer_units.specs.Fixed.{group_as}
use Rattle.oer_units.specs.Numbers.{natural, signed}
use Rattle.oer_units.specs.Reader.{Reader}
use Rattle.oer_units.specs.Reading.{counted_number, is_int128}
use Rattle.oer_model.specs.AsnType.{Need, default, may, must}
use Rattle.oer_model.specs.Bits.{first_bit, later_bits}
use Rattle.oer_model.specs.Constraints.{Form, signed_counted, signed_fixed, unsigned_counted, unsigned_fixed}

-- a number in its form, of 128 bits, before it is compared with bounds
abbrev pub number_in : Form → Reader ℤ
number_in (unsigned_fixed n) = group_as n natural
number_in (signed_fixed n) = group_as n signed
number_in unsigned_counted = counted_number natural is_int128
number_in signed_counted = counted_number signed is_int128

-- u bits may be unused where a length of n counts the initial octet
abbrev pub unused_fits : ℕ → ℕ → Bool
unused_fits n u = leb u 7 && (leb 2 n || eqb u 0)

-- whether a component is there, by the presence bits from its own on
abbrev pub is_there : Need → List Bool → Bool
is_there must s = true
is_there may s = first_bit s
is_there (default d) s = first_bit s

-- the presence bits of the components after it
abbrev pub bits_left : Need → List Bool → List Bool
bits_left must s = s
bits_left may s = later_bits s
bits_left (default d) s = later_bits s
