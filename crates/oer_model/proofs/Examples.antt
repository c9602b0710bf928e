-- The worked examples, by computation.
use Rattle.std.proofs.Common.{◌≡◌, ⊎_elim, ◌-◌, ◌*◌, ◌^◌, suc, [], ◌∷◌, None, negsuc, refl, ap, arith}
use Rattle.std.proofs.lemmas.Bool.{cases_lt}
use Rattle.std.specs.Char.{encode_utf8}
use Rattle.std.specs.Str.{chars, is_utf8}
use Rattle.oer_units.specs.Reading as unit
use Rattle.oer_units.specs.Least.{big_endian, counted, octets_needed, unsigned_octets, signed_octets, length_octets, enumerated_octets, base128_octets, tag_octets}
use Rattle.oer_units.specs.Numbers.{unsigned, signed}
use Rattle.oer_units.specs.Reader.{at, got, give, refuse, bind, group, within, filled_by}
use Rattle.oer_units.specs.Reading.{octet, determinant, with_length, is_int64, counted_octets, number, counted_number, open_type, tag, digits, long_number, subidentifier_digits, subidentifier, subidentifiers, object_identifier}
use Rattle.oer_units.proofs.Needed.{needed_sixteen}
use Rattle.oer_units.proofs.Numbers.{needed_room, power_le}
use Rattle.oer_model.specs.AsnType.{integer}
use Rattle.oer_model.specs.Bits.{bit, octets_for, padded}
use Rattle.oer_model.specs.Canonical.{bitmap_octets}
use Rattle.oer_model.specs.Checking.{judged, and_also, both, unlike, check_length, check_open, check_group, check_octets, check_sequence, check_extensible, check_items, check_choice, check_enumerated, check_bits, check_subidentifiers, check_object_id, check_octet_string, check_text, check_utf8}
use Rattle.oer_model.specs.Constraints.{form_of, in_range}
use Rattle.oer_model.specs.Examples.{Gives, Stays, zeros, Booleans, Integers, IntegerForms, Enumerations, OctetStrings, BitStrings, ObjectIds, Strings, Sequences, Extensions, UnknownAdditions, Lists, Choices, Checkings, Farthest, PathsFollowed, Boundaries}
use Rattle.oer_model.specs.Parts.{octets_of, read_first, join_parts, read_alone}
use Rattle.oer_model.specs.Reading.{read_both, preamble, bitmap, quantity, read_present, read_absent, read_sequence, read_extensible, read_items, read_choice}

-- `unfolding but_signed` lets `refl` compute what is read, written and checked, but for the octets of a signed number
unfoldable but_signed : Unit {0}
unfolding give refuse bind group within filled_by unsigned signed octet determinant with_length form_of in_range is_int64 bit octets_for number counted_number preamble bitmap counted_octets read_both open_type tag digits long_number quantity read_present read_absent read_sequence read_extensible read_items read_choice unit.enumerated subidentifier_digits subidentifier subidentifiers object_identifier octets_needed unsigned_octets length_octets enumerated_octets base128_octets tag_octets padded bitmap_octets judged and_also both unlike check_length check_open check_group check_octets check_sequence check_extensible check_items check_choice check_enumerated check_bits check_subidentifiers check_object_id check_octet_string check_text check_utf8 octets_of read_first join_parts read_alone chars is_utf8 encode_utf8
but_signed = tt

-- and these too
unfoldable oer : Unit {0}
unfolding but_signed signed_octets
oer = tt

-- the octets of the lowest number of 128 bits are more than a computation can tell
lowest_needed : octets_needed (2 * 170141183460469231731687303715884105727) ≡ 16
lowest_needed =
    let most = needed_sixteen (2 * 170141183460469231731687303715884105727) (omega arith) in
    let room = needed_room (2 * 170141183460469231731687303715884105727) in
    ⊎_elim (λ few. absurd (let small = power_le (octets_needed (2 * 170141183460469231731687303715884105727)) 15 (omega arith) in omega arith)) (λ many. omega arith) (cases_lt (octets_needed (2 * 170141183460469231731687303715884105727)) 16)

lowest : signed_octets (negsuc 170141183460469231731687303715884105727) ≡ 0x80 ∷ zeros 15
unfolding signed_octets
lowest = ap (λ k. big_endian k (256 ^ k - suc 170141183460469231731687303715884105727)) lowest_needed

lowest_stays : Stays (integer None None) (0x10 ∷ 0x80 ∷ zeros 15)
unfolding but_signed
lowest_stays = ap (λ w. got (counted w) (at [] 983)) lowest

lowest_gives : Gives (integer None None) (0x11 ∷ 0xff ∷ 0x80 ∷ zeros 15) (0x10 ∷ 0x80 ∷ zeros 15)
unfolding but_signed
lowest_gives = ap (λ w. got (counted w) (at [] 982)) lowest

pub booleans : Booleans
unfolding oer
booleans = (refl, refl, refl, refl)

pub integers : Integers
unfolding oer
integers = (refl, refl, refl, refl, refl, refl, refl, refl, refl, refl, refl, refl, refl, refl, lowest_stays, lowest_gives)

pub integer_forms : IntegerForms
unfolding oer
integer_forms = (refl, refl, refl, refl, refl, refl)

pub enumerations : Enumerations
unfolding oer
enumerations = (refl, refl, refl, refl, refl, refl, refl)

pub octet_strings : OctetStrings
unfolding oer
octet_strings = (refl, refl, refl, refl, refl, refl)

pub bit_strings : BitStrings
unfolding oer
bit_strings = (refl, refl, refl, refl, refl, refl, refl, refl, refl)

pub object_ids : ObjectIds
unfolding oer
object_ids = (refl, refl, refl, refl, refl, refl)

pub strings : Strings
unfolding oer
strings = (refl, refl, refl, refl, refl, refl, refl, refl, refl, refl, refl, refl, refl, refl)

pub sequences : Sequences
unfolding oer
sequences = (refl, refl, refl, refl, refl, refl, refl, refl, refl, refl, refl, refl, refl, refl)

pub extensions : Extensions
unfolding oer
extensions = (refl, refl, refl, refl, refl, refl, refl, refl, refl, refl, refl, refl, refl, refl, refl)

pub unknown_additions : UnknownAdditions
unfolding oer
unknown_additions = (refl, refl, refl, refl, refl, refl, refl)

pub lists : Lists
unfolding oer
lists = (refl, refl, refl, refl, refl, refl, refl)

pub choices : Choices
unfolding oer
choices = (refl, refl, refl, refl, refl, refl, refl, refl, refl, refl, refl, refl, refl, refl, refl, refl)

pub checkings : Checkings
unfolding oer
checkings = (refl, refl, refl, refl, refl, refl, refl, refl, refl, refl, refl, refl, refl, refl, refl, refl, refl, refl, refl, refl)

pub farthest : Farthest
unfolding oer
farthest = (refl, refl, refl)

pub paths_followed : PathsFollowed
unfolding oer
paths_followed = (refl, refl, refl, refl, refl, refl, refl, refl, refl, refl, refl, refl, refl)

pub boundaries : Boundaries
unfolding oer
boundaries = (refl, refl, refl, refl, refl, refl, refl, refl, refl, refl, refl, refl, refl, refl, refl, refl, refl, refl, refl, refl)
