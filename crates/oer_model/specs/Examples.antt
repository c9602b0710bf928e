-- Worked examples: what the definitions on lists answer, octet by octet.
use Rattle.std.specs.Prelude.{◌≡◌, ℕ, ◌-◌, List, [], ◌∷◌, ◌++◌, length, drop, replicate, Bool, true, false, pos, negsuc, Some, None}
use Rattle.oer_units.specs.Reader.{at, got, refused}
use Rattle.oer_units.specs.declared.fault.Why.TheVariants as reason
use Rattle.oer_units.specs.declared.fault.Why.{Why}
use Rattle.oer_units.specs.declared.fault.Why.TheVariants.{BitUnused, Character, EmptyNumber, End, EnumForm, IntegerRange, LengthForm, Limit, ObjectId, PreamblePadding, TagForm, UnknownAddition, UnknownAlternative, UnknownEnum, Window}
use Rattle.oer_units.specs.declared.tagging.Class.TheVariants.{Context}
use Rattle.oer_units.specs.declared.tagging.Tag.{Tag}
use Rattle.oer_model.specs.AsnType.{AsnType, addition, alternative, bit_string, boolean, choice, default, enumerated, extensible_sequence, field, ia5, integer, later, may, must, no_additions, no_alternatives, no_fields, null, numeric, object_id, octet_string, printable, restricted_string, sequence, sequence_of, utf8_string, visible}
use Rattle.oer_model.specs.AsnValue.{AsnValue, absent, bit_list, bool, chosen, enum, foreign, int, items, no_places, no_values, nothing, octets, oid, present, seq, text, unknown, value}
use Rattle.oer_model.specs.Canonical.{canonical_octets}
use Rattle.oer_model.specs.Checking.{check_value}
use Rattle.oer_model.specs.Constraints.{any_size}
use Rattle.oer_model.specs.Laws.{rewritten}
use Rattle.oer_model.specs.Parts.{Step, Answer, absent_part, find_part, found, no_such_step, to_addition, to_chosen, to_component, to_item}
use Rattle.oer_model.specs.Reading.{read_value}
use Rattle.oer_model.specs.declared.size.Size.{Size}

-- v is read from the whole input
abbrev pub Reads : AsnType → List ℕ → AsnValue → Type 0
Reads T input v = read_value T (at input 1000) ≡ got v (at [] (1000 - length input))

-- under a limit of n octets the input is refused once so many are taken
abbrev pub RefusesWithin : ℕ → AsnType → List ℕ → Why → ℕ → Type 0
RefusesWithin n T input why taken = read_value T (at input n) ≡ refused why (drop taken input)

abbrev pub Refuses : AsnType → List ℕ → Why → ℕ → Type 0
Refuses T input why taken = RefusesWithin 1000 T input why taken

-- the whole input is rewritten to c
abbrev pub Gives : AsnType → List ℕ → List ℕ → Type 0
Gives T input c = rewritten T (at input 1000) ≡ got c (at [] (1000 - length input))

abbrev pub Stays : AsnType → List ℕ → Type 0
Stays T input = Gives T input input

-- the octets of b are found to be canonical or not, whatever follows
abbrev pub Checks : AsnType → List ℕ → List ℕ → Bool → Type 0
Checks T b rest canonical = check_value T (at (b ++ rest) 1000) ≡ got canonical (at rest (1000 - length b))

abbrev pub CheckRefuses : AsnType → List ℕ → Why → ℕ → Type 0
CheckRefuses T input why taken = check_value T (at input 1000) ≡ refused why (drop taken input)

abbrev pub unnamed : List ℕ
unnamed = []

abbrev pub exactly : ℕ → Size
exactly n = record { low = n; high = Some n }

abbrev pub context : ℕ → Tag
context n = record { class = Context; number = n }

abbrev pub zeros : ℕ → List ℕ
zeros n = replicate n 0

abbrev pub Booleans : Type 0
Booleans = Gives boolean (0x01 ∷ []) (0xff ∷ []) × Stays boolean (0x00 ∷ []) × Reads boolean (0x01 ∷ []) (bool true)
    × Reads boolean (0x00 ∷ []) (bool false)

-- INTEGER (0..MAX)
abbrev pub natural_number : AsnType
natural_number = integer (Some (pos 0)) None

abbrev pub up_to : ℕ → AsnType
up_to n = integer (Some (pos 0)) (Some (pos n))

abbrev pub Integers : Type 0
Integers = Gives natural_number (0x02 ∷ 0x00 ∷ 0x05 ∷ []) (0x01 ∷ 0x05 ∷ [])
    × Gives natural_number (0x81 ∷ 0x02 ∷ 0x00 ∷ 0x05 ∷ []) (0x01 ∷ 0x05 ∷ [])
    × Refuses natural_number (0x00 ∷ []) EmptyNumber 1
    × Refuses natural_number (0x80 ∷ []) LengthForm 1
    × Reads (integer (Some (negsuc 128)) (Some (pos 127))) (0xff ∷ 0x7f ∷ []) (int (negsuc 128))
    × Stays (integer (Some (negsuc 128)) (Some (pos 127))) (0xff ∷ 0x7f ∷ [])
    × Reads (integer (Some (negsuc 127)) (Some (pos 127))) (0x80 ∷ []) (int (negsuc 127))
    × Stays (integer (Some (negsuc 127)) (Some (pos 127))) (0x80 ∷ [])
    × Refuses (up_to 5) [] End 0
    × Refuses (up_to 5) (0x06 ∷ []) IntegerRange 1
    × Reads (integer None None) (0x10 ∷ 0x80 ∷ zeros 15) (int (negsuc 170141183460469231731687303715884105727))
    × Reads (integer None None) (0x11 ∷ 0xff ∷ 0x80 ∷ zeros 15) (int (negsuc 170141183460469231731687303715884105727))
    × Refuses (integer None None) (0x11 ∷ 0x00 ∷ 0x80 ∷ zeros 15) IntegerRange 18
    × RefusesWithin 1 (up_to 65535) (0x00 ∷ 0x01 ∷ []) Limit 0
    × Stays (integer None None) (0x10 ∷ 0x80 ∷ zeros 15)
    × Gives (integer None None) (0x11 ∷ 0xff ∷ 0x80 ∷ zeros 15) (0x10 ∷ 0x80 ∷ zeros 15)

-- The canonical octets of 255 by the bounds.
abbrev pub IntegerForms : Type 0
IntegerForms = (canonical_octets (up_to 255) (int (pos 255)) ≡ 0xff ∷ [])
    × (canonical_octets (up_to 256) (int (pos 255)) ≡ 0x00 ∷ 0xff ∷ [])
    × (canonical_octets (up_to 4294967295) (int (pos 255)) ≡ 0x00 ∷ 0x00 ∷ 0x00 ∷ 0xff ∷ [])
    × (canonical_octets (up_to 4294967296) (int (pos 255)) ≡ 0x00 ∷ 0x00 ∷ 0x00 ∷ 0x00 ∷ 0x00 ∷ 0x00 ∷ 0x00 ∷ 0xff ∷ [])
    × (canonical_octets (up_to 18446744073709551616) (int (pos 255)) ≡ 0x01 ∷ 0xff ∷ [])
    × (canonical_octets (integer (Some (negsuc 0)) None) (int (pos 255)) ≡ 0x02 ∷ 0x00 ∷ 0xff ∷ [])

-- ENUMERATED {a(5), b(128), c(-1)}
abbrev pub colours : AsnType
colours = enumerated (record { name = unnamed; number = pos 5 } ∷ record { name = unnamed; number = pos 128 }
    ∷ record { name = unnamed; number = negsuc 0 } ∷ []) false

abbrev pub Enumerations : Type 0
Enumerations = Gives colours (0x81 ∷ 0x05 ∷ []) (0x05 ∷ [])
    × Reads colours (0x82 ∷ 0x00 ∷ 0x80 ∷ []) (enum (pos 128))
    × Stays colours (0x82 ∷ 0x00 ∷ 0x80 ∷ [])
    × Reads colours (0x81 ∷ 0xff ∷ []) (enum (negsuc 0))
    × Stays colours (0x81 ∷ 0xff ∷ [])
    × Refuses colours (0x06 ∷ []) UnknownEnum 1
    × Refuses colours (0x80 ∷ []) EnumForm 1

abbrev pub OctetStrings : Type 0
OctetStrings = Stays (octet_string any_size) (0x7f ∷ replicate 127 0x61)
    × Stays (octet_string any_size) (0x81 ∷ 0x80 ∷ replicate 128 0x61)
    × Gives (octet_string any_size) (0x82 ∷ 0x00 ∷ 0x80 ∷ replicate 128 0x61) (0x81 ∷ 0x80 ∷ replicate 128 0x61)
    × RefusesWithin 100 (octet_string any_size) (0x88 ∷ replicate 8 0xff) Limit 9
    × Refuses (octet_string any_size) (0x03 ∷ 0x61 ∷ []) End 2
    × (read_value (octet_string any_size) (at (0x01 ∷ 0x61 ∷ 0x62 ∷ []) 1000) ≡ got (octets (0x61 ∷ [])) (at (0x62 ∷ []) 998))

-- the length of 2 ^ 64 bits, and how many of the last octet are unused
abbrev pub many_bits : ℕ → List ℕ
many_bits unused = 0x88 ∷ 0x20 ∷ zeros 6 ++ (0x01 ∷ unused ∷ [])

abbrev pub BitStrings : Type 0
BitStrings = Gives (bit_string (exactly 4)) (0xaf ∷ []) (0xa0 ∷ [])
    × Reads (bit_string any_size) (0x02 ∷ 0x04 ∷ 0xa0 ∷ []) (bit_list (true ∷ false ∷ true ∷ false ∷ []))
    × Stays (bit_string any_size) (0x02 ∷ 0x04 ∷ 0xa0 ∷ [])
    × Reads (bit_string any_size) (0x01 ∷ 0x00 ∷ []) (bit_list [])
    × Stays (bit_string any_size) (0x01 ∷ 0x00 ∷ [])
    × Refuses (bit_string any_size) (0x01 ∷ 0x04 ∷ []) BitUnused 2
    × Refuses (bit_string any_size) (0x00 ∷ []) BitUnused 1
    × RefusesWithin 18446744073709551615 (bit_string any_size) (many_bits 0) reason.Size 10
    × RefusesWithin 18446744073709551615 (bit_string any_size) (many_bits 1) End 10

abbrev pub ObjectIds : Type 0
ObjectIds = Reads object_id (0x06 ∷ 0x2a ∷ 0x86 ∷ 0x48 ∷ 0x86 ∷ 0xf7 ∷ 0x0d ∷ []) (oid (1 ∷ 2 ∷ 840 ∷ 113549 ∷ []))
    × Stays object_id (0x06 ∷ 0x2a ∷ 0x86 ∷ 0x48 ∷ 0x86 ∷ 0xf7 ∷ 0x0d ∷ [])
    × Reads object_id (0x02 ∷ 0x88 ∷ 0x37 ∷ []) (oid (2 ∷ 999 ∷ []))
    × Refuses object_id (0x01 ∷ 0x80 ∷ []) ObjectId 2
    × Refuses object_id (0x02 ∷ 0x80 ∷ 0x01 ∷ []) ObjectId 2
    × Refuses object_id (0x00 ∷ []) ObjectId 1

abbrev pub Strings : Type 0
Strings = Reads (utf8_string (exactly 1)) (0x02 ∷ 0xc3 ∷ 0xa9 ∷ []) (text (0xc3 ∷ 0xa9 ∷ []))
    × Stays (utf8_string (exactly 1)) (0x02 ∷ 0xc3 ∷ 0xa9 ∷ [])
    × Refuses (utf8_string (exactly 1)) (0x01 ∷ 0xc3 ∷ []) Character 2
    × Refuses (utf8_string (exactly 1)) (0x02 ∷ 0x61 ∷ 0x62 ∷ []) reason.Size 3
    × Reads (restricted_string ia5 (exactly 2)) (0x61 ∷ 0x62 ∷ []) (text (0x61 ∷ 0x62 ∷ []))
    × Stays (restricted_string ia5 (exactly 2)) (0x61 ∷ 0x62 ∷ [])
    × Refuses (restricted_string ia5 (exactly 2)) (0x61 ∷ 0x80 ∷ []) Character 2
    × Refuses (restricted_string visible any_size) (0x01 ∷ 0x7f ∷ []) Character 2
    × Stays (restricted_string numeric any_size) (0x03 ∷ 0x31 ∷ 0x32 ∷ 0x33 ∷ [])
    × Refuses (restricted_string numeric any_size) (0x01 ∷ 0x61 ∷ []) Character 2
    × Stays (restricted_string numeric (exactly 2)) (0x31 ∷ 0x20 ∷ [])
    × Stays (restricted_string printable any_size) (0x03 ∷ 0x41 ∷ 0x2d ∷ 0x3f ∷ [])
    × Refuses (restricted_string printable any_size) (0x01 ∷ 0x40 ∷ []) Character 2
    × Refuses (restricted_string printable any_size) (0x01 ∷ 0x2a ∷ []) Character 2

-- SEQUENCE {a BOOLEAN, b INTEGER (0..255) DEFAULT 7, c NULL OPTIONAL, ...}, and the same without a marker
abbrev pub with_default : AsnType
with_default = extensible_sequence (field unnamed must boolean
    (field unnamed (default (int (pos 7))) (up_to 255) (field unnamed may null no_fields))) no_additions

abbrev pub without_marker : AsnType
without_marker = sequence (field unnamed must boolean
    (field unnamed (default (int (pos 7))) (up_to 255) (field unnamed may null no_fields)))

-- SEQUENCE of nine components NULL OPTIONAL
abbrev pub nine : AsnType
nine = sequence (field unnamed may null (field unnamed may null (field unnamed may null
    (field unnamed may null (field unnamed may null (field unnamed may null
    (field unnamed may null (field unnamed may null (field unnamed may null no_fields)))))))))

-- SEQUENCE with a component of type SEQUENCE {b BOOLEAN DEFAULT TRUE}, whose default has no b
abbrev pub nested : AsnType
nested = sequence (field unnamed (default (seq (absent no_places) no_places []))
    (sequence (field unnamed (default (bool true)) boolean no_fields)) no_fields)

abbrev pub Sequences : Type 0
Sequences = Gives with_default (0x40 ∷ 0xff ∷ 0x07 ∷ []) (0x00 ∷ 0xff ∷ [])
    × Reads with_default (0x60 ∷ 0xff ∷ 0x08 ∷ [])
    (seq (present (bool true) (present (int (pos 8)) (present nothing no_places))) no_places [])
    × Stays with_default (0x60 ∷ 0xff ∷ 0x08 ∷ [])
    × Refuses with_default (0x01 ∷ 0xff ∷ []) PreamblePadding 1
    × Gives without_marker (0x80 ∷ 0xff ∷ 0x07 ∷ []) (0x00 ∷ 0xff ∷ [])
    × Stays without_marker (0xc0 ∷ 0xff ∷ 0x08 ∷ [])
    × Refuses without_marker (0x20 ∷ 0xff ∷ []) PreamblePadding 1
    × Stays nine (0x80 ∷ 0x80 ∷ [])
    × Refuses nine (0x80 ∷ 0x40 ∷ []) PreamblePadding 2
    × Stays (sequence no_fields) []
    × Gives nested (0x00 ∷ []) (0x00 ∷ [])
    × Gives nested (0x80 ∷ 0x00 ∷ []) (0x00 ∷ [])
    × Gives nested (0x80 ∷ 0x80 ∷ 0xff ∷ []) (0x00 ∷ [])
    × Stays nested (0x80 ∷ 0x80 ∷ 0x00 ∷ [])

-- SEQUENCE {a BOOLEAN, ..., x INTEGER (0..255), y BOOLEAN}; an older one without additions; SEQUENCE {..., x OCTET STRING}; SEQUENCE {...}
abbrev pub extended : AsnType
extended = extensible_sequence (field unnamed must boolean no_fields) (addition unnamed (up_to 255) (addition unnamed boolean no_additions))

abbrev pub older : AsnType
older = extensible_sequence (field unnamed must boolean no_fields) no_additions

abbrev pub octets_added : AsnType
octets_added = extensible_sequence no_fields (addition unnamed (octet_string any_size) no_additions)

abbrev pub Extensions : Type 0
Extensions = Stays extended (0x80 ∷ 0xff ∷ 0x02 ∷ 0x06 ∷ 0x80 ∷ 0x01 ∷ 0x09 ∷ [])
    × Reads extended (0x80 ∷ 0xff ∷ 0x02 ∷ 0x06 ∷ 0x80 ∷ 0x01 ∷ 0x09 ∷ [])
    (seq (present (bool true) no_places) (present (int (pos 9)) (absent no_places)) [])
    × Gives extended (0x80 ∷ 0xff ∷ 0x02 ∷ 0x07 ∷ 0x80 ∷ 0x01 ∷ 0x09 ∷ []) (0x80 ∷ 0xff ∷ 0x02 ∷ 0x06 ∷ 0x80 ∷ 0x01 ∷ 0x09 ∷ [])
    × Gives extended (0x80 ∷ 0xff ∷ 0x02 ∷ 0x06 ∷ 0x00 ∷ []) (0x00 ∷ 0xff ∷ [])
    × Gives extended (0x80 ∷ 0xff ∷ 0x01 ∷ 0x00 ∷ []) (0x00 ∷ 0xff ∷ [])
    × Refuses extended (0x80 ∷ 0xff ∷ 0x02 ∷ 0x06 ∷ 0x80 ∷ 0x02 ∷ 0x09 ∷ 0x00 ∷ []) Window 7
    × Refuses extended (0x80 ∷ 0xff ∷ 0x02 ∷ 0x06 ∷ 0x80 ∷ 0x00 ∷ 0x09 ∷ []) Window 6
    × Gives extended (0x80 ∷ 0xff ∷ 0x02 ∷ 0x05 ∷ 0x80 ∷ 0x01 ∷ 0x09 ∷ []) (0x80 ∷ 0xff ∷ 0x02 ∷ 0x06 ∷ 0x80 ∷ 0x01 ∷ 0x09 ∷ [])
    × Refuses extended (0x80 ∷ 0xff ∷ 0x02 ∷ 0x05 ∷ 0x20 ∷ []) End 5
    × Refuses octets_added (0x80 ∷ 0x02 ∷ 0x07 ∷ 0x80 ∷ 0x04 ∷ 0x05 ∷ 0x61 ∷ 0x62 ∷ []) Window 6
    × Refuses octets_added (0x80 ∷ 0x02 ∷ 0x07 ∷ 0x80 ∷ 0x88 ∷ replicate 8 0xff) Limit 13
    × Refuses octets_added (0x80 ∷ 0x00 ∷ []) BitUnused 2
    × Refuses octets_added (0x80 ∷ 0x01 ∷ 0x04 ∷ []) BitUnused 3
    × RefusesWithin 18446744073709551615 octets_added (0x80 ∷ many_bits 0) reason.Size 11
    × RefusesWithin 18446744073709551615 octets_added (0x80 ∷ many_bits 1) End 11

abbrev pub UnknownAdditions : Type 0
UnknownAdditions = Stays extended (0x80 ∷ 0xff ∷ 0x02 ∷ 0x05 ∷ 0x20 ∷ 0x01 ∷ 0x09 ∷ [])
    × Reads extended (0x80 ∷ 0xff ∷ 0x02 ∷ 0x05 ∷ 0x20 ∷ 0x01 ∷ 0x09 ∷ [])
    (seq (present (bool true) no_places) (absent (absent no_places)) (unknown 2 (0x09 ∷ []) ∷ []))
    × Stays extended (0x80 ∷ 0xff ∷ 0x02 ∷ 0x04 ∷ 0x30 ∷ 0x01 ∷ 0x09 ∷ 0x00 ∷ [])
    × Reads extended (0x80 ∷ 0xff ∷ 0x02 ∷ 0x04 ∷ 0x30 ∷ 0x01 ∷ 0x09 ∷ 0x00 ∷ [])
    (seq (present (bool true) no_places) (absent (absent no_places)) (unknown 2 (0x09 ∷ []) ∷ unknown 3 [] ∷ []))
    × Gives extended (0x80 ∷ 0xff ∷ 0x02 ∷ 0x00 ∷ 0x20 ∷ 0x81 ∷ 0x01 ∷ 0x09 ∷ []) (0x80 ∷ 0xff ∷ 0x02 ∷ 0x05 ∷ 0x20 ∷ 0x01 ∷ 0x09 ∷ [])
    × Gives older (0x80 ∷ 0xff ∷ 0x02 ∷ 0x06 ∷ 0x80 ∷ 0x01 ∷ 0x09 ∷ []) (0x80 ∷ 0xff ∷ 0x02 ∷ 0x07 ∷ 0x80 ∷ 0x01 ∷ 0x09 ∷ [])
    × Stays older (0x80 ∷ 0xff ∷ 0x02 ∷ 0x07 ∷ 0x80 ∷ 0x01 ∷ 0x09 ∷ [])

abbrev pub Lists : Type 0
Lists = Stays (sequence_of any_size boolean) (0x01 ∷ 0x02 ∷ 0xff ∷ 0x00 ∷ [])
    × Reads (sequence_of any_size boolean) (0x01 ∷ 0x02 ∷ 0xff ∷ 0x00 ∷ []) (items (value (bool true) (value (bool false) no_values)))
    × Stays (sequence_of any_size boolean) (0x01 ∷ 0x00 ∷ [])
    × Gives (sequence_of any_size boolean) (0x02 ∷ 0x00 ∷ 0x02 ∷ 0x01 ∷ 0x00 ∷ []) (0x01 ∷ 0x02 ∷ 0xff ∷ 0x00 ∷ [])
    × Refuses (sequence_of (record { low = 1; high = Some 2 }) boolean) (0x01 ∷ 0x03 ∷ 0xff ∷ 0x00 ∷ 0xff ∷ []) reason.Size 2
    × Refuses (sequence_of (record { low = 1; high = Some 2 }) boolean) (0x01 ∷ 0x00 ∷ []) reason.Size 2
    × RefusesWithin 5 (sequence_of (record { low = 1; high = Some 2 }) boolean) (0x01 ∷ 0x09 ∷ []) Limit 2

-- CHOICE {a [62] NULL, b [63] NULL, c [200] NULL}; CHOICE {a NULL, ..., b OCTET STRING}
abbrev pub tagged : AsnType
tagged = choice false (alternative unnamed (context 62) null
    (alternative unnamed (context 63) null (alternative unnamed (context 200) null no_alternatives)))

abbrev pub open_choice : AsnType
open_choice = choice true (alternative unnamed (context 0) null (later unnamed (context 1) (octet_string any_size) no_alternatives))

abbrev pub Choices : Type 0
Choices = Stays tagged (0xbe ∷ [])
    × Reads tagged (0xbe ∷ []) (chosen (context 62) nothing)
    × Stays tagged (0xbf ∷ 0x3f ∷ [])
    × Reads tagged (0xbf ∷ 0x3f ∷ []) (chosen (context 63) nothing)
    × Stays tagged (0xbf ∷ 0x81 ∷ 0x48 ∷ [])
    × Reads tagged (0xbf ∷ 0x81 ∷ 0x48 ∷ []) (chosen (context 200) nothing)
    × Refuses tagged (0xbf ∷ 0x80 ∷ 0x01 ∷ []) TagForm 2
    × Refuses tagged (0xbf ∷ 0x05 ∷ []) TagForm 2
    × Refuses tagged (0x80 ∷ []) UnknownAlternative 1
    × Reads open_choice (0x81 ∷ 0x03 ∷ 0x02 ∷ 0x61 ∷ 0x62 ∷ []) (chosen (context 1) (octets (0x61 ∷ 0x62 ∷ [])))
    × Stays open_choice (0x81 ∷ 0x03 ∷ 0x02 ∷ 0x61 ∷ 0x62 ∷ [])
    × Refuses open_choice (0x81 ∷ 0x03 ∷ 0x03 ∷ 0x61 ∷ 0x62 ∷ []) Window 3
    × Refuses open_choice (0x82 ∷ []) End 1
    × Reads open_choice (0x85 ∷ 0x02 ∷ 0x01 ∷ 0x02 ∷ []) (foreign (context 5) (0x01 ∷ 0x02 ∷ []))
    × Stays open_choice (0x85 ∷ 0x02 ∷ 0x01 ∷ 0x02 ∷ [])
    × Gives open_choice (0x85 ∷ 0x81 ∷ 0x01 ∷ 0x01 ∷ []) (0x85 ∷ 0x01 ∷ 0x01 ∷ [])

abbrev pub Checkings : Type 0
Checkings = Checks extended (0x80 ∷ 0xff ∷ 0x02 ∷ 0x06 ∷ 0x80 ∷ 0x01 ∷ 0x09 ∷ []) [] true
    × Checks extended (0x80 ∷ 0xff ∷ 0x02 ∷ 0x07 ∷ 0x80 ∷ 0x01 ∷ 0x09 ∷ []) [] false
    × Checks extended (0x00 ∷ 0xff ∷ []) (0xaa ∷ []) true
    × CheckRefuses extended (0x80 ∷ 0xff ∷ []) End 2
    × Checks extended (0x80 ∷ 0xff ∷ 0x02 ∷ 0x05 ∷ 0x20 ∷ 0x01 ∷ 0x09 ∷ []) [] true
    × Checks older (0x80 ∷ 0xff ∷ 0x02 ∷ 0x06 ∷ 0x80 ∷ 0x01 ∷ 0x09 ∷ []) [] false
    × Checks nested (0x00 ∷ []) [] true
    × Checks nested (0x80 ∷ 0x00 ∷ []) [] false
    × Checks nested (0x80 ∷ 0x80 ∷ 0xff ∷ []) [] false
    × Checks nested (0x80 ∷ 0x80 ∷ 0x00 ∷ []) [] true
    × Checks boolean (0x01 ∷ []) [] false
    × Checks natural_number (0x02 ∷ 0x00 ∷ 0x05 ∷ []) [] false
    × Checks natural_number (0x81 ∷ 0x01 ∷ 0x05 ∷ []) [] false
    × Checks colours (0x81 ∷ 0x05 ∷ []) [] false
    × Checks (bit_string (exactly 4)) (0xaf ∷ []) [] false
    × Checks (bit_string any_size) (0x02 ∷ 0x04 ∷ 0xa0 ∷ []) [] true
    × Checks (bit_string any_size) (0x02 ∷ 0x04 ∷ 0xa1 ∷ []) [] false
    × Checks object_id (0x06 ∷ 0x2a ∷ 0x86 ∷ 0x48 ∷ 0x86 ∷ 0xf7 ∷ 0x0d ∷ []) [] true
    × Checks (octet_string any_size) (0x81 ∷ 0x01 ∷ 0x61 ∷ []) [] false
    × Checks (utf8_string any_size) (0x02 ∷ 0xc3 ∷ 0xa9 ∷ []) [] true

-- SEQUENCE {...} with an addition at the last place, 65,535, and with one past it
abbrev pub Farthest : Type 0
Farthest = (read_value (extensible_sequence no_fields no_additions)
    (at (0x80 ∷ 0x82 ∷ 0x20 ∷ 0x01 ∷ 0x00 ∷ (zeros 8191 ++ (0x01 ∷ 0x00 ∷ []))) 10000)
    ≡ got (seq no_places no_places (unknown 65535 [] ∷ [])) (at [] 1802))
    × (canonical_octets (extensible_sequence no_fields no_additions) (seq no_places no_places (unknown 65535 [] ∷ []))
    ≡ 0x80 ∷ 0x82 ∷ 0x20 ∷ 0x01 ∷ 0x00 ∷ (zeros 8191 ++ (0x01 ∷ 0x00 ∷ [])))
    × RefusesWithin 10000 (extensible_sequence no_fields no_additions)
    (0x80 ∷ 0x82 ∷ 0x20 ∷ 0x02 ∷ 0x07 ∷ (zeros 8192 ++ (0x80 ∷ []))) UnknownAddition 8198

-- what is found by a path
abbrev pub PathLeadsTo : AsnType → List ℕ → List Step → Answer → Type 0
PathLeadsTo T b path answer = find_part (Some T) b path ≡ answer

abbrev pub PathsFollowed : Type 0
PathsFollowed =
    PathLeadsTo extended (0x80 ∷ 0xff ∷ 0x02 ∷ 0x06 ∷ 0x80 ∷ 0x01 ∷ 0x09 ∷ []) []
    (found (Some extended) (0x80 ∷ 0xff ∷ 0x02 ∷ 0x06 ∷ 0x80 ∷ 0x01 ∷ 0x09 ∷ []))
    × PathLeadsTo extended (0x80 ∷ 0xff ∷ 0x02 ∷ 0x06 ∷ 0x80 ∷ 0x01 ∷ 0x09 ∷ []) (to_component 0 ∷ []) (found (Some boolean) (0xff ∷ []))
    × PathLeadsTo extended (0x80 ∷ 0xff ∷ 0x02 ∷ 0x06 ∷ 0x80 ∷ 0x01 ∷ 0x09 ∷ []) (to_addition 0 ∷ []) (found (Some (up_to 255)) (0x09 ∷ []))
    × PathLeadsTo extended (0x80 ∷ 0xff ∷ 0x02 ∷ 0x06 ∷ 0x80 ∷ 0x01 ∷ 0x09 ∷ []) (to_addition 1 ∷ []) absent_part
    × PathLeadsTo extended (0x80 ∷ 0xff ∷ 0x02 ∷ 0x06 ∷ 0x80 ∷ 0x01 ∷ 0x09 ∷ []) (to_component 1 ∷ []) no_such_step
    × PathLeadsTo extended (0x80 ∷ 0xff ∷ 0x02 ∷ 0x05 ∷ 0x20 ∷ 0x01 ∷ 0x09 ∷ []) (to_addition 2 ∷ []) (found None (0x09 ∷ []))
    × PathLeadsTo extended (0x80 ∷ 0xff ∷ 0x02 ∷ 0x05 ∷ 0x20 ∷ 0x01 ∷ 0x09 ∷ []) (to_addition 2 ∷ to_chosen ∷ []) no_such_step
    × PathLeadsTo extended (0x80 ∷ 0xff ∷ 0x02 ∷ 0x05 ∷ 0x20 ∷ 0x01 ∷ 0x09 ∷ []) (to_addition 3 ∷ []) no_such_step
    × PathLeadsTo extended (0x80 ∷ 0xff ∷ 0x02 ∷ 0x05 ∷ 0x20 ∷ 0x01 ∷ 0x09 ∷ []) (to_addition 0 ∷ []) absent_part
    × PathLeadsTo (sequence_of any_size boolean) (0x01 ∷ 0x02 ∷ 0xff ∷ 0x00 ∷ []) (to_item 1 ∷ []) (found (Some boolean) (0x00 ∷ []))
    × PathLeadsTo (sequence_of any_size boolean) (0x01 ∷ 0x02 ∷ 0xff ∷ 0x00 ∷ []) (to_item 2 ∷ []) no_such_step
    × PathLeadsTo open_choice (0x81 ∷ 0x03 ∷ 0x02 ∷ 0x61 ∷ 0x62 ∷ []) (to_chosen ∷ [])
    (found (Some (octet_string any_size)) (0x02 ∷ 0x61 ∷ 0x62 ∷ []))
    × PathLeadsTo open_choice (0x85 ∷ 0x02 ∷ 0x01 ∷ 0x02 ∷ []) (to_chosen ∷ []) (found None (0x01 ∷ 0x02 ∷ []))

-- ENUMERATED {a(0), ...}
abbrev pub open_numbers : AsnType
open_numbers = enumerated (record { name = unnamed; number = pos 0 } ∷ []) true

-- The least and the greatest number, character and tag number that are taken, and those past them.
abbrev pub Boundaries : Type 0
Boundaries = Reads open_numbers (0x88 ∷ 0x80 ∷ zeros 7) (enum (negsuc 9223372036854775807))
    × Reads open_numbers (0x88 ∷ 0x7f ∷ replicate 7 0xff) (enum (pos 9223372036854775807))
    × Refuses open_numbers (0x89 ∷ 0x00 ∷ 0x80 ∷ zeros 7) EnumForm 10
    × Refuses open_numbers (0x89 ∷ 0xff ∷ 0x7f ∷ replicate 7 0xff) EnumForm 10
    × Stays (restricted_string ia5 any_size) (0x02 ∷ 0x00 ∷ 0x7f ∷ [])
    × Stays (restricted_string visible any_size) (0x02 ∷ 0x20 ∷ 0x7e ∷ [])
    × Refuses (restricted_string visible any_size) (0x01 ∷ 0x1f ∷ []) Character 2
    × Stays (restricted_string numeric any_size) (0x03 ∷ 0x20 ∷ 0x30 ∷ 0x39 ∷ [])
    × Refuses (restricted_string numeric any_size) (0x01 ∷ 0x2f ∷ []) Character 2
    × Refuses (restricted_string numeric any_size) (0x01 ∷ 0x3a ∷ []) Character 2
    × Stays (restricted_string printable any_size)
    (0x12 ∷ 0x41 ∷ 0x5a ∷ 0x61 ∷ 0x7a ∷ 0x30 ∷ 0x39 ∷ 0x20 ∷ 0x27 ∷ 0x28 ∷ 0x29
    ∷ 0x2b ∷ 0x2c ∷ 0x2d ∷ 0x2e ∷ 0x2f ∷ 0x3a ∷ 0x3d ∷ 0x3f ∷ [])
    × Refuses (restricted_string printable any_size) (0x01 ∷ 0x5b ∷ []) Character 2
    × Refuses (restricted_string printable any_size) (0x01 ∷ 0x60 ∷ []) Character 2
    × Refuses (restricted_string printable any_size) (0x01 ∷ 0x7b ∷ []) Character 2
    × Refuses (restricted_string printable any_size) (0x01 ∷ 0x3b ∷ []) Character 2
    × Reads open_choice (0xbf ∷ 0x8f ∷ 0xff ∷ 0xff ∷ 0xff ∷ 0x7f ∷ 0x00 ∷ []) (foreign (context 4294967295) [])
    × Refuses open_choice (0xbf ∷ 0x90 ∷ 0x80 ∷ 0x80 ∷ 0x80 ∷ 0x00 ∷ 0x00 ∷ []) TagForm 6
    × Reads (octet_string (record { low = 1; high = Some 3 })) (0x03 ∷ 0x01 ∷ 0x02 ∷ 0x03 ∷ []) (octets (0x01 ∷ 0x02 ∷ 0x03 ∷ []))
    × Refuses (octet_string (record { low = 1; high = Some 3 })) (0x00 ∷ []) reason.Size 1
    × Refuses (octet_string (record { low = 1; high = Some 3 })) (0x04 ∷ 0x01 ∷ 0x02 ∷ 0x03 ∷ 0x04 ∷ []) reason.Size 1
