-- Sizes, bounds, characters and tags of types.
use Rattle.std.specs.Prelude.{◌≡◌, ℕ, suc, ◌^◌, ◌≤◌, List, [], ◌∷◌, Bool, true, false, ◌&&◌, ◌||◌, leb, eqb, if◌then◌else◌, ℤ, pos, neg_ℤ, ◌-ℤ◌, int_le, Option, Some, None, IfSome}
use Rattle.oer_units.specs.Laws.{HasTagNumber}
use Rattle.oer_units.specs.Spelling.{class_number}
use Rattle.oer_units.specs.declared.tagging.Tag.{Tag}
use Rattle.oer_model.specs.Limits.{addition_places}
use Rattle.oer_model.specs.LeafType.{LeafType, bit_string, null, octet_string, restricted_string, string_size}
use Rattle.oer_model.specs.AsnType.{Additions, Alphabet, Alternatives, AsnType, Fields, NamedNumber, Need, addition, alternative, choice, default, extensible_sequence, field, ia5, later, leaf, may, must, no_additions, no_alternatives, no_fields, numeric, printable, sequence, sequence_of, visible}
use Rattle.oer_model.specs.declared.size.Size.{Size}

-- not above the upper end, if there is one
abbrev pub at_most : Option ℕ → ℕ → Bool
at_most None n = true
at_most (Some h) n = leb n h

-- without a constraint
abbrev pub any_size : Size
any_size = record { low = 0; high = None }

-- n is a size that the constraint allows, of 64 bits
abbrev pub size_fits : Size → ℕ → Bool
size_fits s n = leb s.low n && at_most s.high n && leb n 18446744073709551615

abbrev pub fixed_by : ℕ → Option ℕ → Option ℕ
fixed_by low None = None
fixed_by low (Some h) = if eqb low h then Some low else None

-- the one size that the constraint allows, if its ends are equal
abbrev pub fixed : Size → Option ℕ
fixed s = fixed_by s.low s.high

-- there is a lower bound, and it is z or above
abbrev pub low_from : ℤ → Option ℤ → Bool
low_from z None = false
low_from z (Some l) = int_le z l

-- there is an upper bound, and it is z or below
abbrev pub high_to : ℤ → Option ℤ → Bool
high_to z None = false
high_to z (Some h) = int_le h z

-- how an INTEGER is encoded: in so many octets or after a length, unsigned or in two's complement
pub data Form : Type 0 where
  unsigned_fixed signed_fixed : ℕ → Form
  unsigned_counted signed_counted : Form

-- both bounds are within two's complement of bits + 1 bits
abbrev pub signed_within : Option ℤ → Option ℤ → ℕ → Bool
signed_within low high bits = low_from (neg_ℤ (pos (2 ^ bits))) low && high_to (pos (2 ^ bits) -ℤ pos 1) high

-- of numbers from 0 on, by the upper bound
abbrev pub unsigned_form : Option ℤ → Form
unsigned_form high =
    if high_to (pos 255) high then unsigned_fixed 1 else if high_to (pos 65535) high then unsigned_fixed 2
    else if high_to (pos 4294967295) high then unsigned_fixed 4
    else if high_to (pos 18446744073709551615) high then unsigned_fixed 8 else unsigned_counted

-- of numbers that may be negative
abbrev pub signed_form : Option ℤ → Option ℤ → Form
signed_form low high =
    if signed_within low high 7 then signed_fixed 1 else if signed_within low high 15 then signed_fixed 2
    else if signed_within low high 31 then signed_fixed 4 else if signed_within low high 63 then signed_fixed 8 else signed_counted

-- The form by the bounds (X.696, 10.2 to 10.4): the first of these that holds.
unfoldable pub form_of : Option ℤ → Option ℤ → Form
form_of low high = if low_from (pos 0) low then unsigned_form high else signed_form low high

-- not below the lower bound, if there is one
abbrev pub above : Option ℤ → ℤ → Bool
above None z = true
above (Some l) z = int_le l z

-- not above the upper bound, if there is one
abbrev pub below : Option ℤ → ℤ → Bool
below None z = true
below (Some h) z = int_le z h

-- a number of 128 bits within the bounds
unfoldable pub in_range : Option ℤ → Option ℤ → ℤ → Bool
in_range low high z = int_le (neg_ℤ (pos (2 ^ 127))) z && int_le z (pos (2 ^ 127) -ℤ pos 1) && above low z && below high z

-- an item has the number
abbrev pub has_number : List NamedNumber → ℤ → Bool
has_number [] z = false
has_number (x ∷ xs) z = (int_le x.number z && int_le z x.number) || has_number xs z

abbrev pub is_within : ℕ → ℕ → ℕ → Bool
is_within low high x = leb low x && leb x high

-- is one of
abbrev pub is_among : List ℕ → ℕ → Bool
is_among [] x = false
is_among (y ∷ ys) x = eqb x y || is_among ys x

-- the characters of a kind of string; of a PrintableString letters, digits and space ' ( ) + , - . / : = ?
abbrev pub is_character : Alphabet → ℕ → Bool
is_character ia5 x = is_within 0 127 x
is_character visible x = is_within 32 126 x
is_character numeric x = is_within 48 57 x || eqb x 32
is_character printable x =
    is_within 65 90 x || is_within 97 122 x || is_within 48 57 x || is_among
    (32 ∷ 39 ∷ 40 ∷ 41 ∷ 43 ∷ 44 ∷ 45 ∷ 46 ∷ 47 ∷ 58 ∷ 61 ∷ 63 ∷ []) x

-- each is a character of the kind
abbrev pub all_characters : Alphabet → List ℕ → Bool
all_characters kind [] = true
all_characters kind (x ∷ xs) = is_character kind x && all_characters kind xs

-- one more where a component may be absent
abbrev pub optional_with : Need → ℕ → ℕ
optional_with must n = n
optional_with may n = suc n
optional_with (default v) n = suc n

-- how many components may be absent
abbrev pub optional : Fields → ℕ
optional no_fields = 0
optional (field name need T fs) = optional_with need (optional fs)

-- how many additions the type knows
abbrev pub addition_count : Additions → ℕ
addition_count no_additions = 0
addition_count (addition name T more) = suc (addition_count more)

-- the same class and number
abbrev pub same_tag : Tag → Tag → Bool
same_tag t u = eqb (class_number t.class) (class_number u.class) && eqb t.number u.number

-- an alternative has the tag
abbrev pub has_tag : Tag → Alternatives → Bool
has_tag t no_alternatives = false
has_tag t (alternative name u T more) = same_tag u t || has_tag t more
has_tag t (later name u T more) = same_tag u t || has_tag t more

-- the one size is 0
abbrev pub is_zero : Option ℕ → Bool
is_zero None = false
is_zero (Some n) = eqb n 0

-- the type, which holds no other, may take no octets
abbrev pub leaf_may_be_empty : LeafType → Bool
leaf_may_be_empty null = true
leaf_may_be_empty (bit_string size) = is_zero (fixed size)
leaf_may_be_empty (restricted_string letters size) = is_zero (fixed size)
leaf_may_be_empty (octet_string size) = is_zero (fixed size)
leaf_may_be_empty kind = false

-- the type may take no octets
abbrev mutual
  pub may_be_empty : AsnType → Bool
  may_be_empty (leaf kind) = leaf_may_be_empty kind
  may_be_empty (sequence fs) = eqb (optional fs) 0 && may_all_be_empty fs
  may_be_empty (extensible_sequence fs more) = false
  may_be_empty (sequence_of s T) = false
  may_be_empty (choice extensible more) = false

  pub may_all_be_empty : Fields → Bool
  may_all_be_empty no_fields = true
  may_all_be_empty (field name need T fs) = may_be_empty T && may_all_be_empty fs

-- the lower end has 64 bits
abbrev pub HasSizeLimit : Size → Type 0
HasSizeLimit s = leb s.low 18446744073709551615 ≡ true

-- What encodings need of a type, part of its being well-formed: no element may take no octets; the lower ends of the
-- sizes of strings have 64 bits, tag numbers 32 bits; no more additions than places.
abbrev mutual
  pub KeepsLimits : AsnType → Type 0
  KeepsLimits (leaf kind) = IfSome (string_size kind) HasSizeLimit
  KeepsLimits (sequence fs) = FieldsKeepLimits fs
  KeepsLimits (extensible_sequence fs more) = FieldsKeepLimits fs × AdditionsKeepLimits more × (addition_count more ≤ addition_places)
  KeepsLimits (sequence_of s T) = (may_be_empty T ≡ false) × KeepsLimits T
  KeepsLimits (choice extensible more) = AlternativesKeepLimits more

  pub FieldsKeepLimits : Fields → Type 0
  FieldsKeepLimits no_fields = Unit {0}
  FieldsKeepLimits (field name need T fs) = KeepsLimits T × FieldsKeepLimits fs

  pub AdditionsKeepLimits : Additions → Type 0
  AdditionsKeepLimits no_additions = Unit {0}
  AdditionsKeepLimits (addition name T more) = KeepsLimits T × AdditionsKeepLimits more

  pub AlternativesKeepLimits : Alternatives → Type 0
  AlternativesKeepLimits no_alternatives = Unit {0}
  AlternativesKeepLimits (alternative name t T more) = KeepsLimits T × AlternativesKeepLimits more × HasTagNumber t
  AlternativesKeepLimits (later name t T more) = KeepsLimits T × AlternativesKeepLimits more × HasTagNumber t
