-- The types of contents: what their values hold, which octets are the contents, and how these are read.
use Rattle.std.specs.Prelude.{◌≡◌, ℕ, ◌+◌, ◌*◌, ◌^◌, ◌<◌, ◌≤◌, List, [], ◌∷◌, length, Bool, true, false, ◌&&◌, ◌||◌, leb, ltb, Option, Some, None}
use Rattle.std.specs.Str.{is_utf8, chars}
use Rattle.oer_units.specs.Least.{counted, object_id_octets}
use Rattle.oer_units.specs.Octets.{IsOctets}
use Rattle.oer_units.specs.Reader.{Reader, bind, give, group, guard}
use Rattle.oer_units.specs.Reading.{counted_octets, object_identifier, with_length}
use Rattle.oer_units.specs.Spelling.{IsCounted, IsObjectId}
use Rattle.oer_units.specs.declared.fault.Why.TheVariants as reason
use Rattle.oer_model.specs.ContentType.{ContentType, object_id, octet_string, restricted_string, utf8_string}
use Rattle.oer_model.specs.LeafValue.{LeafValue, octets, oid, text}
use Rattle.oer_model.specs.Constraints.{all_characters, fixed, size_fits}
use Rattle.oer_model.specs.declared.size.Size.{Size}

-- each is below n
abbrev pub AllBelow : ℕ → List ℕ → Type 0
AllBelow n [] = Unit {0}
AllBelow n (x ∷ xs) = (x < n) × AllBelow n xs

-- each is below n, as a test
abbrev pub all_below : ℕ → List ℕ → Bool
all_below n [] = true
all_below n (x ∷ xs) = ltb x n && all_below n xs

-- two arcs or more; the first is 0, 1 or 2, the second at most 39 under 0 and 1 (X.690, 8.19.4); numbers below 2^128
abbrev pub AreArcs : List ℕ → Type 0
AreArcs arcs = (a : ℕ) × (b : ℕ) × (rest : List ℕ) × (arcs ≡ a ∷ b ∷ rest) × (a ≤ 2) × (a < 2 → b < 40) × (40 * a + b < 2 ^ 128)
    × AllBelow (2 ^ 128) rest

-- the first two arcs come from one subidentifier below 2^128
abbrev pub first_arcs : ℕ → ℕ → Bool
first_arcs a b = leb a 2 && (leb 2 a || ltb b 40) && ltb (40 * a + b) (2 ^ 128)

-- AreArcs as a test
abbrev pub arcs_fit : List ℕ → Bool
arcs_fit [] = false
arcs_fit (a ∷ []) = false
arcs_fit (a ∷ b ∷ rest) = first_arcs a b && all_below (2 ^ 128) rest

-- the value that holds w
abbrev pub content_value : ContentType → List ℕ → LeafValue
content_value (octet_string size) w = octets w
content_value object_id w = oid w
content_value (restricted_string letters size) w = text w
content_value (utf8_string size) w = text w

-- f of what the value holds; x for a value of another kind
abbrev pub held : {A : Type 0} → ContentType → A → (List ℕ → A) → LeafValue → A
held (octet_string size) x f (octets w) = f w
held object_id x f (oid w) = f w
held (restricted_string letters size) x f (text w) = f w
held (utf8_string size) x f (text w) = f w
held kind x f v = x

-- which values a type has: FitsContent, and the same as a test
abbrev pub FitsContent : ContentType → List ℕ → Type 0
FitsContent (octet_string size) w = IsOctets w × (size_fits size (length w) ≡ true)
FitsContent object_id w = AreArcs w
FitsContent (restricted_string letters size) w = IsOctets w × (all_characters letters w ≡ true) × (size_fits size (length w) ≡ true)
FitsContent (utf8_string size) w = IsOctets w × (is_utf8 w ≡ true) × (size_fits size (length (chars w)) ≡ true)

abbrev pub content_fits : ContentType → List ℕ → Bool
content_fits (octet_string size) w = all_below 256 w && size_fits size (length w)
content_fits object_id w = arcs_fit w
content_fits (restricted_string letters size) w = all_below 256 w && (all_characters letters w && size_fits size (length w))
content_fits (utf8_string size) w = all_below 256 w && (is_utf8 w && size_fits size (length (chars w)))

-- how many octets there are, where the constraint leaves one number
abbrev pub fixed_content : ContentType → Option ℕ
fixed_content (octet_string size) = fixed size
fixed_content object_id = None
fixed_content (restricted_string letters size) = fixed size
fixed_content (utf8_string size) = None

-- c are the contents of w.
abbrev pub IsContent : ContentType → List ℕ → List ℕ → Type 0
-- OCTET STRING (X.696, 14): the octets.
IsContent (octet_string size) w c = (c ≡ w) × (size_fits size (length c) ≡ true)
-- OBJECT IDENTIFIER (21): those of X.690.
IsContent object_id w c = IsObjectId w c
-- IA5String, VisibleString, NumericString, PrintableString (27): an octet for each character.
IsContent (restricted_string letters size) w c = (c ≡ w) × (all_characters letters c ≡ true) × (size_fits size (length c) ≡ true)
-- UTF8String (27): UTF-8; the size counts characters.
IsContent (utf8_string size) w c = (c ≡ w) × (is_utf8 c ≡ true) × (size_fits size (length (chars c)) ≡ true)

-- the contents of w, computed
abbrev pub content_octets : ContentType → List ℕ → List ℕ
content_octets (octet_string size) w = w
content_octets object_id w = object_id_octets w
content_octets (restricted_string letters size) w = w
content_octets (utf8_string size) w = w

-- the contents alone where their number is fixed, else with a length in front; S: which are the contents
abbrev pub Sized : Option ℕ → (List ℕ → List ℕ → Type 0) → List ℕ → List ℕ → Type 0
Sized (Some n) S w b = S w b
Sized None S w b = IsCounted S w b

-- the same of octets
abbrev pub string_octets : Option ℕ → List ℕ → List ℕ
string_octets (Some n) w = w
string_octets None w = counted w

-- b spells w
abbrev pub SpellsContent : ContentType → List ℕ → List ℕ → Type 0
SpellsContent kind w b = Sized (fixed_content kind) (IsContent kind) w b

-- as many octets as the one size says, or a length's
abbrev pub read_octets : Option ℕ → Size → Reader (List ℕ)
read_octets (Some n) s = group n
read_octets None s = with_length (λ n. guard (size_fits s n) reason.Size (group n))

-- characters that pass the test
abbrev pub read_text : (List ℕ → Bool) → Option ℕ → Size → Reader (List ℕ)
read_text test fix s = bind (read_octets fix s) (λ w. guard (test w) reason.Character (give w))

-- UTF-8 after a length; its size counts characters
abbrev pub read_utf8 : Size → Reader (List ℕ)
read_utf8 s = bind counted_octets (λ w. guard (is_utf8 w) reason.Character (guard (size_fits s (length (chars w))) reason.Size (give w)))

-- what the value holds
abbrev pub read_content : ContentType → Reader (List ℕ)
read_content (octet_string s) = read_octets (fixed s) s
read_content object_id = object_identifier
read_content (restricted_string letters s) = read_text (all_characters letters) (fixed s) s
read_content (utf8_string s) = read_utf8 s
