-- Which octets are encodings of which values (Basic-OER).
use Rattle.std.specs.Prelude.{◌≡◌, ℕ, suc, ◌⊎◌, List, [], ◌∷◌, ◌++◌, length, take, drop, Bool, true, false, not, ◌||◌, eqb, ℤ, Option, Some, None}
use Rattle.oer_units.specs.Numbers.{natural, signed, unsigned}
use Rattle.oer_units.specs.Octets.{IsOctets}
use Rattle.oer_units.specs.Reading.{is_int64}
use Rattle.oer_units.specs.Spelling.{IsCounted, IsEnumerated, IsJoined, IsTag, StandsFor}
use Rattle.oer_units.specs.declared.tagging.Tag.{Tag}
use Rattle.oer_model.specs.Limits.{addition_places}
use Rattle.oer_model.specs.LeafType.{LeafType, bit_string, boolean, content, enumerated, integer, null}
use Rattle.oer_model.specs.AsnType.{Additions, Alternatives, AsnType, Fields, Need, addition, alternative, choice, default, extensible_sequence, field, later, leaf, may, must, no_additions, no_alternatives, no_fields, sequence, sequence_of}
use Rattle.oer_model.specs.AsnValue.{AsnValue, Places, Unknown, absent, bit_list, bool, chosen, enum, foreign, int, items, leaf_value, no_places, nothing, present, seq, unknown}
use Rattle.oer_model.specs.Bits.{IsBits, IsPreamble, all_false, bits_of, first_bit, later_bits, octets_for}
use Rattle.oer_model.specs.Constraints.{Form, addition_count, any_size, fixed, form_of, has_number, has_tag, in_range, optional, same_tag, signed_counted, signed_fixed, size_fits, unsigned_counted, unsigned_fixed}
use Rattle.oer_model.specs.Contents.{SpellsContent, content_value}
use Rattle.oer_model.specs.Fits.{Fits, all_absent, listed}
use Rattle.oer_model.specs.declared.size.Size.{Size}

-- by the form: as many octets as it says, which stand for z; or a length and one octet or more that stand for z
abbrev pub SpellsInteger : Form → ℤ → List ℕ → Type 0
SpellsInteger (unsigned_fixed n) z b = (length b ≡ n) × (natural b ≡ z)
SpellsInteger (signed_fixed n) z b = (length b ≡ n) × (signed b ≡ z)
SpellsInteger unsigned_counted z b = IsCounted (StandsFor natural) z b
SpellsInteger signed_counted z b = IsCounted (StandsFor signed) z b

-- the bits s in whole octets where one size is fixed, else as a counted list with the number of unused bits
abbrev pub SpellsBits : Option ℕ → Size → List Bool → List ℕ → Type 0
SpellsBits (Some n) size s b = (length b ≡ octets_for n) × (s ≡ take n (bits_of b))
SpellsBits None size s b = IsCounted (λ s c. IsBits s c × (size_fits size (length s) ≡ true)) s b

-- the bits s as a BIT STRING without size constraint
abbrev pub SpellsBitmap : List Bool → List ℕ → Type 0
SpellsBitmap s b = SpellsBits None any_size s b

-- the first component is there, spelt by the first octets; Rest: the others
abbrev pub IsPresent : (AsnValue → List ℕ → Type 0) → (Places → List ℕ → Type 0) → Places → List ℕ → Type 0
IsPresent S Rest ps b = (v : AsnValue) × (rest : Places) × (b1 : List ℕ) × (b2 : List ℕ) × (ps ≡ present v rest) × (b ≡ b1 ++ b2)
    × S v b1 × Rest rest b2

-- the first component is absent and has no octets
abbrev pub IsAbsent : (Places → List ℕ → Type 0) → Places → List ℕ → Type 0
IsAbsent Rest ps b = (rest : Places) × (ps ≡ absent rest) × Rest rest b

-- present exactly if the bit is set
abbrev pub ByBit : Bool → (AsnValue → List ℕ → Type 0) → (Places → List ℕ → Type 0) → Places → List ℕ → Type 0
ByBit true S Rest ps b = IsPresent S Rest ps b
ByBit false S Rest ps b = IsAbsent Rest ps b

-- a component without presence bit is present, any other exactly if its bit is set; Rest: the components after it, by
-- the bits that are left
abbrev pub ByNeed : Need → (AsnValue → List ℕ → Type 0) → (List Bool → Places → List ℕ → Type 0) → List Bool → Places → List ℕ → Type 0
ByNeed must S Rest s ps b = IsPresent S (Rest s) ps b
ByNeed may S Rest s ps b = ByBit (first_bit s) S (Rest (later_bits s)) ps b
ByNeed (default d) S Rest s ps b = ByBit (first_bit s) S (Rest (later_bits s)) ps b

-- by the first alternative that has the tag
abbrev pub ByTag : Bool → (AsnValue → List ℕ → Type 0) → (AsnValue → List ℕ → Type 0) → AsnValue → List ℕ → Type 0
ByTag true S Rest v b = S v b
ByTag false S Rest v b = Rest v b

-- the octets themselves
abbrev pub IsItself : List ℕ → List ℕ → Type 0
IsItself w c = c ≡ w

-- The additions from the place on that the type doesn't know, one for each bit that is set; S: how the octets of one are spelt.
abbrev pub SpellsUnknown : (List ℕ → List ℕ → Type 0) → ℕ → List Bool → List Unknown → List ℕ → Type 0
SpellsUnknown S place [] us b = (us ≡ []) × (b ≡ [])
SpellsUnknown S place (true ∷ s) us b = (w : List ℕ) × (rest : List Unknown) × (b1 : List ℕ) × (b2 : List ℕ)
    × (us ≡ unknown place w ∷ rest) × (b ≡ b1 ++ b2) × S w b1 × SpellsUnknown S (suc place) s rest b2
SpellsUnknown S place (false ∷ s) us b = SpellsUnknown S (suc place) s us b

-- The additions (X.696, 16.4): without the extension bit none; with it a bitmap, no bit of it set past the last place,
-- and then each addition whose bit is set, as an open type.
abbrev pub SpellsExtension : Bool → Additions → (List Bool → Places → List ℕ → Type 0) → Places → List Unknown → List ℕ → Type 0
SpellsExtension false more S added us e = (added ≡ all_absent more) × (us ≡ []) × (e ≡ [])
SpellsExtension true more S added us e = (s : List Bool) × (m : List ℕ) × (a : List ℕ) × (u : List ℕ) × (e ≡ m ++ (a ++ u))
    × SpellsBitmap s m × (all_false (drop addition_places s) ≡ true) × S s added a
    × SpellsUnknown (IsCounted IsItself) (addition_count more) (drop (addition_count more) s) us u

-- an alternative of the type, spelt by S; or one that it doesn't know, where there is an extension marker, as an open type
abbrev pub SpellsChosen : Bool → Alternatives → (AsnValue → List ℕ → Type 0) → Tag → AsnValue → List ℕ → Type 0
SpellsChosen extensible more S t v c = ((x : AsnValue) × (v ≡ chosen t x) × S x c)
    ⊎ ((w : List ℕ) × (v ≡ foreign t w) × (extensible ≡ true) × (has_tag t more ≡ false) × IsCounted IsItself w c)

-- b spells v, which holds no other value: any length, any number of octets for a number in a counted form, any octet but 0 for TRUE.
abbrev pub IsLeafSpelling : LeafType → AsnValue → List ℕ → Type 0
-- BOOLEAN (X.696, 9): one octet, which is 0 exactly if v is FALSE.
IsLeafSpelling boolean v b = (x : ℕ) × (b ≡ x ∷ []) × (v ≡ bool (not (eqb x 0)))
-- NULL (15): no octets.
IsLeafSpelling null v b = (v ≡ nothing) × (b ≡ [])
-- INTEGER (10): by the form that the bounds choose.
IsLeafSpelling (integer low high) v b = (z : ℤ) × (v ≡ int z) × (in_range low high z ≡ true) × SpellsInteger (form_of low high) z b
-- ENUMERATED (11): a listed number, or any of 64 bits where there is an extension marker.
IsLeafSpelling (enumerated numbers extensible) v b = (z : ℤ) × (v ≡ enum z) × (is_int64 z ≡ true)
    × ((extensible || has_number numbers z) ≡ true) × IsEnumerated z b
-- BIT STRING (13).
IsLeafSpelling (bit_string size) v b = (s : List Bool) × (v ≡ bit_list s) × SpellsBits (fixed size) size s b
-- OCTET STRING, OBJECT IDENTIFIER and the character strings: contents after a length, or alone where their number is fixed.
IsLeafSpelling (content kind) v b = (w : List ℕ) × (v ≡ leaf_value (content_value kind w)) × SpellsContent kind w b

-- b spells v by Basic-OER.
abbrev mutual
  pub IsSpelling : AsnType → AsnValue → List ℕ → Type 0
  IsSpelling (leaf kind) v b = IsLeafSpelling kind v b
  -- SEQUENCE (16): the preamble p of one presence bit for each component that may be absent, and the components r.
  IsSpelling (sequence fs) v b = (root : Places) × (s : List Bool) × (p : List ℕ) × (r : List ℕ)
      × (v ≡ seq root no_places []) × (b ≡ p ++ r) × (length s ≡ optional fs) × IsPreamble s p × SpellsFields fs s root r
  -- SEQUENCE with an extension marker (16): its preamble begins with the extension bit x; the additions e follow.
  IsSpelling (extensible_sequence fs more) v b = (root : Places) × (added : Places) × (us : List Unknown) × (x : Bool)
      × (s : List Bool) × (p : List ℕ) × (r : List ℕ) × (e : List ℕ)
      × (v ≡ seq root added us) × (b ≡ p ++ (r ++ e)) × (length s ≡ optional fs) × IsPreamble (x ∷ s) p × SpellsFields fs s root r
      × SpellsExtension x more (SpellsAdditions more) added us e
  -- SEQUENCE OF (17): the quantity q, a counted number, and the elements es.
  IsSpelling (sequence_of size T) v b = (vs : List AsnValue) × (q : List ℕ) × (es : List ℕ)
      × (v ≡ items (listed vs)) × (b ≡ q ++ es) × IsCounted (StandsFor unsigned) (length vs) q
      × (size_fits size (length vs) ≡ true) × IsJoined (IsSpelling T) vs es
  -- CHOICE (20): the tag p, and the alternative c.
  IsSpelling (choice extensible more) v b = (t : Tag) × (p : List ℕ) × (c : List ℕ) × (b ≡ p ++ c) × IsTag t p
      × SpellsChosen extensible more (SpellsAlternative more t) t v c

  -- by the presence bits s of these components
  pub SpellsFields : Fields → List Bool → Places → List ℕ → Type 0
  SpellsFields no_fields s ps b = (ps ≡ no_places) × (b ≡ [])
  SpellsFields (field name need T fs) s ps b = ByNeed need (IsSpelling T) (SpellsFields fs) s ps b

  -- by the bits of the bitmap, of which those that are missing count as 0; each an open type (30)
  pub SpellsAdditions : Additions → List Bool → Places → List ℕ → Type 0
  SpellsAdditions no_additions s ps b = (ps ≡ no_places) × (b ≡ [])
  SpellsAdditions (addition name T more) s ps b = ByBit (first_bit s) (IsCounted (IsSpelling T)) (SpellsAdditions more (later_bits s)) ps b

  -- by the first alternative that has the tag; one after the extension marker is an open type (30)
  pub SpellsAlternative : Alternatives → Tag → AsnValue → List ℕ → Type 0
  SpellsAlternative no_alternatives t v b = ⊥
  SpellsAlternative (alternative name u T more) t v b = ByTag (same_tag u t) (IsSpelling T) (SpellsAlternative more t) v b
  SpellsAlternative (later name u T more) t v b = ByTag (same_tag u t) (IsCounted (IsSpelling T)) (SpellsAlternative more t) v b

-- b is an encoding of v: octets, v fits the type, and b spells v.
abbrev pub Encodes : AsnType → AsnValue → List ℕ → Type 0
Encodes T v b = IsOctets b × Fits T v × IsSpelling T v b
