-- Canonical encodings (Canonical-OER).
use Rattle.std.specs.Prelude.{◌≡◌, ℕ, ◌≤◌, ◌⊎◌, max, List, [], ◌∷◌, ◌++◌, length, drop, Bool, true, false, if◌then◌else◌, Option, Some, None}
use Rattle.oer_units.specs.Numbers.{unsigned}
use Rattle.oer_units.specs.Octets.{IsOctets, IsShortest}
use Rattle.oer_units.specs.Spelling.{IsCounted, StandsFor, IsJoined, IsLength, IsTag}
use Rattle.oer_units.specs.declared.tagging.Tag.{Tag}
use Rattle.oer_model.specs.Limits.{addition_places}
use Rattle.oer_model.specs.LeafType.{LeafType, bit_string, boolean, null}
use Rattle.oer_model.specs.AsnType.{Additions, Alternatives, AsnType, Fields, Need, addition, alternative, choice, default, extensible_sequence, field, later, leaf, may, must, no_additions, no_alternatives, no_fields, sequence, sequence_of}
use Rattle.oer_model.specs.AsnValue.{AsnValue, Places, Unknown, bit_list, bool, chosen, foreign, items, no_places, nothing, seq}
use Rattle.oer_model.specs.Bits.{IsPreamble, all_false, bits_of, first_bit, later_bits}
use Rattle.oer_model.specs.Constraints.{addition_count, any_size, fixed, has_tag, optional, same_tag, size_fits}
use Rattle.oer_model.specs.Encoding.{ByBit, ByTag, IsItself, IsPresent, IsSpelling, SpellsUnknown}
use Rattle.oer_model.specs.Filling.{filled}
use Rattle.oer_model.specs.Fits.{Fits, after_last, all_absent, listed}
use Rattle.oer_model.specs.declared.size.Size.{Size}

-- No spelling of v has fewer octets: lengths and counted numbers are in their least form.
abbrev pub IsLeastSpelling : AsnType → AsnValue → List ℕ → Type 0
IsLeastSpelling T v b = IsShortest (IsSpelling T v) b

-- with a length in its least form
abbrev pub StrictCounted : {A : Type 0} → (A → List ℕ → Type 0) → A → List ℕ → Type 0
StrictCounted S x b = (l : List ℕ) × (c : List ℕ) × (b ≡ l ++ c) × IsShortest (IsLength (length c)) l × S x c

-- the unused bits are 0
abbrev pub StrictBits : List Bool → List ℕ → Type 0
StrictBits s c = IsOctets c
    × ((u : ℕ) × (d : List ℕ) × (padding : List Bool) × (c ≡ u ∷ d) × (u ≤ 7) × (length d ≡ 0 → u ≡ 0) × (length padding ≡ u)
    × (all_false padding ≡ true) × (bits_of d ≡ s ++ padding))

-- octets that are the preamble
abbrev pub StrictPreamble : List Bool → List ℕ → Type 0
StrictPreamble s p = IsOctets p × IsPreamble s p

-- as SpellsBits, with the bits past s 0
abbrev pub StrictBitString : Option ℕ → Size → List Bool → List ℕ → Type 0
StrictBitString (Some n) size s b = (length s ≡ n) × StrictPreamble s b
StrictBitString None size s b = (size_fits size (length s) ≡ true) × StrictCounted StrictBits s b

-- as SpellsBitmap, with the bits past s 0
abbrev pub StrictBitmap : List Bool → List ℕ → Type 0
StrictBitmap s b = StrictBitString None any_size s b

-- the least form of a quantity
abbrev pub StrictQuantity : ℕ → List ℕ → Type 0
StrictQuantity n q = IsShortest (IsCounted (StandsFor unsigned) n) q

-- as ByNeed, but a DEFAULT component that is there has another fill than its default; f: the fill of the component's type
abbrev pub StrictNeed : Need → (AsnValue → AsnValue) → (AsnValue → List ℕ → Type 0) → (List Bool → Places → List ℕ → Type 0)
    → List Bool → Places → List ℕ → Type 0
StrictNeed must f S Rest s ps b = IsPresent S (Rest s) ps b
StrictNeed may f S Rest s ps b = ByBit (first_bit s) S (Rest (later_bits s)) ps b
StrictNeed (default d) f S Rest s ps b = ByBit (first_bit s) (λ v c. S v c × (f v ≡ f d → ⊥)) (Rest (later_bits s)) ps b

-- as SpellsExtension, but the extension bit is set only where an addition is there, and the bitmap has one bit for each known addition,
-- or as many as the place after the last unknown one if these are more; s: the bits of the known ones
abbrev pub StrictExtension : Bool → Additions → (List Bool → Places → List ℕ → Type 0) → Places → List Unknown → List ℕ → Type 0
StrictExtension false more S added us e = (added ≡ all_absent more) × (us ≡ []) × (e ≡ [])
StrictExtension true more S added us e = (s : List Bool) × (z : List Bool) × (m : List ℕ) × (a : List ℕ) × (u : List ℕ)
    × (e ≡ m ++ (a ++ u)) × StrictBitmap (s ++ z) m
    × (length s ≡ addition_count more) × (length (s ++ z) ≡ max (addition_count more) (after_last us))
    × (all_false (s ++ z) ≡ false) × (all_false (drop addition_places (s ++ z)) ≡ true) × S s added a
    × SpellsUnknown (StrictCounted IsItself) (addition_count more) z us u

-- as SpellsChosen, with a length in its least form
abbrev pub StrictChosen : Bool → Alternatives → (AsnValue → List ℕ → Type 0) → Tag → AsnValue → List ℕ → Type 0
StrictChosen extensible more S t v c = ((x : AsnValue) × (v ≡ chosen t x) × S x c)
    ⊎ ((w : List ℕ) × (v ≡ foreign t w) × (extensible ≡ true) × (has_tag t more ≡ false) × StrictCounted IsItself w c)

-- b spells v, which holds no other value, by Canonical-OER.
abbrev pub IsStrictLeafSpelling : LeafType → AsnValue → List ℕ → Type 0
-- BOOLEAN (X.696, 9.2): TRUE is ff.
IsStrictLeafSpelling boolean v b = (x : Bool) × (v ≡ bool x) × (b ≡ (if x then 255 else 0) ∷ [])
-- NULL: no octets.
IsStrictLeafSpelling null v b = (v ≡ nothing) × (b ≡ [])
-- BIT STRING: unused bits are 0.
IsStrictLeafSpelling (bit_string size) v b = (s : List Bool) × (v ≡ bit_list s) × StrictBitString (fixed size) size s b
-- Every other type: the least spelling.
IsStrictLeafSpelling kind v b = IsLeastSpelling (leaf kind) v b

-- b spells v by Canonical-OER: the cases of IsSpelling with the strict forms of their parts.
abbrev mutual
  pub IsStrictSpelling : AsnType → AsnValue → List ℕ → Type 0
  IsStrictSpelling (leaf kind) v b = IsStrictLeafSpelling kind v b
  -- SEQUENCE: no DEFAULT component is there that equals its default.
  IsStrictSpelling (sequence fs) v b = (root : Places) × (s : List Bool) × (p : List ℕ) × (r : List ℕ)
      × (v ≡ seq root no_places []) × (b ≡ p ++ r) × (length s ≡ optional fs) × StrictPreamble s p × SpellsFieldsStrictly fs s root r
  -- SEQUENCE with an extension marker.
  IsStrictSpelling (extensible_sequence fs more) v b = (root : Places) × (added : Places) × (us : List Unknown) × (x : Bool)
      × (s : List Bool) × (p : List ℕ) × (r : List ℕ) × (e : List ℕ)
      × (v ≡ seq root added us) × (b ≡ p ++ (r ++ e)) × (length s ≡ optional fs) × StrictPreamble (x ∷ s) p
      × SpellsFieldsStrictly fs s root r × StrictExtension x more (SpellsAdditionsStrictly more) added us e
  -- SEQUENCE OF: the least form of the quantity.
  IsStrictSpelling (sequence_of size T) v b = (vs : List AsnValue) × (q : List ℕ) × (es : List ℕ)
      × (v ≡ items (listed vs)) × (b ≡ q ++ es) × StrictQuantity (length vs) q × (size_fits size (length vs) ≡ true)
      × IsJoined (IsStrictSpelling T) vs es
  -- CHOICE.
  IsStrictSpelling (choice extensible more) v b = (t : Tag) × (p : List ℕ) × (c : List ℕ) × (b ≡ p ++ c) × IsTag t p
      × StrictChosen extensible more (SpellsAlternativeStrictly more t) t v c

  pub SpellsFieldsStrictly : Fields → List Bool → Places → List ℕ → Type 0
  SpellsFieldsStrictly no_fields s ps b = (ps ≡ no_places) × (b ≡ [])
  SpellsFieldsStrictly (field name need T fs) s ps b = StrictNeed need (filled T) (IsStrictSpelling T) (SpellsFieldsStrictly fs) s ps b

  pub SpellsAdditionsStrictly : Additions → List Bool → Places → List ℕ → Type 0
  SpellsAdditionsStrictly no_additions s ps b = (ps ≡ no_places) × (b ≡ [])
  SpellsAdditionsStrictly (addition name T more) s ps b =
      ByBit (first_bit s) (StrictCounted (IsStrictSpelling T)) (SpellsAdditionsStrictly more (later_bits s)) ps b

  pub SpellsAlternativeStrictly : Alternatives → Tag → AsnValue → List ℕ → Type 0
  SpellsAlternativeStrictly no_alternatives t v b = ⊥
  SpellsAlternativeStrictly (alternative name u T more) t v b =
      ByTag (same_tag u t) (IsStrictSpelling T) (SpellsAlternativeStrictly more t) v b
  SpellsAlternativeStrictly (later name u T more) t v b =
      ByTag (same_tag u t) (StrictCounted (IsStrictSpelling T)) (SpellsAlternativeStrictly more t) v b

-- b is a strict encoding of v, by Canonical-OER.
abbrev pub EncodesStrictly : AsnType → AsnValue → List ℕ → Type 0
EncodesStrictly T v b = IsOctets b × Fits T v × IsStrictSpelling T v b

-- b are the canonical octets of v: the strict encoding of a value that is equal to v after defaults are filled in.
abbrev pub IsCanonical : AsnType → AsnValue → List ℕ → Type 0
IsCanonical T v b = Fits T v × (w : AsnValue) × (filled T w ≡ filled T v) × EncodesStrictly T w b
