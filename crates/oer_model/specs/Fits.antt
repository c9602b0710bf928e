-- Which values fit a type.
use Rattle.std.specs.Prelude.{◌≡◌, ℕ, suc, ◌≤◌, ◌⊎◌, List, [], ◌∷◌, length, Bool, true, false, ◌||◌, ℤ}
use Rattle.oer_units.specs.Octets.{IsOctets}
use Rattle.oer_units.specs.Reading.{is_int64}
use Rattle.oer_units.specs.declared.tagging.Tag.{Tag}
use Rattle.oer_model.specs.Limits.{last_place}
use Rattle.oer_model.specs.LeafType.{LeafType, bit_string, boolean, content, enumerated, integer, null}
use Rattle.oer_model.specs.AsnType.{Additions, Alternatives, AsnType, Fields, Need, addition, alternative, choice, default, extensible_sequence, field, later, leaf, may, must, no_additions, no_alternatives, no_fields, sequence, sequence_of}
use Rattle.oer_model.specs.AsnValue.{AsnValue, Places, Unknown, Values, absent, bit_list, bool, chosen, enum, foreign, int, items, leaf_value, no_places, no_values, nothing, present, seq, unknown, value}
use Rattle.oer_model.specs.Contents.{FitsContent, content_value}
pub use Rattle.oer_model.specs.Contents.{AllBelow, AreArcs}
use Rattle.oer_units.specs.Laws.{HasTagNumber}
use Rattle.oer_model.specs.Constraints.{addition_count, has_number, has_tag, in_range, same_tag, size_fits}

-- values as the list of a SEQUENCE OF
abbrev pub listed : List AsnValue → Values
listed [] = no_values
listed (x ∷ xs) = value x (listed xs)

-- each addition absent
abbrev pub all_absent : Additions → Places
all_absent no_additions = no_places
all_absent (addition name T more) = absent (all_absent more)

-- one after the last unknown place, 0 where there is none
abbrev pub after_last : List Unknown → ℕ
after_last [] = 0
after_last (unknown n w ∷ []) = suc n
after_last (unknown n w ∷ u ∷ us) = after_last (u ∷ us)

-- each has P
abbrev pub AllFit : (AsnValue → Type 0) → List AsnValue → Type 0
AllFit P [] = Unit {0}
AllFit P (v ∷ vs) = P v × AllFit P vs

-- the first component is there with P, and Rest holds of the others
abbrev pub IsThere : (AsnValue → Type 0) → (Places → Type 0) → Places → Type 0
IsThere P Rest ps = (v : AsnValue) × (rest : Places) × (ps ≡ present v rest) × P v × Rest rest

-- the first component is absent, and Rest holds of the others
abbrev pub IsMissing : (Places → Type 0) → Places → Type 0
IsMissing Rest ps = (rest : Places) × (ps ≡ absent rest) × Rest rest

-- a component that has P, or is absent where it may be; Rest: the others
abbrev pub FitsPlace : Need → (AsnValue → Type 0) → (Places → Type 0) → Places → Type 0
FitsPlace must P Rest ps = IsThere P Rest ps
FitsPlace may P Rest ps = IsThere P Rest ps ⊎ IsMissing Rest ps
FitsPlace (default d) P Rest ps = IsThere P Rest ps ⊎ IsMissing Rest ps

-- by the first alternative that has the tag
abbrev pub FitsByTag : Bool → (AsnValue → Type 0) → (AsnValue → Type 0) → AsnValue → Type 0
FitsByTag true P Rest v = P v
FitsByTag false P Rest v = Rest v

-- the unknown additions: their places rise from the lowest to the last one
abbrev pub FitsUnknown : ℕ → List Unknown → Type 0
FitsUnknown lowest [] = Unit {0}
FitsUnknown lowest (unknown place w ∷ us) = (lowest ≤ place) × (place ≤ last_place) × IsOctets w × FitsUnknown (suc place) us

-- an alternative of the type; or one that it doesn't know, where there is an extension marker
abbrev pub FitsChosen : Bool → Alternatives → (Tag → AsnValue → Type 0) → AsnValue → Type 0
FitsChosen extensible more P v = ((t : Tag) × (x : AsnValue) × (v ≡ chosen t x) × P t x)
    ⊎ ((t : Tag) × (w : List ℕ) × (v ≡ foreign t w) × (extensible ≡ true) × (has_tag t more ≡ false) × HasTagNumber t × IsOctets w)

-- which values fit a type that holds no other
abbrev pub FitsLeaf : LeafType → AsnValue → Type 0
FitsLeaf boolean v = (x : Bool) × (v ≡ bool x)
FitsLeaf null v = v ≡ nothing
FitsLeaf (integer low high) v = (z : ℤ) × (v ≡ int z) × (in_range low high z ≡ true)
FitsLeaf (enumerated numbers extensible) v = (z : ℤ) × (v ≡ enum z) × (is_int64 z ≡ true) × ((extensible || has_number numbers z) ≡ true)
FitsLeaf (bit_string size) v = (s : List Bool) × (v ≡ bit_list s) × (size_fits size (length s) ≡ true)
FitsLeaf (content kind) v = (w : List ℕ) × (v ≡ leaf_value (content_value kind w)) × FitsContent kind w

-- Which values fit a type: of its kind, within its bounds and sizes, each part fitting (X.680).
abbrev mutual
  pub Fits : AsnType → AsnValue → Type 0
  Fits (leaf kind) v = FitsLeaf kind v
  Fits (sequence fs) v = (root : Places) × (v ≡ seq root no_places []) × FitsFields fs root
  Fits (extensible_sequence fs more) v = (root : Places) × (added : Places) × (us : List Unknown) × (v ≡ seq root added us)
      × FitsFields fs root × FitsAdditions more added × FitsUnknown (addition_count more) us
  Fits (sequence_of size T) v = (vs : List AsnValue) × (v ≡ items (listed vs)) × (size_fits size (length vs) ≡ true) × AllFit (Fits T) vs
  Fits (choice extensible more) v = FitsChosen extensible more (FitsAlternative more) v

  pub FitsFields : Fields → Places → Type 0
  FitsFields no_fields ps = ps ≡ no_places
  FitsFields (field name need T fs) ps = FitsPlace need (Fits T) (FitsFields fs) ps

  pub FitsAdditions : Additions → Places → Type 0
  FitsAdditions no_additions ps = ps ≡ no_places
  FitsAdditions (addition name T more) ps = FitsPlace may (Fits T) (FitsAdditions more) ps

  pub FitsAlternative : Alternatives → Tag → AsnValue → Type 0
  FitsAlternative no_alternatives t v = ⊥
  FitsAlternative (alternative name u T more) t v = FitsByTag (same_tag u t) (Fits T) (FitsAlternative more t) v
  FitsAlternative (later name u T more) t v = FitsByTag (same_tag u t) (Fits T) (FitsAlternative more t) v

-- a default has P
abbrev pub DefaultFits : Need → (AsnValue → Type 0) → Type 0
DefaultFits must P = Unit {0}
DefaultFits may P = Unit {0}
DefaultFits (default d) P = P d

-- each default in the type fits its component's type
abbrev mutual
  pub DefaultsFit : AsnType → Type 0
  DefaultsFit (leaf kind) = Unit {0}
  DefaultsFit (sequence fs) = FieldDefaultsFit fs
  DefaultsFit (extensible_sequence fs more) = FieldDefaultsFit fs × AdditionDefaultsFit more
  DefaultsFit (sequence_of size T) = DefaultsFit T
  DefaultsFit (choice extensible more) = AlternativeDefaultsFit more

  pub FieldDefaultsFit : Fields → Type 0
  FieldDefaultsFit no_fields = Unit {0}
  FieldDefaultsFit (field name need T fs) = DefaultsFit T × DefaultFits need (Fits T) × FieldDefaultsFit fs

  pub AdditionDefaultsFit : Additions → Type 0
  AdditionDefaultsFit no_additions = Unit {0}
  AdditionDefaultsFit (addition name T more) = DefaultsFit T × AdditionDefaultsFit more

  pub AlternativeDefaultsFit : Alternatives → Type 0
  AlternativeDefaultsFit no_alternatives = Unit {0}
  AlternativeDefaultsFit (alternative name t T more) = DefaultsFit T × AlternativeDefaultsFit more
  AlternativeDefaultsFit (later name t T more) = DefaultsFit T × AlternativeDefaultsFit more
