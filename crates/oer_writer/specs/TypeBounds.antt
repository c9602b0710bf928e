-- At most how many octets the values that fit a type have.
use Rattle.std.specs.Prelude.{◌≡◌, ℕ, ◌+◌, ◌≤◌, List, length, Bool, true, Option, IfSome}
use Rattle.oer_model.specs.AsnType.{AsnType, Fields, sequence_of}
use Rattle.oer_model.specs.AsnValue.{AsnValue, Places, Values, items}
use Rattle.oer_model.specs.Canonical.{canonical_octets, string_octets}
use Rattle.oer_model.specs.Constraints.{fixed, size_fits}
use Rattle.oer_model.specs.Fits.{AllFit, Fits, FitsFields, listed}
use Rattle.oer_model.specs.declared.size.Size.{Size}
use Rattle.oer_leaves.specs.Parts.{field_octets, place_octets_of, root_octets, values_octets}

-- ---- by the type alone. Nothing is said where there is no answer, here and below.

-- each value
abbrev pub HasMost : AsnType → Option ℕ → Type 0
HasMost T result = IfSome result (λ n. (v : AsnValue) → Fits T v → length (canonical_octets T v) ≤ n)

-- the components of a root
abbrev pub FieldsHaveMost : Fields → Option ℕ → Type 0
FieldsHaveMost fs result = IfSome result (λ n. (ps : Places) → FitsFields fs ps → length (field_octets fs ps) ≤ n)

-- strings of the size
abbrev pub StringsHaveMost : Size → Option ℕ → Type 0
StringsHaveMost size result =
    IfSome result (λ n. (w : List ℕ) → size_fits size (length w) ≡ true → length (string_octets (fixed size) w) ≤ n)

-- ---- by the type and the value: those done before come to the answer at most, with the octets of v

abbrev pub BoundsIn : AsnType → ℕ → AsnValue → Option ℕ → Type 0
BoundsIn T done v result = Fits T v → IfSome result (λ n. done + length (canonical_octets T v) ≤ n)

-- with those of a component, if it is there
abbrev pub BoundsPlaceIn : AsnType → ℕ → Option AsnValue → Option ℕ → Type 0
BoundsPlaceIn T done p result = IfSome p (Fits T) → IfSome result (λ n. done + length (place_octets_of T p) ≤ n)

-- with the components of a root
abbrev pub BoundsFieldsIn : Fields → ℕ → Places → Option ℕ → Type 0
BoundsFieldsIn fs done ps result = FitsFields fs ps → IfSome result (λ n. done + length (field_octets fs ps) ≤ n)

-- with the preamble too
abbrev pub BoundsRootIn : Fields → ℕ → Places → Option ℕ → Type 0
BoundsRootIn fs done ps result =
    FitsFields fs ps → IfSome result (λ n. (first : Option Bool) → done + length (root_octets first fs ps) ≤ n)

-- with elements
abbrev pub BoundsValuesIn : AsnType → ℕ → Values → Option ℕ → Type 0
BoundsValuesIn T done vs result =
    (ws : List AsnValue) → vs ≡ listed ws → AllFit (Fits T) ws → IfSome result (λ n. done + length (values_octets T vs) ≤ n)

-- with a list of them
abbrev pub BoundsListIn : AsnType → ℕ → Values → Option ℕ → Type 0
BoundsListIn T done vs result = (size : Size) → BoundsIn (sequence_of size T) done (items vs) result
