-- At most how many octets a value has, by what it holds, whatever its type.
use Rattle.std.specs.Prelude.{ℕ, ◌+◌, ◌*◌, ◌≤◌, List, length, Bool, Option, IfSome}
use Rattle.oer_model.specs.AsnType.{Additions, AsnType, Fields}
use Rattle.oer_model.specs.AsnValue.{AsnValue, Places, Unknown, Values}
use Rattle.oer_model.specs.Canonical.{canonical_octets, unknown_marks, unknown_octets}
use Rattle.oer_leaves.specs.Parts.{addition_octets, field_octets, known_octets, root_octets, values_octets}

-- Those done before come to the answer at most, with the octets of v by any type. Nothing is said where there is none.
abbrev pub Bounds : ℕ → AsnValue → Option ℕ → Type 0
Bounds done v result = IfSome result (λ n. (T : AsnType) → done + length (canonical_octets T v) ≤ n)

-- so with the components of a root
abbrev pub BoundsPlaces : ℕ → Places → Option ℕ → Type 0
BoundsPlaces done ps result = IfSome result (λ n. (fs : Fields) → done + length (field_octets fs ps) ≤ n)

-- with the preamble too
abbrev pub BoundsRoot : ℕ → Places → Option ℕ → Type 0
BoundsRoot done ps result =
    IfSome result (λ n. (first : Option Bool) (fs : Fields) → done + length (root_octets first fs ps) ≤ n)

-- with elements
abbrev pub BoundsValues : ℕ → Values → Option ℕ → Type 0
BoundsValues done vs result = IfSome result (λ n. (T : AsnType) → done + length (values_octets T vs) ≤ n)

-- with the additions that the type knows
abbrev pub BoundsAdded : ℕ → Places → Option ℕ → Type 0
BoundsAdded done ps result = IfSome result (λ n. (more : Additions) → done + length (known_octets more ps) ≤ n)

-- with the others, and their bits in the bitmap from any place on; counted in bits
abbrev pub BoundsUnknown : ℕ → List Unknown → Option ℕ → Type 0
BoundsUnknown done us result =
    IfSome result (λ n. (next : ℕ) → 8 * done + (length (unknown_marks next us) + 8 * length (unknown_octets us)) ≤ 8 * n)

-- with all that follows a root where an addition is there
abbrev pub BoundsAdditions : ℕ → Places → List Unknown → Option ℕ → Type 0
BoundsAdditions done ps us result = IfSome result (λ n. (more : Additions) → done + length (addition_octets more ps us) ≤ n)
