-- The laws on the values that seeds give.
use Rattle.std.specs.Prelude.{◌≡◌, ℕ, true}
use Rattle.oer_model.specs.AsnType.{AsnType}
use Rattle.oer_model.specs.Fits.{Fits}
use Rattle.oer_model.specs.WellFormed.{IsWellFormed}
use Rattle.oer_nesting.specs.Deeper.{HasNoEnd}
use Rattle.oer_nesting.specs.Defaults.{DefaultsHaveNoEnd}
use Rattle.oer_skeleton.specs.Skeleton.{is_legal}
use Rattle.oer_random.specs.Drawn.{random_value}

-- The values of a well-formed type fit it.
abbrev pub RandomValuesFit : Type 0
RandomValuesFit = (seed : ℕ) (T : AsnType) → IsWellFormed T → Fits T (random_value seed T)

-- They meet no end of a nesting where the type is found to have a value without one, and no default meets one.
abbrev pub RandomValuesMeetNoEnd : Type 0
RandomValuesMeetNoEnd = (seed : ℕ) (T : AsnType) → IsWellFormed T → DefaultsHaveNoEnd T → is_legal T ≡ true → HasNoEnd T (random_value seed T)
