-- The laws on skeletons.
use Rattle.std.specs.Prelude.{◌≡◌, true}
use Rattle.oer_model.specs.AsnType.{AsnType}
use Rattle.oer_model.specs.Fits.{Fits}
use Rattle.oer_model.specs.WellFormed.{IsWellFormed}
use Rattle.oer_nesting.specs.Deeper.{HasNoEnd}
use Rattle.oer_nesting.specs.Defaults.{DefaultsHaveNoEnd}
use Rattle.oer_skeleton.specs.Skeleton.{is_legal, skeleton}
use Rattle.oer_skeleton.specs.declared.parts.Parts.{Parts}

-- The skeletons of a well-formed type fit it.
abbrev pub SkeletonsFit : Type 0
SkeletonsFit = (parts : Parts) (T : AsnType) → IsWellFormed T → Fits T (skeleton parts T)

-- They meet no end of a nesting where the type is found to have a value without one, and no default meets one.
abbrev pub SkeletonsMeetNoEnd : Type 0
SkeletonsMeetNoEnd = (parts : Parts) (T : AsnType) → IsWellFormed T → DefaultsHaveNoEnd T → is_legal T ≡ true → HasNoEnd T (skeleton parts T)
