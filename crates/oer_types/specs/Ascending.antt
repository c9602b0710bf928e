-- Numbers that ascend, so that none of them stands twice.
use Rattle.std.specs.Prelude.{ℕ, ◌+◌, ℤ, int_lt, leb, List, [], ◌∷◌, Bool, true, ◌&&◌, Option, Some, None, if◌then◌else◌}
use Rattle.oer_model.specs.AsnType.{NamedNumber}
use Rattle.oer_values.specs.declared.shape.Alt.{Alt}

-- each is greater than the one before, the first greater than this one
abbrev pub ascend_after : ℤ → List NamedNumber → Bool
ascend_after z [] = true
ascend_after z (x ∷ xs) = int_lt z x.number && ascend_after x.number xs

-- each is greater than the one before
abbrev pub ascend : List NamedNumber → Bool
ascend [] = true
ascend (x ∷ xs) = ascend_after x.number xs

-- The number that the next tag may have at least, where the tags of these alternatives ascend from a number on.
abbrev pub next_tag : ℕ → List Alt → Option ℕ
next_tag n [] = Some n
next_tag n (x ∷ xs) = if leb n x.tag.number then next_tag (x.tag.number + 1) xs else None
