-- The alternative that is taken, among those of the code.
use Rattle.std.specs.Prelude.{ℕ, List, [], ◌∷◌, Bool, Option, Some, None}
use Rattle.oer_values.specs.ShapeView.{type_of}
use Rattle.oer_values.specs.declared.shape.Alt.{Alt}
use Rattle.oer_skeleton.specs.Skeleton.{is_legal, is_taken}
use Rattle.oer_random.specs.Drawn.{one_if, pick}

-- an alternative may be taken; any: one before the extension marker needs no end
abbrev pub may_take : Bool → Alt → Bool
may_take any a = is_taken any a.tag (is_legal (type_of a.shape))

-- how many of these may be taken
abbrev pub count_taken : Bool → List Alt → ℕ
count_taken any [] = 0
count_taken any (x ∷ xs) = one_if (may_take any x) (count_taken any xs)

-- of those the one at k
abbrev pub picked : Bool → ℕ → List Alt → Option Alt
picked any k [] = None
picked any k (x ∷ xs) = pick (may_take any x) k (Some x) (λ l. picked any l xs)
