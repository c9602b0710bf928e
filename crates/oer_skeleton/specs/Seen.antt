-- The alternative that a skeleton takes.
use Rattle.std.specs.Prelude.{List, [], ◌∷◌, Bool, Option, Some, None, if◌then◌else◌}
use Rattle.oer_values.specs.ShapeView.{type_of}
use Rattle.oer_values.specs.declared.shape.Alt.{Alt}
use Rattle.oer_skeleton.specs.Skeleton.{is_legal, is_taken}

-- the first of these that is taken; any: one of them needs no end
abbrev pub first_taken : Bool → List Alt → Option Alt
first_taken any [] = None
first_taken any (x ∷ xs) = if is_taken any x.tag (is_legal (type_of x.shape)) then Some x else first_taken any xs
