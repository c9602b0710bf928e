use Rattle.std.proofs.Common.{◌≡◌, drop}
use Rattle.oer_values.specs.ShapeView.{additions_of}
use Rattle.oer_at.specs.Hops.{find_addition}
use Rattle.oer_at.proofs.enter.addition.Given as goal

-- the name isn't among those before
abbrev pub invariant-loop-index : goal.invariant-loop-index
invariant-loop-index l = find_addition 0 (additions_of l.additions) l.name ≡ find_addition l.index (additions_of (drop l.index l.additions)) l.name
