use Rattle.std.proofs.Common.{◌≡◌, ◌+◌, ◌≤◌, drop, length}
use Rattle.oer_model.specs.Parts.{find_part}
use Rattle.oer_parts.specs.Walk.{CanSplit, path_of, type_in}
use Rattle.oer_parts.proofs.Ranging.{Reached}
use Rattle.oer_parts.proofs.encoding.follow.Given as goal

abbrev pub invariant-loop-step : goal.invariant-loop-step
invariant-loop-step l = CanSplit (type_in l.at) l.at.octets.now × (find_part (type_in l.at) l.at.octets.now (path_of (drop l.step-index l.initial.path)) ≡ find_part (type_in l.fn.whole) l.fn.whole.octets.now (path_of l.initial.path))
    × Reached (type_in l.fn.whole) l.fn.whole.octets.now (path_of l.initial.path) l.before (type_in l.at) l.at.octets.now (path_of (drop l.step-index l.initial.path))
    × (l.before + length l.at.octets.now ≤ length l.fn.whole.octets.now)
