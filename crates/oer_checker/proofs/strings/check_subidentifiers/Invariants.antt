use Rattle.std.proofs.Common.{◌≡◌, ◌≤◌, ◌-◌}
use Rattle.oer_model.specs.Checking.{check_subidentifiers}
use Rattle.oer_checker.specs.Places.{place_of}
use Rattle.oer_checker.proofs.strings.check_subidentifiers.Given as goal

abbrev pub invariant-loop-turn : goal.invariant-loop-turn
invariant-loop-turn l = record {
  room : l.left ≤ l.at.left;
  rest : check_subidentifiers (l.content - l.turn) l.left (place_of l.at) ≡ check_subidentifiers l.content l.content (place_of l.fn.at);
}
