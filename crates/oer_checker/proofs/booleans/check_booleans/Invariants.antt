use Rattle.std.proofs.Common.{◌≡◌, ◌-◌}
use Rattle.oer_model.specs.AsnType.{boolean}
use Rattle.oer_model.specs.Checking.{check_times, check_value}
use Rattle.oer_checker.specs.Places.{place_of}
use Rattle.oer_checker.specs.Steps.{and_after}
use Rattle.oer_checker.proofs.booleans.check_booleans.Given as goal

abbrev pub invariant-loop-turn : goal.invariant-loop-turn
invariant-loop-turn l = and_after l.is_canonical (check_times (l.count - l.turn) (check_value boolean) (place_of l.at)) ≡ check_times l.count (check_value boolean) (place_of l.fn.at)
