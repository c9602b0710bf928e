use Rattle.std.proofs.Common.{◌&&◌, ◌≡◌, ◌-◌, ◌+◌, arith}
use Rattle.oer_model.specs.AsnType.{boolean}
use Rattle.oer_model.specs.Checking.{check_value}
use Rattle.oer_checker.proofs.Exits.{at_stop}
use Rattle.oer_checker.proofs.Joins.{then_and, else_and}
use Rattle.oer_checker.proofs.FieldSteps.{times_end, times_next, times_start, times_stop}
use Rattle.oer_checker.proofs.booleans.check_booleans.Goals as goal
use Rattle.oer_checker.proofs.booleans.check_booleans.Goals.{then-is_canonical, else-is_canonical}

pub loop-turn-init : goal.loop-turn-init
loop-turn-init c = times_start c.args.count (check_value boolean) _

pub returns-in_err-is_element : goal.returns-in_err-is_element
returns-in_err-is_element c = rw (at_stop c.from_residual.result c.in_err-is_element.field-0.0 c.from_residual.ensures.1) (times_stop (c.args.count - c.loop-turn.turn) (c.args.count - (c.loop-turn.turn + 1)) (check_value boolean) c.loop-turn.is_canonical _ _ _ _ (omega arith) c.loop-turn.invariant c.in_err-is_element.ensures)

pub loop-turn-preserved : goal.loop-turn-preserved
loop-turn-preserved c =
    let both : c.if-is_canonical.is_canonical ≡ (c.loop-turn.is_canonical && c.in_ok-is_element.is_element) = elim c.if-is_canonical.branch [
      | then-is_canonical w ↦ then_and w.if-is_canonical.true w.is_canonical-is
      | else-is_canonical w ↦ else_and c.in_ok-is_element.is_element w.if-is_canonical.false w.is_canonical-is
    ] in
    rw both (times_next (c.args.count - c.loop-turn.turn) (c.args.count - (c.loop-turn.turn + 1)) (check_value boolean) c.loop-turn.is_canonical
    c.in_ok-is_element.is_element _ _ _ (omega arith) c.loop-turn.invariant c.in_ok-is_element.ensures)

pub returns : goal.returns
returns c = times_end (c.args.count - c.loop-turn.turn) (check_value boolean) c.loop-turn.is_canonical _ _ (omega arith) c.loop-turn.invariant
