use Rattle.oer_checker.proofs.Exits.{at_stop}
use Rattle.std.proofs.Common.{◌-◌, ◌+◌, arith}
use Rattle.oer_checker.proofs.StringSteps.{subs_done, subs_end, subs_next, subs_stop}
use Rattle.oer_checker.proofs.strings.check_subidentifiers.Goals as goal

pub returns-then-left-eq0 : goal.returns-then-left-eq0
returns-then-left-eq0 c = subs_done (c.args.content - c.loop-turn.turn) (c.args.content - (c.loop-turn.turn + 1)) c.loop-turn.left _ _ (omega arith) c.if-left-eq0.true c.loop-turn.invariant.rest

pub returns-in_err-taken : goal.returns-in_err-taken
returns-in_err-taken c = rw (at_stop c.from_residual.result c.in_err-taken.field-0.0 c.from_residual.ensures.1) (subs_stop (c.args.content - c.loop-turn.turn) (c.args.content - (c.loop-turn.turn + 1)) c.loop-turn.left _ _ _ _ (omega arith) c.if-left-eq0.false c.in_err-taken.ensures.size c.loop-turn.invariant.rest)

pub loop-turn-preserved : goal.loop-turn-preserved
loop-turn-preserved c = record {
  room = let r = c.loop-turn.invariant.room in let s = c.in_ok-taken.ensures.room in let e = c.saturating_sub-left.ensures in omega arith;
  rest = rw c.saturating_sub-left.ensures (subs_next (c.args.content - c.loop-turn.turn) (c.args.content - (c.loop-turn.turn + 1)) c.loop-turn.left c.in_ok-taken.taken _ _ _ (omega arith) c.if-left-eq0.false c.in_ok-taken.ensures.size c.loop-turn.invariant.rest);
}

pub returns : goal.returns
returns c = subs_end (c.args.content - c.loop-turn.turn) c.loop-turn.left _ _ (omega arith) c.loop-turn.invariant.rest
