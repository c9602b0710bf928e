use Rattle.std.proofs.Common.{refl, ◌≡◌, ◌≢◌, ℕ, ◌-◌, ◌+◌, ◌≤◌, arith}
use Rattle.std.proofs.lemmas.Grind.{common_steps}
use Rattle.oer_decoder.proofs.Objects.{subs_next, subs_stop, subs_memory, subs_end, subs_out}
use Rattle.oer_decoder.proofs.Exits.{at_fault, here}
use Rattle.oer_decoder.proofs.strings.subidentifiers.Goals as goal

pub returns-then-end-taken : goal.returns-then-end-taken
returns-then-end-taken g c = subs_end (c.args.content - c.loop-turn.turn) (c.taken.result + c.args.content - c.loop-turn.w.bound.taken) c.loop-turn.numbers.items _ _ _ (omega arith) c.loop-turn.invariant.leads

pub returns-in_err-number : goal.returns-in_err-number
returns-in_err-number g c =
    let left : ℕ = c.taken.result + c.args.content - c.loop-turn.w.bound.taken in
    let some : left ≢ 0 = λ (z : left ≡ 0). absurd (omega arith) in
    rw (at_fault c.from_residual.result c.in_err-number.field-0.0 c.from_residual.ensures.1)
    (here _ _ _ _ (subs_stop (c.args.content - c.loop-turn.turn) (c.args.content - (c.loop-turn.turn + 1)) left c.loop-turn.numbers.items _ _ _ _ _ (omega arith) some c.loop-turn.invariant.leads
    (rw c.taken-in-loop-turn-2.ensures at c.in_err-number.ensures.reads)))

pub returns-then-is_err : goal.returns-then-is_err
returns-then-is_err g c =
    let left : ℕ = c.taken.result + c.args.content - c.loop-turn.w.bound.taken in
    let some : left ≢ 0 = λ (z : left ≡ 0). absurd (omega arith) in
    subs_memory (c.args.content - c.loop-turn.turn) (c.args.content - (c.loop-turn.turn + 1)) left c.loop-turn.numbers.items c.in_ok-number.number _ _ _ _ _ _ (omega arith) some refl refl c.loop-turn.invariant.leads
    (rw c.taken-in-loop-turn-2.ensures at c.in_ok-number.ensures.reads)

pub loop-turn-preserved : goal.loop-turn-preserved
loop-turn-preserved g c =
    let left : ℕ = c.taken.result + c.args.content - c.loop-turn.w.bound.taken in
    let some : left ≢ 0 = λ (z : left ≡ 0). absurd (omega arith) in
    let keeps = c.in_ok-number.ensures.bound in
    let more : c.loop-turn.w.bound.taken ≤ c.subidentifier.new.w.bound.taken = keeps.grows in
    record {
      room = let e : c.subidentifier.new.w.bound.end ≡ c.loop-turn.w.bound.end = keeps.end in let r = c.loop-turn.invariant.room in omega arith;
      leads = subs_next (c.args.content - c.loop-turn.turn) (c.args.content - (c.loop-turn.turn + 1)) left (c.taken.result + c.args.content - c.subidentifier.new.w.bound.taken) c.loop-turn.numbers.items _ c.in_ok-number.number (c.subidentifier.new.w.bound.taken - c.loop-turn.w.bound.taken) _ _ _ _
          (omega arith) some (omega arith) (grind (arith, common_steps)) c.loop-turn.invariant.leads
          (rw c.taken-in-loop-turn-2.ensures at c.in_ok-number.ensures.reads);
    }

pub returns : goal.returns
returns g c = subs_out (c.args.content - c.loop-turn.turn) _ c.loop-turn.numbers.items _ _ _ (omega arith) c.loop-turn.invariant.leads
