use Rattle.std.proofs.Common.{◌≡◌, ◌≤◌, ◌++◌, rules, arith, refl, ◌-◌, ◌+◌, length, take, sym, ap, ◌∙◌, append_assoc, append-nil, take_all}
use borrow.Rule.Slice.PartMut.{put_mid}
use Rattle.oer_units.proofs.ReadExits.{at_exit}
use Rattle.oer_units.proofs.ReadGroups.{none_yet, group_more, next_refused, all_read, front_put}
use Rattle.oer_units.proofs.ReadSteps.{Keeps-refl, Keeps-then}
use Rattle.oer_units.proofs.window.Window.fill_all.Goals as goal

pub loop-at-init : goal.loop-at-init
loop-at-init g c = record { within = omega arith; len = refl; room = omega arith; bound = Keeps-refl _; taken = omega arith; leads = none_yet (length c.args.into.now) _ c.requires }

pub returns-in_err-at-clause-reads : goal.returns-in_err-at-clause-reads
returns-in_err-at-clause-reads g c =
    let left = length c.loop-at.into - c.loop-at.at in
    let some = c.loop-at-test.true in
    rw (at_exit c.from_residual.result c.in_err-at.field-0.0 c.from_residual.ensures.1)
    (next_refused left (left - 1) _ _ _ _ _ _ (omega arith) c.loop-at.invariant.room c.loop-at.invariant.leads c.in_err-at.ensures.reads)

pub loop-at-preserved : goal.loop-at-preserved
loop-at-preserved g c =
    let from = c.loop-at.at in
    let xs = c.loop-at.into in
    let left = length c.loop-at.into - c.loop-at.at in
    let ys = c.fill.new.into in
    let n = c.in_ok-at.field-0 in
    let count = c.in_ok-at.ensures.count in
    let room = c.loop-at.invariant.room in
    let taken = c.loop-at.invariant.taken in
    let some = c.loop-at-test.true in
    let keeps = Keeps-then _ _ _ c.loop-at.invariant.bound c.in_ok-at.ensures.bound in
    let same : length (put_mid from left xs ys) ≡ length c.loop-at.into = search rules in
    let most : n ≤ length ys = search rules in
    let front = front_put from left n xs ys c.loop-at.invariant.within most in
    record {
      within = omega arith;
      len = search rules;
      room = omega arith;
      bound = keeps;
      taken = omega arith;
      leads = group_more n (length (put_mid from left xs ys) - (from + n)) left _ _ _ (take n ys) _ _ _ (omega arith) room (λ w. sym (append_assoc (take from xs) (take n ys) w) ∙ ap (λ l. l ++ w) (sym front)) c.loop-at.invariant.leads c.in_ok-at.ensures.reads;
    }

pub returns-clause-reads : goal.returns-clause-reads
returns-clause-reads g c =
    let done = c.loop-at-test.false in
    all_read (length c.loop-at.into - c.loop-at.at) _ _ _ c.loop-at.into _ (omega arith) (append-nil _ ∙ take_all c.loop-at.at c.loop-at.into done) c.loop-at.invariant.leads
