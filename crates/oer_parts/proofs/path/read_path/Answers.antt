use Rattle.std.proofs.Common.{arith, rules, subst}
use Rattle.oer_parts.proofs.Paths.{Leads, found, goes_on, none_found, wrong_front, wrong_last}
use Rattle.oer_parts.proofs.path.read_path.Goals as goal

pub returns-in_default-step-clause-form : goal.returns-in_default-step-clause-form
returns-in_default-step-clause-form c = λ e.
    let at = c.in-Some.ensures.byte (omega arith) (λ w o h. h) in
    wrong_front c.loop-front.path.items c.loop-front.rest.now c.args.text.now c.in-Some.front.now c.in-Some.more.now c.loop-front.invariant.1 (found _ _ _ at.0 at.1 at.2) c.in_default-step.ensures

pub loop-front-preserved : goal.loop-front-preserved
loop-front-preserved c =
    let at = c.in-Some.ensures.byte (omega arith) (λ w o h. h) in
    let next = goes_on c.loop-front.path.items c.loop-front.rest.now c.args.text.now c.in-Some.front.now c.in-Some.more.now c.in-Some-step.next c.loop-front.invariant.1 (found _ _ _ at.0 at.1 at.2) c.in-Some-step.ensures in
    (search rules, subst (λ l. Leads l c.in-Some.more.now c.args.text.now) (search rules) next)

pub returns-in_default-step-2-clause-form : goal.returns-in_default-step-2-clause-form
returns-in_default-step-2-clause-form c = λ e.
    wrong_last c.loop-front.path.items c.loop-front.rest.now c.args.text.now c.loop-front.invariant.1 (none_found _ (c.in_default.ensures.byte (omega arith) (λ w o h. h))) c.in_default-step-2.ensures
