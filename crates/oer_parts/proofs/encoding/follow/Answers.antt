use Rattle.std.proofs.Common.{arith}
use Rattle.oer_model.specs.Parts.{find_part}
use Rattle.oer_parts.specs.Walk.{path_of, type_in}
use Rattle.oer_parts.specs.declared.step.Step.TheVariants.{Component}
use Rattle.oer_checker.proofs.Exits.{at_stop}
use Rattle.oer_parts.proofs.Leading.{path_stop, stop_agrees}
use Rattle.oer_parts.proofs.Ranging.{found_next, reached_end, reached_next}
use Rattle.oer_parts.proofs.encoding.follow.Goals as goal

pub returns-in_err-next-clause-found : goal.returns-in_err-next-clause-found
returns-in_err-next-clause-found c =
    let whole = find_part (type_in c.args.whole) c.args.whole.octets.now (path_of c.args.path.now) in
    stop_agrees (λ f. f.octets.now) c.from_residual.result c.in_err-next.field-0.0 (type_in c.loop-step.at) c.loop-step.at.octets.now _ whole (at_stop c.from_residual.result c.in_err-next.field-0.0 c.from_residual.ensures.1) c.in_err-next.ensures.found
    (λ k e. path_stop k c.args.path.now c.loop-step.step-index (Component 0) (type_in c.loop-step.at) c.loop-step.at.octets.now whole c.loop-step-test.true c.loop-step.invariant.1 e)

pub loop-step-preserved : goal.loop-step-preserved
loop-step-preserved c =
    let at = c.loop-step.at in
    let p = c.in_ok-next.next in
    let i = c.loop-step.step-index in
    let path = c.args.path.now in
    let inv = c.loop-step.invariant in
    let (e, splits) = c.in_ok-next.ensures.found in
    let stands = c.in_ok-next.ensures.stands in
    (splits, found_next path i (Component 0) (type_in at) at.octets.now p _ c.loop-step-test.true e inv.1, reached_next _ _ _ path i c.loop-step.before (Component 0) (type_in at) at.octets.now p c.loop-step-test.true stands inv.2, omega (arith, inv.3, stands.1, stands.2))

pub returns-clause-stands : goal.returns-clause-stands
returns-clause-stands c = reached_end _ _ _ c.args.path.now c.loop-step.step-index c.loop-step.before (type_in c.loop-step.at) c.loop-step.at.octets.now c.loop-step-test.false c.loop-step.invariant.2
