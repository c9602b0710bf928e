use Rattle.std.proofs.Common.{◌≡◌, ◌∙◌, arith, false, get_or, refl, sym, true}
use Rattle.oer_model.specs.Parts.{same_step}
use Rattle.oer_parts.specs.Walk.{step_of}
use Rattle.oer_parts.specs.contracts.step.StepPartialEq.TheImpl as step_eq
use Rattle.oer_parts.specs.declared.step.Step.{Step}
use Rattle.oer_parts.specs.declared.step.Step.TheVariants.{Addition, Chosen, Component, Item}
use Rattle.oer_entries.specs.Trails.{leads_to}
use Rattle.oer_entries.proofs.Steps.{common_end, common_less, common_more, eq_leads}
use Rattle.oer_entries.proofs.trail.shared.Goals as goal

law : (a b : Step) → (step_eq.eq-value).it a b ≡ same_step (step_of a) (step_of b)
law (Component i) (Component j) = refl
law (Component i) (Addition j) = refl
law (Component i) (Item j) = refl
law (Component i) Chosen = refl
law (Addition i) (Component j) = refl
law (Addition i) (Addition j) = refl
law (Addition i) (Item j) = refl
law (Addition i) Chosen = refl
law (Item i) (Component j) = refl
law (Item i) (Addition j) = refl
law (Item i) (Item j) = refl
law (Item i) Chosen = refl
law Chosen (Component j) = refl
law Chosen (Addition j) = refl
law Chosen (Item j) = refl
law Chosen Chosen = refl

pub returns-in_default-clause-is : goal.returns-in_default-clause-is
returns-in_default-clause-is c =
    let frames = c.args.frames.now in
    let path = c.args.path.now in
    let x = c.in-Some.frame.now in
    let step = get_or path c.loop-step.step-index (Component 0) in
    let off : leads_to step x.step ≡ false = sym (eq_leads ((step_eq.eq-value).it) law x.step step) ∙ sym c.eq.ensures ∙ c.if-eq.false in
    let found = c.in-Some.ensures.lookup in
    let zero = common_less frames path c.loop-step.count c.loop-step.step-index x (Component 0) found.3.0 found.1 c.loop-step-test.true off in
    omega (arith, zero, c.loop-step.invariant.is)

pub loop-step-preserved : goal.loop-step-preserved
loop-step-preserved c =
    let frames = c.args.frames.now in
    let path = c.args.path.now in
    let x = c.in-Some.frame.now in
    let step = get_or path c.loop-step.step-index (Component 0) in
    let on : leads_to step x.step ≡ true = sym (eq_leads ((step_eq.eq-value).it) law x.step step) ∙ sym c.eq.ensures ∙ c.if-eq.true in
    let found = c.in-Some.ensures.lookup in
    record {
      count = omega (arith, c.loop-step.invariant.count);
      is = common_more frames path c.loop-step.count c.loop-step.step-index x (Component 0) found.3.0 found.1 c.loop-step-test.true on ∙ c.loop-step.invariant.is;
    }

pub returns-clause-is : goal.returns-clause-is
returns-clause-is c =
    let zero = common_end c.args.frames.now c.args.path.now c.loop-step.count c.loop-step.step-index c.loop-step-test.false in
    omega (arith, zero, c.loop-step.invariant.is)
