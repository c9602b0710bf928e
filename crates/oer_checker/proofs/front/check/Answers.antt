use Rattle.std.proofs.Common.{◌∙◌, ◌^◌, ◌<◌, length, refl, rules, ap, subst}
use Rattle.oer_units.specs.Reader.{at}
use Rattle.oer_model.specs.AsnType.{AsnType}
use Rattle.oer_model.specs.Checking.{check_value}
use Rattle.oer_model.specs.Constraints.{KeepsLimits}
use Rattle.oer_model.specs.Fits.{DefaultsFit}
use Rattle.oer_types.specs.Schema.{the_type}
use Rattle.oer_values.specs.ShapeView.{type_of}
use Rattle.oer_model.proofs.bits.Packing.{octets_from}
use Rattle.oer_checker.specs.Check.{most}
use Rattle.oer_checker.proofs.FrontSteps.{found_comes, found_exact, found_told, stopped_comes, stopped_exact, stopped_told}
use Rattle.oer_checker.proofs.front.check.Goals as goal

pub returns-in-Ok-clause-told : goal.returns-in-Ok-clause-told
returns-in-Ok-clause-told c =
    let T = the_type c.args.schema.now in
    let input = c.args.octets.now in
    let octs = octets_from input (λ i. (c.type_inv.octets i).fits) in
    let few : length input < 2 ^ 64 = search rules in
    let same = ap type_of c.shape.ensures.same in
    let wf : KeepsLimits T = subst KeepsLimits same c.shape.ensures.limits in
    let fit : DefaultsFit T = subst DefaultsFit same c.shape.ensures.defaults in
    let e = c.in-Ok.ensures ∙ ap (λ (U : AsnType). check_value U (at input most)) same in
    found_told T wf fit input octs few _ c.in-Ok.canonical _ c.saturating_sub.ensures refl e

pub returns-in-Ok-clause-comes : goal.returns-in-Ok-clause-comes
returns-in-Ok-clause-comes c =
    let T = the_type c.args.schema.now in
    let input = c.args.octets.now in
    let octs = octets_from input (λ i. (c.type_inv.octets i).fits) in
    let few : length input < 2 ^ 64 = search rules in
    let same = ap type_of c.shape.ensures.same in
    let wf : KeepsLimits T = subst KeepsLimits same c.shape.ensures.limits in
    let fit : DefaultsFit T = subst DefaultsFit same c.shape.ensures.defaults in
    let e = c.in-Ok.ensures ∙ ap (λ (U : AsnType). check_value U (at input most)) same in
    found_comes T wf fit input octs few (record { octets = c.saturating_sub.result; canonical = c.in-Ok.canonical }) c.in-Ok.canonical _ c.saturating_sub.ensures e

pub returns-in-Ok-clause-exact : goal.returns-in-Ok-clause-exact
returns-in-Ok-clause-exact c =
    let T = the_type c.args.schema.now in
    let input = c.args.octets.now in
    let octs = octets_from input (λ i. (c.type_inv.octets i).fits) in
    let few : length input < 2 ^ 64 = search rules in
    let same = ap type_of c.shape.ensures.same in
    let wf : KeepsLimits T = subst KeepsLimits same c.shape.ensures.limits in
    let fit : DefaultsFit T = subst DefaultsFit same c.shape.ensures.defaults in
    let e = c.in-Ok.ensures ∙ ap (λ (U : AsnType). check_value U (at input most)) same in
    found_exact T wf fit input octs few _ c.in-Ok.canonical _ c.saturating_sub.ensures refl e

pub returns-in-Err-clause-told : goal.returns-in-Err-clause-told
returns-in-Err-clause-told c =
    let T = the_type c.args.schema.now in
    let input = c.args.octets.now in
    let octs = octets_from input (λ i. (c.type_inv.octets i).fits) in
    let few : length input < 2 ^ 64 = search rules in
    let same = ap type_of c.shape.ensures.same in
    let wf : KeepsLimits T = subst KeepsLimits same c.shape.ensures.limits in
    let fit : DefaultsFit T = subst DefaultsFit same c.shape.ensures.defaults in
    let e = c.in-Err.ensures ∙ ap (λ (U : AsnType). check_value U (at input most)) same in
    stopped_told T wf fit input octs few _ _ _ c.saturating_sub-in-Err.ensures refl e

pub returns-in-Err-clause-comes : goal.returns-in-Err-clause-comes
returns-in-Err-clause-comes c =
    let T = the_type c.args.schema.now in
    let input = c.args.octets.now in
    let octs = octets_from input (λ i. (c.type_inv.octets i).fits) in
    let few : length input < 2 ^ 64 = search rules in
    let same = ap type_of c.shape.ensures.same in
    let wf : KeepsLimits T = subst KeepsLimits same c.shape.ensures.limits in
    let fit : DefaultsFit T = subst DefaultsFit same c.shape.ensures.defaults in
    let e = c.in-Err.ensures ∙ ap (λ (U : AsnType). check_value U (at input most)) same in
    stopped_comes T wf fit input octs few (record { taken = c.saturating_sub-in-Err.result; why = c.in-Err.stop.why }) _ _ e

pub returns-in-Err-clause-exact : goal.returns-in-Err-clause-exact
returns-in-Err-clause-exact c =
    let T = the_type c.args.schema.now in
    let input = c.args.octets.now in
    let octs = octets_from input (λ i. (c.type_inv.octets i).fits) in
    let few : length input < 2 ^ 64 = search rules in
    let same = ap type_of c.shape.ensures.same in
    let wf : KeepsLimits T = subst KeepsLimits same c.shape.ensures.limits in
    let fit : DefaultsFit T = subst DefaultsFit same c.shape.ensures.defaults in
    let e = c.in-Err.ensures ∙ ap (λ (U : AsnType). check_value U (at input most)) same in
    stopped_exact T wf fit input octs few _ _ _ c.saturating_sub-in-Err.ensures refl e
