use Rattle.std.proofs.Common.{◌^◌, ◌<◌, IfOk, Some, length, rules, ap, sym, subst, take}
use Rattle.oer_model.specs.Constraints.{KeepsLimits}
use Rattle.oer_model.specs.Fits.{DefaultsFit}
use Rattle.oer_model.specs.Parts.{find_part}
use Rattle.oer_types.specs.Schema.{the_type}
use Rattle.oer_values.specs.ShapeView.{type_of}
use Rattle.oer_model.proofs.bits.Packing.{octets_from}
use Rattle.oer_parts.specs.Handing.{Agrees}
use Rattle.oer_parts.specs.Walk.{CanSplit, IsWithin, path_of}
use Rattle.oer_checker.proofs.FrontSteps.{found_again}
use Rattle.oer_parts.proofs.Leading.{front_splits, follows, hands}
use Rattle.oer_parts.proofs.Ranging.{leads_if}
use Rattle.oer_parts.proofs.encoding.part_in.Goals as goal

pub returns-clause-told : goal.returns-clause-told
returns-clause-told c =
    let T = the_type c.args.schema.now in
    let same = ap type_of c.shape.ensures.same in
    let wf : KeepsLimits T = subst KeepsLimits same c.shape.ensures.limits in
    let fit : DefaultsFit T = subst DefaultsFit same c.shape.ensures.defaults in
    let input = c.args.octets.now in
    let octs = octets_from input (λ i. (c.type_inv.octets i).fits) in
    let few : length input < 2 ^ 64 = search rules in
    let known = found_again T wf fit input octs few c.args.verdict c.requires in
    hands (λ f. f.octets.now) T wf fit input (path_of c.args.path.now) c.args.verdict known.0 c.follow.result (subst (λ U. Agrees (λ f. f.octets.now) c.follow.result (find_part (Some U) (take c.args.verdict.octets input) (path_of c.args.path.now))) same c.follow.ensures.found)

pub returns-clause-comes : goal.returns-clause-comes
returns-clause-comes c =
    let T = the_type c.args.schema.now in
    let same = ap type_of c.shape.ensures.same in
    let wf : KeepsLimits T = subst KeepsLimits same c.shape.ensures.limits in
    let fit : DefaultsFit T = subst DefaultsFit same c.shape.ensures.defaults in
    let input = c.args.octets.now in
    let octs = octets_from input (λ i. (c.type_inv.octets i).fits) in
    let few : length input < 2 ^ 64 = search rules in
    let known = found_again T wf fit input octs few c.args.verdict c.requires in
    follows (λ f. f.octets.now) T wf fit input (path_of c.args.path.now) c.args.verdict known.0 c.follow.result known.1 (subst (λ U. Agrees (λ f. f.octets.now) c.follow.result (find_part (Some U) (take c.args.verdict.octets input) (path_of c.args.path.now))) same c.follow.ensures.found)

pub follow-requires : goal.follow-requires
follow-requires c =
    let T = the_type c.args.schema.now in
    let same = ap type_of c.shape.ensures.same in
    let wf : KeepsLimits T = subst KeepsLimits same c.shape.ensures.limits in
    let fit : DefaultsFit T = subst DefaultsFit same c.shape.ensures.defaults in
    let input = c.args.octets.now in
    let octs = octets_from input (λ i. (c.type_inv.octets i).fits) in
    let few : length input < 2 ^ 64 = search rules in
    let known = found_again T wf fit input octs few c.args.verdict c.requires in
    subst (λ U. CanSplit (Some U) (take c.args.verdict.octets input)) (sym same) (front_splits T wf fit input c.args.verdict known.0)

pub returns-clause-stands : goal.returns-clause-stands
returns-clause-stands c =
    let T = the_type c.args.schema.now in
    let same = ap type_of c.shape.ensures.same in
    let wf : KeepsLimits T = subst KeepsLimits same c.shape.ensures.limits in
    let fit : DefaultsFit T = subst DefaultsFit same c.shape.ensures.defaults in
    let input = c.args.octets.now in
    let octs = octets_from input (λ i. (c.type_inv.octets i).fits) in
    let few : length input < 2 ^ 64 = search rules in
    let known = found_again T wf fit input octs few c.args.verdict c.requires in
    let path = path_of c.args.path.now in
    let within = subst (λ U. IfOk c.follow.result (λ f. IsWithin (Some U) (take c.args.verdict.octets input) path f.octets.now f.before)) same c.follow.ensures.stands in
    leads_if (λ f. f.octets.now) (λ f. f.before) T input c.args.verdict path c.follow.result known.0 within
