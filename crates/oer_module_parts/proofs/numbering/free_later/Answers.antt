use Rattle.std.proofs.Common.{rules, FitsSigned, ◌∙◌, ap}
use Rattle.std.proofs.lemmas.Int.{to_z-of_z}
use Rattle.std.specs.Int.{w128}
use Rattle.oer_module_parts.specs.Numbering.{first_free, least_after, representable}
use Rattle.oer_module_parts.proofs.NumberSteps.{none_free, representable_same}
use Rattle.oer_module_parts.proofs.numbering.free_later.Goals as goal

pub returns-in_err-least : goal.returns-in_err-least
returns-in_err-least c = c.from_residual.ensures ∙ none_free c.args.taken.now.keys (least_after c.args.last) c.in_err-least.ensures

pub returns : goal.returns
returns c =
    let fits : FitsSigned w128 c.in_ok-least.least = search rules in
    c.first_free.ensures.is
    ∙ ap (λ n. representable (first_free c.args.taken.now.keys n))
    (to_z-of_z w128 c.in_ok-least.least fits ∙ representable_same (least_after c.args.last) c.in_ok-least.least c.in_ok-least.ensures)
