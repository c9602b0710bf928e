use Rattle.std.proofs.Common.{rules, pos, FitsSigned, sym, ◌∙◌, ap}
use Rattle.std.proofs.lemmas.Int.{to_z-of_z}
use Rattle.std.proofs.Math.Facts.{sfits_lit}
use Rattle.std.specs.Int.{w128}
use Rattle.oer_module_parts.specs.Numbering.{least_after, representable}
use Rattle.oer_module_parts.proofs.NumberSteps.{checked_next, from_zero, representable_is}
use Rattle.oer_module_parts.proofs.numbering.least_after.Goals as goal

pub returns-in-Some : goal.returns-in-Some
returns-in-Some c =
    let fits : FitsSigned w128 c.in-Some.number = search rules in
    let same = to_z-of_z w128 c.in-Some.number fits in
    checked_next c.in-Some.number c.checked_add.result fits (rw same at c.if-number-ge0.true) (rw same at c.checked_add.ensures) ∙ ap (λ l. representable (least_after l)) (sym c.in-Some.is)

pub returns-in_default : goal.returns-in_default
returns-in_default c =
    let fits : FitsSigned w128 c.in-Some.number = search rules in
    let same = to_z-of_z w128 c.in-Some.number fits in
    from_zero c.in-Some.number (rw same at c.if-number-ge0.false) ∙ ap (λ l. representable (least_after l)) (sym c.in-Some.is)

pub returns-in_default-2 : goal.returns-in_default-2
returns-in_default-2 c = sym (ap (λ l. representable (least_after l)) c.in_default.is ∙ representable_is (pos 0) (sfits_lit tt))
