use Rattle.std.proofs.Common.{◌≡◌, sym, ap₂, ◌∙◌, rules, to_z, of_z, FitsSigned}
use Rattle.std.proofs.lemmas.Int.{to_z-of_z}
use mir.Syntax.{w128}
use Rattle.oer_module_bounds.specs.Steps.{ends_with, numbers}
use Rattle.oer_module_bounds.proofs.Giving.{pushed, popped}
use Rattle.oer_module_bounds.proofs.tally.toggle.Goals as goal

pub returns-then-is_last : goal.returns-then-is_last
returns-then-is_last c =
    let fits : FitsSigned w128 c.args.cut.number = search rules in
    let same : to_z w128 (of_z w128 c.args.cut.number) ≡ c.args.cut.number = to_z-of_z w128 c.args.cut.number fits in
    popped c.args.cuts.now.items c.pop.new.self.items c.pop.result c.args.cut.number _ _ _ c.args.cuts.now.ok.0 c.pop.ensures.items c.pop.ensures.cases
    (sym (ap₂ (λ xs n. ends_with (numbers xs) n) c.as_slice.ensures.value same) ∙ sym c.is_last.ensures ∙ c.if-is_last.true)

pub returns : goal.returns
returns c =
    let fits : FitsSigned w128 c.args.cut.number = search rules in
    let same : to_z w128 (of_z w128 c.args.cut.number) ≡ c.args.cut.number = to_z-of_z w128 c.args.cut.number fits in
    pushed c.args.cuts.now.items c.push.new.self.items c.args.cut c.in_ok-push.ensures.items
    (sym (ap₂ (λ xs n. ends_with (numbers xs) n) c.as_slice.ensures.value same) ∙ sym c.is_last.ensures ∙ c.if-is_last.false)
