use Rattle.std.proofs.Common.{◌≡◌, refl, subst, ap, ap₂, ◌∙◌, leb}
use Rattle.std.specs.Prelude.{IsPermutation}
use Rattle.oer_module_bounds.specs.Steps.{numbers}
use Rattle.oer_module_bounds.specs.Tally.{Swept, sweep, sweep_of}
use Rattle.oer_module_bounds.proofs.Giving.{sweep_gives, whole}
use Rattle.oer_module_bounds.proofs.Sweeping.{start}
use Rattle.oer_module_bounds.proofs.tally.Tally.at_least.Goals as goal

pub returns : goal.returns
returns c =
    let moved : IsPermutation c.args.self.turns.items c.sort.new.turns = subst
    (λ ts. IsPermutation ts c.sort.new.turns) c.as_mut_slice.ensures.value c.sort.ensures.moved in
    let sorted : c.as_slice.result.now ≡ c.sort.new.turns = c.as_slice.ensures.value
    ∙ whole c.sort.new.turns c.args.self.turns.items c.args.self.turns.len c.args.self.turns.ok.0 moved in
    let swept : sweep_of c.pass_all.new.self ≡ sweep c.args.least (start c.args.least c.args.self.holding) c.sort.new.turns =
    c.in_ok-pass_all.ensures
    ∙ ap₂ (λ cs ts. sweep c.args.least (record { begun = c.args.self.holding; ended = 0; inside = leb c.args.least c.args.self.holding; cuts = numbers cs }) ts)
    c.new.ensures.items sorted in
    sweep_gives c.args.least c.args.self.holding c.args.self.turns.items c.sort.new.turns _ moved c.sort.ensures.sorted refl
    (ap (λ (w : Swept). w.inside) swept) (ap (λ (w : Swept). w.cuts) swept)
