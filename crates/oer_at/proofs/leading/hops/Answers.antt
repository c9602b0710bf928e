use Rattle.std.proofs.Common.{◌∙◌, ◌++◌, ◌≡◌, ◌∷◌, [], add-one, ap, map, rules, sym}
use Rattle.oer_values.specs.ShapeView.{type_of}
use Rattle.oer_at.specs.Hops.{hops_from, result_map}
use Rattle.oer_at.specs.Names.{text_behind}
use Rattle.oer_at.specs.Views.{entered}
use Rattle.oer_at.proofs.Onward.{behind_none, ends, next, stops}
use Rattle.oer_at.proofs.leading.hops.Goals as goal

pub loop-before-init : goal.loop-before-init
loop-before-init c =
    let names = map text_behind c.args.names.now in
    rw c.new-hops.ensures.items (sym (ap (λ s. hops_from 0 (type_of s) names) c.shape-shape.ensures.same) ∙ sym (behind_none (hops_from 0 (type_of c.shape-shape.result.now) names)))

pub returns-in-Err-clause-exact : goal.returns-in-Err-clause-exact
returns-in-Err-clause-exact c =
    let l = c.loop-before in
    stops _ l.hops.items l.before (type_of l.shape.now) c.args.names.now _ c.in-Err.wanted c.loop-before-test.true l.invariant (sym (ap (result_map entered) c.in-Err.is) ∙ c.enter.ensures)

pub loop-before-preserved : goal.loop-before-preserved
loop-before-preserved c =
    let l = c.loop-before in
    let e = entered c.in-Ok.entered in
    let after = next _ l.hops.items l.before (type_of l.shape.now) c.args.names.now _ e c.loop-before-test.true l.invariant (sym (ap (result_map entered) c.in-Ok.is) ∙ c.enter.ensures) in
    let pushed : c.push.new.self.items ≡ l.hops.items ++ (c.in-Ok.entered.hop ∷ []) = search rules in
    rw (pushed, add-one l.before) after

pub returns-clause-exact : goal.returns-clause-exact
returns-clause-exact c =
    let l = c.loop-before in
    ends _ l.hops.items l.before (type_of l.shape.now) c.args.names.now c.loop-before-test.false l.invariant
