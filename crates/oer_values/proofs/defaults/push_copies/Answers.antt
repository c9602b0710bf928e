use Rattle.std.proofs.Common.{◌≡◌, ◌∷◌, drop, suc, ap, sym, ◌∙◌, drop-cons, add-one}
use Rattle.std.proofs.lemmas.List.{drop_all}
use Rattle.oer_values.proofs.FillSteps.{copy_step, attached-none}
use Rattle.oer_values.proofs.defaults.push_copies.Goals as goal

pub loop-place-preserved : goal.loop-place-preserved
loop-place-preserved c =
    let l = c.loop-place in
    let after = drop (suc l.place-index) c.args.rest.now in
    let first : drop l.place-index c.args.rest.now ≡ c.place-item.result ∷ after = drop-cons c.args.rest.now l.place-index c.place-item.result c.loop-place-test.true ∙ ap (λ x. x ∷ after) (sym c.place-item.is) in
    rw (c.in_ok-push.ensures.items, add-one) (copy_step c.place-item.result c.in_ok-copy_place.field-0 l.places.items after c.in_ok-copy_place.ensures ∙ rw first at l.invariant)

pub returns : goal.returns
returns c = let l = c.loop-place in sym (attached-none l.places.items) ∙ rw (drop_all l.place-index c.args.rest.now c.loop-place-test.false) at l.invariant
