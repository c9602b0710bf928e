use Rattle.std.proofs.Common.{◌-◌, ◌∙◌, ap, arith}
use Rattle.oer_random.specs.Picked.{picked}
use Rattle.oer_random.proofs.Picking.{picked_left, picked_right}
use Rattle.oer_random.proofs.choice.found.Goals as goal

pub returns-then-place-before : goal.returns-then-place-before
returns-then-place-before c =
    let e = c.count_taken-before.ensures.value in
    c.picked.ensures ∙ picked_left c.args.any c.args.root.now c.args.later.now c.args.place (omega (arith, e, c.if-place-before.true))

pub returns-else-place-before : goal.returns-else-place-before
returns-else-place-before c =
    let e = c.count_taken-before.ensures.value in
    c.picked-else-place-before.ensures ∙ ap (λ n. picked c.args.any (c.args.place - n) c.args.later.now) e
    ∙ picked_right c.args.any c.args.root.now c.args.later.now c.args.place (omega (arith, e, c.if-place-before.false))
