use Rattle.std.proofs.Common.{◌+◌, ◌%◌, ◌++◌, ◌∙◌, sym, ap, option_map, arith}
use Rattle.std.proofs.lemmas.Nat.{mod_below}
use Rattle.oer_random.proofs.Picking.{count_joined, is_one_picked, root_taken, seed_picks}
use Rattle.oer_random.proofs.choice.taken.Goals as goal

pub nonzero_rem-from : goal.nonzero_rem-from
nonzero_rem-from c =
    let any = c.any_legal-any.result in
    let l = root_taken any c.args.root.now c.args.later.now (sym c.any_legal-any.ensures) c.requires in
    let e = count_joined any c.args.root.now c.args.later.now in
    omega (arith, l, e, c.count_taken.ensures.value, c.count_taken-2.ensures.value)

pub unreachable-requires : goal.unreachable-requires
unreachable-requires c =
    let any = c.any_legal-any.result in
    let n = c.count_taken.result + c.count_taken-2.result in
    let some = root_taken any c.args.root.now c.args.later.now (sym c.any_legal-any.ensures) c.requires in
    let e = count_joined any c.args.root.now c.args.later.now in
    let l = mod_below c.from.result n (omega (arith, some, e, c.count_taken.ensures.value, c.count_taken-2.ensures.value)) in
    is_one_picked any (c.args.root.now ++ c.args.later.now) (c.from.result % n) (omega (arith, l, e, c.count_taken.ensures.value, c.count_taken-2.ensures.value))
    (ap (λ o. option_map (λ a. a.now) o) (sym c.in-None.is) ∙ c.found.ensures)

pub returns : goal.returns
returns c =
    seed_picks c.any_legal-any.result _ c.args.seed c.from.result c.count_taken.result c.count_taken-2.result c.args.root.now c.args.later.now _
    c.any_legal-any.ensures c.from.ensures c.count_taken.ensures.value c.count_taken-2.ensures.value
    (ap (λ o. option_map (λ a. a.now) o) (sym c.in-Some.is) ∙ c.found.ensures)
