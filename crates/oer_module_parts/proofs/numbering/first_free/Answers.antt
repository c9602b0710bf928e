use Rattle.std.proofs.Common.{◌≡◌, ◌+◌, ◌-◌, ◌^◌, pos, ◌+ℤ◌, ◌<ℤ◌, List, ◌<◌, ◌≤◌, ℤ, length, FitsSigned, to_z, sym, ◌∙◌, ap₂, subst, arith}
use Rattle.std.specs.Int.{w128}
use Rattle.std.proofs.lemmas.Int.{ints, to_z-of_z}
use Rattle.std.proofs.Math.Facts.{sfits_to_z}
use Rattle.oer_module_parts.specs.Numbering.{first_free, free_within}
use Rattle.oer_module_parts.proofs.NumberSteps.{free_to, found, found_last, not_found, goes_on}
use Rattle.oer_module_parts.proofs.numbering.first_free.Goals as goal

pub returns-then-not-is_among-clause-is : goal.returns-then-not-is_among-clause-is
returns-then-not-is_among-clause-is c =
    let l = c.loop in
    found c.args.taken.now.keys c.args.from (to_z w128 l.number-bits) (length c.args.taken.now.keys - l.counter) c.ranges.from l.invariant (sym c.if-not-is_among.ensures) (sfits_to_z l.auto.number)

pub returns-in_err-number-clause-is : goal.returns-in_err-number-clause-is
returns-in_err-number-clause-is c =
    let l = c.loop in
    let some : 0 < length c.args.taken.now.keys - l.counter = let more = c.loop-test.true in let len = c.len-end.ensures.len in omega arith in
    c.from_residual.ensures
    ∙ not_found c.args.taken.now.keys c.args.from (to_z w128 l.number-bits) (length c.args.taken.now.keys - l.counter) c.ranges.from l.invariant some
    (sym c.if-not-is_among.ensures) (sfits_to_z l.auto.number) c.in_err-number.ensures

pub loop-preserved : goal.loop-preserved
loop-preserved c =
    let l = c.loop in
    let some : 0 < length c.args.taken.now.keys - l.counter = let more = c.loop-test.true in let len = c.len-end.ensures.len in omega arith in
    let next : length c.args.taken.now.keys - l.counter - 1 ≡ length c.args.taken.now.keys - (l.counter + 1) = omega arith in
    let is = c.in_ok-number.ensures in
    let fits = subst (λ z. FitsSigned w128 z) (sym is.1) is.0 in
    goes_on c.args.taken.now.keys c.args.from (to_z w128 l.number-bits) (length c.args.taken.now.keys - l.counter) c.ranges.from l.invariant some (sym c.if-not-is_among.ensures)
    ∙ ap₂ (λ k n. free_within k c.args.taken.now.keys n) next (sym is.1 ∙ sym (to_z-of_z w128 c.in_ok-number.number fits))

pub returns-clause-is : goal.returns-clause-is
returns-clause-is c =
    let l = c.loop in
    let none : length c.args.taken.now.keys - l.counter ≤ 0 = let over = c.loop-test.false in let len = c.len-end.ensures.len in omega arith in
    found_last c.args.taken.now.keys c.args.from (to_z w128 l.number-bits) (length c.args.taken.now.keys - l.counter) c.ranges.from l.invariant none (sfits_to_z l.auto.number)

near_at : (taken : List ℤ) (from : ℤ) → length taken < 2 ^ 63 → first_free taken from <ℤ (from +ℤ pos (2 ^ 63))
near_at taken from small = let most = free_to (length taken) taken from in omega (arith, ints)

pub returns-then-not-is_among-clause-near : goal.returns-then-not-is_among-clause-near
returns-then-not-is_among-clause-near c = near_at c.args.taken.now.keys c.args.from (let len = c.len-end.ensures.len in let small = c.len-end.ensures.small in omega arith)

pub returns-in_err-number-clause-near : goal.returns-in_err-number-clause-near
returns-in_err-number-clause-near c = near_at c.args.taken.now.keys c.args.from (let len = c.len-end.ensures.len in let small = c.len-end.ensures.small in omega arith)

pub returns-clause-near : goal.returns-clause-near
returns-clause-near c = near_at c.args.taken.now.keys c.args.from (let len = c.len-end.ensures.len in let small = c.len-end.ensures.small in omega arith)
