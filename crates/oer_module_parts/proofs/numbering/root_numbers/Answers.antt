use Rattle.std.proofs.Common.{rules, ◌≡◌, ℕ, ◌+◌, ◌*◌, ◌^◌, ◌<◌, ◌≤ℤ◌, ◌<ℤ◌, ◌+ℤ◌, ℤ, pos, List, ◌∷◌, [], ◌++◌, drop, FitsSigned, to_z, of_z, arith, sym, ap, ap₂, ◌∙◌}
use Rattle.std.proofs.lemmas.Int.{ints, to_z-of_z}
use Rattle.std.specs.Int.{w128}
use Rattle.oer_module_parts.specs.Numbering.{first_free, root_numbers}
use Rattle.oer_module_parts.proofs.NumberSteps.{next_fits, representable_same, too_large, root_given, root_free}
use Rattle.oer_module_parts.proofs.numbering.root_numbers.Goals as goal
use Rattle.oer_module_parts.proofs.numbering.root_numbers.Goals.{in-Some+in_ok-push-in-Some, in-None+in-Some-first_free+in_ok-push-in-None}

pub unreachable-requires : goal.unreachable-requires
unreachable-requires c =
    let i = c.loop-item.invariant.near in
    let n = c.first_free.ensures.near in
    let large = too_large (first_free c.args.given.now.keys (to_z w128 c.loop-item.next-bits)) c.in_default.ensures.is in
    let less = c.loop-item-test.true in omega (arith, ints)

-- an item's number, where i items come before it
module _ (given : List ℤ) (next m : ℤ) (i : ℕ) (few : i < 2 ^ 63) (near : next ≤ℤ pos (i * 2 ^ 63)) (fits : FitsSigned w128 m)
    (is : m ≡ first_free given next) (free : first_free given next <ℤ (next +ℤ pos (2 ^ 63))) where
  behind : (m +ℤ pos 1) ≤ℤ pos ((i + 1) * 2 ^ 63)
  behind = omega (arith, ints)

  behind_fits : FitsSigned w128 (m +ℤ pos 1)
  behind_fits = next_fits m fits (omega (arith, ints))

pub overflow_add-next : goal.overflow_add-next
overflow_add-next c =
    let l = c.loop-item in
    let fits : FitsSigned w128 c.in-Some-first_free.number = search rules in
    let few : l.item-index < 2 ^ 63 = let less = c.loop-item-test.true in omega arith in
    let is = representable_same (first_free c.args.given.now.keys (to_z w128 l.next-bits)) c.in-Some-first_free.number c.in-Some-first_free.ensures.is in
    rw (to_z-of_z w128 c.in-Some-first_free.number fits)
    (behind_fits c.args.given.now.keys (to_z w128 l.next-bits) c.in-Some-first_free.number l.item-index few l.invariant.near fits is c.first_free.ensures.near)

pub loop-item-preserved : goal.loop-item-preserved
loop-item-preserved c =
    let l = c.loop-item in
    let keys = c.args.given.now.keys in
    let items = c.args.items.now in
    elim c.match-item.branch [
      | in-Some+in_ok-push-in-Some w ↦ (
          let fits : FitsSigned w128 w.in-Some.number = search rules in
          let pushed = ap (λ v. v.items) w.numbers-is ∙ w.in_ok-push-in-Some.ensures.items ∙ ap (λ k. l.numbers.items ++ k ∷ []) (to_z-of_z w128 w.in-Some.number fits) in
          record {
            all = root_given keys (to_z w128 l.next-bits) items l.item-index _ l.numbers.items c.loop-item-test.true l.invariant.all w.in-Some.number w.in-Some.is
                ∙ ap₂ (λ xs n. xs ++ root_numbers keys n (drop (l.item-index + 1) items)) (sym pushed) (sym w.next-is);
            near = let near = l.invariant.near in let is = w.next-is in omega (arith, ints);
          })
      | in-None+in-Some-first_free+in_ok-push-in-None w ↦ (
          let m = w.in-Some-first_free.number in
          let fits : FitsSigned w128 m = search rules in
          let same = to_z-of_z w128 m fits in
          let few : l.item-index < 2 ^ 63 = let less = c.loop-item-test.true in omega arith in
          let is = representable_same (first_free keys (to_z w128 l.next-bits)) m w.in-Some-first_free.ensures.is in
          let next_in_range = behind_fits keys (to_z w128 l.next-bits) m l.item-index few l.invariant.near fits is w.first_free.ensures.near in
          let next_is = w.next-is ∙ ap (λ k. to_z w128 (of_z w128 (k +ℤ pos 1))) same ∙ to_z-of_z w128 (m +ℤ pos 1) next_in_range in
          let pushed = ap (λ v. v.items) w.numbers-is ∙ w.in_ok-push-in-None.ensures.items ∙ ap (λ k. l.numbers.items ++ k ∷ []) same in
          record {
            all = root_free keys (to_z w128 l.next-bits) items l.item-index _ l.numbers.items c.loop-item-test.true l.invariant.all m w.in-None.is is
                ∙ ap₂ (λ xs n. xs ++ root_numbers keys n (drop (l.item-index + 1) items)) (sym pushed) (sym next_is);
            near = rw next_is (behind keys (to_z w128 l.next-bits) m l.item-index few l.invariant.near fits is w.first_free.ensures.near);
          })
    ]
