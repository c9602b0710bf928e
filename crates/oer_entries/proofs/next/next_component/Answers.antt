use Rattle.std.proofs.Common.{◌≡◌, ◌≤◌, ◌<◌, ◌+◌, ◌∙◌, ◌^◌, ◌&&◌, ◌||◌, ap, ap₂, arith, drop, leb, length, min, not, rules, sym, false, Bool, if◌then◌else◌}
use Rattle.std.proofs.lemmas.Bool.{lt-leb}
use Rattle.oer_model.specs.Bits.{bits_of, first_bit}
use Rattle.oer_model.specs.SharedSteps.{is_there}
use Rattle.oer_values.specs.ShapeView.{need_of}
use Rattle.oer_entries.specs.Next.{has_bit}
use Rattle.oer_entries.proofs.Nexts.{component_next, there}
use Rattle.oer_entries.proofs.next.next_component.Goals as goal
use Rattle.oer_entries.proofs.next.next_component.Goals.{then-not-has_bit, else-not-has_bit, then-has_bit, else-has_bit, else-is_present-via-then-is_present+else-index-from, else-is_present-via-else-is_present}

pub loop-index-preserved : goal.loop-index-preserved
loop-index-preserved c =
    let root = c.args.root.now in
    let f = c.index-root-index.result in
    let need = need_of f.need in
    let s = bits_of c.args.preamble.now in
    let p = c.loop-index.place in
    let i = c.loop-index.index in
    let from = c.args.from in
    let few : length root < 2 ^ 64 = search rules in
    let long : length root ≤ 18446744073709551615 = omega (arith, few) in
    let present : c.if-not-has_bit.is_present ≡ is_there need (drop p s) = (elim c.if-not-has_bit.branch [
      | then-not-has_bit w ↦ w.is_present-is ∙ ap not w.if-not-has_bit.true ∙ sym (ap (λ (b : Bool). not b || first_bit (drop p s)) (sym c.has_bit.ensures
          ∙ w.if-not-has_bit.true)) ∙ there need (drop p s)
      | else-not-has_bit w ↦ w.is_present-is ∙ w.bit-is_present.ensures ∙ sym (ap (λ (b : Bool). not b || first_bit (drop p s)) (sym c.has_bit.ensures ∙ w.if-not-has_bit.false))
          ∙ there need (drop p s)
    ]) in
    let other : (c.if-not-has_bit.is_present && leb from i) ≡ false = (elim c.else-is_present.branch [
      | else-is_present-via-then-is_present+else-index-from w ↦ ap₂ (λ (a b : Bool). a && b) w.if-is_present.true (lt-leb from i w.if-index-from.false)
      | else-is_present-via-else-is_present w ↦ ap (λ (a : Bool). a && leb from i) w.if-is_present.false
    ]) in
    let next : c.if-has_bit.place ≡ (if has_bit need then min (p + 1) 18446744073709551615 else p) = (elim c.if-has_bit.branch [
      | then-has_bit w ↦ w.place-is ∙ w.saturating_add-place.ensures
          ∙ sym (ap (λ (b : Bool). if b then min (p + 1) 18446744073709551615 else p) (sym c.has_bit-in-loop-index.ensures ∙ w.if-has_bit.true))
      | else-has_bit w ↦ w.place-is ∙ sym (ap (λ (b : Bool). if b then min (p + 1) 18446744073709551615 else p) (sym c.has_bit-in-loop-index.ensures ∙ w.if-has_bit.false))
    ]) in
    let near : c.if-has_bit.place ≤ p + 1 = (elim c.if-has_bit.branch [
      | then-has_bit w ↦ omega (arith, w.place-is, w.saturating_add-place.ensures)
      | else-has_bit w ↦ omega (arith, w.place-is)
    ]) in
    record {
      place = omega (arith, near, c.loop-index.invariant.place);
      is = component_next root i from p c.if-has_bit.place f s c.if-not-has_bit.is_present c.loop-index-test.true long c.index-root-index.is present other c.loop-index.invariant.place next
          ∙ c.loop-index.invariant.is;
    }
