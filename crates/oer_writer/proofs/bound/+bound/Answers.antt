use Rattle.std.proofs.Common.{◌≡◌, Some, arith, rules, subst, ◌^◌, ◌<◌, ◌∙◌, IfSome, length, map, option_map, sym, ap}
use Rattle.oer_values.specs.ValueView.{places_of, unknown_of, value_of, values_of}
use Rattle.oer_model.specs.AsnValue.{bool, nothing}
use Rattle.oer_values.specs.declared.value.Value as value
use Rattle.oer_values.proofs.Values.{value_of-Seq}
use Rattle.oer_writer.specs.Bounds.{Bounds, BoundsAdditions, BoundsRoot, BoundsValues}
use Rattle.oer_leaves.specs.Parts.{counted_place, place_octets_of}
use Rattle.oer_writer.proofs.Bounds.{added_end, added_more, added_start, additions_bounds, bool_bound, chosen_bounds, list_bounds, most, null_most, one_added, places_end, places_more, places_start, root_bounds, seq_bounds, value_of-Bool}
use Rattle.oer_writer.proofs.bound.+bound.Goals as goal

pub bound_chosen-returns : goal.bound_chosen-returns
bound_chosen-returns t c =
    let few : IfSome c.bound.result (λ n. n < 2 ^ 64) = search rules in
    chosen_bounds c.bound.result c.args.done c.in_ok-done.done c.args.tag (value_of c.args.value.now) few (omega (arith, c.in_ok-done.ensures, c.in_ok-plus.ensures, c.tag_len.ensures)) c.bound.ensures

pub bound_list-returns-in-Some : goal.bound_list-returns-in-Some
bound_list-returns-in-Some t c =
    list_bounds (Some c.in-Some.sum) c.args.done c.in_ok-done.done c.args.values.now (omega (arith, c.in_ok-done.ensures, c.quantity_len.ensures)) (subst (λ o. BoundsValues c.in_ok-done.done (values_of c.args.values.now) o) c.in-Some.is c.bound_booleans.ensures)

pub bound_list-returns-in-None : goal.bound_list-returns-in-None
bound_list-returns-in-None t c =
    list_bounds c.bound_values.result c.args.done c.in_ok-done.done c.args.values.now (omega (arith, c.in_ok-done.ensures, c.quantity_len.ensures)) c.bound_values.ensures

pub bound_places-loop-place-init : goal.bound_places-loop-place-init
bound_places-loop-place-init t c = places_start c.args.done (places_of c.args.places.now)

pub bound_places-loop-place-preserved : goal.bound_places-loop-place-preserved
bound_places-loop-place-preserved t c =
    places_more c.args.done c.loop-place.done c.in_ok-done.done _ c.args.places.now c.loop-place.place-index c.place-item.result c.loop-place-test.true c.place-item.is c.loop-place.invariant (λ T. omega (arith, c.in_ok-done.ensures T, ap (λ q. length (place_octets_of T (option_map value_of q))) c.in-Some.is))

pub bound_places-loop-place-preserved-in_default :
    goal.bound_places-loop-place-preserved-in_default
bound_places-loop-place-preserved-in_default t c =
    places_more c.args.done c.loop-place.done c.loop-place.done _ c.args.places.now c.loop-place.place-index c.place-item.result c.loop-place-test.true c.place-item.is c.loop-place.invariant (λ T. omega (arith, ap (λ q. length (place_octets_of T (option_map value_of q))) c.in_default.is))

pub bound_places-returns : goal.bound_places-returns
bound_places-returns t c = places_end c.args.done c.loop-place.done (places_of c.args.places.now) c.args.places.now c.loop-place.place-index c.loop-place-test.false c.loop-place.invariant

pub bound_root-returns : goal.bound_root-returns
bound_root-returns t c = root_bounds c.bound_places.result c.args.done c.in_ok-done.done c.args.root.now c.in_ok-done.ensures c.bound_places.ensures

pub bound_added-loop-place-init : goal.bound_added-loop-place-init
bound_added-loop-place-init t c = added_start c.args.done (places_of c.args.places.now)

pub bound_added-loop-place-preserved : goal.bound_added-loop-place-preserved
bound_added-loop-place-preserved t c =
    let few : c.in_ok-done.done < 2 ^ 64 = search rules in
    let one = one_added c.loop-place.done c.in_ok-plus.field-0 c.in_ok-done.done (value_of c.in-Some.value) c.in_ok-plus.ensures few c.in_ok-done.ensures in
    added_more c.args.done c.loop-place.done c.in_ok-done.done _ c.args.places.now c.loop-place.place-index c.place-item.result c.loop-place-test.true c.place-item.is c.loop-place.invariant (λ T. omega (arith, one T, ap (λ q. length (counted_place T (option_map value_of q))) c.in-Some.is))

pub bound_added-loop-place-preserved-in_default : goal.bound_added-loop-place-preserved-in_default
bound_added-loop-place-preserved-in_default t c =
    added_more c.args.done c.loop-place.done c.loop-place.done _ c.args.places.now c.loop-place.place-index c.place-item.result c.loop-place-test.true c.place-item.is c.loop-place.invariant (λ T. omega (arith, ap (λ q. length (counted_place T (option_map value_of q))) c.in_default.is))

pub bound_added-returns : goal.bound_added-returns
bound_added-returns t c = added_end c.args.done c.loop-place.done (places_of c.args.places.now) c.args.places.now c.loop-place.place-index c.loop-place-test.false c.loop-place.invariant

pub bound_additions-returns : goal.bound_additions-returns
bound_additions-returns t c =
    let few : IfSome c.bound_unknown.result (λ n. n < 2 ^ 64) = search rules in
    additions_bounds c.bound_unknown.result c.args.done c.in_ok-done.done c.in_ok-done-2.done c.args.added.now (map unknown_of c.args.unknown.now) few c.in_ok-done.ensures c.in_ok-done-2.ensures c.bound_unknown.ensures

pub bound-returns-in_ok-bound_root-in-Seq : goal.bound-returns-in_ok-bound_root-in-Seq
bound-returns-in_ok-bound_root-in-Seq t c =
    let s = c.in-Seq in
    let o = c.bound_additions.result in
    let mid = c.in_ok-bound_root-in-Seq.field-0 in
    let root : BoundsRoot c.args.done (places_of s.root.items) (Some mid) =
    subst (λ xs. BoundsRoot c.args.done (places_of xs) (Some mid)) c.deref-in-Seq-3.ensures.value c.in_ok-bound_root-in-Seq.ensures in
    let more : BoundsAdditions mid (places_of s.added.items) (map unknown_of s.unknown.items) o =
    subst (λ xs. BoundsAdditions mid (places_of xs) (map unknown_of s.unknown.items) o) c.deref-in-Seq.ensures.value
    (subst (λ us. BoundsAdditions mid (places_of c.deref-in-Seq.result.now) (map unknown_of us) o) c.deref-in-Seq-2.ensures.value c.bound_additions.ensures) in
    subst (λ v. Bounds c.args.done v o) (sym (ap value_of s.is ∙ value_of-Seq s.root s.added s.unknown)) (seq_bounds o c.args.done mid (places_of s.root.items) (places_of s.added.items) (map unknown_of s.unknown.items) root more)

value_of-Null : value_of value.Null ≡ nothing
value_of-Null = search (rules, value.the_lemmas)

pub bound-returns-in-Bool : goal.bound-returns-in-Bool
bound-returns-in-Bool t c =
    let is : value_of c.args.value.now ≡ bool c.in-Bool.field-0 = ap value_of c.in-Bool.is ∙ value_of-Bool c.in-Bool.field-0 in
    subst (λ v. Bounds c.args.done v c.plus.result) (sym is) (most c.plus.result c.args.done 1 (bool c.in-Bool.field-0) c.plus.ensures (λ T. bool_bound T c.in-Bool.field-0))

pub bound-returns-in-Null : goal.bound-returns-in-Null
bound-returns-in-Null t c =
    let is : value_of c.args.value.now ≡ nothing = ap value_of c.in-Null.is ∙ value_of-Null in
    subst (λ v. Bounds c.args.done v (Some c.args.done)) (sym is) (null_most c.args.done)
