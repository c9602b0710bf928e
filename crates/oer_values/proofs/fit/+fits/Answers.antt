use Rattle.std.proofs.Common.{◌≡◌, length, sym, ◌∙◌, arith}
use Rattle.std.proofs.lemmas.Grind.{common_steps}
use Rattle.std.proofs.lemmas.List.{drop_all}
use Rattle.oer_values.proofs.Shapes.{type_of-Sequence, type_of-SequenceOf, type_of-Choice}
use Rattle.oer_values.proofs.Values.{value_of-Seq, value_of-List, value_of-Chosen}
use Rattle.oer_values.proofs.FitSteps.{no_fields_left, no_additions_left, counted_additions, counted_values}
use Rattle.oer_values.proofs.Lookups.{fits_found, fits_nowhere, found_falls}
use Rattle.oer_values.specs.ValueView.{value_of}
use Rattle.oer_values.proofs.fit.+fits.Goals as goal

pub additions_fit-returns : goal.additions_fit-returns
additions_fit-returns t c =
    let l = c.loop-addition in
    c.is_empty.ensures ∙ no_additions_left l.rest.now ∙ rw (drop_all l.addition-index c.args.additions.now c.loop-addition-test.false) at l.invariant

pub fields_fit-returns : goal.fields_fit-returns
fields_fit-returns t c =
    let l = c.loop-field in
    c.is_empty.ensures ∙ no_fields_left l.rest.now ∙ rw (drop_all l.field-index c.args.fields.now c.loop-field-test.false) at l.invariant

pub fits_shape-returns-then-is_without_additions : goal.fits_shape-returns-then-is_without_additions
fits_shape-returns-then-is_without_additions t c =
    rw (c.in-Sequence-Seq.is-0, c.in-Sequence-Seq.is-1, type_of-Sequence, value_of-Seq, c.in-None.is) (grind (arith, common_steps))

pub fits_shape-returns-else-is_without_additions : goal.fits_shape-returns-else-is_without_additions
fits_shape-returns-else-is_without_additions t c =
    rw (c.in-Sequence-Seq.is-0, c.in-Sequence-Seq.is-1, type_of-Sequence, value_of-Seq, c.in-None.is) (grind (arith, common_steps))

pub fits_shape-returns-then-not-fields_fit : goal.fits_shape-returns-then-not-fields_fit
fits_shape-returns-then-not-fields_fit t c =
    rw (c.in-Sequence-Seq.is-0, c.in-Sequence-Seq.is-1, type_of-Sequence, value_of-Seq, c.in-Some.is) (grind (arith, common_steps))

pub fits_shape-returns-else-not-additions_fit : goal.fits_shape-returns-else-not-additions_fit
fits_shape-returns-else-not-additions_fit t c =
    let k = counted_additions c.in-Some.additions.items in
    let n : c.len.result ≡ length c.in-Some.additions.items = omega (arith, c.in-Some.additions.ok.0) in
    rw (c.in-Sequence-Seq.is-0, c.in-Sequence-Seq.is-1, type_of-Sequence, value_of-Seq, c.in-Some.is) (grind (arith, common_steps, k, n))

pub fits_shape-returns-then-allows : goal.fits_shape-returns-then-allows
fits_shape-returns-then-allows t c =
    let at = c.in-SequenceOf-List in
    let k = counted_values at.values.items in
    let n : c.len-in-SequenceOf-List.result ≡ length at.values.items = omega (arith, at.values.ok.0) in
    rw (at.is-0, at.is-1, type_of-SequenceOf, value_of-List) (grind (arith, common_steps, k, n))

pub fits_shape-returns-else-allows : goal.fits_shape-returns-else-allows
fits_shape-returns-else-allows t c =
    let at = c.in-SequenceOf-List in
    let k = counted_values at.values.items in
    let n : c.len-in-SequenceOf-List.result ≡ length at.values.items = omega (arith, at.values.ok.0) in
    rw (at.is-0, at.is-1, type_of-SequenceOf, value_of-List) (grind (arith, common_steps, k, n))

pub fits_shape-returns-in-Some-find_alternative : goal.fits_shape-returns-in-Some-find_alternative
fits_shape-returns-in-Some-find_alternative t c =
    let at = c.in-Choice-Chosen in
    let e = rw c.deref-in-Choice-Chosen.ensures.value at c.in-Some-find_alternative.ensures in
    let f = rw c.deref-in-Some-find_alternative.ensures at c.fits_shape.ensures in
    rw (at.is-0, at.is-1, type_of-Choice, value_of-Chosen) (f ∙ sym (fits_found at.tag (value_of at.value.value) at.root.items at.additions c.in-Some-find_alternative.alternative.now e))

pub fits_shape-returns-in-None-find_alternative : goal.fits_shape-returns-in-None-find_alternative
fits_shape-returns-in-None-find_alternative t c =
    let at = c.in-Choice-Chosen in
    let e = rw c.deref-in-Choice-Chosen.ensures.value at c.in-None-find_alternative.ensures in
    rw (at.is-0, at.is-1, type_of-Choice, value_of-Chosen) (sym (fits_nowhere at.tag (value_of at.value.value) at.root.items at.additions e))

-- measures
pub fits_shape-fits_shape-requires : goal.fits_shape-fits_shape-requires
fits_shape-fits_shape-requires t c =
    let at = c.in-Choice-Chosen in
    let e = rw c.deref-in-Choice-Chosen.ensures.value at c.in-Some-find_alternative.ensures in
    (found_falls at.tag c.args.shape.now at.root at.additions c.in-Some-find_alternative.alternative.now t at.is-0 e c.decreases, tt)
