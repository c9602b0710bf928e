use Rattle.std.proofs.Common.{map, drop, suc, sym, ap, ◌∙◌, add-one, arith}
use Rattle.serde_json.specs.Data.{object, array}
use Rattle.serde_json.specs.View.{view}
use Rattle.serde_json.proofs.Views.{view-Array, view-Object}
use Rattle.oer_values.specs.ShapeView.{type_of}
use Rattle.oer_values.specs.ValueView.{value_of, values_of}
use Rattle.oer_values.proofs.Lookups.{found_smaller}
use Rattle.oer_values.proofs.Shapes.{type_of-Sequence, type_of-Choice}
use Rattle.oer_json.specs.Made.{made, made_items}
use Rattle.oer_json.proofs.Making.{before_items, before_none, items_step, made_found, made_nowhere}
use Rattle.oer_json.proofs.Views.{view-Null}
use Rattle.oer_literals.proofs.Lists.{nothing_left, split_at}
use Rattle.oer_json.proofs.make.+make.Goals as goal

pub items_json-loop-value-preserved : goal.items_json-loop-value-preserved
items_json-loop-value-preserved t c =
    let l = c.loop-value in
    let x = c.value-item.result in
    let f = made (type_of c.args.item.now) in
    let split = split_at c.args.values.now l.value-index x c.loop-value-test.true c.value-item.is in
    rw add-one (l.invariant
    ∙ ap (λ xs. before_items (map view l.items.items) (made_items f (values_of xs))) split
    ∙ items_step l.items.items c.push.new.self.items c.in_ok-value_json.field-0 (f (value_of x)) (made_items f (values_of (drop (suc l.value-index) c.args.values.now))) c.in_ok-push.ensures.items c.in_ok-value_json.ensures)

pub items_json-returns : goal.items_json-returns
items_json-returns t c =
    let l = c.loop-value in
    let f = made (type_of c.args.item.now) in
    let over = nothing_left c.args.values.now l.value-index c.loop-value-test.false in
    view-Array l.items ∙ ap array (sym (l.invariant ∙ ap (λ xs. before_items (map view l.items.items) (made_items f (values_of xs))) over ∙ before_none (map view l.items.items)))

pub sequence_json-returns-in-None : goal.sequence_json-returns-in-None
sequence_json-returns-in-None t c =
    let h = rw (c.deref.ensures.value, c.new-members.ensures.empty) at c.in_ok-put_fields.ensures in
    rw (c.in-Sequence.is, type_of-Sequence, c.in-None.is, view-Object c.put_fields.new.members) (ap object h)

pub sequence_json-returns-in_ok-put_unknown-in-Some : goal.sequence_json-returns-in_ok-put_unknown-in-Some
sequence_json-returns-in_ok-put_unknown-in-Some t c =
    let h = rw (c.deref.ensures.value, c.new-members.ensures.empty) at c.in_ok-put_fields.ensures in
    let g = rw (c.deref-in-Some.ensures.value, h) at c.in_ok-put_additions-in-Some.ensures in
    let k = rw g at c.in_ok-put_unknown-in-Some.ensures in
    rw (c.in-Sequence.is, type_of-Sequence, c.in-Some.is, view-Object c.put_unknown.new.members) (ap object k)

pub chosen_json-value_json-requires : goal.chosen_json-value_json-requires
chosen_json-value_json-requires t c =
    let at = c.in-Choice in
    let smaller = found_smaller c.args.tag c.args.shape.now at.root at.additions c.in-Some.alternative.now at.is (rw c.deref.ensures.value at c.in-Some.ensures) in
    omega (arith, smaller, c.decreases)

pub chosen_json-returns-in_default-find_alternative : goal.chosen_json-returns-in_default-find_alternative
chosen_json-returns-in_default-find_alternative t c =
    let at = c.in-Choice in
    rw (at.is, type_of-Choice, view-Null) (sym (made_nowhere c.args.tag (value_of c.args.value.now) at.root.items at.additions (rw c.deref.ensures.value at c.in_default-find_alternative.ensures)))

pub chosen_json-returns : goal.chosen_json-returns
chosen_json-returns t c =
    let at = c.in-Choice in
    let found = made_found c.args.tag (value_of c.args.value.now) at.root.items at.additions c.in-Some.alternative.now (rw c.deref.ensures.value at c.in-Some.ensures) in
    rw (at.is, type_of-Choice, found, sym c.in_ok-json.ensures, sym c.as_str.ensures.value) c.object_json.ensures
