use Rattle.std.proofs.Common.{Some, ap, map, subst, sym, ◌∙◌}
use Rattle.oer_values.specs.ShapeView.{fields_of, named_number, type_of}
use Rattle.oer_values.proofs.Shapes.{type_of-Enumerated, type_of-Integer}
use Rattle.oer_writer.specs.TypeBounds.{FieldsHaveMost, HasMost}
use Rattle.oer_writer.proofs.TypeBounds.{int_most, item_most, most_end, most_more, most_start, root_most}
use Rattle.oer_writer.proofs.most.+most.Goals as goal

pub most-returns-in-Integer : goal.most-returns-in-Integer
most-returns-in-Integer t c =
    let s = c.in-Integer in
    subst (λ T. HasMost T (Some 17)) (sym (ap type_of s.is ∙ type_of-Integer s.low s.high)) (int_most s.low s.high)

pub most-returns-in-Enumerated : goal.most-returns-in-Enumerated
most-returns-in-Enumerated t c =
    let s = c.in-Enumerated in
    subst (λ T. HasMost T (Some 17)) (sym (ap type_of s.is ∙ type_of-Enumerated s.items s.extensible)) (item_most (map named_number s.items.items) s.extensible)

pub most_of_root-returns : goal.most_of_root-returns
most_of_root-returns t c =
    let m = c.in_ok-most_of_fields in
    root_most c.args.fields.now m.field-0 c.plus.result c.plus.ensures (subst (λ o. FieldsHaveMost (fields_of c.args.fields.now) o) m.was c.most_of_fields.ensures)

pub most_of_fields-loop-field-init : goal.most_of_fields-loop-field-init
most_of_fields-loop-field-init t c = most_start (fields_of c.args.fields.now)

pub most_of_fields-loop-field-preserved : goal.most_of_fields-loop-field-preserved
most_of_fields-loop-field-preserved t c =
    let one = c.in_ok-most in
    most_more (fields_of c.args.fields.now) c.loop-field.sum one.field-0 c.in_ok-sum.sum c.args.fields.now c.loop-field.field-index c.field-item.result c.loop-field-test.true c.field-item.is c.in_ok-sum.ensures (subst (λ o. HasMost (type_of c.field-item.result.shape) o) one.was c.most.ensures) c.loop-field.invariant

pub most_of_fields-returns : goal.most_of_fields-returns
most_of_fields-returns t c = most_end (fields_of c.args.fields.now) c.loop-field.sum c.args.fields.now c.loop-field.field-index c.loop-field-test.false c.loop-field.invariant
