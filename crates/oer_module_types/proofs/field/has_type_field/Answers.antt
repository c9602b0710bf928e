use Rattle.std.proofs.Common.{◌-◌, sym, ◌∙◌, arith}
use Rattle.oer_module_types.proofs.ClassFields.{field_later, field_over}
use Rattle.oer_module_types.proofs.field.has_type_field.Goals as goal

pub loop-index-preserved : goal.loop-index-preserved
loop-index-preserved c =
    let l = c.loop-index in
    l.invariant
    ∙ field_later c.args.name.now c.args.fields.now l.index _ l.auto.index c.loop-index-test.true
    (sym c.is_type_field.ensures ∙ c.if-is_type_field.false)

pub returns : goal.returns
returns c =
    let l = c.loop-index in
    sym (l.invariant
    ∙ field_over c.args.name.now c.args.fields.now (l.index - 2) (omega (arith, l.auto.index, c.loop-index-test.false)))
