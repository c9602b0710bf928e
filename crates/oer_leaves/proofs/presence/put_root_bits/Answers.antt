use Rattle.std.proofs.Common.{rules}
use Rattle.oer_leaves.proofs.Places.{field_bits_step}
use Rattle.oer_leaves.proofs.PackSteps.{through_more, through_failed}
use Rattle.oer_leaves.proofs.presence.put_root_bits.Goals as goal

pub returns-in_err-done : goal.returns-in_err-done
returns-in_err-done g c =
    through_failed c.from_residual.result _ c.args.done c.loop-field.done _ _ _ _ c.args.packer.now c.loop-field.packer c.put_place_bit.new.packer c.put_place_bit.new.packer _ _ _ _ _ _ c.loop-field.invariant
    (field_bits_step c.args.fields.now c.loop-field.field-index c.field-item.result c.loop-field.rest.now c.in-Some.more.now c.in-Some.place.now c.loop-field-test.true c.field-item.is (search rules)) c.from_residual.ensures.1 c.in_err-done.ensures

pub loop-field-preserved : goal.loop-field-preserved
loop-field-preserved g c =
    through_more c.args.done c.loop-field.done _ _ _ _ _ c.args.packer.now c.loop-field.packer c.put_place_bit.new.packer _ _ _ _ _ _ c.loop-field.invariant
    (field_bits_step c.args.fields.now c.loop-field.field-index c.field-item.result c.loop-field.rest.now c.in-Some.more.now c.in-Some.place.now c.loop-field-test.true c.field-item.is (search rules)) c.in_ok-done.ensures
