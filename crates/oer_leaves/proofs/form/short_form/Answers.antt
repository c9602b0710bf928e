use Rattle.oer_values.specs.FormView.{form_seen}
use Rattle.oer_leaves.proofs.Forms.{at_signed, at_unsigned}
use Rattle.oer_leaves.proofs.form.short_form.Goals as goal

pub returns-then-is_from : goal.returns-then-is_from
returns-then-is_from c = at_unsigned c.args.low c.args.high (form_seen c.short_unsigned_form.result) c.ranges.low c.ranges.high c.if-is_from.ensures c.short_unsigned_form.ensures

pub returns-else-is_from : goal.returns-else-is_from
returns-else-is_from c = at_signed c.args.low c.args.high (form_seen c.short_signed_form.result) c.ranges.low c.ranges.high c.if-is_from.ensures c.short_signed_form.ensures
