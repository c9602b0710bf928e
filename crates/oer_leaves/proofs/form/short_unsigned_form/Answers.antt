use Rattle.std.proofs.Common.{false, pos, refl, true}
use Rattle.oer_leaves.proofs.Forms.{high_wide, is_to}
use Rattle.oer_leaves.proofs.form.short_unsigned_form.Goals as goal

pub returns-then-is_to : goal.returns-then-is_to
returns-then-is_to c = rw (is_to true c.args.high (pos 255) c.ranges.high c.if-is_to.ensures) refl

pub returns-then-is_to-2 : goal.returns-then-is_to-2
returns-then-is_to-2 c = rw (is_to false c.args.high (pos 255) c.ranges.high c.if-is_to.ensures, is_to true c.args.high (pos 65535) c.ranges.high c.if-is_to-2.ensures) refl

pub returns-then-is_to-3 : goal.returns-then-is_to-3
returns-then-is_to-3 c = rw (is_to false c.args.high (pos 255) c.ranges.high c.if-is_to.ensures, is_to false c.args.high (pos 65535) c.ranges.high c.if-is_to-2.ensures, is_to true c.args.high (pos 4294967295) c.ranges.high c.if-is_to-3.ensures) refl

pub returns-else-is_to-3 : goal.returns-else-is_to-3
returns-else-is_to-3 c = rw (is_to false c.args.high (pos 255) c.ranges.high c.if-is_to.ensures, is_to false c.args.high (pos 65535) c.ranges.high c.if-is_to-2.ensures, is_to false c.args.high (pos 4294967295) c.ranges.high c.if-is_to-3.ensures, high_wide c.args.high c.ranges.high) refl
