use Rattle.std.proofs.Common.{false, negsuc, pos, refl, true}
use Rattle.oer_leaves.proofs.Forms.{both_wide, is_within}
use Rattle.oer_leaves.proofs.form.short_signed_form.Goals as goal

pub returns-then-is_within : goal.returns-then-is_within
returns-then-is_within c = rw (is_within true (negsuc 127) (pos 127) c.args.low c.args.high c.ranges.low c.ranges.high c.if-is_within.ensures) refl

pub returns-then-is_within-2 : goal.returns-then-is_within-2
returns-then-is_within-2 c = rw (is_within false (negsuc 127) (pos 127) c.args.low c.args.high c.ranges.low c.ranges.high c.if-is_within.ensures, is_within true (negsuc 32767) (pos 32767) c.args.low c.args.high c.ranges.low c.ranges.high c.if-is_within-2.ensures) refl

pub returns-then-is_within-3 : goal.returns-then-is_within-3
returns-then-is_within-3 c = rw (is_within false (negsuc 127) (pos 127) c.args.low c.args.high c.ranges.low c.ranges.high c.if-is_within.ensures, is_within false (negsuc 32767) (pos 32767) c.args.low c.args.high c.ranges.low c.ranges.high c.if-is_within-2.ensures, is_within true (negsuc 2147483647) (pos 2147483647) c.args.low c.args.high c.ranges.low c.ranges.high c.if-is_within-3.ensures) refl

pub returns-else-is_within-3 : goal.returns-else-is_within-3
returns-else-is_within-3 c = rw (is_within false (negsuc 127) (pos 127) c.args.low c.args.high c.ranges.low c.ranges.high c.if-is_within.ensures, is_within false (negsuc 32767) (pos 32767) c.args.low c.args.high c.ranges.low c.ranges.high c.if-is_within-2.ensures, is_within false (negsuc 2147483647) (pos 2147483647) c.args.low c.args.high c.ranges.low c.ranges.high c.if-is_within-3.ensures, both_wide c.args.low c.args.high c.ranges.low c.ranges.high) refl
