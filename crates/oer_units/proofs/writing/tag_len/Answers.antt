use Rattle.std.proofs.Common.{arith, sym, ap, length}
use Rattle.oer_units.proofs.WrittenDigits.{tag_short, tag_long}
use Rattle.oer_units.proofs.writing.tag_len.Goals as goal

pub returns-then-tag-lt63 : goal.returns-then-tag-lt63
returns-then-tag-lt63 c = sym (ap length (tag_short c.args.tag (omega arith)))

pub returns-else-tag-lt63 : goal.returns-else-tag-lt63
returns-else-tag-lt63 c = omega (arith, ap length (tag_long c.args.tag (omega arith)), c.subidentifier_len.ensures.value)
