use Rattle.std.proofs.Common.{arith, sym, ap, ◌∙◌, ◌∷◌, [], ◌+◌}
use Rattle.oer_units.proofs.Lowest.{puts_same}
use Rattle.oer_units.proofs.WrittenDigits.{headed_digits, tag_short}
use Rattle.oer_units.proofs.writing.put_tag.Goals as goal

pub returns-then-number-lt63 : goal.returns-then-number-lt63
returns-then-number-lt63 g c = puts_same (ap (λ x. (x + c.args.tag.number) ∷ []) c.class_bits-bits.ensures.value ∙ sym (tag_short c.args.tag (omega arith))) c.put_octets.ensures

pub returns-else-number-lt63 : goal.returns-else-number-lt63
returns-else-number-lt63 g c = puts_same (headed_digits c.args.tag c.fill_digits-from.new.buffer c.fill_digits-from.result c.class_bits-bits.result c.fill_digits-from.array_long c.fill_digits-from.ensures.some c.fill_digits-from.ensures.most (omega arith) c.class_bits-bits.ensures.value c.fill_digits-from.ensures.digits) c.put_octets-else-number-lt63.ensures
