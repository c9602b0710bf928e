use Rattle.std.proofs.Common.{◌∙◌, ap, sym, unsigned_abs}
use Rattle.oer_units.specs.Least.{octets_needed, unsigned_octets}
use Rattle.oer_units.proofs.Numbers.{length-unsigned_octets}
use Rattle.oer_units.proofs.Lowest.{length-counted, abs_bits}
use Rattle.oer_units.proofs.writing.unsigned_counted_len.Goals as goal

pub returns : goal.returns
returns c =
    let same = c.cast_unsigned.ensures ∙ abs_bits c.args.value c.ranges.value c.requires in
    length-counted (unsigned_octets (unsigned_abs c.args.value)) c.needed.result c.needed.ensures.most (c.needed.ensures.value ∙ ap octets_needed same ∙ sym (length-unsigned_octets (unsigned_abs c.args.value)))
