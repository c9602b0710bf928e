use Rattle.std.proofs.Common.{◌∙◌, ap, of_z, length}
use Rattle.std.specs.Int.{w128}
use Rattle.oer_units.specs.Least.{signed_octets}
use Rattle.oer_units.proofs.Lowest.{puts_same, signed_counted_is, held_128}
use Rattle.oer_units.proofs.writing.put_signed_counted.Goals as goal

pub returns : goal.returns
returns g c =
    let same = held_128 c.args.value c.ranges.value in
    puts_same (signed_counted_is c.args.value c.signed_needed-count.result c.cast_unsigned.result c.ranges.value c.signed_needed-count.ensures.most (c.signed_needed-count.ensures.value ∙ ap (λ x. length (signed_octets x)) same) (c.cast_unsigned.ensures ∙ ap (of_z w128) same)) c.put_low_octets.ensures
