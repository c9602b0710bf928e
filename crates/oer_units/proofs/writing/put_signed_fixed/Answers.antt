use Rattle.std.proofs.Common.{◌∙◌, ap, of_z}
use Rattle.std.specs.Int.{w64, to_be_bytes}
use Rattle.oer_units.proofs.Lowest.{puts_same, last_of_eight, fixed_is, held_64}
use Rattle.oer_units.proofs.writing.put_signed_fixed.Goals as goal

pub returns : goal.returns
returns g c =
    let bits = c.cast_unsigned.ensures ∙ ap (of_z w64) (held_64 c.args.value c.ranges.value) in
    let bytes = c.to_be_bytes-wide.ensures ∙ ap (to_be_bytes w64) bits in
    puts_same (last_of_eight c.args.width (of_z w64 c.args.value) c.octets.result c.to_be_bytes-wide.result bytes c.octets.ensures ∙ fixed_is c.args.width c.args.value c.requires) c.put_octets.ensures
