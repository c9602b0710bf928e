use Rattle.std.proofs.Common.{arith, ◌++◌}
use Rattle.oer_model.specs.Bits.{padded}
use Rattle.oer_values.specs.ShapeView.{fields_of}
use Rattle.oer_values.specs.ValueView.{places_of}
use Rattle.oer_leaves.specs.Parts.{field_bits, first_bits}
use Rattle.oer_leaves.proofs.Numbers.{bits_padded}
use Rattle.oer_leaves.proofs.presence.measured_preamble.Goals as goal

pub returns : goal.returns
returns c =
    let a = first_bits c.args.first in
    let b = field_bits (fields_of c.args.fields.now) (places_of c.args.places.now) in
    c.added.ensures (padded (a ++ b)) (bits_padded a b c.count_first_bits.result c.count_root_bits.result _ c.count_first_bits.ensures.value c.count_root_bits.ensures.value (omega arith))
