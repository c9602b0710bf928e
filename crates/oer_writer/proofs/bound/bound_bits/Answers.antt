use Rattle.std.proofs.Common.{arith, length, ◌^◌, ◌<◌, ◌+◌, ◌/◌}
use Rattle.oer_model.specs.AsnValue.{bit_list}
use Rattle.oer_writer.proofs.Bounds.{bits_bound, most}
use Rattle.oer_writer.proofs.bound.bound_bits.Goals as goal

pub returns : goal.returns
returns c =
    let s = c.args.bits.now in
    let few : length s < 2 ^ 64 = omega (arith, c.count.ensures) in
    most c.plus.result c.args.done (c.count.result / 8 + 11) (bit_list s) c.plus.ensures (λ T. omega (arith, c.count.ensures, bits_bound T s few))
