use Rattle.std.proofs.Common.{arith, rules, length, ◌+◌, ◌^◌, ◌<◌}
use Rattle.oer_model.specs.AsnValue.{foreign}
use Rattle.oer_units.specs.Least.{tag_octets}
use Rattle.oer_writer.proofs.Bounds.{foreign_bound, more_most}
use Rattle.oer_writer.proofs.bound.bound_foreign.Goals as goal

pub returns : goal.returns
returns c =
    let t = c.args.tag in
    let w = c.args.octets.now in
    let few : length w < 2 ^ 64 = search rules in
    more_most c.plus-3.result c.args.done c.in_ok-plus-2.field-0 (length (tag_octets t) + 9) (length w) (foreign t w) (omega (arith, c.in_ok-plus-2.ensures, c.in_ok-plus.ensures, c.tag_len.ensures)) c.plus-3.ensures (λ T. foreign_bound T t w few)
