use Rattle.std.proofs.Common.{rules, length, ◌^◌, ◌<◌}
use Rattle.oer_model.specs.AsnValue.{octets, text}
use Rattle.oer_writer.proofs.Bounds.{more_most, octets_bound, text_bound}
use Rattle.oer_writer.proofs.bound.bound_string.Goals as goal

pub returns-clause-octets : goal.returns-clause-octets
returns-clause-octets c =
    let w = c.args.value.now in
    let few : length w < 2 ^ 64 = search rules in
    more_most c.plus-2.result c.args.done c.in_ok-plus.field-0 9 (length w) (octets w) c.in_ok-plus.ensures c.plus-2.ensures (λ T. octets_bound T w few)

pub returns-clause-text : goal.returns-clause-text
returns-clause-text c =
    let w = c.args.value.now in
    let few : length w < 2 ^ 64 = search rules in
    more_most c.plus-2.result c.args.done c.in_ok-plus.field-0 9 (length w) (text w) c.in_ok-plus.ensures c.plus-2.ensures (λ T. text_bound T w few)
