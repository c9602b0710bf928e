use Rattle.std.proofs.Common.{rules, ◌^◌, ◌<◌}
use Rattle.oer_model.specs.AsnValue.{oid}
use Rattle.oer_writer.proofs.Bounds.{more_most, oid_bound}
use Rattle.oer_writer.proofs.bound.bound_object_id.Goals as goal

pub returns : goal.returns
returns c =
    let w = c.args.arcs.now in
    let few : c.in_ok-times.field-0 < 2 ^ 64 = search rules in
    more_most c.plus-2.result c.args.done c.in_ok-plus.field-0 9 c.in_ok-times.field-0 (oid w) c.in_ok-plus.ensures c.plus-2.ensures (λ T. oid_bound T w c.in_ok-times.field-0 (λ k. (c.type_inv.arcs k).fits) c.in_ok-times.ensures few)
