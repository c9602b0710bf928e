use Rattle.oer_types.specs.Schema.{shape_of, the_type}
use Rattle.oer_values.specs.ValueView.{value_of}
use Rattle.oer_writer.proofs.WholeValues.{counts_at, limits_at, tells_length, tells_none}
use Rattle.oer_writer.proofs.calls.length.Goals as goal

pub returns-clause-canonical : goal.returns-clause-canonical
returns-clause-canonical c =
    let limits = limits_at c.shape.result.now (shape_of c.args.schema.now) c.shape.ensures.same c.shape.ensures.limits in
    let counts = counts_at c.shape.result.now (shape_of c.args.schema.now) (value_of c.args.value.now) c.count.result c.shape.ensures.same c.count.ensures in
    tells_length (the_type c.args.schema.now) (value_of c.args.value.now) c.computed_octets.ensures.given c.computed_octets.ensures.computed limits c.requires c.count.result counts

pub returns-clause-too_long : goal.returns-clause-too_long
returns-clause-too_long c =
    let limits = limits_at c.shape.result.now (shape_of c.args.schema.now) c.shape.ensures.same c.shape.ensures.limits in
    let counts = counts_at c.shape.result.now (shape_of c.args.schema.now) (value_of c.args.value.now) c.count.result c.shape.ensures.same c.count.ensures in
    tells_none (the_type c.args.schema.now) (value_of c.args.value.now) c.computed_octets.ensures.given c.computed_octets.ensures.computed limits c.requires c.count.result counts
