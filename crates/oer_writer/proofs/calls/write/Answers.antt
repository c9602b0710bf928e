use Rattle.oer_types.specs.Schema.{shape_of, the_type}
use Rattle.oer_values.specs.ValueView.{value_of}
use Rattle.oer_writer.proofs.WholeValues.{limits_at, tells_failure, tells_too_long, writes_all, writes_at, writes_canonical}
use Rattle.oer_writer.proofs.calls.write.Goals as goal

pub returns-clause-canonical : goal.returns-clause-canonical
returns-clause-canonical g c =
    let v = value_of c.args.value.now in
    let limits = limits_at c.shape.result.now (shape_of c.args.schema.now) c.shape.ensures.same c.shape.ensures.limits in
    let writes = writes_at c.shape.result.now (shape_of c.args.schema.now) v c.put_all.result _ _ _ _ c.shape.ensures.same c.put_all.ensures in
    writes_canonical (the_type c.args.schema.now) v c.computed_octets.ensures.given c.computed_octets.ensures.computed limits c.requires c.put_all.result _ _ _ _ writes

pub returns-clause-too_long : goal.returns-clause-too_long
returns-clause-too_long g c =
    let v = value_of c.args.value.now in
    let limits = limits_at c.shape.result.now (shape_of c.args.schema.now) c.shape.ensures.same c.shape.ensures.limits in
    let writes = writes_at c.shape.result.now (shape_of c.args.schema.now) v c.put_all.result _ _ _ _ c.shape.ensures.same c.put_all.ensures in
    tells_too_long (the_type c.args.schema.now) v c.computed_octets.ensures.given c.computed_octets.ensures.computed limits c.requires c.put_all.result _ _ _ _ writes

pub returns-clause-device : goal.returns-clause-device
returns-clause-device g c = tells_failure _ c.put_all.result _ _ _ _ c.put_all.ensures

pub returns-clause-complete : goal.returns-clause-complete
returns-clause-complete g c =
    let v = value_of c.args.value.now in
    let writes = writes_at c.shape.result.now (shape_of c.args.schema.now) v c.put_all.result _ _ _ _ c.shape.ensures.same c.put_all.ensures in
    writes_all (the_type c.args.schema.now) v c.computed_octets.ensures.computed c.put_all.result _ _ _ _ writes
