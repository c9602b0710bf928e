use Rattle.std.proofs.Common.{sym, ◌∙◌}
use Rattle.oer_values.specs.ShapeView.{type_of}
use Rattle.oer_values.specs.ValueView.{value_of}
use Rattle.oer_writer.proofs.Compared.{where_err, where_ok}
use Rattle.oer_leaves.proofs.Steps.{from_start}
use Rattle.oer_writer.proofs.parts.equals.Goals as goal

pub returns-then-is_ok : goal.returns-then-is_ok
returns-then-is_ok c =
    let wrote = from_start c.put.result 0 _ _ _ _ _ _ _ c.new-comparison.ensures.held c.new-comparison.ensures.failed c.put.ensures in
    where_ok (type_of c.args.shape.now) (value_of c.args.value.now) c.computed_octets.ensures.given c.computed_octets.ensures.computed c.requires.limits c.requires.fits c.put.result c.args.octets.now c.put.new.sink.octets.now c.put.new.sink.at c.put.new.sink.differing c.is_same.result c.new-comparison.ensures.few (sym c.is_ok.ensures.value ∙ c.if-is_ok.true) wrote c.is_same.ensures

pub returns-else-is_ok : goal.returns-else-is_ok
returns-else-is_ok c =
    let wrote = from_start c.put.result 0 _ _ _ _ _ _ _ c.new-comparison.ensures.held c.new-comparison.ensures.failed c.put.ensures in
    where_err (type_of c.args.shape.now) (value_of c.args.value.now) c.computed_octets.ensures.computed c.put.result c.args.octets.now c.put.new.sink.octets.now c.put.new.sink.at c.put.new.sink.differing c.is_ok.result c.new-comparison.ensures.few c.is_ok.ensures.value (sym c.is_ok.ensures.value ∙ c.if-is_ok.false) wrote
