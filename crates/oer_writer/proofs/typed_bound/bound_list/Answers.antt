use Rattle.std.proofs.Common.{arith}
use Rattle.oer_values.specs.ShapeView.{type_of}
use Rattle.oer_writer.proofs.TypeBounds.{list_in}
use Rattle.oer_writer.proofs.typed_bound.bound_list.Goals as goal

pub returns : goal.returns
returns c = list_in c.bound_elements.result (type_of c.args.item.now) c.args.done c.in_ok-done.done c.args.values.now (omega (arith, c.in_ok-done.ensures, c.quantity_len.ensures)) c.bound_elements.ensures
