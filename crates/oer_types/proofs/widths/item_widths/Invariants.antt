use Rattle.std.proofs.Common.{drop, map}
use Rattle.oer_values.specs.ShapeView.{named_number}
use Rattle.oer_model.specs.Widths.{HaveItemWidths}
use Rattle.oer_types.proofs.widths.item_widths.Given as goal

abbrev pub invariant-loop-item : goal.invariant-loop-item
invariant-loop-item l = HaveItemWidths (map named_number (drop l.item-index l.items)) → HaveItemWidths (map named_number l.items)
