use Rattle.std.proofs.Common.{◌≡◌, drop, map}
use Rattle.oer_model.specs.FaultTest.{any_bad_name}
use Rattle.oer_values.specs.ShapeView.{named_number}
use Rattle.oer_model.specs.WellFormed.{item_names}
use Rattle.oer_types.proofs.name.has_bad_item_name.Given as goal

abbrev pub invariant-loop-item : goal.invariant-loop-item
invariant-loop-item l = any_bad_name (item_names (map named_number (drop l.item-index l.items))) ≡ any_bad_name (item_names (map named_number l.items))
