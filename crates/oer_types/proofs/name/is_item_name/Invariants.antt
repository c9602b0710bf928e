use Rattle.std.proofs.Common.{◌≡◌, drop, map, string_bytes}
use Rattle.oer_model.specs.FaultTest.{contains_name}
use Rattle.oer_values.specs.ShapeView.{named_number}
use Rattle.oer_model.specs.WellFormed.{item_names}
use Rattle.oer_types.proofs.name.is_item_name.Given as goal

abbrev pub invariant-loop-item : goal.invariant-loop-item
invariant-loop-item l = contains_name (string_bytes l.name) (item_names (map named_number (drop l.item-index l.items))) ≡ contains_name (string_bytes l.name) (item_names (map named_number l.items))
