use Rattle.std.proofs.Common.{◌≡◌, map, drop}
use Rattle.oer_module_options.specs.Scan.{item_of}
use Rattle.oer_types_cmd.specs.Asking.{asks_for_help}
use Rattle.oer_types_cmd.proofs.types.asks_for_help.Given as goal

abbrev pub invariant-loop-item : goal.invariant-loop-item
invariant-loop-item l = asks_for_help (map item_of l.kept) ≡ asks_for_help (map item_of (drop l.item-index l.kept))
