use Rattle.std.proofs.Common.{◌≡◌, map, drop}
use Rattle.oer_module_options.specs.Asked.{all_taken}
use Rattle.oer_module_options.specs.Scan.{item_of}
use Rattle.oer_module_options.proofs.request.all_taken.Given as goal

abbrev pub invariant-loop-item : goal.invariant-loop-item
invariant-loop-item l = all_taken (map item_of l.kept) ≡ all_taken (map item_of (drop l.item-index l.kept))
