use Rattle.std.proofs.Common.{◌≡◌, drop, map}
use Rattle.oer_values.specs.ShapeView.{named_number}
use Rattle.oer_printer.specs.Printer.{joined_from, run, written}
use Rattle.oer_printer.specs.Printing.{item_tokens, joined}
use Rattle.oer_printer.proofs.printing.put_items.Given as goal

-- what is left gives the whole
abbrev pub invariant-loop-item : goal.invariant-loop-item
invariant-loop-item l = run (written l.fn.printer) (joined (map item_tokens (map named_number l.items))) ≡ run (written l.printer) (joined_from l.first (map item_tokens (map named_number (drop l.item-index l.items))))
