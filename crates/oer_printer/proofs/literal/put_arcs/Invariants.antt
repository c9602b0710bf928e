use Rattle.std.proofs.Common.{◌≡◌, map, drop}
use Rattle.oer_printer.specs.Printer.{run, written}
use Rattle.oer_printer.specs.Printing.{natural_token}
use Rattle.oer_printer.proofs.literal.put_arcs.Given as goal

-- what is left gives the whole
abbrev pub invariant-loop-arc : goal.invariant-loop-arc
invariant-loop-arc l = run (written l.fn.printer) (map natural_token l.arcs) ≡ run (written l.printer) (map natural_token (drop l.arc-index l.arcs))
