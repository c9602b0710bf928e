use Rattle.std.proofs.Common.{◌≡◌, drop}
use Rattle.oer_explain.specs.Octets.{indented, indented_onto}
use Rattle.oer_explain.proofs.octets.indented.Given as goal

abbrev pub invariant-loop-octet : goal.invariant-loop-octet
invariant-loop-octet l = indented l.lines ≡ indented_onto l.text.items l.is_start (drop l.octet-index l.lines)
