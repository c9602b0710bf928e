use Rattle.std.proofs.Common.{◌≡◌, ◌+◌, drop}
use Rattle.oer_explain.specs.Digits.{digits_before}
use Rattle.oer_explain.proofs.digits.digits_before.Given as goal

abbrev pub invariant-loop-octet : goal.invariant-loop-octet
invariant-loop-octet l = (digits_before l.text ≡ l.count + digits_before (drop l.octet-index l.text)) × (l.count ≡ l.octet-index)
