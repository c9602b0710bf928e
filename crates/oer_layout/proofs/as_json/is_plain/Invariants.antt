use Rattle.std.proofs.Common.{◌≡◌, true, take}
use Rattle.json.specs.Print.{escape}
use Rattle.oer_layout.proofs.as_json.is_plain.Given as goal

abbrev pub invariant-loop-octet : goal.invariant-loop-octet
invariant-loop-octet l = l.is_plain ≡ true → escape (take l.octet-index l.octet-items) ≡ take l.octet-index l.octet-items
