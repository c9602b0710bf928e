use Rattle.std.proofs.Common.{◌≡◌, true, take}
use Rattle.oer_places.proofs.Visibly.{IsPlain}
use Rattle.oer_places.proofs.visible.is_plain.Given as goal

abbrev pub invariant-loop-octet : goal.invariant-loop-octet
invariant-loop-octet l = l.is_plain ≡ true → IsPlain (take l.octet-index l.octet-items)
