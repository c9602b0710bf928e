use Rattle.std.proofs.Common.{◌≡◌, drop, false}
use Rattle.oer_model.specs.FaultTest.{rest_after}
use Rattle.oer_types.proofs.name.is_name_rest.Given as goal

abbrev pub invariant-loop-octet : goal.invariant-loop-octet
invariant-loop-octet l = rest_after l.after_hyphen (drop l.octet-index l.text) ≡ rest_after false l.text
