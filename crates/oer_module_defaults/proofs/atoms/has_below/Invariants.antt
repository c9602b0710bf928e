use Rattle.std.proofs.Common.{◌≡◌, drop}
use Rattle.oer_module_defaults.specs.Atoms.{has_below}
use Rattle.oer_module_defaults.proofs.atoms.has_below.Given as goal

-- none before is below
abbrev pub invariant-loop-octet : goal.invariant-loop-octet
invariant-loop-octet l = has_below l.least l.text ≡ has_below l.least (drop l.octet-index l.octet-items)
