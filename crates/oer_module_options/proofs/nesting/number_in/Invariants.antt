use Rattle.std.proofs.Common.{◌≡◌, drop}
use Rattle.oer_module_options.specs.Nesting.{number_from}
use Rattle.oer_module_options.proofs.nesting.number_in.Given as goal

abbrev pub invariant-loop-octet : goal.invariant-loop-octet
invariant-loop-octet l = number_from 0 l.digits ≡ number_from l.number (drop l.octet-index l.digits)
