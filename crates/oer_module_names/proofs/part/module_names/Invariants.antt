use Rattle.std.proofs.Common.{◌≡◌, map, take}
use Rattle.oer_module_names.proofs.part.module_names.Given as goal

-- the Names before
abbrev pub invariant-loop-module : goal.invariant-loop-module
invariant-loop-module l = l.names.items ≡ map (λ x. x.name) (take l.module-index l.modules)
