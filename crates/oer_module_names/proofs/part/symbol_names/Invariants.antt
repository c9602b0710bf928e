use Rattle.std.proofs.Common.{◌≡◌, map, take}
use Rattle.oer_module_names.proofs.part.symbol_names.Given as goal

-- the Names before
abbrev pub invariant-loop-symbol : goal.invariant-loop-symbol
invariant-loop-symbol l = l.names.items ≡ map (λ x. x.name) (take l.symbol-index l.symbols)
