use Rattle.std.proofs.Common.{◌≡◌, map, take}
use Rattle.oer_module_names.proofs.part.source_names.Given as goal

-- the Names before
abbrev pub invariant-loop-import : goal.invariant-loop-import
invariant-loop-import l = l.names.items ≡ map (λ x. x.from) (take l.import-index l.imports)
