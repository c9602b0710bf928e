use Rattle.std.proofs.Common.{◌≡◌, map, take}
use Rattle.oer_module_names.proofs.part.assignment_names.Given as goal

-- the Names before
abbrev pub invariant-loop-assignment : goal.invariant-loop-assignment
invariant-loop-assignment l = l.names.items ≡ map (λ x. x.name) (take l.assignment-index l.assignments)
