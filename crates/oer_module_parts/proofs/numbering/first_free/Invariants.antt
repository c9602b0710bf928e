use Rattle.std.proofs.Common.{◌≡◌, ◌-◌, length}
use Rattle.oer_module_parts.specs.Numbering.{first_free, free_within}
use Rattle.oer_module_parts.proofs.numbering.first_free.Given as goal

-- none of those before is free
abbrev pub invariant-loop : goal.invariant-loop
invariant-loop l = first_free l.taken.keys l.from ≡ free_within (length l.taken.keys - l.counter) l.taken.keys l.number
