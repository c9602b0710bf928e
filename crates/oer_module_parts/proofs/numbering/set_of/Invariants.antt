use Rattle.std.proofs.Common.{◌≡◌, [], drop}
use Rattle.oer_module_parts.specs.Numbering.{set_of}
use Rattle.oer_module_parts.proofs.numbering.set_of.Given as goal

-- those found, and those that are left, are all
abbrev pub invariant-loop-number : goal.invariant-loop-number
invariant-loop-number l = set_of [] l.numbers ≡ set_of l.set.keys (drop l.number-index l.numbers)
