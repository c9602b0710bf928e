use Rattle.std.proofs.Common.{◌≡◌, [], drop}
use Rattle.oer_module_parts.specs.Numbering.{given_from}
use Rattle.oer_module_parts.proofs.numbering.given_numbers.Given as goal

-- those found, and those that are left, are all
abbrev pub invariant-loop-index : goal.invariant-loop-index
invariant-loop-index l = given_from 0 l.items [] ≡ given_from l.index (drop l.index l.items) l.given.keys
