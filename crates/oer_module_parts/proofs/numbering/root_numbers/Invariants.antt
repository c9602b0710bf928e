use Rattle.std.proofs.Common.{◌≡◌, ◌*◌, ◌^◌, pos, ◌≤ℤ◌, ◌++◌, drop}
use Rattle.oer_module_parts.specs.Numbering.{root_numbers}
use Rattle.oer_module_parts.proofs.numbering.root_numbers.Given as goal

-- Those found, and those of what is left, are all; each item takes at most one of the next 2^63 numbers.
abbrev pub invariant-loop-item : goal.invariant-loop-item
invariant-loop-item l = record {
  all : root_numbers l.given.keys (pos 0) l.items ≡ l.numbers.items ++ root_numbers l.given.keys l.next (drop l.item-index l.items);
  near : l.next ≤ℤ pos (l.item-index * 2 ^ 63);
}
