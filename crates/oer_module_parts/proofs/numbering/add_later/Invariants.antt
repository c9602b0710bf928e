use Rattle.std.proofs.Common.{◌≡◌, None, drop}
use Rattle.oer_module_parts.specs.Numbering.{later_numbers}
use Rattle.oer_module_parts.proofs.numbering.add_later.Given as goal

-- those found, and those of what is left, are all
abbrev pub invariant-loop-item : goal.invariant-loop-item
invariant-loop-item l = later_numbers l.taken.keys None l.items l.initial.numbers.items ≡ later_numbers l.taken.keys l.last (drop l.item-index l.items) l.numbers.items
