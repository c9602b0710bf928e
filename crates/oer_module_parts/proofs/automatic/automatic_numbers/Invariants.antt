use Rattle.std.proofs.Common.{◌≡◌, ◌+◌, ◌≤◌, ◌++◌, drop, length}
use Rattle.oer_module_parts.specs.Automatic.{automatic_numbers, numbers_from}
use Rattle.oer_module_parts.proofs.automatic.automatic_numbers.Given as goal

-- those found, and those of what is left, are all
abbrev pub invariant-loop-place : goal.invariant-loop-place
invariant-loop-place l = record {
  all : automatic_numbers l.places ≡ l.numbers.items ++ numbers_from l.root l.addition (drop l.place-index l.places);
  root_most : l.root ≤ l.place-index;
  addition_most : l.addition ≤ length l.places + l.place-index;
}
