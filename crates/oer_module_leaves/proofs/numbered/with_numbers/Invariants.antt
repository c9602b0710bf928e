use Rattle.std.proofs.Common.{◌≡◌, ◌++◌, drop, map}
use Rattle.oer_module_terms.specs.Trees.{item_of as written_of}
use Rattle.oer_module_leaves.specs.Numbered.{item_of, with_numbers}
use Rattle.oer_module_leaves.proofs.numbered.with_numbers.Given as goal

-- those found, and those of what is left, are all
abbrev pub invariant-loop-index : goal.invariant-loop-index
invariant-loop-index l =
    with_numbers (map written_of l.items) l.numbers
    ≡ map item_of l.numbered.items ++ with_numbers (map written_of (drop l.index l.items)) (drop l.index l.numbers)
