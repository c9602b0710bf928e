use Rattle.std.proofs.Common.{◌≡◌, ◌++◌, Ok, map, drop}
use Rattle.oer_module_names.specs.Views.{modules_in}
use Rattle.oer_module_terms.specs.Trees.{item_of}
use Rattle.oer_module_values.specs.Errors.{◌>>=◌}
use Rattle.oer_module_values.specs.Numbers.{given_numbers}
use Rattle.oer_module_values.proofs.numbers.given_numbers.Given as goal

-- the numbers found and those of what is left are all of them
abbrev pub invariant-loop-item : goal.invariant-loop-item
invariant-loop-item l =
    given_numbers (modules_in l.names) l.«module» (map item_of l.items)
    ≡ (given_numbers (modules_in l.names) l.«module» (map item_of (drop l.item-index l.items)) >>= λ ns. Ok (l.numbers.items ++ ns))
