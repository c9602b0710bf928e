use Rattle.std.proofs.Common.{◌≡◌, ◌++◌, Ok, map, drop}
use Rattle.oer_module_defaults.specs.Bits.{bit_numbers}
use Rattle.oer_module_names.specs.Views.{modules_in}
use Rattle.oer_module_terms.specs.Trees.{item_of, members_from, member_of}
use Rattle.oer_module_text.specs.Errors.{◌>>=◌}
use Rattle.oer_module_defaults.proofs.bits.bit_numbers.Given as goal

-- the numbers found and those of what is left are all of them
abbrev pub invariant-loop-member : goal.invariant-loop-member
invariant-loop-member l =
    bit_numbers (modules_in l.names) l.place l.«module» l.size (map item_of l.items) (members_from (map member_of l.members))
    ≡ (bit_numbers (modules_in l.names) l.place l.«module» l.size (map item_of l.items) (members_from (map member_of (drop l.member-index l.members)))
    >>= λ ns. Ok (l.numbers.items ++ ns))
