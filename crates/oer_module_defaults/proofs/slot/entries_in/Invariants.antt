use Rattle.std.proofs.Common.{◌≡◌, [], drop, map}
use Rattle.oer_module_terms.specs.Trees.{members_from, member_of}
use Rattle.oer_module_defaults.specs.Slots.{entries_at}
use Rattle.oer_module_defaults.specs.Views.{entry_of}
use Rattle.oer_module_defaults.proofs.slot.entries_in.Given as goal

-- those found, and those of what is left, are all
abbrev pub invariant-loop-member : goal.invariant-loop-member
invariant-loop-member l =
    entries_at l.place (members_from (map member_of l.members)) []
    ≡ entries_at l.place (members_from (map member_of (drop l.member-index l.members))) (map entry_of l.entries.items)
