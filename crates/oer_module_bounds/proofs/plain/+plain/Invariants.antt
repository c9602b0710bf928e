use Rattle.std.proofs.Common.{◌≡◌, drop, map}
use Rattle.oer_module_bounds.specs.Loose.{are_plain}
use Rattle.oer_module_bounds.specs.Sets.{set_of, sets_from}
use Rattle.oer_module_bounds.proofs.plain.+plain.Given as goal

abbrev pub invariant-are_plain-loop-member : goal.invariant-are_plain-loop-member
invariant-are_plain-loop-member l =
    are_plain (sets_from (map set_of l.members)) ≡ are_plain (sets_from (map set_of (drop l.member-index l.members)))
