use Rattle.std.proofs.Common.{◌≡◌, drop, map}
use Rattle.oer_module_limits.specs.Marks.{are_marked}
use Rattle.oer_module_terms.specs.Trees.{elements_of, sets_from}
use Rattle.oer_module_limits.proofs.marks.+marks.Given as goal

abbrev pub invariant-are_marked-loop-member : goal.invariant-are_marked-loop-member
invariant-are_marked-loop-member l =
    are_marked (sets_from (map elements_of l.members)) ≡ are_marked (sets_from (map elements_of (drop l.member-index l.members)))
