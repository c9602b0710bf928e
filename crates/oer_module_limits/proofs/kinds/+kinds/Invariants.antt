use Rattle.std.proofs.Common.{◌≡◌, drop, map}
use Rattle.oer_module_limits.specs.Kinds.{stands_in_some}
use Rattle.oer_module_terms.specs.Trees.{elements_of, sets_from}
use Rattle.oer_module_limits.proofs.kinds.+kinds.Given as goal

abbrev pub invariant-stands_in_some-loop-member : goal.invariant-stands_in_some-loop-member
invariant-stands_in_some-loop-member l =
    stands_in_some l.kind (sets_from (map elements_of l.members)) ≡ stands_in_some l.kind (sets_from (map elements_of (drop l.member-index l.members)))
