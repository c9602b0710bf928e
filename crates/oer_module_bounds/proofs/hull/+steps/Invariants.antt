use Rattle.oer_module_bounds.proofs.Members.{Tallied}
use Rattle.oer_module_bounds.proofs.hull.+steps.Given as goal

abbrev pub invariant-tally_of-loop-member : goal.invariant-tally_of-loop-member
invariant-tally_of-loop-member l = Tallied l.tally l.unknown l.members l.member-index
