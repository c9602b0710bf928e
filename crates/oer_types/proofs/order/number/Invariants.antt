use Rattle.oer_types.specs.NameOrder.{AreNumbered}
use Rattle.oer_types.proofs.order.number.Given as goal

abbrev pub invariant-loop-index : goal.invariant-loop-index
invariant-loop-index l = AreNumbered l.order l.index
