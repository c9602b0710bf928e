use Rattle.std.proofs.Common.{arith}
use Rattle.std.proofs.lemmas.Int.{ints}
use Rattle.oer_module_bounds.proofs.ends.Range.end.Goals as goal

pub overflow_add-result : goal.overflow_add-result
overflow_add-result c = omega (arith, ints, c.args.self.below c.in-Some.number c.in-Some.is)

pub invariant_of-result : goal.invariant_of-result
invariant_of-result c = record { above = omega (arith, ints, c.args.self.below c.in-Some.number c.in-Some.is) }
