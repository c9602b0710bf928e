use Rattle.std.proofs.Common.{arith, refl}
use Rattle.oer_units.proofs.Needed.{needed_is, needed_sixteen}
use Rattle.oer_units.proofs.writing.needed.Goals as goal

pub returns-clause-value : goal.returns-clause-value
returns-clause-value c = needed_is c.args.n c.max.result _ (omega arith) refl c.max.ensures

pub returns-clause-most : goal.returns-clause-most
returns-clause-most c = omega (arith, needed_is c.args.n c.max.result _ (omega arith) refl c.max.ensures, needed_sixteen c.args.n (omega arith))
