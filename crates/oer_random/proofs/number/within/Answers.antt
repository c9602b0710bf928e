use Rattle.std.proofs.Common.{arith}
use Rattle.std.proofs.lemmas.Grind.{common_steps}
use Rattle.oer_random.proofs.Bounds.{kept_below}
use Rattle.oer_random.proofs.number.within.Goals as goal

pub returns-then-distance-most-clause-value : goal.returns-then-distance-most-clause-value
returns-then-distance-most-clause-value c =
    let e = kept_below c.args.distance c.abs_diff-most.result c.if-distance-most.true in grind (arith, common_steps, e)
