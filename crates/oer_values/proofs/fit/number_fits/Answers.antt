use Rattle.std.proofs.Common.{arith}
use Rattle.std.proofs.lemmas.Grind.{common_steps}
use Rattle.oer_model.proofs.fitting.Ranges.{is_64_bits}
use Rattle.oer_values.proofs.fit.number_fits.Goals as goal

pub returns-then-extensible : goal.returns-then-extensible
returns-then-extensible c = let e = is_64_bits c.args.number c.ranges.number in grind (arith, common_steps, e)

pub returns-else-extensible : goal.returns-else-extensible
returns-else-extensible c = let e = is_64_bits c.args.number c.ranges.number in grind (arith, common_steps, e)
