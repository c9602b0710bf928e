use Rattle.std.proofs.Common.{arith}
use Rattle.std.proofs.lemmas.Grind.{common_steps}
use Rattle.oer_model.proofs.fitting.Ranges.{is_128_bits}
use Rattle.oer_values.proofs.fit.is_in_range.Goals as goal

pub returns-then-is_above : goal.returns-then-is_above
returns-then-is_above c =
    let e = is_128_bits c.args.low c.args.high c.args.number c.ranges.number in
    grind (arith, common_steps, e)

pub returns-else-is_above : goal.returns-else-is_above
returns-else-is_above c =
    let e = is_128_bits c.args.low c.args.high c.args.number c.ranges.number in
    grind (arith, common_steps, e)
