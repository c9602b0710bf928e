use Rattle.std.proofs.Common.{◌≡◌, length, arith}
use Rattle.std.proofs.lemmas.Grind.{common_steps}
use Rattle.oer_values.proofs.FitSteps.{counted_values}
use Rattle.oer_values.proofs.Values.{value_of-List}
use Rattle.oer_json.proofs.parts.sized.Goals as goal

pub returns-then-not-allows : goal.returns-then-not-allows
returns-then-not-allows c =
    let k = counted_values c.args.values.items in
    let n : c.len.result ≡ length c.args.values.items = omega (arith, c.args.values.ok.0) in
    grind (arith, common_steps, k, n)

pub returns : goal.returns
returns c =
    let k = counted_values c.args.values.items in
    let n : c.len.result ≡ length c.args.values.items = omega (arith, c.args.values.ok.0) in
    rw (value_of-List c.args.values) (grind (arith, common_steps, k, n))
