use Rattle.std.proofs.Common.{arith}
use Rattle.oer_input_cmd.proofs.Left.{for_any}
use Rattle.oer_input_cmd.proofs.input.read_octets.Goals as goal

pub returns-in-Err-clause-exact : goal.returns-in-Err-clause-exact
returns-in-Err-clause-exact g c = for_any (g.R.Read.remaining c.args.input.now) (λ xs e. absurd (omega (e, arith)))

pub returns-clause-exact : goal.returns-clause-exact
returns-clause-exact g c = for_any (g.R.Read.remaining c.args.input.now) (λ xs e. absurd (omega (e, arith)))
