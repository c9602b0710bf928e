use Rattle.std.proofs.Common.{refl}
use Rattle.oer_input_cmd.proofs.Left.{for_any}
use Rattle.oer_input_cmd.proofs.given.octets_for.Goals as goal

pub returns-in-Raw-clause-exact : goal.returns-in-Raw-clause-exact
returns-in-Raw-clause-exact g c = for_any (g.R.Read.remaining c.args.input.now) (λ xs. rw c.in-Raw.is refl)
