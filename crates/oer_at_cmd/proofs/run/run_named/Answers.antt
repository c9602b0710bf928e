use Rattle.oer_cmd.proofs.Endings.{keeps_same}
use Rattle.oer_at_cmd.specs.Answer.{at_of}
use Rattle.oer_at_cmd.proofs.Endings.{named_lost}
use Rattle.oer_at_cmd.proofs.run.run_named.Goals as goal

pub returns-clause-ends : goal.returns-clause-ends
returns-clause-ends g c =
    named_lost (at_of c.args.at) c.args.types.now c.args.name.now (g.R.Read.remaining c.args.input.now) c.in-Ok.types c.in-Err-named_type.fault c.report-in-Err-named_type.result _
    c.in-Ok.ensures.exact c.in-Err-named_type.ensures.exact c.report-in-Err-named_type.ensures.line (keeps_same (g.W.Write.contents c.args.output.now))
