use Rattle.std.proofs.Common.{◌≡◌, true, arith, codes, Some, None}
use Rattle.std.proofs.lemmas.Grind.{common_steps}
use Rattle.std.specs.Str.{bytes_eq}
use Rattle.oer_cmd.proofs.Endings.{keeps_same}
use Rattle.oer_example_cmd.proofs.Endings.{lost_answer}
use Rattle.oer_example_cmd.proofs.run.run_types.Goals as goal

pub returns-in-Err-clause-ends : goal.returns-in-Err-clause-ends
returns-in-Err-clause-ends g c =
    let mark : bytes_eq c.args.types.now (codes "-") ≡ true = grind (arith, common_steps) in
    lost_answer c.args.wanted (record { one = None; types = Some c.args.types.now; name = Some c.args.name.now })
    (g.R.Read.remaining c.args.input.now) c.in-Err.fault c.report.result _
    mark c.in-Err.ensures.exact c.report.ensures.line (keeps_same (g.W.Write.contents c.args.output.now))
