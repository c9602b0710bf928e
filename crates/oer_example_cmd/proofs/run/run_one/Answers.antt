use Rattle.std.proofs.Common.{Some, None}
use Rattle.oer_types.specs.Schema.{the_type}
use Rattle.oer_types.specs.declared.schema.Schema.{Schema}
use Rattle.oer_cmd.specs.Answer.{expected_type}
use Rattle.oer_cmd.proofs.Endings.{keeps_same}
use Rattle.oer_example_cmd.specs.Ending.{example_of}
use Rattle.oer_example_cmd.proofs.Endings.{refused_next}
use Rattle.oer_example_cmd.proofs.run.run_one.Goals as goal

pub returns-in-Err-clause-ends : goal.returns-in-Err-clause-ends
returns-in-Err-clause-ends g c =
    let m = expected_type (record { one = Some c.args.text.now; types = None; name = None }) in
    refused_next {X = Schema} the_type m (example_of c.args.wanted) c.in-Err.fault c.report.result _
    c.in-Err.ensures.exact c.report.ensures.line (keeps_same (g.W.Write.contents c.args.output.now))
