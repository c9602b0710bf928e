use Rattle.std.proofs.Common.{refl}
use Rattle.oer_types.specs.Schema.{the_type}
use Rattle.oer_types.specs.declared.schema.Schema.{Schema}
use Rattle.oer_notation.specs.Parsing.{parse}
use Rattle.oer_cmd.specs.Answer.{parsed}
use Rattle.oer_lines_cmd.proofs.Endings.{by_fault, by_type}
use Rattle.oer_lines_cmd.proofs.Knowing.{parsed_known}
use Rattle.oer_lines_cmd.proofs.run.run_one.Goals as goal

pub returns-in-Ok-clause-runs : goal.returns-in-Ok-clause-runs
returns-in-Ok-clause-runs g c = by_type c.args.asked.way c.args.asked.task c.args.asked.limit _ _ the_type (parsed (parse c.args.text.now)) c.in-Ok.schema c.args.asked.tells_nesting c.run_all.result _
    c.requires (parsed_known (parse c.args.text.now)) c.in-Ok.ensures.exact c.run_all.ensures.runs

pub returns-in-Err-clause-runs : goal.returns-in-Err-clause-runs
returns-in-Err-clause-runs g c = by_fault c.args.asked.way c.args.asked.task c.args.asked.limit _ _ {X = Schema} the_type (parsed (parse c.args.text.now)) c.in-Err.fault c.report.result _ _ _
    (parsed_known (parse c.args.text.now)) c.in-Err.ensures.exact c.report.ensures.line refl
