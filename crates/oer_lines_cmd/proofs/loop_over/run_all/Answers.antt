use Rattle.oer_types.specs.Schema.{the_type}
use Rattle.oer_lines_cmd.proofs.Messages.{run_answered, run_failed}
use Rattle.oer_lines_cmd.proofs.loop_over.run_all.Goals as goal

pub returns-in-Ok-clause-runs : goal.returns-in-Ok-clause-runs
returns-in-Ok-clause-runs g c = run_answered c.args.asked.way c.args.asked.tells_nesting c.args.asked.task (the_type c.args.schema.now) c.args.asked.limit _ c.in-Ok.status _ c.in-Ok.ensures.exact

pub returns-in-Err-clause-runs : goal.returns-in-Err-clause-runs
returns-in-Err-clause-runs g c = run_failed c.args.asked.way c.args.asked.tells_nesting c.args.asked.task (the_type c.args.schema.now) c.args.asked.limit _ c.in-Err.failure c.fault.result
    c.report.result _ _ _ _ _ c.in-Err.ensures.exact c.fault.ensures.line c.fault.ensures.status c.report.ensures.line
