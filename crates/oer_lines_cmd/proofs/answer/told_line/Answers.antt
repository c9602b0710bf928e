use Rattle.oer_types.specs.Schema.{the_type}
use Rattle.oer_lines_cmd.proofs.Telling.{fault_same, fault_told, line_told}
use Rattle.oer_lines_cmd.proofs.answer.told_line.Goals as goal

pub returns-in-Ok : goal.returns-in-Ok
returns-in-Ok c = λ path of. line_told c.args.asked.tells_nesting c.args.asked.task (the_type c.args.schema.now) c.args.asked.limit path c.args.octets.now
    c.in-Ok.line (c.in-Ok.ensures path of)

pub returns-then-not-asked : goal.returns-then-not-asked
returns-then-not-asked c = λ path of. fault_same c.args.asked.tells_nesting c.args.asked.task (the_type c.args.schema.now) c.args.asked.limit path
    c.args.octets.now c.in-Err.fault c.if-not-asked.true (c.in-Err.ensures path of)

pub returns : goal.returns
returns c = λ path of. fault_told c.args.asked.tells_nesting c.args.asked.task (the_type c.args.schema.now) c.args.asked.limit path c.args.octets.now
    c.in-Err.fault c.told.result c.if-not-asked.false (c.in-Err.ensures path of) c.told.ensures
