use Rattle.oer_types.specs.Schema.{the_type}
use Rattle.oer_lines_cmd.proofs.Digits.{no_text, same_digits}
use Rattle.oer_lines_cmd.proofs.line.line_of_message.Goals as goal

pub returns-in-Ok : goal.returns-in-Ok
returns-in-Ok c = same_digits c.args.asked.tells_nesting c.args.asked.task (the_type c.args.schema.now) c.args.asked.limit c.in-Ok.digits.now c.args.line.now
    c.line_of_digits.result c.in-Ok.ensures.cases.0 c.line_of_digits.ensures

pub returns-in-Err : goal.returns-in-Err
returns-in-Err c = λ path of. no_text c.args.asked.tells_nesting c.args.asked.task (the_type c.args.schema.now) c.args.asked.limit path c.args.line.now
    c.in-Err.ensures.cases.0
