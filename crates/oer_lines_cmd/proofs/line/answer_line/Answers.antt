use Rattle.std.proofs.Common.{◌∙◌, sym}
use Rattle.oer_types.specs.Schema.{the_type}
use Rattle.oer_lines_cmd.specs.Tasks.{answer_told}
use Rattle.oer_lines_cmd.proofs.Digits.{told_known}
use Rattle.oer_lines_cmd.proofs.Putting.{on_line}
use Rattle.oer_lines_cmd.proofs.line.answer_line.Goals as goal

pub returns-clause-exact : goal.returns-clause-exact
returns-clause-exact g c = λ path of.
    let T = the_type c.args.schema.now in
    on_line (answer_told c.args.asked.tells_nesting c.args.asked.task T c.args.asked.limit path) c.args.number c.args.line.now c.put_answer.result
    (g.W.Write.contents c.args.output.now) (g.W.Write.contents c.put_answer.new.output)
    (g.E.Write.contents c.args.errors.now) (g.E.Write.contents c.put_answer.new.errors)
    (sym c.is_message.ensures ∙ c.if-not-is_message.false)
    (c.put_answer.ensures.exact (answer_told c.args.asked.tells_nesting c.args.asked.task T c.args.asked.limit path c.args.line.now)
    (told_known c.args.asked.tells_nesting c.args.asked.task T c.args.asked.limit path c.args.line.now of) (c.line_of_message-answer.ensures path of))
