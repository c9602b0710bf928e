use Rattle.std.proofs.Common.{subst, sym}
use Rattle.oer_types.specs.Schema.{the_type}
use Rattle.oer_lines_cmd.specs.Answers.{Answered, cut_refusal, to_taken}
use Rattle.oer_lines_cmd.specs.Tasks.{long_answer, octets_told}
use Rattle.oer_lines_cmd.specs.declared.way.Place.TheVariants.{Message}
use Rattle.oer_lines_cmd.proofs.Knowing.{long_known, octets_known}
use Rattle.oer_lines_cmd.proofs.Looping.{streams}
use Rattle.oer_lines_cmd.proofs.Putting.{refused}
use Rattle.oer_lines_cmd.proofs.frame.answer_frame.Goals as goal

pub returns-in-Whole-clause-exact : goal.returns-in-Whole-clause-exact
returns-in-Whole-clause-exact g c = λ path of.
    let ask = octets_told c.args.asked.tells_nesting c.args.asked.task (the_type c.args.schema.now) c.args.asked.limit path in
    let long = long_answer c.args.asked.task c.args.asked.limit path in
    subst (λ t. Answered (to_taken ask long c.args.number t c.args.octets.now) c.put_answer.result
    (streams (g.W.Write.contents c.args.output.now) (g.W.Write.contents c.put_answer.new.output)
    (g.E.Write.contents c.args.errors.now) (g.E.Write.contents c.put_answer.new.errors))) (sym c.in-Whole.is)
    (c.put_answer.ensures.exact (ask c.args.octets.now)
    (octets_known c.args.asked.tells_nesting c.args.asked.task (the_type c.args.schema.now) c.args.asked.limit path c.args.octets.now of)
    (c.told_line-answer.ensures path of))

pub returns-in-Long-clause-exact : goal.returns-in-Long-clause-exact
returns-in-Long-clause-exact g c = λ path of.
    let ask = octets_told c.args.asked.tells_nesting c.args.asked.task (the_type c.args.schema.now) c.args.asked.limit path in
    let long = long_answer c.args.asked.task c.args.asked.limit path in
    subst (λ t. Answered (to_taken ask long c.args.number t c.args.octets.now) c.put_answer-in-Long.result
    (streams (g.W.Write.contents c.args.output.now) (g.W.Write.contents c.put_answer-in-Long.new.output)
    (g.E.Write.contents c.args.errors.now) (g.E.Write.contents c.put_answer-in-Long.new.errors))) (sym c.in-Long.is)
    (c.put_answer-in-Long.ensures.exact long (long_known c.args.asked.task c.args.asked.limit path of) (c.long_fault.ensures path of))

pub returns-in-Cut-clause-exact : goal.returns-in-Cut-clause-exact
returns-in-Cut-clause-exact g c = λ path of.
    let ask = octets_told c.args.asked.tells_nesting c.args.asked.task (the_type c.args.schema.now) c.args.asked.limit path in
    let long = long_answer c.args.asked.task c.args.asked.limit path in
    subst (λ t. Answered (to_taken ask long c.args.number t c.args.octets.now) c.reject.result
    (streams (g.W.Write.contents c.args.output.now) (g.W.Write.contents c.reject.new.output)
    (g.E.Write.contents c.args.errors.now) (g.E.Write.contents c.reject.new.errors))) (sym c.in-Cut.is)
    (refused (cut_refusal c.in-Cut.there) (Message c.args.number) c.reject.result
    (g.W.Write.contents c.args.output.now) (g.W.Write.contents c.reject.new.output)
    (g.E.Write.contents c.args.errors.now) (g.E.Write.contents c.reject.new.errors) c.reject.ensures)
