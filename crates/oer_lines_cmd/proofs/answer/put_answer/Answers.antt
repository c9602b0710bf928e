use Rattle.std.proofs.Common.{subst}
use Rattle.oer_cmd.specs.Expected.{Meets}
use Rattle.oer_cmd.proofs.Meeting.{bytes}
use Rattle.oer_lines_cmd.proofs.Putting.{broken, cut, rejected, shown}
use Rattle.oer_lines_cmd.proofs.answer.put_answer.Goals as goal

pub returns-in-Ok-put_line-clause-exact : goal.returns-in-Ok-put_line-clause-exact
returns-in-Ok-put_line-clause-exact g c = λ x known meets. shown x c.args.place c.in-Ok.line
    (g.W.Write.contents c.args.output.now) (g.W.Write.contents c.put_line.new.output) (g.E.Write.contents c.args.errors.now) known
    (subst (λ r. Meets bytes x r) c.in-Ok.is meets) c.in-Ok-put_line.ensures

pub returns-in-Err-put_line-clause-exact : goal.returns-in-Err-put_line-clause-exact
returns-in-Err-put_line-clause-exact g c = λ x known meets. cut x c.args.place c.in-Ok.line c.in-Err-put_line.failure
    (g.W.Write.contents c.args.output.now) (g.W.Write.contents c.put_line.new.output) (g.E.Write.contents c.args.errors.now) known
    (subst (λ r. Meets bytes x r) c.in-Ok.is meets) c.in-Err-put_line.ensures

pub returns-in-None-clause-exact : goal.returns-in-None-clause-exact
returns-in-None-clause-exact g c = λ x known meets. rejected x c.args.place c.in-Err.fault c.reject.result
    (g.W.Write.contents c.args.output.now) (g.W.Write.contents c.reject.new.output) (g.E.Write.contents c.args.errors.now) (g.E.Write.contents c.reject.new.errors)
    known (subst (λ r. Meets bytes x r) c.in-Err.is meets) c.in-None.ensures c.reject.ensures

pub returns-in-Some-clause-exact : goal.returns-in-Some-clause-exact
returns-in-Some-clause-exact g c = λ x known meets. broken x c.args.place c.in-Some.failure (g.W.Write.contents c.args.output.now) (g.E.Write.contents c.args.errors.now)
