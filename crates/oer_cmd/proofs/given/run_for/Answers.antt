use Rattle.std.proofs.Common.{inl, inr, arith, map, refl, string_bytes}
use Rattle.oer_types.specs.Schema.{the_type}
use Rattle.oer_cmd.specs.Answer.{task_answer}
use Rattle.oer_cmd.specs.Expected.{value}
use Rattle.oer_cmd.specs.Run.{IsLine, IsLineOf}
use Rattle.oer_cmd.proofs.Answered.{not_answered, tasks_refuse}
use Rattle.oer_cmd.proofs.Asking.{asked_later}
use Rattle.oer_cmd.proofs.Endings.{line_printed, words_end}
use Rattle.oer_cmd.proofs.Lines.{answers_words_for, none_answers_for}
use Rattle.oer_cmd.proofs.given.run_for.Goals as goal

pub returns-clause-prints : goal.returns-clause-prints
returns-clause-prints g c = λ taken none.
    let o = c.in-Ok.options in
    let T = the_type c.args.schema.now in
    let words = map string_bytes c.args.words.now in
    let told = g.R.Read.remaining c.args.input.now in
    line_printed c.line_of-answer.result (IsLineOf o.task told T o.limit) (IsLine T words told) _ c.line_of-answer.ensures.line
    (λ line h. answers_words_for T words o told line c.in-Ok.ensures.ok h) (c.conclude.ensures.prints none)

pub returns-clause-refuses : goal.returns-clause-refuses
returns-clause-refuses g c = λ taken low high.
    let o = c.in-Ok.options in
    let T = the_type c.args.schema.now in
    let told = g.R.Read.remaining c.args.input.now in
    none_answers_for T (map string_bytes c.args.words.now) o told c.in-Ok.ensures.ok
    (tasks_refuse T c.args.schema.now.well_formed o.task o.limit (let h = rw c.in-Ok.is at c.parsed.type_inv in omega (arith, h)) told
    (λ path of. not_answered (task_answer o.task T o.limit path told) c.line_of-answer.result c.conclude.result (c.line_of-answer.ensures.exact path of) (c.conclude.ensures.status high) low high))

pub returns-in-Err-clause-exact : goal.returns-in-Err-clause-exact
returns-in-Err-clause-exact g c = words_end (map string_bytes c.args.words.now) _ c.in-Err.error c.refused.result _ c.in-Err.ensures.kinds c.in-Err.ensures.err c.refused.ensures.memory
    c.refused.ensures.shows c.refused.ensures.alone c.refused.ensures.words c.refused.ensures.quiet c.refused.ensures.failed c.refused.ensures.kept c.refused.ensures.line refl

pub returns-clause-exact : goal.returns-clause-exact
returns-clause-exact g c = inr (inl (record {
  options = c.in-Ok.options;
  asks = c.in-Ok.ensures.ok;
  answers = λ path of. c.conclude.ensures.exact _ (c.line_of-answer.ensures.exact path of);
  keeps = c.line_of-answer.ensures.untouched;
}))

pub returns-in-Err-clause-takes : goal.returns-in-Err-clause-takes
returns-in-Err-clause-takes g c = inl (refl, λ small taken. (let three = c.refused.ensures.memory (c.in-Err.ensures.err taken) in omega (arith, small, three)))

pub returns-clause-takes : goal.returns-clause-takes
returns-clause-takes g c = inr (
  c.in-Ok.options,
  c.in-Ok.ensures.ok,
  asked_later (value (the_type c.args.schema.now)) c.in-Ok.options.task c.in-Ok.options.limit _ _ _ _ _ (λ small. omega (arith, c.conclude.ensures.status small, small)) c.line_of-answer.ensures.takes,
)
