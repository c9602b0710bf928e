use Rattle.std.proofs.Common.{inl, inr, arith, map, refl, string_bytes}
use Rattle.oer_options.specs.Words.{texts_of}
use Rattle.oer_cmd.specs.Answer.{expected_answer}
use Rattle.oer_cmd.specs.Run.{IsLineAsked, IsLineGiven}
use Rattle.oer_cmd.proofs.Answered.{not_answered, texts_refuse}
use Rattle.oer_cmd.proofs.Asking.{for_later}
use Rattle.oer_cmd.proofs.Endings.{line_printed, words_end}
use Rattle.oer_cmd.proofs.Lines.{answers_words, none_answers}
use Rattle.oer_cmd.proofs.program.run.Goals as goal

pub returns-clause-prints : goal.returns-clause-prints
returns-clause-prints g c = λ taken none.
    let o = c.in-Ok.options in
    let words = map string_bytes c.args.words.now in
    let told = g.R.Read.remaining c.args.input.now in
    line_printed c.answer.result (IsLineGiven (texts_of o) o.task o.limit told) (IsLineAsked words told) _ c.answer.ensures.line
    (λ line h. answers_words words o told line c.in-Ok.ensures.ok h) (c.conclude.ensures.prints none)

pub returns-clause-refuses : goal.returns-clause-refuses
returns-clause-refuses g c = λ taken low high.
    let o = c.in-Ok.options in
    let told = g.R.Read.remaining c.args.input.now in
    none_answers (map string_bytes c.args.words.now) o told c.in-Ok.ensures.ok
    (texts_refuse c.what_is_spelled_is_parsed.ensures.one c.what_is_spelled_is_parsed.ensures.all (texts_of o) o.task o.limit (let h = rw c.in-Ok.is at c.parsed.type_inv in omega (arith, h)) told
    (λ path of. not_answered (expected_answer o path told) c.answer.result c.conclude.result (c.answer.ensures.exact path of) (c.conclude.ensures.status high) low high))

pub returns-in-Err-clause-exact : goal.returns-in-Err-clause-exact
returns-in-Err-clause-exact g c = words_end (map string_bytes c.args.words.now) _ c.in-Err.error c.refused.result _ c.in-Err.ensures.kinds c.in-Err.ensures.err c.refused.ensures.memory
    c.refused.ensures.shows c.refused.ensures.alone c.refused.ensures.words c.refused.ensures.quiet c.refused.ensures.failed c.refused.ensures.kept c.refused.ensures.line refl

pub returns-clause-exact : goal.returns-clause-exact
returns-clause-exact g c = inr (inl (record {
  options = c.in-Ok.options;
  asks = c.in-Ok.ensures.ok;
  answers = λ path of. c.conclude.ensures.exact _ (c.answer.ensures.exact path of);
  keeps = c.answer.ensures.untouched;
}))

pub returns-in-Err-clause-takes : goal.returns-in-Err-clause-takes
returns-in-Err-clause-takes g c = inl (refl, λ small taken. (let three = c.refused.ensures.memory (c.in-Err.ensures.err taken) in omega (arith, small, three)))

pub returns-clause-takes : goal.returns-clause-takes
returns-clause-takes g c = inr (
  c.in-Ok.options,
  c.in-Ok.ensures.ok,
  for_later c.in-Ok.options _ _ _ _ _ (λ small. omega (arith, c.conclude.ensures.status small, small)) c.answer.ensures.takes,
)
