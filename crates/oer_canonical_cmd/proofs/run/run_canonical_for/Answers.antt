use Rattle.std.proofs.Common.{inl, inr, map, refl, string_bytes}
use Rattle.oer_cmd.proofs.Endings.{words_end}
use Rattle.oer_canonical_cmd.proofs.run.run_canonical_for.Goals as goal

pub returns-in-Err-clause-exact : goal.returns-in-Err-clause-exact
returns-in-Err-clause-exact g c = words_end (map string_bytes c.args.words.now) _ c.in-Err.error c.refused.result _ c.in-Err.ensures.kinds c.in-Err.ensures.err
    c.refused.ensures.memory c.refused.ensures.shows c.refused.ensures.alone c.refused.ensures.words c.refused.ensures.quiet c.refused.ensures.failed
    c.refused.ensures.kept c.refused.ensures.line refl

pub returns-clause-exact : goal.returns-clause-exact
returns-clause-exact g c = inr (inl (record {
  options = c.in-Ok.options;
  asks = c.in-Ok.ensures.ok;
  answers = λ path of. c.finish.ensures.ended _ (c.strict_answer_for-line.ensures.exact path of);
  keeps = c.strict_answer_for-line.ensures.untouched;
}))
