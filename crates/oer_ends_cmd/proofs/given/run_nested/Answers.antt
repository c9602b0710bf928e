use Rattle.std.proofs.Common.{inl, inr, map, refl, string_bytes}
use Rattle.oer_cmd.proofs.Endings.{broken_end, keeps_same, printed_end, refused_end, words_end}
use Rattle.oer_ends_cmd.proofs.given.run_nested.Goals as goal

pub returns-in-Err-clause-exact : goal.returns-in-Err-clause-exact
returns-in-Err-clause-exact g c = words_end (map string_bytes c.args.words.now) _ c.in-Err.error c.refused.result _ c.in-Err.ensures.kinds c.in-Err.ensures.err
    c.refused.ensures.memory c.refused.ensures.shows c.refused.ensures.alone c.refused.ensures.words c.refused.ensures.quiet c.refused.ensures.failed
    c.refused.ensures.kept c.refused.ensures.line refl

pub returns-in-Err-nested_line-clause-exact : goal.returns-in-Err-nested_line-clause-exact
returns-in-Err-nested_line-clause-exact g c = inr (inl (record {
  options = c.in-Ok.options;
  asks = c.in-Ok.ensures.ok;
  answers = λ path of. refused_end _ c.in-Err-nested_line.fault c.report.result _
      (c.in-Err-nested_line.ensures.exact path of) c.report.ensures.line (keeps_same (g.W.Write.contents c.args.output.now));
  keeps = c.in-Err-nested_line.ensures.untouched;
}))

pub returns-in-Ok-print_line-clause-exact : goal.returns-in-Ok-print_line-clause-exact
returns-in-Ok-print_line-clause-exact g c = inr (inl (record {
  options = c.in-Ok.options;
  asks = c.in-Ok.ensures.ok;
  answers = λ path of. printed_end _ c.in-Ok-nested_line.line _
      (c.in-Ok-nested_line.ensures.exact path of) c.in-Ok-print_line.ensures.printed (keeps_same (g.E.Write.contents c.args.errors.now));
  keeps = c.in-Ok-nested_line.ensures.untouched;
}))

pub returns-in-Err-print_line-clause-exact : goal.returns-in-Err-print_line-clause-exact
returns-in-Err-print_line-clause-exact g c = inr (inl (record {
  options = c.in-Ok.options;
  asks = c.in-Ok.ensures.ok;
  answers = λ path of. broken_end _ c.in-Ok-nested_line.line c.in-Err-print_line.fault c.report-in-Err-print_line.result _
      (c.in-Ok-nested_line.ensures.exact path of) c.in-Err-print_line.ensures.printed c.report-in-Err-print_line.ensures.line;
  keeps = c.in-Ok-nested_line.ensures.untouched;
}))
