use Rattle.std.proofs.Common.{inl, inr, map, refl, string_bytes}
use Rattle.oer_options.specs.Words.{behind, texts_of}
use Rattle.oer_cmd.proofs.Endings.{keeps_same, words_end}
use Rattle.oer_at_cmd.proofs.Endings.{asked_answer, lacking}
use Rattle.oer_at_cmd.proofs.run.run_at.Goals as goal

pub returns-in-Err-clause-exact : goal.returns-in-Err-clause-exact
returns-in-Err-clause-exact g c = words_end (map string_bytes c.args.words.now) _ c.in-Err.error c.refused.result _ c.in-Err.ensures.kinds c.in-Err.ensures.err
    c.refused.ensures.memory c.refused.ensures.shows c.refused.ensures.alone c.refused.ensures.words c.refused.ensures.quiet c.refused.ensures.failed
    c.refused.ensures.kept c.refused.ensures.line refl

pub returns-in-Err-type_text-clause-exact : goal.returns-in-Err-type_text-clause-exact
returns-in-Err-type_text-clause-exact g c =
    let o = c.in-Ok.options in
    let hex = behind c.in-Ok-hex_of.hex in
    let e = c.in-Err-type_text.ensures in
    let told = g.R.Read.remaining c.args.input.now in
    inr (inl (record {
      options = o;
      asks = c.in-Ok.ensures.ok;
      answers = asked_answer c.args.names.now o hex told c.report.result _ c.in-Ok-hex_of.ensures
          (lacking (record { names = c.args.names.now; hex = hex; limit = o.limit }) (texts_of o) told c.in-Err-type_text.fault c.report.result _
          e.unread e.lacking c.report.ensures.line (keeps_same (g.W.Write.contents c.args.output.now)));
      keeps = λ some own. refl;
    }))
