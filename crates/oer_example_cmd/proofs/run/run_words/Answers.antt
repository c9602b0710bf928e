use Rattle.std.proofs.Common.{inl, inr, map, string_bytes, refl}
use Rattle.oer_options.specs.Words.{texts_of}
use Rattle.oer_cmd.specs.Types.{texts_at}
use Rattle.oer_cmd.proofs.Endings.{keeps_same}
use Rattle.oer_example_cmd.proofs.Endings.{both_refused, does, lacking_end, not_taken}
use Rattle.oer_example_cmd.proofs.run.run_words.Goals as goal

pub returns-in-Err-clause-ends : goal.returns-in-Err-clause-ends
returns-in-Err-clause-ends g c =
    let r = c.refused.ensures in
    inr (not_taken (map string_bytes c.args.words.now) c.in-Err.error c.refused.result _ r.memory c.in-Err.ensures.kinds c.in-Err.ensures.err r.kept r.shows r.alone r.words r.quiet r.failed)

pub returns-in_default-clause-ends : goal.returns-in_default-clause-ends
returns-in_default-clause-ends g c =
    inl (both_refused (map string_bytes c.args.words.now) (g.R.Read.remaining c.args.input.now) c.refuse_both.result _ c.in-Ok.asked c.wanted_of.result c.in-Ok.ensures.ok
    c.wanted_of.ensures c.in_default.is c.refuse_both.ensures.two (keeps_same (g.W.Write.contents c.args.output.now)) c.refuse_both.ensures.said)

pub returns-in-Ok-type_text-clause-ends : goal.returns-in-Ok-type_text-clause-ends
returns-in-Ok-type_text-clause-ends g c =
    inl (does (map string_bytes c.args.words.now) (g.R.Read.remaining c.args.input.now) c.run_of.result _ c.in-Ok.asked c.wanted_of.result c.in-Some.wanted (texts_at c.in-Ok-type_text.text)
    c.in-Ok.ensures.ok c.in-Ok-type_text.ensures.named c.wanted_of.ensures c.in-Some.is c.run_of.ensures.ends)

pub returns-in-Err-type_text-clause-ends : goal.returns-in-Err-type_text-clause-ends
returns-in-Err-type_text-clause-ends g c =
    let t = texts_of c.in-Ok.asked.options in
    let e = c.in-Err-type_text.ensures in
    inl (does (map string_bytes c.args.words.now) (g.R.Read.remaining c.args.input.now) c.report.result _ c.in-Ok.asked c.wanted_of.result c.in-Some.wanted t c.in-Ok.ensures.ok refl
    c.wanted_of.ensures c.in-Some.is
    (lacking_end c.in-Some.wanted t (g.R.Read.remaining c.args.input.now) c.in-Err-type_text.fault c.report.result _ e.unread e.lacking
    c.report.ensures.line (keeps_same (g.W.Write.contents c.args.output.now))))
