use Rattle.std.proofs.Common.{inl, inr, map, string_bytes, refl}
use Rattle.oer_options.specs.Words.{behind, texts_of}
use Rattle.oer_cmd.specs.Types.{texts_at}
use Rattle.oer_cmd.proofs.Endings.{keeps_same}
use Rattle.oer_compare_cmd.proofs.Endings.{does, lacking_end, not_taken}
use Rattle.oer_compare_cmd.proofs.run.run_words.Goals as goal

pub returns-in-Err-clause-ends : goal.returns-in-Err-clause-ends
returns-in-Err-clause-ends g c =
    let r = c.refused.ensures in
    inr (not_taken (map string_bytes c.args.words.now) c.in-Err.error c.refused.result _ r.memory c.in-Err.ensures.kinds c.in-Err.ensures.err r.kept r.shows r.alone r.words r.quiet r.failed)

pub returns-in-Ok-type_text-clause-ends : goal.returns-in-Ok-type_text-clause-ends
returns-in-Ok-type_text-clause-ends g c =
    inl (does (map string_bytes c.args.words.now) c.run_of.result _ c.in-Ok.asked (texts_at c.in-Ok-type_text.text)
    c.in-Ok.ensures.ok c.in-Ok-type_text.ensures.named c.run_of.ensures.ends)

pub returns-in-Err-type_text-clause-ends : goal.returns-in-Err-type_text-clause-ends
returns-in-Err-type_text-clause-ends g c =
    let a = c.in-Ok.asked in
    let t = texts_of a.options in
    let e = c.in-Err-type_text.ensures in
    inl (does (map string_bytes c.args.words.now) c.report.result _ a t c.in-Ok.ensures.ok refl
    (lacking_end t (behind a.with) (behind a.with_types) c.in-Err-type_text.fault c.report.result _ e.lacking
    c.report.ensures.line (keeps_same (g.W.Write.contents c.args.output.now))))
