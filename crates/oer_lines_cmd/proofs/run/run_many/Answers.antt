use Rattle.std.proofs.Common.{inl, inr, map, refl, string_bytes}
use Rattle.oer_options.specs.Words.{texts_of}
use Rattle.oer_cmd.specs.Types.{texts_at}
use Rattle.oer_cmd.proofs.Endings.{words_end}
use Rattle.oer_lines_cmd.proofs.Endings.{by_misuse, by_task, misused, renamed, typeless}
use Rattle.oer_lines_cmd.proofs.run.run_many.Goals as goal

pub returns-in-Err-clause-exact : goal.returns-in-Err-clause-exact
returns-in-Err-clause-exact g c = words_end (map string_bytes c.args.words.now) _ c.in-Err.error c.refused.result _ c.in-Err.ensures.kinds c.in-Err.ensures.err
    c.refused.ensures.memory c.refused.ensures.shows c.refused.ensures.alone c.refused.ensures.words c.refused.ensures.quiet c.refused.ensures.failed
    c.refused.ensures.kept c.refused.ensures.line refl

pub returns-in-Err-of-clause-exact : goal.returns-in-Err-of-clause-exact
returns-in-Err-of-clause-exact g c = inr (inl (by_misuse (map string_bytes c.args.words.now) _ _ c.tell.result _ c.in-Ok.options c.in-Ok.ensures.ok c.args.way
    c.in-Err-of.misuse c.in-Err-of.ensures.task (misused c.in-Err-of.misuse _ c.tell.result _ _ _ refl c.tell.ensures.status c.tell.ensures.line)))

pub returns-in-Ok-type_text-clause-exact : goal.returns-in-Ok-type_text-clause-exact
returns-in-Ok-type_text-clause-exact g c = inr (inl (by_task (map string_bytes c.args.words.now) _ _ c.run_of.result _ c.in-Ok.options c.in-Ok.ensures.ok c.args.way
    c.in-Ok-of.asked.way c.in-Ok-of.asked.task c.in-Ok-of.asked.limit c.in-Ok-of.ensures.way c.in-Ok-of.ensures.task c.in-Ok-of.ensures.limit
    (renamed c.in-Ok-of.asked.way c.in-Ok-of.asked.task c.in-Ok-of.asked.limit _ _ (texts_at c.in-Ok-type_text.text) (texts_of c.in-Ok.options) c.run_of.result _
    c.in-Ok-type_text.ensures.named c.run_of.ensures.runs)))

pub returns-in-Err-type_text-clause-exact : goal.returns-in-Err-type_text-clause-exact
returns-in-Err-type_text-clause-exact g c = inr (inl (by_task (map string_bytes c.args.words.now) _ _ c.report.result _ c.in-Ok.options c.in-Ok.ensures.ok c.args.way
    c.in-Ok-of.asked.way c.in-Ok-of.asked.task c.in-Ok-of.asked.limit c.in-Ok-of.ensures.way c.in-Ok-of.ensures.task c.in-Ok-of.ensures.limit
    (typeless c.in-Ok-of.asked.way c.in-Ok-of.asked.task c.in-Ok-of.asked.limit _ _ (texts_of c.in-Ok.options) c.in-Err-type_text.fault c.report.result _ _ _
    c.in-Err-type_text.ensures.unread c.in-Err-type_text.ensures.lacking c.report.ensures.line refl)))
