use Rattle.std.proofs.Common.{◌∙◌, inl, inr, map, refl, string_bytes}
use Rattle.oer_types.specs.Schema.{the_type}
use Rattle.oer_cmd.proofs.Endings.{words_end}
use Rattle.oer_lines_cmd.proofs.Endings.{for_misuse, for_task, misused}
use Rattle.oer_lines_cmd.proofs.run.run_many_for.Goals as goal

pub returns-in-Err-clause-exact : goal.returns-in-Err-clause-exact
returns-in-Err-clause-exact g c = words_end (map string_bytes c.args.words.now) _ c.in-Err.error c.refused.result _ c.in-Err.ensures.kinds c.in-Err.ensures.err
    c.refused.ensures.memory c.refused.ensures.shows c.refused.ensures.alone c.refused.ensures.words c.refused.ensures.quiet c.refused.ensures.failed
    c.refused.ensures.kept c.refused.ensures.line refl

pub returns-in-Ok-of-clause-exact : goal.returns-in-Ok-of-clause-exact
returns-in-Ok-of-clause-exact g c = inr (inl (for_task (map string_bytes c.args.words.now) _ _ c.run_all.result _ c.in-Ok.options c.in-Ok.ensures.ok c.args.way
    (the_type c.args.schema.now) c.in-Ok-of.asked.way c.in-Ok-of.asked.tells_nesting c.in-Ok-of.asked.task c.in-Ok-of.asked.limit c.in-Ok-of.ensures.way
    (c.in-Ok-of.ensures.tells ∙ c.tells_nesting.ensures) c.in-Ok-of.ensures.task c.in-Ok-of.ensures.limit c.run_all.ensures.runs))

pub returns-in-Err-of-clause-exact : goal.returns-in-Err-of-clause-exact
returns-in-Err-of-clause-exact g c = inr (inl (for_misuse (map string_bytes c.args.words.now) _ _ c.tell.result _ c.in-Ok.options c.in-Ok.ensures.ok c.args.way
    (the_type c.args.schema.now) c.in-Err-of.misuse c.in-Err-of.ensures.task (misused c.in-Err-of.misuse _ c.tell.result _ _ _ refl c.tell.ensures.status c.tell.ensures.line)))
