use Rattle.std.proofs.Common.{◌≢◌, ◌∙◌, None, ap, arith, string_bytes, sym}
use Rattle.oer_options.specs.Words.{behind, path_text, source_text}
use Rattle.oer_types.specs.Schema.{the_type}
use Rattle.oer_cmd.proofs.Asking.{asked}
use Rattle.oer_cmd.proofs.Meeting.{meets, named}
use Rattle.oer_cmd.proofs.Answered.{line_given, read_meets, some_given}
use Rattle.oer_cmd.proofs.TypesInput.{task_kept}
use Rattle.oer_cmd.proofs.program.line_of.Goals as goal

pub returns-in-Some-clause-line : goal.returns-in-Some-clause-line
returns-in-Some-clause-line g c = line_given (the_type c.args.schema.now) c.args.schema.now.well_formed c.args.options.task c.args.options.limit (omega arith) _ _
    c.line_given.result (sym c.source.ensures ∙ ap behind c.in-Some.is) c.line_given.ensures.spells c.line_given.ensures.exact

pub returns-in-Some-clause-exact : goal.returns-in-Some-clause-exact
returns-in-Some-clause-exact g c = λ path of.
    let given : source_text c.args.options.task ≢ None = some_given _ _ (sym c.source.ensures ∙ ap behind c.in-Some.is) in
    meets string_bytes _ c.line_given.result (named string_bytes _ _ c.line_given.result
    (task_kept c.args.options.task (the_type c.args.schema.now) c.args.options.limit path _ None given) (c.line_given.ensures.exact path of))

pub returns-in-None-clause-exact : goal.returns-in-None-clause-exact
returns-in-None-clause-exact g c = λ path of. read_meets (the_type c.args.schema.now) c.args.options.task c.args.options.limit path _ c.line_read.result
    (sym c.source.ensures ∙ ap behind c.in-None.is) of (c.line_read.ensures.exact path of) (λ lacks. (c.line_read.ensures.pathless lacks).1)

pub returns-in-None-clause-takes : goal.returns-in-None-clause-takes
returns-in-None-clause-takes g c = λ path of.
    asked (the_type c.args.schema.now) (source_text c.args.options.task) (path_text c.args.options.task) path _ _ (sym c.source.ensures ∙ ap behind c.in-None.is)
    c.line_read.ensures.takes (λ lacks. (c.line_read.ensures.pathless lacks).0) of
