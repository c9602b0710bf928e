use Rattle.std.proofs.Common.{◌∙◌, string_bytes, ap, subst}
use Rattle.std.proofs.lemmas.Result.{IfOk-weaker}
use Rattle.oer_types.specs.Schema.{the_type}
use Rattle.oer_example_cmd.specs.Line.{IsTakenAs, line_of}
use Rattle.oer_example_cmd.proofs.line.random_line.Goals as goal

pub returns-clause-line : goal.returns-clause-line
returns-clause-line c =
    IfOk-weaker c.text_of.result _ _ (λ line h. h ∙ ap (line_of (the_type c.args.schema.now)) c.in_ok-value.ensures.made) c.text_of.ensures.line

pub returns-clause-taken : goal.returns-clause-taken
returns-clause-taken c =
    IfOk-weaker c.text_of.result _ _ (λ line h. subst (λ v. IsTakenAs (the_type c.args.schema.now) v (string_bytes line)) c.in_ok-value.ensures.made h) c.text_of.ensures.taken
