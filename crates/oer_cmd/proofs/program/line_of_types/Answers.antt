use Rattle.std.proofs.Common.{◌≡◌, ◌∙◌, String, Global, Err, Ok, true, arith, codes, subst, sym}
use Rattle.oer_options.specs.Words.{source_text}
use Rattle.oer_cmd.proofs.Choices.{passing}
use Rattle.std.proofs.lemmas.Grind.{common_steps}
use Rattle.std.proofs.lemmas.Result.{IfOk-weaker}
use Rattle.std.specs.Str.{bytes_eq}
use Rattle.oer_cmd.specs.Answer.{types_input}
use Rattle.oer_cmd.specs.Expected.{Meets}
use Rattle.oer_cmd.proofs.Meeting.{bytes, left}
use Rattle.oer_cmd.proofs.TypesInput.{lost_answer, read_answer, read_line, types_given}
use Rattle.oer_cmd.proofs.program.line_of_types.Goals as goal

pub returns-in_err-text-clause-exact : goal.returns-in_err-text-clause-exact
returns-in_err-text-clause-exact g c =
    let mark : bytes_eq c.args.types.now (codes "-") ≡ true = grind (arith, common_steps) in
    rw (left c.from_residual.result _ c.from_residual.ensures.1) (λ path of. lost_answer c.args.types.now c.args.name.now c.args.options.task c.args.options.limit path _ mark _
    (subst (λ s. Meets {X = String Global} bytes (types_input s (g.R.Read.remaining c.args.input.now)) (Err c.in_err-text.field-0.0))
    c.source.ensures c.in_err-text.ensures.exact))

pub returns-clause-exact : goal.returns-clause-exact
returns-clause-exact g c =
    let mark : bytes_eq c.args.types.now (codes "-") ≡ true = grind (arith, common_steps) in
    let read = subst (λ s. Meets bytes (types_input s (g.R.Read.remaining c.args.input.now)) (Ok c.in_ok-text.text))
    c.source.ensures c.in_ok-text.ensures.exact in
    λ path of. read_answer c.args.types.now c.args.name.now c.args.options.task c.args.options.limit path _ mark _ c.in_ok-text.text _
    c.line_of_named-2.result c.as_str.ensures.value read (c.line_of_named-2.ensures.exact path of)

pub returns-clause-line : goal.returns-clause-line
returns-clause-line g c =
    let mark : bytes_eq c.args.types.now (codes "-") ≡ true = grind (arith, common_steps) in
    let read = subst (λ s. Meets bytes (types_input s (g.R.Read.remaining c.args.input.now)) (Ok c.in_ok-text.text))
    c.source.ensures c.in_ok-text.ensures.exact in
    IfOk-weaker c.line_of_named-2.result _ _ (λ line h. read_line c.args.types.now c.args.name.now _ c.in_ok-text.text
    c.args.options.task c.args.options.limit _ _ _ mark c.as_str.ensures.value read h) c.line_of_named-2.ensures.line

pub returns-in_err-text-clause-takes : goal.returns-in_err-text-clause-takes
returns-in_err-text-clause-takes g c =
    let mark : bytes_eq c.args.types.now (codes "-") ≡ true = grind (arith, common_steps) in
    rw (left c.from_residual.result _ c.from_residual.ensures.1) (passing (bytes_eq c.args.types.now (codes "-")) _ _ mark
    (types_given (source_text c.args.options.task) _ _ _ _ (λ none. c.in_err-text.ensures.untouched (c.source.ensures ∙ none))
    (λ some. c.in_err-text.ensures.takes (λ none. some (sym c.source.ensures ∙ none)))))
