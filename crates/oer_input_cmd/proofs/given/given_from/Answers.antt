use Rattle.std.proofs.Common.{map, string_bytes, sym, ap, ◌∙◌, arith}
use Rattle.oer_input_cmd.specs.Asked.{asked_by}
use Rattle.oer_input_cmd.proofs.Left.{for_any}
use Rattle.oer_input_cmd.proofs.Steps.{at_fault, unasked}
use Rattle.oer_input_cmd.proofs.given.given_from.Goals as goal

pub returns-in_default-clause-exact : goal.returns-in_default-clause-exact
returns-in_default-clause-exact g c = for_any (g.R.Read.remaining c.args.input.now) (λ xs e. absurd (omega (e, arith)))

pub returns-in-Ok-None-clause-exact : goal.returns-in-Ok-None-clause-exact
returns-in-Ok-None-clause-exact g c =
    let none = rw c.in-Ok-None.field-0-is at c.in-Ok-None.ensures in
    let is = ap (λ s. asked_by c.args.program s) (sym c.in-Ok.ensures) ∙ sym none in
    for_any (g.R.Read.remaining c.args.input.now) (λ xs. unasked c.args.program (map string_bytes c.args.words.now) xs is)

pub returns-in-Err-clause-exact : goal.returns-in-Err-clause-exact
returns-in-Err-clause-exact g c =
    let is = ap (λ s. asked_by c.args.program s) (sym c.in-Ok.ensures) ∙ sym c.in-Err.ensures in
    for_any (g.R.Read.remaining c.args.input.now) (λ xs two. at_fault c.args.program (map string_bytes c.args.words.now) xs c.in-Err.error is)
