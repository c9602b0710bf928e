use Rattle.std.proofs.Common.{ap, map, string_bytes, sym, ◌∙◌, arith}
use Rattle.oer_module_options.specs.Scan.{Scan}
use Rattle.oer_module_cmd.specs.Errors.{memory}
use Rattle.oer_module_cmd.specs.Given.{given}
use Rattle.oer_module_cmd.proofs.Left.{for_any, kept}
use Rattle.oer_module_cmd.proofs.Steps.{no_words, unasked}
use Rattle.oer_module_cmd.proofs.given.type_given.Goals as goal

pub returns-in_default-clause-exact : goal.returns-in_default-clause-exact
returns-in_default-clause-exact g c = for_any (g.R.Read.remaining c.args.input.now)
    (λ xs. (no_words c.args.command c.args.words.now xs c.in_default.ensures.cases, kept (g.E.Write.contents c.args.errors.now)))

pub returns-in_default-scanned-clause-exact : goal.returns-in_default-scanned-clause-exact
returns-in_default-scanned-clause-exact g c = for_any (g.R.Read.remaining c.args.input.now) (λ xs. (memory, (λ e. absurd (omega (e, arith))), c.report.ensures.line))

pub returns-then-not-scan-clause-exact : goal.returns-then-not-scan-clause-exact
returns-then-not-scan-clause-exact g c =
    let none = ap (λ (s : Scan). s.has_modules) (sym c.in-Ok.ensures) ∙ c.if-not-scan.true in
    for_any (g.R.Read.remaining c.args.input.now) (λ xs. (
      ap (λ ws. given c.args.command (map string_bytes ws) xs) c.in-Some.ensures.cases.0 ∙ unasked c.args.command c.in-Some.program.now c.in-Some.rest.now xs none,
      kept (g.E.Write.contents c.args.errors.now),
    ))
