use Rattle.std.proofs.Common.{◌≡◌, false, true, inl, inr, subst, sym, arith}
use Rattle.oer_module_options.specs.Scan.{Scan}
use Rattle.oer_types_cmd.specs.Answer.{scan_answer}
use Rattle.oer_types_cmd.specs.Asking.{reads_by}
use Rattle.oer_types_cmd.specs.Ending.{Ends, PrintsBy}
use Rattle.oer_types_cmd.specs.declared.help.TheConstants.{HELP as the_help}
use Rattle.oer_types_cmd.proofs.Ends.{at_three, kept}
use Rattle.oer_types_cmd.proofs.Inputs.{none_taken}
use Rattle.oer_types_cmd.proofs.types.run_words.Goals as goal

pub returns-in-Ok-clause-printed : goal.returns-in-Ok-clause-printed
returns-in-Ok-clause-printed g c zero =
    subst (λ (s : Scan). PrintsBy the_help.now (g.R.Read.remaining c.args.input.now) s (g.W.Write.contents c.args.output.now)
    (g.W.Write.contents c.run_scanned.new.output)) c.in-Ok.ensures (c.run_scanned.ensures.printed zero)

pub returns-in-Ok-clause-exact : goal.returns-in-Ok-clause-exact
returns-in-Ok-clause-exact g c =
    subst (λ (s : Scan). Ends (scan_answer the_help.now s (g.R.Read.remaining c.args.input.now)) c.run_scanned.result
    (g.W.Write.contents c.args.output.now) (g.W.Write.contents c.run_scanned.new.output) (g.E.Write.contents c.args.errors.now)
    (g.E.Write.contents c.run_scanned.new.errors)) c.in-Ok.ensures c.run_scanned.ensures.exact

pub returns-in-Ok-clause-untouched : goal.returns-in-Ok-clause-untouched
returns-in-Ok-clause-untouched g c = λ none.
    c.run_scanned.ensures.untouched (subst (λ (s : Scan). reads_by s ≡ false) (sym c.in-Ok.ensures) none)

pub returns-in-Ok-clause-takes : goal.returns-in-Ok-clause-takes
returns-in-Ok-clause-takes g c = λ yes.
    c.run_scanned.ensures.takes (subst (λ (s : Scan). reads_by s ≡ true) (sym c.in-Ok.ensures) yes)

pub returns-in-Err-clause-exact : goal.returns-in-Err-clause-exact
returns-in-Err-clause-exact g c =
    let three = at_three c.tell.result c.tell.ensures.status c.tell.ensures.most in
    inr (three, inl (kept (g.W.Write.contents c.args.output.now)), c.tell.ensures.machine three)

pub returns-in-Err-clause-takes : goal.returns-in-Err-clause-takes
returns-in-Err-clause-takes g c = λ yes.
    let three = at_three c.tell.result c.tell.ensures.status c.tell.ensures.most in
    none_taken c.tell.result (g.R.Read.remaining c.args.input.now) (λ small. omega (arith, three, small))
