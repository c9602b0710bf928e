use Rattle.std.proofs.Common.{◌≡◌, false, true, subst, sym, ap, ◌∙◌, List, ◌∷◌, map, string_bytes}
use Rattle.oer_module_options.specs.Words.{Text}
use Rattle.oer_types_cmd.specs.Answer.{answer}
use Rattle.oer_types_cmd.specs.Asking.{reads_words, words_behind}
use Rattle.oer_types_cmd.specs.Ending.{Ends, PrintsFor}
use Rattle.oer_types_cmd.specs.declared.help.TheConstants.{HELP as the_help}
use Rattle.oer_types_cmd.proofs.types.run_types.Goals as goal

pub returns-clause-printed : goal.returns-clause-printed
returns-clause-printed g c zero =
    let split = c.in_ok-rest.ensures.cases.0 ∙ ap (λ ws. c.in_ok-rest.field-0-0.now ∷ ws) c.in_ok-word.ensures.cases.0 in
    subst (λ (ws : List Text). PrintsFor the_help.now (g.R.Read.remaining c.args.input.now) ws (g.W.Write.contents c.args.output.now)
    (g.W.Write.contents c.run_words.new.output))
    (sym (ap (λ ws. words_behind (map string_bytes ws)) split)) (c.run_words.ensures.printed zero)

pub returns-clause-exact : goal.returns-clause-exact
returns-clause-exact g c =
    let split = c.in_ok-rest.ensures.cases.0 ∙ ap (λ ws. c.in_ok-rest.field-0-0.now ∷ ws) c.in_ok-word.ensures.cases.0 in
    subst (λ (ws : List Text). Ends (answer the_help.now ws (g.R.Read.remaining c.args.input.now)) c.run_words.result
    (g.W.Write.contents c.args.output.now) (g.W.Write.contents c.run_words.new.output) (g.E.Write.contents c.args.errors.now)
    (g.E.Write.contents c.run_words.new.errors))
    (sym (ap (λ ws. words_behind (map string_bytes ws)) split)) c.run_words.ensures.exact

pub returns-clause-untouched : goal.returns-clause-untouched
returns-clause-untouched g c none =
    let split = c.in_ok-rest.ensures.cases.0 ∙ ap (λ ws. c.in_ok-rest.field-0-0.now ∷ ws) c.in_ok-word.ensures.cases.0 in
    c.run_words.ensures.untouched (subst (λ (ws : List Text). reads_words ws ≡ false) (ap (λ ws. words_behind (map string_bytes ws)) split) none)

pub returns-clause-takes : goal.returns-clause-takes
returns-clause-takes g c asked =
    let split = c.in_ok-rest.ensures.cases.0 ∙ ap (λ ws. c.in_ok-rest.field-0-0.now ∷ ws) c.in_ok-word.ensures.cases.0 in
    c.run_words.ensures.takes (subst (λ (ws : List Text). reads_words ws ≡ true) (ap (λ ws. words_behind (map string_bytes ws)) split) asked)
