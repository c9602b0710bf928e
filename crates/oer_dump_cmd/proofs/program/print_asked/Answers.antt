use Rattle.std.proofs.Common.{◌∙◌, ap, refl, sym}
use Rattle.std.proofs.lemmas.Result.{err_from_is_err_and}
use Rattle.oer_options.specs.Words.{behind}
use Rattle.oer_cmd.specs.Types.{reads_types, texts_at}
use Rattle.oer_cmd.specs.declared.type_text.TypeText.TheVariants.{Named, One}
use Rattle.oer_dump_cmd.specs.Showing.{Displays, Shows, judged_octets, octets_at}
use Rattle.oer_dump_cmd.specs.Words.{texts_asked}
use Rattle.oer_dump_cmd.proofs.Shown.{displays, lacking, shows}
use Rattle.oer_dump_cmd.proofs.TypesRead.{own_one, own_shown, same_one, same_shown}
use Rattle.oer_dump_cmd.proofs.program.print_asked.Goals as goal

pub returns-in_err-text-clause-shown : goal.returns-in_err-text-clause-shown
returns-in_err-text-clause-shown g c =
    let p = err_from_is_err_and c.from_residual.result c.from_residual.ensures.1 in
    rw (p.1, p.2) (own_shown Shows (judged_octets (behind c.args.options.hex) c.args.options.limit (g.R.Read.remaining c.args.input.now)) (texts_asked c.args.options)
    (behind c.args.options.hex) (g.R.Read.remaining c.args.input.now) _ (ap reads_types (sym c.of_check.ensures) ∙ c.in_err-text.ensures.unread)
    (lacking Shows shows (judged_octets (behind c.args.options.hex) c.args.options.limit (g.R.Read.remaining c.args.input.now))
    (texts_asked c.args.options) _ _ c.of_check.ensures c.in_err-text.ensures.lacking))

pub returns-in_err-text-clause-displayed : goal.returns-in_err-text-clause-displayed
returns-in_err-text-clause-displayed g c =
    let p = err_from_is_err_and c.from_residual.result c.from_residual.ensures.1 in
    rw (p.1, p.2) (own_shown (λ m r. Displays c.args.options.form m r (g.W.Write.contents c.args.output.now) (g.W.Write.contents c.args.output.now)) (octets_at
    (behind c.args.options.hex) c.args.options.limit (g.R.Read.remaining c.args.input.now)) (texts_asked c.args.options) (behind c.args.options.hex)
    (g.R.Read.remaining c.args.input.now) _ (ap reads_types (sym c.of_check.ensures) ∙ c.in_err-text.ensures.unread)
    (lacking (λ m r. Displays c.args.options.form m r (g.W.Write.contents c.args.output.now) (g.W.Write.contents c.args.output.now)) (displays c.args.options.form
    (g.W.Write.contents c.args.output.now) (g.W.Write.contents c.args.output.now)) (octets_at (behind c.args.options.hex) c.args.options.limit
    (g.R.Read.remaining c.args.input.now)) (texts_asked c.args.options) _ _ c.of_check.ensures c.in_err-text.ensures.lacking))

pub returns-in-One-clause-shown : goal.returns-in-One-clause-shown
returns-in-One-clause-shown g c =
    let t = texts_at (One c.in-One.text) in
    same_shown Shows (judged_octets (behind c.args.options.hex) c.args.options.limit (g.R.Read.remaining c.args.input.now)) (texts_asked c.args.options) t
    (behind c.args.options.hex) (g.R.Read.remaining c.args.input.now) c.print_one.result (ap texts_at (sym c.in-One.is) ∙ c.in_ok-text.ensures.named ∙ c.of_check.ensures)
    (own_shown Shows (judged_octets (behind c.args.options.hex) c.args.options.limit (g.R.Read.remaining c.args.input.now)) t (behind c.args.options.hex)
    (g.R.Read.remaining c.args.input.now) c.print_one.result refl c.print_one.ensures.shown)

pub returns-in-One-clause-displayed : goal.returns-in-One-clause-displayed
returns-in-One-clause-displayed g c =
    let t = texts_at (One c.in-One.text) in
    same_shown (λ m r. Displays c.args.options.form m r (g.W.Write.contents c.args.output.now) (g.W.Write.contents c.print_one.new.output)) (octets_at
    (behind c.args.options.hex) c.args.options.limit (g.R.Read.remaining c.args.input.now)) (texts_asked c.args.options) t (behind c.args.options.hex)
    (g.R.Read.remaining c.args.input.now) c.print_one.result (ap texts_at (sym c.in-One.is) ∙ c.in_ok-text.ensures.named ∙ c.of_check.ensures)
    (own_shown (λ m r. Displays c.args.options.form m r (g.W.Write.contents c.args.output.now) (g.W.Write.contents c.print_one.new.output)) (octets_at
    (behind c.args.options.hex) c.args.options.limit (g.R.Read.remaining c.args.input.now)) t (behind c.args.options.hex)
    (g.R.Read.remaining c.args.input.now) c.print_one.result refl c.print_one.ensures.displayed)

pub returns-in-One-clause-accepted : goal.returns-in-One-clause-accepted
returns-in-One-clause-accepted g c =
    let t = texts_at (One c.in-One.text) in
    same_one (texts_asked c.args.options) t (behind c.args.options.hex) c.args.options.limit (g.R.Read.remaining c.args.input.now) c.print_one.result (ap texts_at
    (sym c.in-One.is) ∙ c.in_ok-text.ensures.named ∙ c.of_check.ensures)
    (own_one t (behind c.args.options.hex) c.args.options.limit (g.R.Read.remaining c.args.input.now) c.print_one.result refl c.print_one.ensures.accepted)

pub returns-in-Named-clause-shown : goal.returns-in-Named-clause-shown
returns-in-Named-clause-shown g c =
    same_shown Shows (judged_octets (behind c.args.options.hex) c.args.options.limit (g.R.Read.remaining c.args.input.now)) (texts_asked c.args.options) (texts_at
    (Named c.in-Named.types c.in-Named.name)) (behind c.args.options.hex) (g.R.Read.remaining c.args.input.now) c.print_types.result
    (ap texts_at (sym c.in-Named.is) ∙ c.in_ok-text.ensures.named ∙ c.of_check.ensures) c.print_types.ensures.shown

pub returns-in-Named-clause-displayed : goal.returns-in-Named-clause-displayed
returns-in-Named-clause-displayed g c =
    same_shown (λ m r. Displays c.args.options.form m r (g.W.Write.contents c.args.output.now) (g.W.Write.contents c.print_types.new.output)) (octets_at
    (behind c.args.options.hex) c.args.options.limit (g.R.Read.remaining c.args.input.now)) (texts_asked c.args.options) (texts_at
    (Named c.in-Named.types c.in-Named.name)) (behind c.args.options.hex) (g.R.Read.remaining c.args.input.now) c.print_types.result
    (ap texts_at (sym c.in-Named.is) ∙ c.in_ok-text.ensures.named ∙ c.of_check.ensures) c.print_types.ensures.displayed

pub returns-in-Named-clause-accepted : goal.returns-in-Named-clause-accepted
returns-in-Named-clause-accepted g c =
    same_one (texts_asked c.args.options) (texts_at (Named c.in-Named.types c.in-Named.name)) (behind c.args.options.hex) c.args.options.limit
    (g.R.Read.remaining c.args.input.now) c.print_types.result
    (ap texts_at (sym c.in-Named.is) ∙ c.in_ok-text.ensures.named ∙ c.of_check.ensures) c.print_types.ensures.accepted

pub returns-in-Named-clause-untouched : goal.returns-in-Named-clause-untouched
returns-in-Named-clause-untouched g c = λ some own.
    c.print_types.ensures.untouched some (ap reads_types (ap texts_at (sym c.in-Named.is) ∙ c.in_ok-text.ensures.named ∙ c.of_check.ensures) ∙ own)
