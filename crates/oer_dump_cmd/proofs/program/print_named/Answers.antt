use Rattle.std.proofs.lemmas.Result.{err_from_is_err_and}
use Rattle.oer_types.specs.Schema.{the_type}
use Rattle.oer_notation.specs.Views.{knowns}
use Rattle.oer_options.specs.Words.{behind}
use Rattle.oer_cmd.specs.Types.{texts_at}
use Rattle.oer_cmd.specs.declared.type_text.TypeText.TheVariants.{Named}
use Rattle.oer_dump_cmd.specs.Showing.{Displays, Shows, judged_octets, octets_at}
use Rattle.oer_dump_cmd.proofs.Shown.{are_one_for, displays, named_read, named_unknown, named_unread, shows}
use Rattle.oer_dump_cmd.proofs.program.print_named.Goals as goal

pub returns-clause-shown : goal.returns-clause-shown
returns-clause-shown g c =
    named_read Shows shows (judged_octets (behind c.args.options.hex) c.args.options.limit (g.R.Read.remaining c.args.input.now)) c.args.types c.args.name c.in_ok-types.types
    c.in_ok-schema.schema c.print_value.result c.in_ok-types.ensures.exact c.in_ok-schema.ensures.exact c.print_value.ensures.shown

pub returns-clause-displayed : goal.returns-clause-displayed
returns-clause-displayed g c =
    named_read (λ m r. Displays c.args.options.form m r (g.W.Write.contents c.args.output.now) (g.W.Write.contents c.print_value.new.output)) (displays c.args.options.form (g.W.Write.contents c.args.output.now) (g.W.Write.contents c.print_value.new.output)) (octets_at (behind c.args.options.hex) c.args.options.limit (g.R.Read.remaining c.args.input.now)) c.args.types c.args.name
    c.in_ok-types.types c.in_ok-schema.schema c.print_value.result c.in_ok-types.ensures.exact c.in_ok-schema.ensures.exact c.print_value.ensures.displayed

pub returns-in_err-types-clause-shown : goal.returns-in_err-types-clause-shown
returns-in_err-types-clause-shown g c =
    let p = err_from_is_err_and c.from_residual.result c.from_residual.ensures.1 in
    rw (p.1, p.2) (named_unread Shows shows (judged_octets (behind c.args.options.hex) c.args.options.limit (g.R.Read.remaining c.args.input.now)) c.args.types c.args.name _
    c.in_err-types.ensures.exact)

pub returns-in_err-types-clause-displayed : goal.returns-in_err-types-clause-displayed
returns-in_err-types-clause-displayed g c =
    let p = err_from_is_err_and c.from_residual.result c.from_residual.ensures.1 in
    rw (p.1, p.2) (named_unread (λ m r. Displays c.args.options.form m r (g.W.Write.contents c.args.output.now) (g.W.Write.contents c.args.output.now)) (displays c.args.options.form (g.W.Write.contents c.args.output.now) (g.W.Write.contents c.args.output.now))
    (octets_at (behind c.args.options.hex) c.args.options.limit (g.R.Read.remaining c.args.input.now)) c.args.types c.args.name _ c.in_err-types.ensures.exact)

pub returns-in_err-schema-clause-shown : goal.returns-in_err-schema-clause-shown
returns-in_err-schema-clause-shown g c =
    let p = err_from_is_err_and c.from_residual-in_err-schema.result c.from_residual-in_err-schema.ensures.1 in
    rw (p.1, p.2) (named_unknown Shows shows (judged_octets (behind c.args.options.hex) c.args.options.limit (g.R.Read.remaining c.args.input.now)) c.args.types c.args.name
    c.in_ok-types.types _ c.in_ok-types.ensures.exact c.in_err-schema.ensures.exact)

pub returns-in_err-schema-clause-displayed : goal.returns-in_err-schema-clause-displayed
returns-in_err-schema-clause-displayed g c =
    let p = err_from_is_err_and c.from_residual-in_err-schema.result c.from_residual-in_err-schema.ensures.1 in
    rw (p.1, p.2) (named_unknown (λ m r. Displays c.args.options.form m r (g.W.Write.contents c.args.output.now) (g.W.Write.contents c.args.output.now)) (displays c.args.options.form (g.W.Write.contents c.args.output.now) (g.W.Write.contents c.args.output.now)) (octets_at (behind c.args.options.hex) c.args.options.limit (g.R.Read.remaining c.args.input.now))
    c.args.types c.args.name c.in_ok-types.types _ c.in_ok-types.ensures.exact c.in_err-schema.ensures.exact)

pub returns-clause-accepted : goal.returns-clause-accepted
returns-clause-accepted g c =
    are_one_for (texts_at (Named c.args.types c.args.name)) (the_type c.in_ok-schema.schema.now) (behind c.args.options.hex) c.args.options.limit _ c.print_value.result (knowns c.in_ok-types.types, c.in_ok-types.ensures.spells.0, c.in_ok-schema.ensures.defined) c.print_value.ensures.accepted
