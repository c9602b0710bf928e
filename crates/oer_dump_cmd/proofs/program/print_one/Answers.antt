use Rattle.std.proofs.lemmas.Result.{err_from_is_err_and}
use Rattle.oer_types.specs.Schema.{the_type}
use Rattle.oer_options.specs.Words.{behind}
use Rattle.oer_cmd.specs.Types.{texts_at}
use Rattle.oer_cmd.specs.declared.type_text.TypeText.TheVariants.{One}
use Rattle.oer_dump_cmd.specs.Showing.{Displays, Shows, judged_octets, octets_at}
use Rattle.oer_dump_cmd.proofs.Shown.{are_one_for, displays, one_read, one_unread, shows}
use Rattle.oer_dump_cmd.proofs.program.print_one.Goals as goal

pub returns-clause-shown : goal.returns-clause-shown
returns-clause-shown g c = one_read Shows shows (judged_octets (behind c.args.options.hex) c.args.options.limit (g.R.Read.remaining c.args.input.now)) c.args.text c.in_ok-schema.schema
    c.print_value.result c.in_ok-schema.ensures.exact c.print_value.ensures.shown

pub returns-clause-displayed : goal.returns-clause-displayed
returns-clause-displayed g c =
    one_read (λ m r. Displays c.args.options.form m r (g.W.Write.contents c.args.output.now) (g.W.Write.contents c.print_value.new.output)) (displays c.args.options.form (g.W.Write.contents c.args.output.now) (g.W.Write.contents c.print_value.new.output)) (octets_at (behind c.args.options.hex) c.args.options.limit (g.R.Read.remaining c.args.input.now))
    c.args.text c.in_ok-schema.schema c.print_value.result c.in_ok-schema.ensures.exact c.print_value.ensures.displayed

pub returns-in_err-schema-clause-shown : goal.returns-in_err-schema-clause-shown
returns-in_err-schema-clause-shown g c =
    let p = err_from_is_err_and c.from_residual.result c.from_residual.ensures.1 in
    rw (p.1, p.2) (one_unread Shows shows (judged_octets (behind c.args.options.hex) c.args.options.limit (g.R.Read.remaining c.args.input.now)) c.args.text _ c.in_err-schema.ensures.exact)

pub returns-in_err-schema-clause-displayed : goal.returns-in_err-schema-clause-displayed
returns-in_err-schema-clause-displayed g c =
    let p = err_from_is_err_and c.from_residual.result c.from_residual.ensures.1 in
    rw (p.1, p.2) (one_unread (λ m r. Displays c.args.options.form m r (g.W.Write.contents c.args.output.now) (g.W.Write.contents c.args.output.now)) (displays c.args.options.form (g.W.Write.contents c.args.output.now) (g.W.Write.contents c.args.output.now))
    (octets_at (behind c.args.options.hex) c.args.options.limit (g.R.Read.remaining c.args.input.now)) c.args.text _ c.in_err-schema.ensures.exact)

pub returns-clause-accepted : goal.returns-clause-accepted
returns-clause-accepted g c = are_one_for (texts_at (One c.args.text)) (the_type c.in_ok-schema.schema) (behind c.args.options.hex) c.args.options.limit _ c.print_value.result c.in_ok-schema.ensures.spells.0 c.print_value.ensures.accepted
