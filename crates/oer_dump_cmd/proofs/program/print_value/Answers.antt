use Rattle.std.proofs.lemmas.Result.{err_from_is_err_and}
use Rattle.oer_types.specs.Schema.{the_type}
use Rattle.oer_options.specs.Words.{behind}
use Rattle.oer_dump_cmd.specs.Showing.{Displays, Shows}
use Rattle.oer_dump_cmd.specs.Telling.{judged_by}
use Rattle.oer_dump_cmd.proofs.Shown.{are_one, both, displays, longer, looked_at, shows, unspelt}
use Rattle.oer_dump_cmd.proofs.program.print_value.Goals as goal

pub returns-clause-shown : goal.returns-clause-shown
returns-clause-shown g c =
    looked_at Shows shows (judged_by c.args.origin c.args.options.limit)
    (the_type c.args.schema.now) c.args.options.limit (behind c.args.options.hex) _ c.in_ok-spelt.spelt c.in_ok-octets.octets _ c.print_octets.result
    c.in_ok-spelt.ensures.exact c.in_ok-octets.ensures.exact c.as_slice.ensures.value c.print_octets.ensures.shown

pub returns-clause-displayed : goal.returns-clause-displayed
returns-clause-displayed g c =
    looked_at (λ m r. Displays c.args.options.form m r (g.W.Write.contents c.args.output.now) (g.W.Write.contents c.print_octets.new.output))
    (displays c.args.options.form (g.W.Write.contents c.args.output.now) (g.W.Write.contents c.print_octets.new.output)) both
    (the_type c.args.schema.now) c.args.options.limit (behind c.args.options.hex) _ c.in_ok-spelt.spelt
    c.in_ok-octets.octets _ c.print_octets.result
    c.in_ok-spelt.ensures.exact c.in_ok-octets.ensures.exact c.as_slice.ensures.value c.print_octets.ensures.displayed

pub returns-in_err-spelt-clause-shown : goal.returns-in_err-spelt-clause-shown
returns-in_err-spelt-clause-shown g c =
    let p = err_from_is_err_and c.from_residual.result c.from_residual.ensures.1 in
    rw (p.1, p.2) (unspelt Shows shows (judged_by c.args.origin c.args.options.limit) (the_type c.args.schema.now) c.args.options.limit (behind c.args.options.hex) _ _ c.in_err-spelt.ensures.exact)

pub returns-in_err-spelt-clause-displayed : goal.returns-in_err-spelt-clause-displayed
returns-in_err-spelt-clause-displayed g c =
    let p = err_from_is_err_and c.from_residual.result c.from_residual.ensures.1 in
    rw (p.1, p.2) (unspelt (λ m r. Displays c.args.options.form m r (g.W.Write.contents c.args.output.now) (g.W.Write.contents c.args.output.now))
    (displays c.args.options.form (g.W.Write.contents c.args.output.now) (g.W.Write.contents c.args.output.now)) both
    (the_type c.args.schema.now) c.args.options.limit (behind c.args.options.hex) _ _
    c.in_err-spelt.ensures.exact)

pub returns-in_err-octets-clause-shown : goal.returns-in_err-octets-clause-shown
returns-in_err-octets-clause-shown g c =
    let p = err_from_is_err_and c.from_residual-in_err-octets.result c.from_residual-in_err-octets.ensures.1 in
    rw (p.1, p.2) (longer Shows shows (judged_by c.args.origin c.args.options.limit) (the_type c.args.schema.now) c.args.options.limit (behind c.args.options.hex) _ c.in_ok-spelt.spelt _ c.in_ok-spelt.ensures.exact
    c.in_err-octets.ensures.exact)

pub returns-in_err-octets-clause-displayed : goal.returns-in_err-octets-clause-displayed
returns-in_err-octets-clause-displayed g c =
    let p = err_from_is_err_and c.from_residual-in_err-octets.result c.from_residual-in_err-octets.ensures.1 in
    rw (p.1, p.2) (longer (λ m r. Displays c.args.options.form m r (g.W.Write.contents c.args.output.now) (g.W.Write.contents c.args.output.now))
    (displays c.args.options.form (g.W.Write.contents c.args.output.now) (g.W.Write.contents c.args.output.now)) both
    (the_type c.args.schema.now) c.args.options.limit (behind c.args.options.hex) _
    c.in_ok-spelt.spelt _ c.in_ok-spelt.ensures.exact c.in_err-octets.ensures.exact)

pub returns-clause-accepted : goal.returns-clause-accepted
returns-clause-accepted g c =
    are_one (the_type c.args.schema.now) c.args.options.limit (behind c.args.options.hex) _ _ c.in_ok-octets.octets.items _ c.print_octets.result
    c.in_ok-spelt.ensures.octets c.in_ok-octets.ensures.all c.in_ok-octets.ensures.within c.as_slice.ensures.value c.print_octets.ensures.accepted
