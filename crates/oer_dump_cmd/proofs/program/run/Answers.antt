use Rattle.std.proofs.Common.{ap, inl, inr, map, refl, string_bytes}
use Rattle.oer_dump_cmd.specs.Showing.{judged_as, octets_as}
use Rattle.oer_dump_cmd.proofs.Ends.{accepts, displayed, does, not_taken, printed_end, quiet, refused_end, undisplayed, unrejected}
use Rattle.oer_dump_cmd.proofs.program.run.Goals as goal

pub returns-in-Err-clause-exact : goal.returns-in-Err-clause-exact
returns-in-Err-clause-exact g c = inr (not_taken (map string_bytes c.args.words.now) _ c.in-Err.error c.refused.result _ c.in-Err.ensures.kinds c.in-Err.ensures.err c.refused.ensures.memory
    c.refused.ensures.shows c.refused.ensures.alone c.refused.ensures.words c.refused.ensures.quiet c.refused.ensures.failed refl)

pub returns-in-Err-print_asked-clause-exact : goal.returns-in-Err-print_asked-clause-exact
returns-in-Err-print_asked-clause-exact g c = does (map string_bytes c.args.words.now) _ _ _ c.report.result _ c.in-Ok.options c.in-Ok.ensures.ok
    (refused_end (judged_as c.in-Ok.options (g.R.Read.remaining c.args.input.now)) c.in-Err-print_asked.fault c.report.result _
    c.in-Err-print_asked.ensures.shown c.report.ensures.line)
    (undisplayed c.in-Ok.options.form (octets_as c.in-Ok.options (g.R.Read.remaining c.args.input.now)) c.in-Err-print_asked.fault
    c.report.result _ c.in-Err-print_asked.ensures.displayed c.report.ensures.status (λ small. ap g.W.Write.contents (c.in-Err-print_asked.ensures.silent small)))
    c.in-Err-print_asked.ensures.untouched

pub returns-in-Err-print_asked-clause-quiet : goal.returns-in-Err-print_asked-clause-quiet
returns-in-Err-print_asked-clause-quiet g c = λ two. quiet c.in-Err-print_asked.fault c.report.result _ _ c.report.ensures.status
    (λ small. ap g.W.Write.contents (c.in-Err-print_asked.ensures.silent small)) two

pub returns-in-Ok-print_asked-clause-exact : goal.returns-in-Ok-print_asked-clause-exact
returns-in-Ok-print_asked-clause-exact g c =
    let expected = judged_as c.in-Ok.options (g.R.Read.remaining c.args.input.now) in
    let octets = octets_as c.in-Ok.options (g.R.Read.remaining c.args.input.now) in
    does (map string_bytes c.args.words.now) _ _ _ c.tell.result _ c.in-Ok.options c.in-Ok.ensures.ok
    (inl (printed_end c.in-Ok.options.form octets expected c.in-Ok-print_asked.rejection c.tell.result _ c.in-Ok-print_asked.ensures.shown
    c.in-Ok-print_asked.ensures.displayed c.tell.ensures))
    (λ small. displayed c.in-Ok.options.form octets c.in-Ok-print_asked.rejection _ c.in-Ok-print_asked.ensures.displayed)
    c.in-Ok-print_asked.ensures.untouched

pub returns-in-Ok-print_asked-clause-accepts : goal.returns-in-Ok-print_asked-clause-accepts
returns-in-Ok-print_asked-clause-accepts g c = λ taken zero.
    accepts (map string_bytes c.args.words.now) _ _ c.in-Ok.options c.in-Ok.ensures.ok
    (c.in-Ok-print_asked.ensures.accepted (unrejected c.in-Ok-print_asked.rejection c.tell.result _ _ c.tell.ensures zero))
