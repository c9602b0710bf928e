use Rattle.std.proofs.Common.{ap, inl, inr, map, refl, string_bytes}
use Rattle.oer_options.specs.Words.{behind}
use Rattle.oer_types.specs.Schema.{the_type}
use Rattle.oer_dump_cmd.specs.Showing.{octets_at}
use Rattle.oer_dump_cmd.specs.Telling.{judged_octets_by}
use Rattle.oer_ends_cmd.specs.declared.telling.Origin.TheVariants.{Modules}
use Rattle.oer_dump_cmd.proofs.Ends.{accepts_for, displayed, does_for, not_taken, printed_end, quiet, refused_end, undisplayed, unrejected}
use Rattle.oer_dump_cmd.proofs.given.run_for.Goals as goal

pub returns-in-Err-clause-exact : goal.returns-in-Err-clause-exact
returns-in-Err-clause-exact g c = inr (not_taken (map string_bytes c.args.words.now) _ c.in-Err.error c.refused.result _ c.in-Err.ensures.kinds c.in-Err.ensures.err
    c.refused.ensures.memory c.refused.ensures.shows c.refused.ensures.alone c.refused.ensures.words c.refused.ensures.quiet c.refused.ensures.failed refl)

pub returns-in-Err-print_value-clause-exact : goal.returns-in-Err-print_value-clause-exact
returns-in-Err-print_value-clause-exact g c =
    let o = c.in-Ok.options in
    let T = the_type c.args.schema.now in
    let told = g.R.Read.remaining c.args.input.now in
    does_for T (map string_bytes c.args.words.now) _ _ _ c.report.result _ o c.in-Ok.ensures.ok
    (refused_end (judged_octets_by Modules (behind o.hex) o.limit told T) c.in-Err-print_value.fault c.report.result _
    c.in-Err-print_value.ensures.shown c.report.ensures.line)
    (undisplayed o.form (octets_at (behind o.hex) o.limit told T) c.in-Err-print_value.fault
    c.report.result _ c.in-Err-print_value.ensures.displayed c.report.ensures.status
    (λ small. ap g.W.Write.contents (c.in-Err-print_value.ensures.silent small)))
    c.in-Err-print_value.ensures.untouched

pub returns-in-Err-print_value-clause-quiet : goal.returns-in-Err-print_value-clause-quiet
returns-in-Err-print_value-clause-quiet g c = λ two. quiet c.in-Err-print_value.fault c.report.result _ _ c.report.ensures.status
    (λ small. ap g.W.Write.contents (c.in-Err-print_value.ensures.silent small)) two

pub returns-in-Ok-print_value-clause-exact : goal.returns-in-Ok-print_value-clause-exact
returns-in-Ok-print_value-clause-exact g c =
    let o = c.in-Ok.options in
    let T = the_type c.args.schema.now in
    let told = g.R.Read.remaining c.args.input.now in
    let expected = judged_octets_by Modules (behind o.hex) o.limit told T in
    let octets = octets_at (behind o.hex) o.limit told T in
    does_for T (map string_bytes c.args.words.now) _ _ _ c.tell.result _ o c.in-Ok.ensures.ok
    (inl (printed_end o.form octets expected c.in-Ok-print_value.rejection c.tell.result _ c.in-Ok-print_value.ensures.shown
    c.in-Ok-print_value.ensures.displayed c.tell.ensures))
    (λ small. displayed o.form octets c.in-Ok-print_value.rejection _ c.in-Ok-print_value.ensures.displayed)
    c.in-Ok-print_value.ensures.untouched

pub returns-in-Ok-print_value-clause-accepts : goal.returns-in-Ok-print_value-clause-accepts
returns-in-Ok-print_value-clause-accepts g c = λ taken zero.
    accepts_for (the_type c.args.schema.now) (map string_bytes c.args.words.now) _ _ c.in-Ok.options c.in-Ok.ensures.ok
    (c.in-Ok-print_value.ensures.accepted (unrejected c.in-Ok-print_value.rejection c.tell.result _ _ c.tell.ensures zero))
