use Rattle.std.proofs.Common.{◌∙◌, arith, sym}
use Rattle.std.proofs.lemmas.Result.{err_from_is_err_and}
use Rattle.oer_types.specs.Schema.{the_type}
use Rattle.oer_dump_cmd.specs.Telling.{judged_by}
use Rattle.oer_cmd.specs.Answer.{checked}
use Rattle.oer_cmd.specs.declared.fault.Fault.TheVariants.{Memory}
use Rattle.oer_ends_cmd.proofs.Rejections.{lost_by}
use Rattle.oer_parts.specs.declared.encoding.Encoding.{Encoding}
use Rattle.oer_dump_cmd.proofs.Shown.{rejected, seen, shows, unread}
use Rattle.oer_dump_cmd.proofs.ToldBy.{unjudged_by}
use Rattle.oer_dump_cmd.proofs.program.print_octets.Goals as goal

pub returns-then-status-ne1-clause-shown : goal.returns-then-status-ne1-clause-shown
returns-then-status-ne1-clause-shown g c =
    let T = the_type c.args.schema.now in
    unread (judged_by c.args.origin c.args.options.limit T c.args.octets.now) c.told_by-fault.result
    (lost_by {X = Encoding} seen c.args.origin T c.args.options.limit c.args.octets.now (checked T c.args.octets.now)
    c.in-Err.fault c.told_by-fault.result c.told_by-fault.ensures c.in-Err.ensures.exact)

pub returns-then-status-ne1-clause-displayed : goal.returns-then-status-ne1-clause-displayed
returns-then-status-ne1-clause-displayed g c = λ small. c.if-status-ne1.true (c.status.ensures.status
    ∙ unjudged_by c.args.origin c.args.options.limit (the_type c.args.schema.now) c.args.octets.now c.in-Err.fault c.told_by-fault.result
    c.told_by-fault.ensures c.in-Err.ensures.exact small)

pub returns-in-Ok-reason_line-clause-shown : goal.returns-in-Ok-reason_line-clause-shown
returns-in-Ok-reason_line-clause-shown g c =
    let T = the_type c.args.schema.now in
    rejected (judged_by c.args.origin c.args.options.limit T c.args.octets.now) c.told_by-fault.result c.in-Ok-reason_line.line
    (lost_by {X = Encoding} seen c.args.origin T c.args.options.limit c.args.octets.now (checked T c.args.octets.now)
    c.in-Err.fault c.told_by-fault.result c.told_by-fault.ensures c.in-Err.ensures.exact)
    (sym c.status.ensures.status ∙ c.if-status-ne1.false) c.in-Ok-reason_line.ensures

pub returns-in_err-place-clause-shown : goal.returns-in_err-place-clause-shown
returns-in_err-place-clause-shown g c =
    let p = err_from_is_err_and c.from_residual-in_err-place.result c.from_residual-in_err-place.ensures.1 in
    rw (p.1, p.2) (shows.machine (judged_by c.args.origin c.args.options.limit (the_type c.args.schema.now) c.args.octets.now) _
    (λ small. omega (arith, small, c.in_err-place.ensures.fails)))

pub returns-in-Err-reason_line-clause-shown : goal.returns-in-Err-reason_line-clause-shown
returns-in-Err-reason_line-clause-shown g c =
    shows.machine (judged_by c.args.origin c.args.options.limit (the_type c.args.schema.now) c.args.octets.now) Memory (λ small. omega arith)
