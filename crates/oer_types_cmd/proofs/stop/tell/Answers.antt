use Rattle.std.proofs.Common.{◌≡◌, ◌≤◌, refl, subst, sym}
use Rattle.oer_module_cmd.specs.Errors.{error_of}
use Rattle.oer_types_cmd.specs.Stops.{Tells, stop_of}
use Rattle.oer_types_cmd.specs.declared.stop.Stop.{Stop}
use Rattle.oer_types_cmd.proofs.Ends.{error_machine, error_status_told, error_told, fault_machine, fault_told}
use Rattle.oer_types_cmd.proofs.stop.tell.Goals as goal

pub returns-in-Modules-clause-status : goal.returns-in-Modules-clause-status
returns-in-Modules-clause-status g c =
    subst (λ (s : Stop). c.report.result ≤ 2 → c.report.result ≡ (stop_of s).status) (sym c.in-Modules.is)
    (error_status_told (error_of c.in-Modules.error) c.report.result _ _ c.report.ensures.line)

pub returns-in-Modules-clause-line : goal.returns-in-Modules-clause-line
returns-in-Modules-clause-line g c =
    let old = g.E.Write.contents c.args.errors.now in
    let new = g.E.Write.contents c.report.new.errors in
    subst (λ (s : Stop). c.report.result ≤ 2 → Tells (stop_of s) old new) (sym c.in-Modules.is)
    (error_told (error_of c.in-Modules.error) c.report.result old new c.report.ensures.line)

pub returns-in-Modules-clause-machine : goal.returns-in-Modules-clause-machine
returns-in-Modules-clause-machine g c = error_machine (error_of c.in-Modules.error) c.report.result _ _ c.report.ensures.line

pub returns-in-Types-clause-status : goal.returns-in-Types-clause-status
returns-in-Types-clause-status g c =
    subst (λ (s : Stop). c.report-in-Types.result ≤ 2 → c.report-in-Types.result ≡ (stop_of s).status) (sym c.in-Types.is)
    c.report-in-Types.ensures.status

pub returns-in-Types-clause-line : goal.returns-in-Types-clause-line
returns-in-Types-clause-line g c =
    let old = g.E.Write.contents c.args.errors.now in
    let new = g.E.Write.contents c.report-in-Types.new.errors in
    subst (λ (s : Stop). c.report-in-Types.result ≤ 2 → Tells (stop_of s) old new) (sym c.in-Types.is)
    (fault_told c.in-Types.fault c.report-in-Types.result old new c.report-in-Types.ensures.line)

pub returns-in-Types-clause-machine : goal.returns-in-Types-clause-machine
returns-in-Types-clause-machine g c = fault_machine c.in-Types.fault c.report-in-Types.result _ _ c.report-in-Types.ensures.line

pub returns-in-NoNotation-clause-status : goal.returns-in-NoNotation-clause-status
returns-in-NoNotation-clause-status g c =
    subst (λ (s : Stop). 2 ≤ 2 → 2 ≡ (stop_of s).status) (sym c.in-NoNotation.is) (λ small. refl)

pub returns-in-NoNotation-clause-line : goal.returns-in-NoNotation-clause-line
returns-in-NoNotation-clause-line g c =
    let old = g.E.Write.contents c.args.errors.now in
    let new = g.E.Write.contents c.put_all.new.w in
    subst (λ (s : Stop). 2 ≤ 2 → Tells (stop_of s) old new) (sym c.in-NoNotation.is) (λ small. c.put_all.ensures.front)
