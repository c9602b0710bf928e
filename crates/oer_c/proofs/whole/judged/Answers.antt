use Rattle.std.proofs.Common.{Ok, Err, ap, refl, rules}
use Rattle.oer_types.specs.Schema.{the_type}
use Rattle.oer_c.specs.declared.check.Checked.{Checked}
use Rattle.oer_c.proofs.Exactly.{exactly, none_rejected}
use Rattle.oer_c.proofs.whole.judged.Goals as goal

pub returns-in-Ok : goal.returns-in-Ok
returns-in-Ok c =
    let T = the_type c.args.schema.now in
    let found = c.in-Ok.ensures in
    let iff = exactly T c.args.octets.now c.in-Ok.verdict c.status_of.result found.told found.comes c.status_of.ensures in
    (iff, (Ok c.in-Ok.verdict, (c.status_of.ensures, refl, refl, search rules), found.told, found.comes, found.exact, found.plain))

pub returns-in-Err : goal.returns-in-Err
returns-in-Err c =
    let T = the_type c.args.schema.now in
    let found = c.in-Err.ensures in
    let iff = none_rejected T c.args.octets.now c.in-Err.fault c.rejected.result.status found.comes (ap (λ (a : Checked). a.status) c.rejected.ensures) in
    (iff, (Err c.in-Err.fault, c.rejected.ensures, found.told, found.comes, found.exact, found.plain))
