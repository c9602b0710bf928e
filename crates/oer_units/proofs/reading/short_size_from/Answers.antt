use Rattle.std.proofs.Common.{arith, Ok, Err}
use Rattle.std.proofs.lemmas.Grind.{common_steps}
use Rattle.oer_units.specs.ReadingSteps.{size_after}
use Rattle.oer_units.proofs.ReadExits.{at_exit}
use Rattle.oer_units.proofs.ReadNumbers.{read_as}
use Rattle.oer_units.proofs.reading.short_size_from.Goals as goal

pub returns-in_err-fill_all-clause-reads : goal.returns-in_err-fill_all-clause-reads
returns-in_err-fill_all-clause-reads g c =
    rw (at_exit c.from_residual.result c.in_err-fill_all.field-0.0 c.from_residual.ensures.1)
    (read_as {B = Unit {0}} c.args.count _ (size_after c.args.is_below c.args.value) _ _ c.fill_all.new.into (Err c.in_err-fill_all.field-0.0) (grind (arith, common_steps)) c.in_err-fill_all.ensures.reads)

pub returns-clause-reads : goal.returns-clause-reads
returns-clause-reads g c =
    rw (c.size_of.ensures.value)
    (read_as {B = Unit {0}} c.args.count _ (size_after c.args.is_below c.args.value) _ _ c.fill_all.new.into (Ok c.in_ok-fill_all.field-0) (grind (arith, common_steps)) c.in_ok-fill_all.ensures.reads)
