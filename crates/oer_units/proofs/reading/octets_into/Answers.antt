use Rattle.oer_units.proofs.ReadExits.{at_exit}
use Rattle.oer_units.proofs.ReadGroups.{group_refused}
use Rattle.oer_units.proofs.reading.octets_into.Goals as goal

pub returns-in_err-allow-clause-reads : goal.returns-in_err-allow-clause-reads
returns-in_err-allow-clause-reads g c = rw (at_exit c.from_residual.result c.in_err-allow.field-0.0 c.from_residual.ensures.1) (group_refused _ _ _ c.in_err-allow.ensures.reads)
