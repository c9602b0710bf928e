use Rattle.oer_units.proofs.ReadDigits.{subidentifier_reads}
use Rattle.oer_units.proofs.reading.subidentifier.Goals as goal

pub returns-clause-reads : goal.returns-clause-reads
returns-clause-reads g c = subidentifier_reads c.args.content _ _ _ c.base128.ensures.reads
