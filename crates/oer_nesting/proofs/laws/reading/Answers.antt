use Rattle.oer_nesting.proofs.Reading.{checks_alike, reads_alike, rewrites_alike}
use Rattle.oer_nesting.proofs.laws.reading.Goals as goal

pub returns-clause-reads : goal.returns-clause-reads
returns-clause-reads c = reads_alike

pub returns-clause-rewrites : goal.returns-clause-rewrites
returns-clause-rewrites c = rewrites_alike

pub returns-clause-checks : goal.returns-clause-checks
returns-clause-checks c = checks_alike
