use Rattle.oer_compare.proofs.Older.{extended_is_read}
use Rattle.oer_compare.proofs.Relayed.{extended_is_relayed}
use Rattle.oer_compare.proofs.laws.older.Goals as goal

pub returns-clause-read : goal.returns-clause-read
returns-clause-read c = extended_is_read

pub returns-clause-relayed : goal.returns-clause-relayed
returns-clause-relayed c = extended_is_relayed
