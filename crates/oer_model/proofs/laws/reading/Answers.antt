use Rattle.oer_model.proofs.reading.Theorems.{reads_encodings, reads_inside, reads_each}
use Rattle.oer_model.proofs.laws.reading.Goals as goal

pub returns-clause-encodings : goal.returns-clause-encodings
returns-clause-encodings c = reads_encodings

pub returns-clause-inside : goal.returns-clause-inside
returns-clause-inside c = reads_inside

pub returns-clause-each : goal.returns-clause-each
returns-clause-each c = reads_each
