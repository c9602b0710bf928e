use Rattle.oer_model.proofs.reading.Theorems.{one_reading}
use Rattle.oer_model.proofs.laws.one_reading.Goals as goal

pub returns : goal.returns
returns c = record { one = one_reading }
