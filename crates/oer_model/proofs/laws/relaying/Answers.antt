use Rattle.oer_model.proofs.relaying.Relaying.{keeps_unknown}
use Rattle.oer_model.proofs.laws.relaying.Goals as goal

pub returns : goal.returns
returns c = record { keeps = keeps_unknown }
