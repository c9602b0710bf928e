use Rattle.oer_model.proofs.faults.Faults.{defaults_fit}
use Rattle.oer_model.proofs.laws.defaults_fit.Goals as goal

pub returns : goal.returns
returns c = record { fit = defaults_fit }
