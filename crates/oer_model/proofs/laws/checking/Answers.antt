use Rattle.oer_model.proofs.checking.Judged.{check_tells}
use Rattle.oer_model.proofs.laws.checking.Goals as goal

pub returns : goal.returns
returns c = record { tells = check_tells }
