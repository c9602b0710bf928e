use Rattle.oer_model.proofs.Headlines.{headlines}
use Rattle.oer_model.proofs.laws.headline.Goals as goal

pub returns : goal.returns
returns c = record { holds = headlines }
