use Rattle.oer_decoder.proofs.Headlines.{headlines}
use Rattle.oer_decoder.proofs.laws.headline.Goals as goal

pub returns : goal.returns
returns c = record { holds = headlines }
