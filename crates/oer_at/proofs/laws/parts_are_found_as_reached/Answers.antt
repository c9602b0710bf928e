use Rattle.oer_at.proofs.Reaching.{finds_reached}
use Rattle.oer_at.proofs.laws.parts_are_found_as_reached.Goals as goal

pub returns : goal.returns
returns c = finds_reached
