use Rattle.oer_json_places.proofs.Downward.{rejected}
use Rattle.oer_json_places.proofs.laws.places_are_rejected.Goals as goal

pub returns : goal.returns
returns c = rejected
