use Rattle.oer_places.proofs.Standing.{places_stand}
use Rattle.oer_places.proofs.laws.places_stand.Goals as goal

pub returns : goal.returns
returns c = places_stand
