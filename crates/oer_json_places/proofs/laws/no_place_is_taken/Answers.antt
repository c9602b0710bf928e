use Rattle.oer_json_places.proofs.Downward.{none_taken}
use Rattle.oer_json_places.proofs.laws.no_place_is_taken.Goals as goal

pub returns : goal.returns
returns c = none_taken
