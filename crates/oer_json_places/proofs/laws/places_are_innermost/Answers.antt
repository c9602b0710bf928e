use Rattle.oer_json_places.proofs.Innermost.{innermost}
use Rattle.oer_json_places.proofs.laws.places_are_innermost.Goals as goal

pub returns : goal.returns
returns c = innermost
