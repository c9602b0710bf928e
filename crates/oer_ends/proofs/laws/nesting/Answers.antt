use Rattle.oer_ends.proofs.Places.{endless_nests, place_found}
use Rattle.oer_ends.proofs.laws.nesting.Goals as goal

pub returns : goal.returns
returns c = record { found = place_found; none = endless_nests }
