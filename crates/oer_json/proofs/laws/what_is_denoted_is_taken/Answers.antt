use Rattle.oer_json.proofs.Complete.{one_taken, taken_complete}
use Rattle.oer_json.proofs.laws.what_is_denoted_is_taken.Goals as goal

pub returns-clause-taken : goal.returns-clause-taken
returns-clause-taken c = taken_complete

pub returns-clause-one : goal.returns-clause-one
returns-clause-one c = one_taken
