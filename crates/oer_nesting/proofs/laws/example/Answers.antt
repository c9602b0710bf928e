use Rattle.oer_nesting.proofs.Replaced.{nests_once_more}
use Rattle.oer_nesting.proofs.laws.example.Goals as goal

pub returns : goal.returns
returns c = record { nests = nests_once_more }
