use Rattle.oer_nesting.proofs.Free.{free_meets_none}
use Rattle.oer_nesting.proofs.laws.free_values.Goals as goal

pub returns : goal.returns
returns c = record { meet_none = free_meets_none }
