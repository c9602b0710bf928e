use Rattle.oer_nesting.proofs.FreeDefaults.{free_defaults}
use Rattle.oer_nesting.proofs.laws.free_defaults.Goals as goal

pub returns : goal.returns
returns c = record { meet_none = free_defaults }
