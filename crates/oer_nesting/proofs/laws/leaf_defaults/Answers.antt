use Rattle.oer_nesting.proofs.Replaced.{leaf_defaults}
use Rattle.oer_nesting.proofs.laws.leaf_defaults.Goals as goal

pub returns : goal.returns
returns c = record { meet_none = leaf_defaults }
