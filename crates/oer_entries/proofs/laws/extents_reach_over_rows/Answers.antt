use Rattle.oer_entries.proofs.Within.{reach_over_rows}
use Rattle.oer_entries.proofs.laws.extents_reach_over_rows.Goals as goal

pub returns : goal.returns
returns c = reach_over_rows
