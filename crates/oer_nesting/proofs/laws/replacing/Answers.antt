use Rattle.oer_nesting.proofs.Replaced.{none_replaced}
use Rattle.oer_nesting.proofs.laws.replacing.Goals as goal

pub returns : goal.returns
returns c = record { none = none_replaced }
