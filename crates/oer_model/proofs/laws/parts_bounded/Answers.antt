use Rattle.oer_model.proofs.reading.Sizes.{nodes_bounded}
use Rattle.oer_model.proofs.reading.Payload.{value_paid}
use Rattle.oer_model.proofs.laws.parts_bounded.Goals as goal

pub returns : goal.returns
returns c = record { bounded = λ T w v b s. (nodes_bounded T w v b s.2, value_paid T v b s.2) }
