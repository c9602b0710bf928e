use Rattle.oer_module_values.proofs.Denoted.{one_number}
use Rattle.oer_module_values.proofs.laws.numbers_are_sole.Goals as goal

pub returns : goal.returns
returns c = λ ms m n t g h a y z p q d e. one_number ms m n t g h a y z p q d e
