use Rattle.oer_input.proofs.Base64One.{one_spelling}
use Rattle.oer_input.proofs.laws.octets_have_one_spelling_in_base64.Goals as goal

pub returns : goal.returns
returns c = λ t u os d f. one_spelling t u os d f
