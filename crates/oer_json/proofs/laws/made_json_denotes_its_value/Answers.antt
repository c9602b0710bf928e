use Rattle.oer_json.proofs.MadeDenotes.{made_taken}
use Rattle.oer_json.proofs.laws.made_json_denotes_its_value.Goals as goal

pub returns : goal.returns
returns c = made_taken
