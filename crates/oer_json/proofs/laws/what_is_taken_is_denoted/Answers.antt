use Rattle.oer_json.proofs.Sound.{taken_sound}
use Rattle.oer_json.proofs.laws.what_is_taken_is_denoted.Goals as goal

pub returns : goal.returns
returns c = taken_sound
