use Rattle.oer_lines_cmd.proofs.TooLong.{long_same}
use Rattle.oer_lines_cmd.proofs.laws.long_is_as_in_a_run.Goals as goal

pub returns : goal.returns
returns c = λ nests task T limit path b all above. long_same nests task T limit path b all above
