use Rattle.oer_lines_cmd.proofs.NoLine.{none_has_line}
use Rattle.oer_lines_cmd.proofs.laws.none_is_rejected.Goals as goal

pub returns : goal.returns
returns c = λ T keeps defaults nests task limit path xs octs few some none line is. none_has_line T keeps defaults nests task limit path xs octs few some none line is
