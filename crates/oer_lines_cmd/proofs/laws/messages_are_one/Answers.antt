use Rattle.std.proofs.Common.{arith, length}
use Rattle.oer_lines_cmd.proofs.OneStream.{are_messages, only_messages}
use Rattle.oer_lines_cmd.proofs.laws.messages_are_one.Goals as goal

pub returns : goal.returns
returns c = λ T keeps limit xs octs. (are_messages T keeps limit (length xs) xs (omega arith) octs, λ bs left are. only_messages T keeps limit bs xs left octs are)
