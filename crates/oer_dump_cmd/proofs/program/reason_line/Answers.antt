use Rattle.std.proofs.lemmas.Result.{IfOk-weaker}
use Rattle.oer_dump_cmd.proofs.program.reason_line.Goals as goal

pub returns : goal.returns
returns c = IfOk-weaker c.line_with.result _ _ (λ line e. (c.as_str.result.now, e)) c.line_with.ensures
