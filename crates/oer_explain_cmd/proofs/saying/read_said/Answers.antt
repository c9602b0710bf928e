use Rattle.std.proofs.lemmas.Result.{IfOk-weaker}
use Rattle.oer_explain_cmd.proofs.saying.read_said.Goals as goal

pub returns : goal.returns
returns c = IfOk-weaker c.hinting.result _ _ (λ notes e. (c.in_ok-said.said.items, c.in_ok-said.ensures, e)) c.hinting.ensures
