use Rattle.std.proofs.lemmas.Result.{IfOk-weaker}
use Rattle.oer_options.proofs.Asked.{adds}
use Rattle.oer_options.proofs.options.show_command.Goals as goal

pub returns : goal.returns
returns c = IfOk-weaker c.arg.result _ _ (λ r h. adds _ _ _ _ _ c.in_ok-hex_command.ensures c.flag.ensures.rule c.flag.ensures.local h) c.arg.ensures
