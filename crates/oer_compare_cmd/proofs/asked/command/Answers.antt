use Rattle.std.proofs.lemmas.Result.{IfOk-weaker}
use Rattle.oer_options.proofs.Asked.{adds_task, requires_task}
use Rattle.oer_compare_cmd.proofs.asked.command.Goals as goal

pub returns : goal.returns
returns c =
    let start = requires_task _ _ _ c.oer_command.ensures c.subcommand_required.ensures in
    IfOk-weaker c.subcommand.result _ _ (λ r h. adds_task _ _ _ _ _ start c.in_ok-compare_command.ensures h) c.subcommand.ensures
