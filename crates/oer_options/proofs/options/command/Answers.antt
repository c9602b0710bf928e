use Rattle.std.proofs.lemmas.Result.{IfOk-weaker}
use Rattle.oer_options.proofs.Asked.{adds_task, has_version, requires_task}
use Rattle.oer_options.proofs.options.command.Goals as goal

pub returns : goal.returns
returns c =
    let start = requires_task _ _ _ (has_version _ _ _ _ c.with_help.ensures c.version.ensures) c.subcommand_required.ensures in
    let one = adds_task _ _ _ _ _ start c.in_ok-show_command.ensures c.in_ok-subcommand.ensures in
    let two = adds_task _ _ _ _ _ one c.in_ok-hex_command.ensures c.in_ok-subcommand-2.ensures in
    let three = adds_task _ _ _ _ _ two c.in_ok-hex_command-2.ensures c.in_ok-subcommand-3.ensures in
    let four = adds_task _ _ _ _ _ three c.in_ok-make_command.ensures c.in_ok-subcommand-4.ensures in
    IfOk-weaker c.subcommand-5.result _ _ (λ r h. adds_task _ _ _ _ _ four c.in_ok-part_command.ensures h) c.subcommand-5.ensures
