use Rattle.std.proofs.Common.{ap}
use Rattle.oer_options.specs.Words.{behind}
use Rattle.oer_dump_cmd.proofs.Terminal.{number_read}
use Rattle.oer_dump_cmd.proofs.width.usual_width.Goals as goal

pub returns-in-Ok : goal.returns-in-Ok
returns-in-Ok c = number_read c.args.is_terminal (behind c.args.columns) c.in-Some.text.now c.in-Ok.width (ap behind c.in-Some.is) c.in-Ok.ensures.value.0 c.if-not-is_terminal.false
