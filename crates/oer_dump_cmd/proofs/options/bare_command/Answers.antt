use Rattle.std.proofs.Common.{rules}
use Rattle.oer_dump_cmd.proofs.options.bare_command.Goals as goal

pub returns : goal.returns
returns c = record { app = search rules; local = search rules }
