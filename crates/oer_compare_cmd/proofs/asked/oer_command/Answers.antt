use Rattle.std.proofs.Common.{rules}
use Rattle.oer_compare_cmd.proofs.asked.oer_command.Goals as goal

pub returns : goal.returns
returns c = record { app = search rules; local = search rules }
