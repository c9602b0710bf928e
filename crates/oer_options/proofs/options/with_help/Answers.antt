use Rattle.std.proofs.Common.{rules}
use Rattle.oer_options.proofs.options.with_help.Goals as goal

pub returns : goal.returns
returns c = record { app = search rules; local = search rules }
