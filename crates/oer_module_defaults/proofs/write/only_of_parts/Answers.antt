use Rattle.std.proofs.Common.{sym, arith}
use Rattle.oer_module_defaults.proofs.Parted.{no_only}
use Rattle.oer_module_defaults.proofs.write.only_of_parts.Goals as goal

pub returns-in_default : goal.returns-in_default
returns-in_default c = sym (no_only c.args.parts.now (λ one. omega arith))
