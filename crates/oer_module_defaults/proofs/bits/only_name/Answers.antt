use Rattle.std.proofs.Common.{sym, arith}
use Rattle.oer_module_defaults.proofs.Loops.{no_name}
use Rattle.oer_module_defaults.proofs.bits.only_name.Goals as goal

pub returns-in_default : goal.returns-in_default
returns-in_default c = sym (no_name c.args.parts.now (λ one. omega arith))
