use Rattle.std.proofs.Common.{sym, arith}
use Rattle.oer_module_defaults.proofs.Loops.{no_member}
use Rattle.oer_module_defaults.proofs.arcs.only_member.Goals as goal

pub returns-in_default : goal.returns-in_default
returns-in_default c = sym (no_member c.args.members.now (λ one. omega arith))
