use Rattle.std.proofs.Common.{arith}
use Rattle.oer_module_bounds.specs.Sets.{set_of}
use Rattle.oer_module_bounds.proofs.Plainness.{no_only}
use Rattle.oer_module_bounds.proofs.plain.+plain.Goals as goal

pub is_one_plain-returns-in_default : goal.is_one_plain-returns-in_default
is_one_plain-returns-in_default t c = no_only set_of c.args.members.now (λ one. omega arith)

pub is_one_plain-returns-in_default-2 : goal.is_one_plain-returns-in_default-2
is_one_plain-returns-in_default-2 t c = no_only set_of c.args.members.now (λ one. omega (arith, c.in_default.len_at_least))
