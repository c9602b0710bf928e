use Rattle.std.proofs.Common.{sym, arith}
use Rattle.oer_module_defaults.proofs.Parted.{no_entry}
use Rattle.oer_module_defaults.proofs.slot.entry_of_parts.Goals as goal

pub returns-in_default : goal.returns-in_default
returns-in_default c = sym (no_entry c.args.parts.now (λ two. omega arith))

pub returns-in-len1 : goal.returns-in-len1
returns-in-len1 c = sym (no_entry c.args.parts.now (λ two. omega arith))
