use Rattle.oer_module_syntax.proofs.SameTurns.{turns_suffice}
use Rattle.oer_module_syntax.proofs.laws.turns_suffice.Goals as goal

pub returns : goal.returns
returns c = turns_suffice
