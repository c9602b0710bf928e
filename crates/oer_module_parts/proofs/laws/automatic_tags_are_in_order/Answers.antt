use Rattle.oer_module_parts.proofs.AutomaticLaw.{automatic_in_order}
use Rattle.oer_module_parts.proofs.laws.automatic_tags_are_in_order.Goals as goal

pub returns : goal.returns
returns c = automatic_in_order
