use Rattle.oer_module_parts.proofs.Lasts.{last_is, last_none}
use Rattle.oer_module_parts.proofs.kept.last_place.Goals as goal

pub returns-in-Some : goal.returns-in-Some
returns-in-Some c = last_is c.args.spots.now c.args.at _ c.in-Some.ensures.value

pub returns-in-None : goal.returns-in-None
returns-in-None c = last_none c.args.spots.now c.args.at c.in-None.ensures.value
