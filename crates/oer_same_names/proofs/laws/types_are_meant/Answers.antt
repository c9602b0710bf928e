use Rattle.oer_same_names.proofs.Ways.{type_comes}
use Rattle.oer_same_names.proofs.laws.types_are_meant.Goals as goal

pub returns : goal.returns
returns c ms ks known T t h front says = type_comes ms ks h known T t front says
