use Rattle.std.proofs.Common.{[]}
use Rattle.oer_same_names.proofs.Ways.{tagged_comes}
use Rattle.oer_same_names.proofs.laws.alternatives_are_meant.Goals as goal

pub returns : goal.returns
returns c ms ks known is_tagged place g T t h front says = tagged_comes ms ks h 254 known is_tagged place g T t [] front says tt
