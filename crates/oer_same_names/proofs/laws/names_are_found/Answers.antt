use Rattle.oer_same_names.proofs.Found.{found_defines}
use Rattle.oer_same_names.proofs.laws.names_are_found.Goals as goal

pub returns : goal.returns
returns c ms ks known w T h front d = found_defines ms ks h known w T front d
