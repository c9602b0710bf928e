use Rattle.oer_same_names.proofs.Found.{found_anywhere_defines}
use Rattle.oer_same_names.proofs.laws.names_are_found_anywhere.Goals as goal

pub returns : goal.returns
returns c ms ks w T h d = found_anywhere_defines ms ks h w T d
