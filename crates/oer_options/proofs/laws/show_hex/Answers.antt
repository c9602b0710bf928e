use Rattle.std.proofs.Common.{refl}
use Rattle.clap.proofs.OnLiterals.{clap_on_literals}
use Rattle.oer_options.proofs.laws.show_hex.Goals as goal

pub returns : goal.returns
unfolding clap_on_literals
returns c = λ t h. record { takes = refl; task = refl; texts = refl; hex = refl; limit = refl }
