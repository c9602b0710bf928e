use Rattle.oer_decoder.proofs.Relayed.{relayed}
use Rattle.oer_decoder.proofs.laws.relaying.Goals as goal

pub returns : goal.returns
returns c = record { octets = c.relaying.ensures.keeps; runs = relayed c.relaying.ensures.keeps }
