use Rattle.oer_decoder.proofs.Recoded.{grows_then}
use Rattle.oer_decoder.proofs.gathering.append_counted.Goals as goal

pub returns : goal.returns
returns c = grows_then _ _ _ _ _ c.append.result c.in_ok-append_length.ensures c.append.ensures
