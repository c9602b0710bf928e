use Rattle.oer_decoder.proofs.Recoded.{grows_of}
use Rattle.oer_decoder.proofs.gathering.append_quantity.Goals as goal

pub returns : goal.returns
returns c = grows_of _ _ _ _ _ c.put_quantity.result c.grown.result c.grown.ensures c.put_quantity.ensures
