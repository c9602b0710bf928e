use Rattle.oer_decoder.proofs.Recoded.{grows_of}
use Rattle.oer_decoder.proofs.gathering.append.Goals as goal

pub returns : goal.returns
returns c = grows_of _ _ _ _ _ c.put_slice.result c.grown.result c.grown.ensures c.put_slice.ensures
