use Rattle.oer_decoder.proofs.Recoded.{grows_of}
use Rattle.oer_decoder.proofs.gathering.append_unknown.Goals as goal

pub returns : goal.returns
returns c = grows_of _ _ _ _ _ c.put_unknown.result c.grown.result c.grown.ensures c.put_unknown.ensures
