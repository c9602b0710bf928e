use Rattle.std.proofs.Common.{refl}
use Rattle.oer_decoder.proofs.BitReads.{preamble_none}
use Rattle.oer_decoder.proofs.preamble.preamble.Goals as goal

pub returns-then-count-eq0 : goal.returns-then-count-eq0
returns-then-count-eq0 g c = preamble_none c.args.count _ _ c.if-count-eq0.true refl
