-- From the law on encodings to what rewriting keeps.
use Rattle.std.proofs.Common.{refl}
use Rattle.oer_model.specs.Laws.{KeepsUnknown}
use Rattle.oer_decoder.specs.Relaying.{RewritingKeepsUnknown}

pub relayed : KeepsUnknown → RewritingKeepsUnknown
relayed law T wf fits limit known known' old new (m, n) (v, b, takes, taken, (c, canonical, size, appends)) =
    (v, b, c, takes, canonical, appends, rw (taken, size) refl, λ path s. law T wf fits v b c takes.2 canonical path s)
