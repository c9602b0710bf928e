use Rattle.std.proofs.Common.{Ok, Err}
use Rattle.oer_decoder.proofs.Texts.{octets_stop, octets_then}
use Rattle.oer_decoder.proofs.Exits.{at_fault, here}
use Rattle.oer_decoder.proofs.strings.counted_octets.Goals as goal

pub returns-in_err-count : goal.returns-in_err-count
returns-in_err-count g c = rw (at_fault c.from_residual.result c.in_err-count.field-0.0 c.from_residual.ensures.1) (here _ _ _ _ (octets_stop _ _ _ c.in_err-count.ensures.reads))

pub returns-in_err-octets : goal.returns-in_err-octets
returns-in_err-octets g c =
    rw (at_fault c.from_residual-in_err-octets.result c.in_err-octets.field-0.0 c.from_residual-in_err-octets.ensures.1)
    (here _ _ _ _ (octets_then _ _ _ c.in_ok-count.count (Err c.in_err-octets.field-0.0) c.in_ok-count.ensures.reads c.in_err-octets.ensures.reads))

pub returns : goal.returns
returns g c = octets_then _ _ _ c.in_ok-count.count (Ok c.in_ok-octets.field-0.items) c.in_ok-count.ensures.reads c.in_ok-octets.ensures.reads
