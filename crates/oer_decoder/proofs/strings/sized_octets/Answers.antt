use Rattle.std.proofs.Common.{refl, sym, Ok, Err}
use Rattle.oer_decoder.proofs.Texts.{sized_stop, sized_misfit, sized_then}
use Rattle.oer_decoder.proofs.Exits.{at_fault, here}
use Rattle.oer_decoder.proofs.strings.sized_octets.Goals as goal

pub returns-in_err-count : goal.returns-in_err-count
returns-in_err-count g c = rw (at_fault c.from_residual-in_err-count.result c.in_err-count.field-0.0 c.from_residual-in_err-count.ensures.1, sym c.in_default.ensures) (here _ _ _ _ (sized_stop c.args.size.now _ _ _ c.in_err-count.ensures.reads))

pub returns-then-not-allows : goal.returns-then-not-allows
returns-then-not-allows g c = rw (sym c.in_default.ensures) (sized_misfit c.args.size.now _ _ c.in_ok-count.count _ c.in_ok-count.ensures.reads (sym (rw c.from.ensures at c.if-not-allows.ensures)) refl refl)

pub returns-in_err-octets-2 : goal.returns-in_err-octets-2
returns-in_err-octets-2 g c =
    rw (at_fault c.from_residual-in_err-octets-2.result c.in_err-octets-2.field-0.0 c.from_residual-in_err-octets-2.ensures.1, sym c.in_default.ensures)
    (here _ _ _ _ (sized_then c.args.size.now _ _ _ c.in_ok-count.count (Err c.in_err-octets-2.field-0.0) c.in_ok-count.ensures.reads (sym (rw c.from.ensures at c.if-not-allows.ensures)) c.in_err-octets-2.ensures.reads))

pub returns : goal.returns
returns g c = rw (sym c.in_default.ensures) (sized_then c.args.size.now _ _ _ c.in_ok-count.count (Ok c.in_ok-octets-2.field-0.items) c.in_ok-count.ensures.reads (sym (rw c.from.ensures at c.if-not-allows.ensures)) c.in_ok-octets-2.ensures.reads)
