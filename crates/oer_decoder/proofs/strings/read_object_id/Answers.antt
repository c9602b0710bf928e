use Rattle.std.proofs.Common.{refl, Ok, Err}
use Rattle.oer_decoder.proofs.Objects.{object_stop, object_empty, object_then, object_memory}
use Rattle.oer_decoder.proofs.Values.{value_of-Oid}
use Rattle.oer_decoder.proofs.Exits.{at_fault, at_stop, here}
use Rattle.oer_decoder.proofs.strings.read_object_id.Goals as goal

pub returns-in_err-content : goal.returns-in_err-content
returns-in_err-content g c = rw (at_fault c.from_residual.result c.in_err-content.field-0.0 c.from_residual.ensures.1) (here _ _ _ _ (object_stop _ _ _ c.in_err-content.ensures.reads))

pub returns-then-content-eq0 : goal.returns-then-content-eq0
returns-then-content-eq0 g c = object_empty _ _ c.in_ok-content.content _ c.in_ok-content.ensures.reads c.if-content-eq0.true refl refl

pub returns-in_err-numbers : goal.returns-in_err-numbers
returns-in_err-numbers g c =
    rw (at_stop c.from_residual-in_err-numbers.result c.in_err-numbers.field-0.0 c.from_residual-in_err-numbers.ensures.1)
    (object_then _ _ _ c.in_ok-content.content (Err _) c.in_ok-content.ensures.reads c.if-content-eq0.false c.in_err-numbers.ensures)

pub returns-in_default : goal.returns-in_default
returns-in_default g c = object_memory _ _ _ c.in_ok-content.content c.in_ok-numbers.numbers.items _ c.in_ok-content.ensures.reads c.if-content-eq0.false c.in_ok-numbers.ensures refl refl

pub returns : goal.returns
returns g c =
    rw (c.set.ensures, value_of-Oid, c.in-Ok.ensures, c.deref.ensures.value)
    (object_then _ _ _ c.in_ok-content.content (Ok c.in_ok-numbers.numbers.items) c.in_ok-content.ensures.reads c.if-content-eq0.false c.in_ok-numbers.ensures)
