use Rattle.std.proofs.Common.{Ok, Err}
use Rattle.oer_values.specs.ShapeView.{type_of}
use Rattle.oer_values.specs.ValueView.{value_of}
use Rattle.oer_units.proofs.ReadExits.{at_exit}
use Rattle.oer_decoder.proofs.FrontProof.{comes_of, fits_of, tells_of}
use Rattle.oer_decoder.proofs.front.read.Goals as goal

pub returns-in_err-value-clause-told : goal.returns-in_err-value-clause-told
returns-in_err-value-clause-told g c =
    rw (at_exit c.from_residual.result c.in_err-value.field-0.0 c.from_residual.ensures.1)
    (rw c.shape.ensures.same at (tells_of (type_of c.shape.result.now) c.shape.ensures.limits _ _ _ _ _ (Err c.in_err-value.field-0.0) c.in_err-value.ensures.reads))

pub returns-in_err-value-clause-comes : goal.returns-in_err-value-clause-comes
returns-in_err-value-clause-comes g c =
    rw (at_exit c.from_residual.result c.in_err-value.field-0.0 c.from_residual.ensures.1)
    (rw c.shape.ensures.same at (comes_of (type_of c.shape.result.now) c.shape.ensures.limits _ _ _ _ _ (Err c.in_err-value.field-0.0) c.in_err-value.ensures.reads))

pub returns-clause-told : goal.returns-clause-told
returns-clause-told g c = rw c.shape.ensures.same at (tells_of (type_of c.shape.result.now) c.shape.ensures.limits _ _ _ _ _ (Ok (value_of c.in_ok-value.value, c.in_ok-value.field-0-1)) c.in_ok-value.ensures.reads)

pub returns-clause-comes : goal.returns-clause-comes
returns-clause-comes g c = rw c.shape.ensures.same at (comes_of (type_of c.shape.result.now) c.shape.ensures.limits _ _ _ _ _ (Ok (value_of c.in_ok-value.value, c.in_ok-value.field-0-1)) c.in_ok-value.ensures.reads)

pub returns-clause-fits : goal.returns-clause-fits
returns-clause-fits g c = rw c.shape.ensures.same at (fits_of (type_of c.shape.result.now) c.shape.ensures.limits _ _ _ _ _ (value_of c.in_ok-value.value) c.in_ok-value.field-0-1 c.in_ok-value.ensures.reads)
