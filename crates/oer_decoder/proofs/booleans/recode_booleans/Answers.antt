use Rattle.std.proofs.Common.{arith, refl}
use Rattle.oer_units.proofs.ReadSteps.{Reads-memory_after}
use Rattle.oer_model.specs.AsnType.{boolean}
use Rattle.oer_model.specs.AsnValue.{bool}
use Rattle.oer_model.specs.Reading.{read_value}
use Rattle.oer_decoder.proofs.Recoded.{elements_end, elements_memory, elements_more, elements_start, elements_stop}
use Rattle.oer_decoder.proofs.Exits.{at_stop}
use Rattle.oer_decoder.proofs.booleans.recode_booleans.Goals as goal

pub loop-i-init : goal.loop-i-init
loop-i-init g c = elements_start boolean c.args.count _ _

pub returns-in_err-is_true : goal.returns-in_err-is_true
returns-in_err-is_true g c =
    rw (at_stop c.from_residual.result c.in_err-is_true.field-0.0 c.from_residual.ensures.1)
    (elements_stop boolean c.args.count c.loop-i.i _ _ _ _ _ _ (omega arith) c.loop-i.invariant c.in_err-is_true.ensures.reads)

pub returns-in_err-append : goal.returns-in_err-append
returns-in_err-append g c =
    rw (at_stop c.from_residual-in_err-append.result c.in_err-append.field-0.0 c.from_residual-in_err-append.ensures.1)
    (elements_memory boolean c.args.count c.loop-i.i _ _ _ _ _ (bool c.in_ok-is_true.is_true) _ c.loop-i.invariant c.in_ok-is_true.ensures.reads c.in_err-append.ensures refl)

pub loop-i-preserved : goal.loop-i-preserved
loop-i-preserved g c =
    elements_more boolean c.args.count c.loop-i.i _ _ _ _ _ _ (bool c.in_ok-is_true.is_true) (omega arith) c.loop-i.invariant c.in_ok-is_true.ensures.reads
    (rw c.canonical_octet.ensures at c.in_ok-append.ensures)

pub returns : goal.returns
returns g c = elements_end boolean c.args.count c.loop-i.i _ _ _ _ (omega arith) c.loop-i.invariant
