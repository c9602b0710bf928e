use Rattle.std.proofs.Common.{◌-◌, ◌+◌, arith, refl}
use Rattle.std.proofs.lemmas.Grind.{common_steps}
use Rattle.oer_model.specs.AsnType.{boolean}
use Rattle.oer_model.specs.Reading.{read_value}
use Rattle.oer_values.specs.declared.value.Value.{Bool}
use Rattle.oer_decoder.proofs.Values.{value_of-Bool}
use Rattle.oer_decoder.proofs.Loops.{elements_end, elements_next, elements_none, elements_stop, leads_memory}
use Rattle.oer_decoder.proofs.Exits.{at_stop}
use Rattle.oer_decoder.proofs.booleans.read_booleans.Goals as goal

pub loop-i-init : goal.loop-i-init
loop-i-init g c = elements_none c.args.count (read_value boolean) _ _ c.new-values.ensures.items

pub returns-in_err-is_true : goal.returns-in_err-is_true
returns-in_err-is_true g c =
    rw (at_stop c.from_residual.result c.in_err-is_true.field-0.0 c.from_residual.ensures.1)
    (elements_stop (c.args.count - c.loop-i.i) (c.args.count - (c.loop-i.i + 1)) (read_value boolean) c.loop-i.values.items _ _ _ _ _ (omega arith) c.loop-i.invariant c.in_err-is_true.ensures.reads)

pub loop-i-preserved : goal.loop-i-preserved
loop-i-preserved g c =
    elements_next (c.args.count - c.loop-i.i) (c.args.count - (c.loop-i.i + 1)) (read_value boolean) c.loop-i.values.items _ (Bool c.in_ok-is_true.is_true) _ _ _ _ (omega arith) (grind (arith, common_steps)) c.loop-i.invariant (rw value_of-Bool c.in_ok-is_true.ensures.reads)

pub returns-then-is_err : goal.returns-then-is_err
returns-then-is_err g c =
    leads_memory _ _ _ _ _ _ refl refl
    (elements_next (c.args.count - c.loop-i.i) (c.args.count - (c.loop-i.i + 1)) (read_value boolean) c.loop-i.values.items _ (Bool c.in_ok-is_true.is_true) _ _ _ _ (omega arith) refl c.loop-i.invariant (rw value_of-Bool c.in_ok-is_true.ensures.reads))

pub returns : goal.returns
returns g c = elements_end (c.args.count - c.loop-i.i) (read_value boolean) c.loop-i.values.items _ _ _ (omega arith) c.loop-i.invariant
