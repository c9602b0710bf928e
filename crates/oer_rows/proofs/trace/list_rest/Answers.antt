use Rattle.std.proofs.Common.{◌∙◌, refl, sym, arith, Ok, Err}
use Rattle.oer_model.specs.Parts.{to_addition}
use Rattle.oer_checker.specs.BitView.{bits_in}
use Rattle.oer_rows.specs.Rows.{path_in, walk_unknown}
use Rattle.oer_checker.proofs.BitLists.{bit_in}
use Rattle.oer_checker.proofs.Exits.{at_stop}
use Rattle.oer_rows.proofs.LineSteps.{at_inner, here, marked_end, marked_next, marked_stop, no_inner, unmarked_next}
use Rattle.oer_rows.proofs.trace.list_rest.Goals as goal

pub loop-index-init : goal.loop-index-init
loop-index-init g c = here g.T.TakeRow.takes _ _ _ _ _ (λ ls. refl)

pub loop-index-preserved-then-not-bit : goal.loop-index-preserved-then-not-bit
loop-index-preserved-then-not-bit g c = unmarked_next g.T.TakeRow.takes c.args.spot.now.total (path_in c.args.spot.now) c.loop-index.index (bits_in c.args.bits) _ _ _ _ _
    (bit_in c.args.bits c.loop-index.index c.requires.0 c.loop-index-test.true ∙ sym c.bit.ensures ∙ c.if-not-bit.true) c.loop-index.invariant

pub returns-in_err-inner : goal.returns-in_err-inner
returns-in_err-inner g c =
    rw (at_stop c.from_residual.result c.in_err-inner.field-0.0 c.from_residual.ensures.1)
    (no_inner g.T.TakeRow.takes c.args.spot.now (to_addition c.loop-index.index) _ _ _ _ _ c.in_err-inner.ensures)

pub returns-in_err-at : goal.returns-in_err-at
returns-in_err-at g c =
    rw (at_stop c.from_residual-in_err-at.result c.in_err-at.field-0.0 c.from_residual-in_err-at.ensures.1)
    (marked_stop g.T.TakeRow.takes c.args.spot.now.total (path_in c.args.spot.now) c.loop-index.index (bits_in c.args.bits) _ _ _ _ _ _ _
    (bit_in c.args.bits c.loop-index.index c.requires.0 c.loop-index-test.true ∙ sym c.bit.ensures ∙ c.if-not-bit.false) c.loop-index.invariant
    (at_inner g.T.TakeRow.takes walk_unknown c.args.spot.now c.in_ok-inner.inner (to_addition c.loop-index.index) (Err c.in_err-at.field-0.0) _ _ _ c.in_ok-inner.ensures
    c.in_err-at.ensures))

pub loop-index-preserved : goal.loop-index-preserved
loop-index-preserved g c =
    marked_next g.T.TakeRow.takes c.args.spot.now.total (path_in c.args.spot.now) c.loop-index.index (bits_in c.args.bits) _ _ _ _ _ _ c.in_ok-at.at
    (bit_in c.args.bits c.loop-index.index c.requires.0 c.loop-index-test.true ∙ sym c.bit.ensures ∙ c.if-not-bit.false) c.loop-index.invariant
    (at_inner g.T.TakeRow.takes walk_unknown c.args.spot.now c.in_ok-inner.inner (to_addition c.loop-index.index) (Ok c.in_ok-at.at) _ _ _ c.in_ok-inner.ensures
    c.in_ok-at.ensures)

pub returns : goal.returns
returns g c = marked_end g.T.TakeRow.takes c.args.spot.now.total (path_in c.args.spot.now) c.loop-index.index (bits_in c.args.bits) _ _ _ _ c.loop-index.at
    (let many = c.requires.1 in let done = c.loop-index-test.false in omega arith) c.loop-index.invariant
