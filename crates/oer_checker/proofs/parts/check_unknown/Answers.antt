use Rattle.oer_checker.proofs.Exits.{at_stop}
use Rattle.oer_checker.proofs.Joins.{then_and, else_and}
use Rattle.std.proofs.Common.{◌&&◌, ◌≡◌, ◌∙◌, sym, arith}
use Rattle.oer_checker.specs.BitView.{bits_in}
use Rattle.oer_checker.proofs.BitLists.{bit_in}
use Rattle.oer_checker.proofs.FieldSteps.{marked_end, marked_next, marked_stop, unmarked_next}
use Rattle.oer_checker.proofs.parts.check_unknown.Goals as goal
use Rattle.oer_checker.proofs.parts.check_unknown.Goals.{then-is_canonical, else-is_canonical}

pub loop-index-preserved-then-not-bit : goal.loop-index-preserved-then-not-bit
loop-index-preserved-then-not-bit c = unmarked_next (bits_in c.args.bits) c.loop-index.index c.loop-index.is_canonical _ _ (bit_in c.args.bits c.loop-index.index c.requires.0 c.loop-index-test.true ∙ sym c.bit.ensures ∙ c.if-not-bit.true) c.loop-index.invariant

pub returns-in_err-is_addition : goal.returns-in_err-is_addition
returns-in_err-is_addition c = rw (at_stop c.from_residual.result c.in_err-is_addition.field-0.0 c.from_residual.ensures.1) (marked_stop (bits_in c.args.bits) c.loop-index.index c.loop-index.is_canonical _ _ _ _ (bit_in c.args.bits c.loop-index.index c.requires.0 c.loop-index-test.true ∙ sym c.bit.ensures ∙ c.if-not-bit.false) c.loop-index.invariant c.in_err-is_addition.ensures)

pub loop-index-preserved : goal.loop-index-preserved
loop-index-preserved c =
    let both : c.if-is_canonical.is_canonical ≡ (c.loop-index.is_canonical && c.in_ok-is_addition.is_addition) = elim c.if-is_canonical.branch [
      | then-is_canonical w ↦ then_and w.if-is_canonical.true w.is_canonical-is
      | else-is_canonical w ↦ else_and c.in_ok-is_addition.is_addition w.if-is_canonical.false w.is_canonical-is
    ] in
    rw both (marked_next (bits_in c.args.bits) c.loop-index.index c.loop-index.is_canonical c.in_ok-is_addition.is_addition _ _ _
    (bit_in c.args.bits c.loop-index.index c.requires.0 c.loop-index-test.true ∙ sym c.bit.ensures ∙ c.if-not-bit.false) c.loop-index.invariant c.in_ok-is_addition.ensures)

pub returns : goal.returns
returns c = marked_end (bits_in c.args.bits) c.loop-index.index c.loop-index.is_canonical _ _ (let many = c.requires.1 in let done = c.loop-index-test.false in omega arith) c.loop-index.invariant
