use Rattle.oer_units.specs.Reads.{state}
use Rattle.oer_model.specs.AsnType.{boolean}
use Rattle.oer_decoder.specs.Octets.{gathered}
use Rattle.oer_decoder.proofs.Recoded.{ElementsSoFar}
use Rattle.oer_decoder.proofs.booleans.recode_booleans.Given as goal

abbrev pub invariant-loop-i : goal.invariant-loop-i
invariant-loop-i g l =
    let now = state g.R.Source.loan g.R.Source.remaining g.R.Source.failed in
    ElementsSoFar boolean l.count l.i (now l.fn.w) (now l.w) (gathered l.fn.out) (gathered l.out)
