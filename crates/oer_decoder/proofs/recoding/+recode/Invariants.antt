use Rattle.oer_units.specs.Reads.{state}
use Rattle.oer_values.specs.ShapeView.{type_of}
use Rattle.oer_decoder.specs.MarksView.{bits_in}
use Rattle.oer_decoder.specs.Octets.{gathered}
use Rattle.oer_decoder.proofs.Recoded.{AdditionsSoFar, ElementsSoFar, FieldsSoFar}
use Rattle.oer_decoder.proofs.recoding.+recode.Given as goal

abbrev pub invariant-recode_elements-loop-i : goal.invariant-recode_elements-loop-i
invariant-recode_elements-loop-i g l =
    let now = state g.R.Source.loan g.R.Source.remaining g.R.Source.failed in
    ElementsSoFar (type_of l.item) l.count l.i (now l.fn.w) (now l.w) (gathered l.fn.out) (gathered l.out)

abbrev pub invariant-recode_fields-loop-field : goal.invariant-recode_fields-loop-field
invariant-recode_fields-loop-field g l =
    let now = state g.R.Source.loan g.R.Source.remaining g.R.Source.failed in
    FieldsSoFar l.fields l.field-index l.bits l.left (now l.fn.w) (now l.w) (bits_in l.fn.marks) (bits_in l.marks) (gathered l.fn.out) (gathered l.out)

abbrev pub invariant-recode_additions-loop-addition : goal.invariant-recode_additions-loop-addition
invariant-recode_additions-loop-addition g l =
    let now = state g.R.Source.loan g.R.Source.remaining g.R.Source.failed in
    AdditionsSoFar l.additions l.addition-index l.bits l.left l.is_any (now l.fn.w) (now l.w) (bits_in l.fn.marks) (bits_in l.marks) (gathered l.fn.out) (gathered l.out)
