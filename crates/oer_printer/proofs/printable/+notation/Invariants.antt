use Rattle.std.proofs.Common.{◌≡◌, drop}
use Rattle.oer_model.specs.AsnType.{no_alternatives}
use Rattle.oer_values.specs.ShapeView.{additions_of, fields_of, root_of}
use Rattle.oer_printer.specs.Printing.{additions_have_notation, alternatives_have_notation, have_notation}
use Rattle.oer_printer.proofs.printable.+notation.Given as goal

-- what is left decides
abbrev pub invariant-have_notation-loop-field : goal.invariant-have_notation-loop-field
invariant-have_notation-loop-field l = have_notation (fields_of l.fields) ≡ have_notation (fields_of (drop l.field-index l.fields))

abbrev pub invariant-additions_have_notation-loop-addition : goal.invariant-additions_have_notation-loop-addition
invariant-additions_have_notation-loop-addition l = additions_have_notation (additions_of l.additions) ≡ additions_have_notation (additions_of (drop l.addition-index l.additions))

abbrev pub invariant-alternatives_have_notation-loop-alt : goal.invariant-alternatives_have_notation-loop-alt
invariant-alternatives_have_notation-loop-alt l = alternatives_have_notation (root_of l.alts no_alternatives) ≡ alternatives_have_notation (root_of (drop l.alt-index l.alts) no_alternatives)
