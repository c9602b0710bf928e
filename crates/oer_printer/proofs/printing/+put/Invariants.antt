use Rattle.std.proofs.Common.{◌≡◌, drop}
use Rattle.oer_model.specs.AsnType.{no_alternatives}
use Rattle.oer_values.specs.ShapeView.{additions_of, fields_of, root_of}
use Rattle.oer_printer.specs.Printer.{joined_from, run, written}
use Rattle.oer_printer.specs.Printing.{addition_parts, after_commas, field_parts, joined, root_parts}
use Rattle.oer_printer.proofs.printing.+put.Given as goal

-- what is left gives the whole
abbrev pub invariant-put_fields-loop-field : goal.invariant-put_fields-loop-field
invariant-put_fields-loop-field l = run (written l.fn.printer) (joined (field_parts (fields_of l.fields))) ≡ run (written l.printer) (joined_from l.first (field_parts (fields_of (drop l.field-index l.fields))))

abbrev pub invariant-put_additions-loop-addition : goal.invariant-put_additions-loop-addition
invariant-put_additions-loop-addition l = run (written l.fn.printer) (after_commas (addition_parts (additions_of l.additions))) ≡ run (written l.printer) (after_commas (addition_parts (additions_of (drop l.addition-index l.additions))))

abbrev pub invariant-put_alternatives-loop-alt : goal.invariant-put_alternatives-loop-alt
invariant-put_alternatives-loop-alt l = run (written l.fn.printer) (joined_from l.fn.first (root_parts (root_of l.alts no_alternatives))) ≡ run (written l.printer) (joined_from l.first (root_parts (root_of (drop l.alt-index l.alts) no_alternatives)))
