use Rattle.std.proofs.Common.{◌≡◌, [], true, sym, ap, ◌∙◌}
use Rattle.oer_types.specs.Schema.{the_type}
use Rattle.oer_values.specs.ShapeView.{type_of}
use Rattle.oer_printer.specs.Printer.{run, written}
use Rattle.oer_printer.specs.Printing.{has_notation, type_tokens}
use Rattle.oer_printer.specs.declared.printer.Edge.TheVariants.{Other}
use Rattle.oer_printer.proofs.Printed.{printed_some}
use Rattle.oer_printer.proofs.printing.print_type.Goals as goal

pub returns-clause-text : goal.returns-clause-text
returns-clause-text c =
    let T = the_type c.args.schema.now in
    let has : has_notation T ≡ true = ap (λ s. has_notation (type_of s)) (sym c.shape.ensures.same) ∙ sym c.has_notation.ensures ∙ c.if-not-has_notation.false in
    printed_some T (written c.put_type.new.printer) has
    (c.in_ok-put_type.ensures
    ∙ ap (λ bs. run (bs, Other) (type_tokens (type_of c.shape-2.result.now))) c.new.ensures.bytes
    ∙ ap (λ s. run ([], Other) (type_tokens (type_of s))) c.shape-2.ensures.same)
