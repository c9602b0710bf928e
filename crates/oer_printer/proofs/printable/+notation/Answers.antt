use Rattle.std.proofs.Common.{arith, ap, sym, ◌∙◌}
use Rattle.std.proofs.lemmas.Grind.{common_steps}
use Rattle.oer_values.specs.ShapeView.{later_of, root_of}
use Rattle.oer_model.specs.AsnType.{no_alternatives}
use Rattle.oer_printer.specs.Printing.{alternatives_have_notation}
use Rattle.oer_values.proofs.Shapes.{type_of-Choice}
use Rattle.oer_printer.proofs.Printed.{notation_of_later, notation_of_root, choice_refused}
use Rattle.oer_printer.proofs.printable.+notation.Goals as goal

pub has_notation-returns-then-not-alternatives_have_notation : goal.has_notation-returns-then-not-alternatives_have_notation
has_notation-returns-then-not-alternatives_have_notation t c =
    rw (c.in-Choice.is, type_of-Choice) (sym (choice_refused c.in-Choice.root.items c.in-Choice.additions (ap (λ xs. alternatives_have_notation (root_of xs no_alternatives)) (sym c.deref-in-Choice.ensures.value) ∙ sym c.alternatives_have_notation.ensures ∙ c.if-not-alternatives_have_notation.true)))

pub has_notation-returns-in-Some-additions : goal.has_notation-returns-in-Some-additions
has_notation-returns-in-Some-additions t c =
    let e = notation_of_root c.in-Choice.root.items (later_of c.in-Some-additions.additions.items) in
    let f = notation_of_later c.in-Some-additions.additions.items in
    rw (c.in-Choice.is, type_of-Choice, c.in-Some-additions.is) (grind (arith, common_steps, e, f))
