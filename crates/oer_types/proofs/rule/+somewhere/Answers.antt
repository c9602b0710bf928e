use Rattle.std.proofs.Common.{sym, ◌∙◌, arith}
use Rattle.std.proofs.lemmas.Grind.{common_steps}
use Rattle.oer_types.specs.AnyFault.{is_sought}
use Rattle.oer_values.proofs.Shapes.{type_of-Choice}
use Rattle.oer_types.proofs.Alternatives.{choice_faults, somewhere_in_root}
use Rattle.oer_types.proofs.rule.+somewhere.Goals as goal

pub is_somewhere-returns-then-is_in_alternatives : goal.is_somewhere-returns-then-is_in_alternatives
is_somewhere-returns-then-is_in_alternatives t c =
    let h = rw c.deref-in-Choice.ensures.value at c.is_in_alternatives.ensures in
    rw (c.in-Choice.is, type_of-Choice) (sym (somewhere_in_root (is_sought c.args.sought) c.in-Choice.root.items c.in-Choice.additions (sym h ∙ c.if-is_in_alternatives.true)))

pub is_somewhere-returns-in-Some-additions : goal.is_somewhere-returns-in-Some-additions
is_somewhere-returns-in-Some-additions t c =
    let e = choice_faults (is_sought c.args.sought) c.in-Choice.root.items c.in-Some-additions.additions.items in
    let h = rw (c.in-Choice.is, type_of-Choice, c.in-Some-additions.is) at c.has_fault_here.ensures in
    rw (c.in-Choice.is, type_of-Choice, c.in-Some-additions.is) (grind (arith, common_steps, e, h))
