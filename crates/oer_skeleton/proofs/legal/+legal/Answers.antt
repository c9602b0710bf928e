use Rattle.std.proofs.Common.{sym, ◌∙◌}
use Rattle.oer_values.proofs.Shapes.{type_of-Choice}
use Rattle.oer_skeleton.proofs.Taken.{choice_legal}
use Rattle.oer_skeleton.proofs.legal.+legal.Goals as goal

pub is_legal-returns-in-Choice : goal.is_legal-returns-in-Choice
is_legal-returns-in-Choice t c =
    let e = rw c.deref-in-Choice.ensures.value at c.any_legal.ensures in
    rw (c.in-Choice.is, type_of-Choice) (e ∙ sym (choice_legal c.in-Choice.root.items c.in-Choice.additions))
