use Rattle.std.proofs.Common.{arith}
use Rattle.std.proofs.lemmas.Grind.{common_steps}
use Rattle.oer_values.proofs.Shapes.{type_of-Choice}
use Rattle.oer_ends.proofs.Roots.{ends_behind, ends_in_root}
use Rattle.oer_ends.proofs.ends.+ends.Goals as goal

pub has_end-returns-then-alternatives_have_end : goal.has_end-returns-then-alternatives_have_end
has_end-returns-then-alternatives_have_end t c =
    let e = ends_in_root c.in-Choice.root.items c.in-Choice.additions in
    rw (c.in-Choice.is, type_of-Choice) (grind (arith, common_steps, e))

pub has_end-returns-in-Some-additions : goal.has_end-returns-in-Some-additions
has_end-returns-in-Some-additions t c =
    let e = ends_behind c.in-Choice.root.items c.in-Some-additions.additions in
    rw (c.in-Choice.is, type_of-Choice, c.in-Some-additions.is) (grind (arith, common_steps, e))
