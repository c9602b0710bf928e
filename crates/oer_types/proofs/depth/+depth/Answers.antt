use Rattle.std.proofs.Common.{arith, rules}
use Rattle.std.proofs.lemmas.Grind.{common_steps}
use Rattle.oer_values.proofs.Shapes.{type_of-Choice, shapes}
use Rattle.oer_model.proofs.fitting.Leaves.{some_depth}
use Rattle.oer_types.proofs.Alternatives.{choice_depth, root_within}
use Rattle.oer_values.specs.declared.shape.Shape.{the_lemmas}
use Rattle.oer_types.proofs.depth.+depth.Goals as goal

pub is_within_depth-returns-then-not-are_alternatives_within : goal.is_within_depth-returns-then-not-are_alternatives_within
is_within_depth-returns-then-not-are_alternatives_within t c =
    let e = root_within c.in-Choice.root.items c.in-Choice.additions in
    rw (c.in-Choice.is, type_of-Choice) (grind (arith, common_steps, e))

pub is_within_depth-returns-in-Some-additions : goal.is_within_depth-returns-in-Some-additions
is_within_depth-returns-in-Some-additions t c =
    let e = choice_depth c.in-Choice.root.items c.in-Some-additions.additions.items in
    rw (c.in-Choice.is, type_of-Choice, c.in-Some-additions.is) (grind (arith, common_steps, e))

-- the tactic that proves each, so that no other is tried before it
pub are_additions_within-returns-then-levels-eq0 : goal.are_additions_within-returns-then-levels-eq0
are_additions_within-returns-then-levels-eq0 t c = grind (arith, common_steps, some_depth)

pub are_additions_within-loop-addition-preserved : goal.are_additions_within-loop-addition-preserved
are_additions_within-loop-addition-preserved t c = grind (arith, common_steps)

pub are_additions_within-returns : goal.are_additions_within-returns
are_additions_within-returns t c = grind (arith, common_steps)

pub are_alternatives_within-returns-then-levels-eq0 : goal.are_alternatives_within-returns-then-levels-eq0
are_alternatives_within-returns-then-levels-eq0 t c = grind (arith, common_steps, some_depth)

pub are_alternatives_within-loop-alt-preserved : goal.are_alternatives_within-loop-alt-preserved
are_alternatives_within-loop-alt-preserved t c = grind (arith, common_steps)

pub are_alternatives_within-returns : goal.are_alternatives_within-returns
are_alternatives_within-returns t c = grind (arith, common_steps)

pub are_fields_within-returns-then-levels-eq0 : goal.are_fields_within-returns-then-levels-eq0
are_fields_within-returns-then-levels-eq0 t c = grind (arith, common_steps, some_depth)

pub are_fields_within-loop-field-preserved : goal.are_fields_within-loop-field-preserved
are_fields_within-loop-field-preserved t c = grind (arith, common_steps)

pub are_fields_within-returns : goal.are_fields_within-returns
are_fields_within-returns t c = grind (arith, common_steps)

pub is_within_depth-returns-then-not-are_fields_within : goal.is_within_depth-returns-then-not-are_fields_within
is_within_depth-returns-then-not-are_fields_within t c = grind (arith, shapes)

pub is_within_depth-returns-in-None : goal.is_within_depth-returns-in-None
is_within_depth-returns-in-None t c = grind (arith, shapes)

pub is_within_depth-returns-in-Some : goal.is_within_depth-returns-in-Some
is_within_depth-returns-in-Some t c = grind (arith, shapes)

pub is_within_depth-returns-then-levels-gt1 : goal.is_within_depth-returns-then-levels-gt1
is_within_depth-returns-then-levels-gt1 t c = grind (arith, shapes)

pub is_within_depth-returns-else-levels-gt1 : goal.is_within_depth-returns-else-levels-gt1
is_within_depth-returns-else-levels-gt1 t c = grind (arith, shapes, some_depth)

pub is_within_depth-returns-in-None-additions : goal.is_within_depth-returns-in-None-additions
is_within_depth-returns-in-None-additions t c = grind (arith, shapes)

pub is_within_depth-returns-in_default : goal.is_within_depth-returns-in_default
is_within_depth-returns-in_default t c = search (rules, the_lemmas)
