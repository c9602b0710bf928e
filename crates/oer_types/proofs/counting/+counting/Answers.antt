use Rattle.std.proofs.Common.{arith}
use Rattle.std.proofs.lemmas.Grind.{common_steps}
use Rattle.oer_values.proofs.Shapes.{type_of-Choice, shapes}
use Rattle.oer_model.proofs.fitting.Leaves.{some_node}
use Rattle.oer_types.proofs.Alternatives.{choice_leaves, root_leaves, root_parts}
use Rattle.oer_types.proofs.counting.+counting.Goals as goal

pub parts_left-returns-in_default-alternatives_left : goal.parts_left-returns-in_default-alternatives_left
parts_left-returns-in_default-alternatives_left t c =
    let e = root_parts c.in-Choice.root.items c.in-Choice.additions in
    rw (c.in-Choice.is, type_of-Choice) (grind (arith, common_steps, e))

pub parts_left-returns-in-None-additions : goal.parts_left-returns-in-None-additions
parts_left-returns-in-None-additions t c =
    let h = rw c.deref-in-Choice.ensures.value at c.in-Some-alternatives_left.ensures in
    rw (c.in-Choice.is, type_of-Choice, c.in-None-additions.is) (root_leaves c.in-Choice.root.items c.args.left c.in-Some-alternatives_left.left (omega arith) h.0 h.1)

pub parts_left-returns-in-Some-additions-2 : goal.parts_left-returns-in-Some-additions-2
parts_left-returns-in-Some-additions-2 t c =
    let more = c.in-Some-additions-2.additions in
    let h = rw c.deref-in-Choice.ensures.value at c.in-Some-alternatives_left.ensures in
    let k = rw c.deref-in-Some-additions-2.ensures.value at c.alternatives_left-in-Some-additions-2.ensures in
    rw (c.in-Choice.is, type_of-Choice, c.in-Some-additions-2.is) (choice_leaves c.in-Choice.root.items more.items c.args.left c.in-Some-alternatives_left.left _ (omega arith) h.0 h.1 k)

-- the tactic that proves each, so that no other is tried before it
pub additions_left-returns-in_default : goal.additions_left-returns-in_default
additions_left-returns-in_default t c = grind (arith, common_steps)

pub additions_left-loop-addition-preserved : goal.additions_left-loop-addition-preserved
additions_left-loop-addition-preserved t c = grind (arith, common_steps)

pub additions_left-returns : goal.additions_left-returns
additions_left-returns t c = grind (arith, common_steps)

pub alternatives_left-returns-in_default : goal.alternatives_left-returns-in_default
alternatives_left-returns-in_default t c = grind (arith, common_steps)

pub alternatives_left-loop-alt-preserved : goal.alternatives_left-loop-alt-preserved
alternatives_left-loop-alt-preserved t c = grind (arith, common_steps)

pub alternatives_left-returns : goal.alternatives_left-returns
alternatives_left-returns t c = grind (arith, common_steps)

pub fields_left-returns-in_default : goal.fields_left-returns-in_default
fields_left-returns-in_default t c = grind (arith, common_steps)

pub fields_left-loop-field-preserved : goal.fields_left-loop-field-preserved
fields_left-loop-field-preserved t c = grind (arith, common_steps)

pub fields_left-returns : goal.fields_left-returns
fields_left-returns t c = grind (arith, common_steps)

pub parts_left-returns-then-left-eq0 : goal.parts_left-returns-then-left-eq0
parts_left-returns-then-left-eq0 t c = grind (arith, shapes, some_node)

pub parts_left-returns-in-Enumerated : goal.parts_left-returns-in-Enumerated
parts_left-returns-in-Enumerated t c =
    let h = rw c.deref.ensures.value at c.items_left.ensures in
    grind (arith, shapes, common_steps)

pub parts_left-returns-in-None : goal.parts_left-returns-in-None
parts_left-returns-in-None t c = grind (arith, shapes)

pub parts_left-returns-in-Some-additions : goal.parts_left-returns-in-Some-additions
parts_left-returns-in-Some-additions t c = grind (arith, shapes)

pub parts_left-returns-in-SequenceOf : goal.parts_left-returns-in-SequenceOf
parts_left-returns-in-SequenceOf t c = grind (arith, shapes)

pub parts_left-returns-in_default : goal.parts_left-returns-in_default
parts_left-returns-in_default t c = grind (arith, shapes)
