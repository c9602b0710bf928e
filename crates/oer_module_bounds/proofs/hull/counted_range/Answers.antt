use Rattle.std.proofs.Common.{◌+◌, ◌∙◌, map, arith}
use Rattle.oer_module_bounds.specs.Numbers.{bounding}
use Rattle.oer_module_bounds.specs.Sets.{constraint_of, intersection}
use Rattle.oer_module_bounds.proofs.Giving.{hull_given}
use Rattle.oer_module_bounds.proofs.Members.{bounded_as, bounded_skips, bounded_more, bounded_all}
use Rattle.oer_module_bounds.proofs.hull.counted_range.Goals as goal
use Rattle.oer_module_bounds.proofs.hull.counted_range.Goals.{then-not-constraint+in_ok-steps+in_ok-add, else-not-constraint}

pub loop-constraint-preserved : goal.loop-constraint-preserved
loop-constraint-preserved c =
    let l = c.loop-constraint in
    let one = c.constraint-item.result in
    elim c.if-not-constraint.branch [
      | then-not-constraint+in_ok-steps+in_ok-add w ↦
          bounded_as w.add.new.self c.if-not-constraint.tally (l.bounding + 1) c.if-not-constraint.bounding c.args.constraints.now
          (l.constraint-index + 1) w.tally-is w.bounding-is
          (bounded_more l.tally w.add.new.self l.bounding c.args.constraints.now l.constraint-index one w.in_ok-steps.steps (omega arith) c.constraint-item.is
          w.if-not-constraint.true l.invariant w.in_ok-steps.ensures w.in_ok-add.ensures.holding w.in_ok-add.ensures.turns)
      | else-not-constraint w ↦
          bounded_as l.tally c.if-not-constraint.tally l.bounding c.if-not-constraint.bounding c.args.constraints.now (l.constraint-index + 1) w.tally-is w.bounding-is
          (bounded_skips l.tally l.bounding c.args.constraints.now l.constraint-index one (omega arith) c.constraint-item.is
          w.if-not-constraint.false l.invariant)
    ]

pub returns : goal.returns
returns c =
    c.hull.ensures
    ∙ hull_given c.in_ok-steps-2.steps (intersection (bounding (map constraint_of c.args.constraints.now)))
    (bounded_all c.loop-constraint.tally c.loop-constraint.bounding c.args.constraints.now c.loop-constraint.constraint-index c.in_ok-steps-2.steps
    (omega arith) c.loop-constraint.invariant c.in_ok-steps-2.ensures)
