use Rattle.std.proofs.Common.{◌∙◌, not, subst, arith}
use Rattle.oer_module_bounds.specs.Numbers.{allows}
use Rattle.oer_module_bounds.specs.Sets.{set_of}
use Rattle.oer_module_bounds.specs.Steps.{Gives}
use Rattle.oer_module_bounds.proofs.Members.{union_ok, intersection_ok, except_ok, unknown_ok, tallied_none, tallied_more}
use Rattle.oer_module_bounds.proofs.hull.+steps.Goals as goal

pub steps_of-returns-in_ok-tally_of-in-Union : goal.steps_of-returns-in_ok-tally_of-in-Union
steps_of-returns-in_ok-tally_of-in-Union t c =
    let w = c.in_ok-tally_of-in-Union in
    union_ok c.args.unknown c.args.set.now c.at_least.result c.in-Union.members c.deref.result.now w.field-0 c.in-Union.is c.deref.ensures.value
    w.ensures.counts c.at_least.ensures

pub steps_of-returns-in_ok-tally_of-in-Intersection : goal.steps_of-returns-in_ok-tally_of-in-Intersection
steps_of-returns-in_ok-tally_of-in-Intersection t c =
    let w = c.in_ok-tally_of-in-Intersection in
    let l = c.len.ensures in let m = c.in-Intersection.members.ok.0 in
    intersection_ok c.args.unknown c.args.set.now c.at_least-in-Intersection.result c.in-Intersection.members c.deref-in-Intersection.result.now w.field-0
    c.len.result c.in-Intersection.is c.deref-in-Intersection.ensures.value w.ensures.counts (l ∙ m) c.at_least-in-Intersection.ensures

pub steps_of-returns-in_ok-second-in-Except : goal.steps_of-returns-in_ok-second-in-Except
steps_of-returns-in_ok-second-in-Except t c =
    except_ok c.args.unknown c.args.set.now c.both.result c.in-Except.first c.in-Except.second c.in_ok-first-in-Except.first c.in_ok-second-in-Except.second c.opposite.result
    c.in-Except.is
    (subst (λ x. Gives c.in_ok-first-in-Except.first (allows c.args.unknown (set_of x))) c.deref-in-Except.ensures c.in_ok-first-in-Except.ensures)
    (subst (λ x. Gives c.in_ok-second-in-Except.second (allows (not c.args.unknown) (set_of x))) c.deref-in-Except-2.ensures c.in_ok-second-in-Except.ensures)
    c.opposite.ensures.lowest c.opposite.ensures.highest c.opposite.ensures.cuts c.both.ensures

pub steps_of-returns-in-Unknown : goal.steps_of-returns-in-Unknown
steps_of-returns-in-Unknown t c = unknown_ok c.args.unknown c.args.set.now c.uniform.result c.in-Unknown.is c.uniform.ensures

pub tally_of-loop-member-init : goal.tally_of-loop-member-init
tally_of-loop-member-init t c = tallied_none c.new-tally.result c.args.unknown c.args.members.now c.new-tally.ensures.holding c.new-tally.ensures.turns

pub tally_of-loop-member-preserved : goal.tally_of-loop-member-preserved
tally_of-loop-member-preserved t c =
    tallied_more c.loop-member.tally c.add.new.self c.args.unknown c.args.members.now c.loop-member.member-index c.member-item.result c.in_ok-steps.steps
    (omega arith) c.member-item.is c.loop-member.invariant c.in_ok-steps.ensures c.in_ok-add.ensures.holding c.in_ok-add.ensures.turns
