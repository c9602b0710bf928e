use Rattle.std.proofs.Common.{map, not, sym, ap, ◌∙◌}
use Rattle.std.proofs.lemmas.Result.{err_from_is_err_and}
use Rattle.std.proofs.lemmas.List.{map_push}
use Rattle.oer_module_terms.proofs.SameTurns.{member_turn, part_turn}
use Rattle.oer_module_terms.proofs.Series.{turn_end, turn_err, turn_step, no_turn}
use Rattle.oer_module_terms.specs.Trees.{member_of, value_of}
use Rattle.oer_module_terms.specs.Values.{value_at, member_at}
use Rattle.oer_module_terms.proofs.value.+reading.Goals as goal

pub read_more_members-returns-in_err-member : goal.read_more_members-returns-in_err-member
read_more_members-returns-in_err-member t c =
    let p = err_from_is_err_and c.from_residual.result c.from_residual.ensures.1 in
    rw (p.1, p.2) (λ not_memory. turn_err c.more.invariant
    (ap not (sym c.is_at.ensures ∙ c.if-not-is_at.false))
    (ap (member_at (value_at c.args.levels)) (sym c.bump.ensures) ∙ c.in_err-member.ensures not_memory))

pub read_more_members-returns-then-not-is_at : goal.read_more_members-returns-then-not-is_at
read_more_members-returns-then-not-is_at t c =
    turn_end c.more.invariant (ap not (sym c.is_at.ensures ∙ c.if-not-is_at.true))

pub read_more_members-more-preserved : goal.read_more_members-more-preserved
read_more_members-more-preserved t c =
    let pushed = ap (map member_of) c.in_ok-push.ensures.items ∙ map_push member_of c.more.found.items c.in_ok-member.member in
    turn_step c.more.invariant (member_turn c.args.levels)
    (ap not (sym c.is_at.ensures ∙ c.if-not-is_at.false))
    (ap (member_at (value_at c.args.levels)) (sym c.bump.ensures) ∙ c.in_ok-member.ensures) pushed

pub read_more_members-unreachable-requires : goal.read_more_members-unreachable-requires
read_more_members-unreachable-requires t c = no_turn c.more.invariant c.more-test.false

pub read_more_parts-returns-in_err-part : goal.read_more_parts-returns-in_err-part
read_more_parts-returns-in_err-part t c =
    let p = err_from_is_err_and c.from_residual.result c.from_residual.ensures.1 in
    rw (p.1, p.2) (λ not_memory. turn_err c.more.invariant
    (sym c.is_at_member_end.ensures ∙ c.if-is_at_member_end.false)
    (c.in_err-part.ensures not_memory))

pub read_more_parts-returns-then-is_at_member_end : goal.read_more_parts-returns-then-is_at_member_end
read_more_parts-returns-then-is_at_member_end t c =
    turn_end c.more.invariant (sym c.is_at_member_end.ensures ∙ c.if-is_at_member_end.true)

pub read_more_parts-more-preserved : goal.read_more_parts-more-preserved
read_more_parts-more-preserved t c =
    let pushed = ap (map value_of) c.in_ok-push.ensures.items ∙ map_push value_of c.more.found.items c.in_ok-part.part in
    turn_step c.more.invariant (part_turn c.args.levels)
    (sym c.is_at_member_end.ensures ∙ c.if-is_at_member_end.false)
    c.in_ok-part.ensures pushed

pub read_more_parts-unreachable-requires : goal.read_more_parts-unreachable-requires
read_more_parts-unreachable-requires t c = no_turn c.more.invariant c.more-test.false
