use Rattle.std.proofs.Common.{◌≡◌, ◌+◌, ◌-◌, suc, length, sym, ap₂, ◌∙◌, arith}
use Rattle.std.proofs.lemmas.Result.{err_from_is_err_and}
use Rattle.oer_lexer.specs.Token.{spots_of}
use Rattle.oer_value_notation.specs.State.{state_of}
use Rattle.oer_value_notation.specs.Values.{arcs_more}
use Rattle.oer_value_notation.proofs.Turns.{arcs_end, arcs_err, arcs_step, arcs_over, spots_count}
use Rattle.oer_value_notation.proofs.value.read_arcs.Goals as goal

pub returns-then-not-is_at_number : goal.returns-then-not-is_at_number
returns-then-not-is_at_number c =
    let l = c.arcs in
    let size = spots_count c.args.cursor.now.spots.now in
    let some = c.arcs-test.true in
    l.invariant ∙ arcs_end (suc (length (spots_of c.args.cursor.now.spots.now)) - l.turn) l.arcs.items (state_of l.cursor) (omega arith) (sym c.is_at_number.ensures ∙ c.if-not-is_at_number.true)

pub returns-in_err-arc : goal.returns-in_err-arc
returns-in_err-arc c =
    let l = c.arcs in
    let size = spots_count c.args.cursor.now.spots.now in
    let some = c.arcs-test.true in
    let p = err_from_is_err_and c.from_residual.result c.from_residual.ensures.1 in
    rw (p.1, p.2) (λ not_memory. l.invariant ∙ arcs_err (suc (length (spots_of c.args.cursor.now.spots.now)) - l.turn) l.arcs.items (state_of l.cursor) _ (omega arith) (sym c.is_at_number.ensures ∙ c.if-not-is_at_number.false) (c.in_err-arc.ensures not_memory))

pub arcs-preserved : goal.arcs-preserved
arcs-preserved c =
    let l = c.arcs in
    let size = spots_count c.args.cursor.now.spots.now in
    let some = c.arcs-test.true in
    let next : suc (length (spots_of c.args.cursor.now.spots.now)) - l.turn - 1 ≡ suc (length (spots_of c.args.cursor.now.spots.now)) - (l.turn + 1) = omega arith in
    l.invariant ∙ arcs_step (suc (length (spots_of c.args.cursor.now.spots.now)) - l.turn) l.arcs.items (state_of l.cursor) c.in_ok-arc.arc _ (omega arith) (sym c.is_at_number.ensures ∙ c.if-not-is_at_number.false) c.in_ok-arc.ensures
    ∙ ap₂ (λ n xs. arcs_more n xs (state_of c.read_arc.new.cursor)) next (sym c.in_ok-push.ensures.items)

pub returns : goal.returns
returns c =
    let l = c.arcs in
    let size = spots_count c.args.cursor.now.spots.now in
    let over = c.arcs-test.false in
    λ not_memory. l.invariant ∙ arcs_over (suc (length (spots_of c.args.cursor.now.spots.now)) - l.turn) l.arcs.items (state_of l.cursor) (omega arith)
