use Rattle.std.proofs.Common.{◌+◌, ◌-◌, length, option_map, sym, ap, ◌∙◌, arith}
use Rattle.oer_module_syntax.proofs.Spots.{spots_count}
use Rattle.oer_module_syntax.specs.State.{state_of}
use Rattle.oer_module_names.proofs.Taking.{read_end, read_none, read_on, read_over}
use Rattle.oer_module_names.specs.Identifiers.{arc_at, arcs_from}
use Rattle.oer_module_names.proofs.identifier.take_arcs.Goals as goal

pub returns-then-is_at : goal.returns-then-is_at
returns-then-is_at c =
    let l = c.loop-turn in
    let start = state_of c.args.cursor.now in
    let size = spots_count c.args.cursor.now.spots.now in
    let some = c.loop-turn-test.true in
    read_end (length start.left) l.turn start (state_of l.cursor) l.arcs.items l.invariant (omega (arith, size, some)) (sym c.if-is_at.true ∙ c.is_at.ensures)

pub returns-in_default : goal.returns-in_default
returns-in_default c =
    let l = c.loop-turn in
    let start = state_of c.args.cursor.now in
    let size = spots_count c.args.cursor.now.spots.now in
    let some = c.loop-turn-test.true in
    let read = c.take_arc.ensures ∙ ap (λ b. arc_at b (state_of l.cursor)) c.deref.ensures.value in
    read_none (length start.left) l.turn start (state_of l.cursor) l.arcs.items l.invariant (omega (arith, size, some)) (sym c.if-is_at.false ∙ c.is_at.ensures)
    (sym (ap (option_map (λ n. (n, state_of c.take_arc.new.cursor))) c.in_default.is) ∙ read)

pub loop-turn-preserved : goal.loop-turn-preserved
loop-turn-preserved c =
    let l = c.loop-turn in
    let start = state_of c.args.cursor.now in
    let size = spots_count c.args.cursor.now.spots.now in
    let some = c.loop-turn-test.true in
    let read = c.take_arc.ensures ∙ ap (λ b. arc_at b (state_of l.cursor)) c.deref.ensures.value in
    read_on (length start.left) l.turn start (state_of l.cursor) l.arcs.items l.invariant (omega (arith, size, some)) (sym c.if-is_at.false ∙ c.is_at.ensures)
    c.in-Some.arc (state_of c.take_arc.new.cursor) (sym (ap (option_map (λ n. (n, state_of c.take_arc.new.cursor))) c.in-Some.is) ∙ read)
    ∙ ap (λ xs. arcs_from (length start.left - (l.turn + 1)) xs (state_of c.take_arc.new.cursor)) (sym c.in_ok-push.ensures.items)

pub returns : goal.returns
returns c =
    let l = c.loop-turn in
    let start = state_of c.args.cursor.now in
    let size = spots_count c.args.cursor.now.spots.now in
    let over = c.loop-turn-test.false in
    read_over (length start.left) l.turn start (state_of l.cursor) l.arcs.items l.invariant (omega (arith, size, over))
