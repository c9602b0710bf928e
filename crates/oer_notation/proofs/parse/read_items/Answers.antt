use Rattle.std.proofs.Common.{◌≡◌, ◌+◌, ◌-◌, [], ◌∷◌, ◌++◌, map, Ok, sym, ap, ap₂, ◌∙◌, arith}
use Rattle.std.proofs.lemmas.Result.{err_from_is_err_and}
use Rattle.std.proofs.lemmas.List.{map_push}
use Rattle.oer_values.specs.ShapeView.{named_number}
use Rattle.oer_notation.specs.Reading.{items_more, most}
use Rattle.oer_value_notation.specs.State.{state_of, bump}
use Rattle.oer_notation.specs.Views.{named}
use Rattle.oer_notation.proofs.Loops.{items_err, items_step, items_end, items_over}
use Rattle.oer_notation.proofs.parse.read_items.Goals as goal

pub returns-in_err-item : goal.returns-in_err-item
returns-in_err-item c =
    let l = c.items in
    let p = err_from_is_err_and c.from_residual.result c.from_residual.ensures.1 in
    let some = c.items-test.true in
    rw (p.1, p.2) (λ not_memory. l.invariant ∙ items_err c.args.numbered (most - l.place) l.place (named l.found) (state_of l.cursor) _ (omega arith) (c.in_err-item.ensures not_memory))

pub returns-then-not-take : goal.returns-then-not-take
returns-then-not-take c =
    let l = c.items in
    let some = c.items-test.true in
    let read = c.in_ok-item.ensures in
    let marked = c.past_marker.ensures in
    let over = sym c.if-not-take.ensures.value in
    let pushed = ap (map named_number) c.in_ok-push.ensures.items ∙ map_push named_number l.found.items.items c.in_ok-item.item in
    l.invariant ∙ items_end c.args.numbered (most - l.place) l.place (named l.found) (state_of l.cursor) (named_number c.in_ok-item.item) _ _ _ (omega arith) read marked over
    ∙ ap₂ (λ a b. Ok ((a, c.past_marker.result), b)) (sym pushed) (sym c.if-not-take.ensures.rest)

pub items-preserved : goal.items-preserved
items-preserved c =
    let l = c.items in
    let some = c.items-test.true in
    let read = c.in_ok-item.ensures in
    let marked = c.past_marker.ensures in
    let more = sym c.if-not-take.ensures.value in
    let pushed = ap (map named_number) c.in_ok-push.ensures.items ∙ map_push named_number l.found.items.items c.in_ok-item.item in
    let next : most - l.place - 1 ≡ most - (l.place + 1) = omega arith in
    l.invariant ∙ items_step c.args.numbered (most - l.place) l.place (named l.found) (state_of l.cursor) (named_number c.in_ok-item.item) _ _ _ (omega arith) read marked more
    ∙ ap (λ n. items_more c.args.numbered n (l.place + 1) (map named_number l.found.items.items ++ named_number c.in_ok-item.item ∷ [], c.past_marker.result) (bump (state_of c.past_marker.new.cursor))) next
    ∙ ap₂ (λ a s. items_more c.args.numbered (most - (l.place + 1)) (l.place + 1) (a, c.past_marker.result) s) (sym pushed) (sym c.if-not-take.ensures.rest)

pub returns : goal.returns
returns c =
    let l = c.items in
    let over = c.items-test.false in
    λ not_memory. l.invariant ∙ items_over c.args.numbered (most - l.place) l.place (named l.found) (state_of l.cursor) (omega arith)
