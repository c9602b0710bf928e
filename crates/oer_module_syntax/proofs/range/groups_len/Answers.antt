use Rattle.std.proofs.Common.{reverse, sym, ap, ◌∙◌, arith, true}
use Rattle.std.proofs.lemmas.Result.{err_from_is_err_and}
use Rattle.oer_module_lexer.specs.Token.{spots_of}
use Rattle.oer_module_syntax.specs.Ranges.{goes_on, none_open}
use Rattle.oer_module_syntax.specs.State.{state_of}
use Rattle.oer_module_syntax.proofs.Spots.{groups_more, groups_turn, groups_err, groups_unclosed, groups_end}
use Rattle.oer_module_syntax.proofs.range.groups_len.Goals as goal

pub returns-in_err-nest_next-clause-read : goal.returns-in_err-nest_next-clause-read
returns-in_err-nest_next-clause-read c =
    let l = c.loop-rest in
    let seen = ap (λ cs. goes_on c.args.extent (none_open (reverse cs)) (spots_of l.rest.now)) (sym c.deref.ensures.value) in
    let goes = seen ∙ ap (λ b. goes_on c.args.extent b (spots_of l.rest.now)) (sym c.is_closed.ensures) ∙ sym c.goes_on.ensures ∙ c.loop-rest-test.true in
    let p = err_from_is_err_and c.from_residual.result c.from_residual.ensures.1 in
    rw (p.1, p.2) (λ not_memory. groups_err _ (state_of c.args.cursor.now) l.rest.now (reverse l.opened.items) _ l.n l.invariant.0 _ goes (c.in_err-nest_next.ensures not_memory))

pub loop-rest-preserved : goal.loop-rest-preserved
loop-rest-preserved c =
    let l = c.loop-rest in
    let seen = ap (λ cs. goes_on c.args.extent (none_open (reverse cs)) (spots_of l.rest.now)) (sym c.deref.ensures.value) in
    let goes = seen ∙ ap (λ b. goes_on c.args.extent b (spots_of l.rest.now)) (sym c.is_closed.ensures) ∙ sym c.goes_on.ensures ∙ c.loop-rest-test.true in
    let size = (groups_more c.args.extent (state_of c.args.cursor.now) l.rest.now (reverse l.opened.items) goes).1 in
    let known = l.invariant.1 in
    rw c.tail-rest.ensures (groups_turn _ (state_of c.args.cursor.now) l.rest.now (reverse l.opened.items) _ l.n l.invariant.0 _ goes c.in_ok-nest_next.ensures, omega arith)

pub returns-in_err-finish-clause-read : goal.returns-in_err-finish-clause-read
returns-in_err-finish-clause-read c =
    let l = c.loop-rest in
    let seen = ap (λ cs. goes_on c.args.extent (none_open (reverse cs)) (spots_of l.rest.now)) (sym c.deref.ensures.value) in
    let over = seen ∙ ap (λ b. goes_on c.args.extent b (spots_of l.rest.now)) (sym c.is_closed.ensures) ∙ sym c.goes_on.ensures ∙ c.loop-rest-test.false in
    let p = err_from_is_err_and c.from_residual-in_err-finish.result c.from_residual-in_err-finish.ensures.1 in
    rw (p.1, p.2) (λ not_memory. groups_unclosed _ (state_of c.args.cursor.now) l.rest.now (reverse l.opened.items) _ l.n l.invariant.0 _ over (c.in_err-finish.ensures not_memory))

pub returns-clause-read : goal.returns-clause-read
returns-clause-read c =
    let l = c.loop-rest in
    let seen = ap (λ cs. goes_on c.args.extent (none_open (reverse cs)) (spots_of l.rest.now)) (sym c.deref.ensures.value) in
    let over = seen ∙ ap (λ b. goes_on c.args.extent b (spots_of l.rest.now)) (sym c.is_closed.ensures) ∙ sym c.goes_on.ensures ∙ c.loop-rest-test.false in
    groups_end _ (state_of c.args.cursor.now) l.rest.now (reverse l.opened.items) _ l.n l.invariant.0 over c.in_ok-finish.ensures
