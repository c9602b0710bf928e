use Rattle.std.proofs.Common.{◌≡◌, ◌+◌, ◌-◌, ◌<◌, suc, length, map, Ok, sym, ap, ap₂, ◌∙◌, arith}
use Rattle.std.proofs.lemmas.Result.{err_from_is_err_and}
use Rattle.std.proofs.lemmas.List.{map_push}
use Rattle.oer_module_lexer.specs.Token.{spots_of}
use Rattle.oer_module_syntax.specs.State.{state_of}
use Rattle.oer_module_syntax.proofs.Shorter.{element_shorter}
use Rattle.oer_module_syntax.proofs.Spots.{spots_count}
use Rattle.oer_module_syntax.specs.Tree.{element_of}
use Rattle.oer_module_syntax.specs.Types.{more_listed, one_at, type_at}
use Rattle.oer_module_syntax.proofs.Loops.{listed_end, listed_err, listed_step}
use Rattle.oer_module_syntax.proofs.types.+types.Goals as goal

pub read_more-returns-in_err-element : goal.read_more-returns-in_err-element
read_more-returns-in_err-element t c =
    let l = c.more in
    let size = spots_count c.args.cursor.now.spots.now in
    let some = c.more-test.true in
    let p = err_from_is_err_and c.from_residual.result c.from_residual.ensures.1 in
    rw (p.1, p.2) (λ not_memory. l.invariant.0 ∙ listed_err (one_at (type_at c.args.levels) c.args.grouped c.args.alternatives) (suc (length (spots_of c.args.cursor.now.spots.now)) - l.turn) (map element_of l.found.items) (state_of l.cursor) _ (omega arith) (sym c.if-not-take.ensures.value) (rw c.if-not-take.ensures.rest at (c.in_err-element.ensures not_memory)))

pub read_more-returns-then-not-take : goal.read_more-returns-then-not-take
read_more-returns-then-not-take t c =
    let l = c.more in
    let size = spots_count c.args.cursor.now.spots.now in
    let some = c.more-test.true in
    l.invariant.0 ∙ listed_end (one_at (type_at c.args.levels) c.args.grouped c.args.alternatives) (suc (length (spots_of c.args.cursor.now.spots.now)) - l.turn) (map element_of l.found.items) (state_of l.cursor) (omega arith) (sym c.if-not-take.ensures.value)
    ∙ ap (λ s. Ok (map element_of l.found.items, s)) (sym c.if-not-take.ensures.rest)

pub read_more-more-preserved : goal.read_more-more-preserved
read_more-more-preserved t c =
    let l = c.more in
    let size = spots_count c.args.cursor.now.spots.now in
    let some = c.more-test.true in
    let read = rw c.if-not-take.ensures.rest at c.in_ok-element.ensures in
    let pushed = ap (map element_of) c.in_ok-push.ensures.items ∙ map_push element_of l.found.items c.in_ok-element.element in
    let next : suc (length (spots_of c.args.cursor.now.spots.now)) - l.turn - 1 ≡ suc (length (spots_of c.args.cursor.now.spots.now)) - (l.turn + 1) = omega arith in
    let less : length (state_of c.read_one.new.cursor).left < length (state_of l.cursor).left = element_shorter c.args.levels c.args.grouped c.args.alternatives (state_of l.cursor) _ (sym c.if-not-take.ensures.value) read in (
      l.invariant.0 ∙ listed_step (one_at (type_at c.args.levels) c.args.grouped c.args.alternatives) (suc (length (spots_of c.args.cursor.now.spots.now)) - l.turn) (map element_of l.found.items) (state_of l.cursor) _ _ (omega arith) (sym c.if-not-take.ensures.value) read
          ∙ ap₂ (λ n xs. more_listed (one_at (type_at c.args.levels) c.args.grouped c.args.alternatives) n xs (state_of c.read_one.new.cursor)) next (sym pushed),
      omega arith,
    )

pub read_more-unreachable-requires : goal.read_more-unreachable-requires
read_more-unreachable-requires t c =
    let size = spots_count c.args.cursor.now.spots.now in
    let over = c.more-test.false in
    let left = c.more.invariant.1 in
    omega arith
