use Rattle.std.proofs.Common.{◌≡◌, ◌+◌, ◌-◌, ◌<◌, suc, length, map, Ok, sym, ap, ap₂, ◌∙◌, arith}
use Rattle.std.proofs.lemmas.Result.{err_from_is_err_and}
use Rattle.std.proofs.lemmas.List.{map_push}
use Rattle.oer_module_lexer.specs.Token.{spots_of}
use Rattle.oer_module_syntax.specs.State.{state_of}
use Rattle.oer_module_syntax.proofs.Shorter.{symbol_shorter}
use Rattle.oer_module_syntax.proofs.Spots.{spots_count}
use Rattle.oer_module_syntax.specs.Tree.{symbol_of}
use Rattle.oer_module_syntax.specs.Modules.{symbol_at}
use Rattle.oer_module_syntax.specs.Types.{more_listed}
use Rattle.oer_module_syntax.proofs.Loops.{listed_end, listed_err, listed_step}
use Rattle.oer_module_syntax.proofs.modules.read_more_symbols.Goals as goal

pub returns-in_err-symbol : goal.returns-in_err-symbol
returns-in_err-symbol c =
    let l = c.more in
    let size = spots_count c.args.cursor.now.spots.now in
    let some = c.more-test.true in
    let p = err_from_is_err_and c.from_residual.result c.from_residual.ensures.1 in
    rw (p.1, p.2) (λ not_memory. l.invariant.0 ∙ listed_err (symbol_at) (suc (length (spots_of c.args.cursor.now.spots.now)) - l.turn) (map symbol_of l.found.items) (state_of l.cursor) _ (omega arith) (sym c.if-not-take.ensures.value) (rw c.if-not-take.ensures.rest at (c.in_err-symbol.ensures not_memory)))

pub returns-then-not-take : goal.returns-then-not-take
returns-then-not-take c =
    let l = c.more in
    let size = spots_count c.args.cursor.now.spots.now in
    let some = c.more-test.true in
    l.invariant.0 ∙ listed_end (symbol_at) (suc (length (spots_of c.args.cursor.now.spots.now)) - l.turn) (map symbol_of l.found.items) (state_of l.cursor) (omega arith) (sym c.if-not-take.ensures.value)
    ∙ ap (λ s. Ok (map symbol_of l.found.items, s)) (sym c.if-not-take.ensures.rest)

pub more-preserved : goal.more-preserved
more-preserved c =
    let l = c.more in
    let size = spots_count c.args.cursor.now.spots.now in
    let some = c.more-test.true in
    let read = rw c.if-not-take.ensures.rest at c.in_ok-symbol.ensures in
    let pushed = ap (map symbol_of) c.in_ok-push.ensures.items ∙ map_push symbol_of l.found.items c.in_ok-symbol.symbol in
    let next : suc (length (spots_of c.args.cursor.now.spots.now)) - l.turn - 1 ≡ suc (length (spots_of c.args.cursor.now.spots.now)) - (l.turn + 1) = omega arith in
    let less : length (state_of c.read_symbol.new.cursor).left < length (state_of l.cursor).left = symbol_shorter (state_of l.cursor) _ (sym c.if-not-take.ensures.value) read in (
      l.invariant.0 ∙ listed_step (symbol_at) (suc (length (spots_of c.args.cursor.now.spots.now)) - l.turn) (map symbol_of l.found.items) (state_of l.cursor) _ _ (omega arith) (sym c.if-not-take.ensures.value) read
          ∙ ap₂ (λ n xs. more_listed (symbol_at) n xs (state_of c.read_symbol.new.cursor)) next (sym pushed),
      omega arith,
    )

pub unreachable-requires : goal.unreachable-requires
unreachable-requires c =
    let size = spots_count c.args.cursor.now.spots.now in
    let over = c.more-test.false in
    let left = c.more.invariant.1 in
    omega arith
