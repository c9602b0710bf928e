use Rattle.std.proofs.Common.{◌≡◌, ◌+◌, ◌-◌, ◌<◌, suc, length, map, sym, ap, ap₂, ◌∙◌, arith}
use Rattle.std.proofs.lemmas.Result.{err_from_is_err_and}
use Rattle.std.proofs.lemmas.List.{map_push}
use Rattle.oer_module_lexer.specs.Token.{spots_of}
use Rattle.oer_module_syntax.specs.State.{state_of}
use Rattle.oer_module_syntax.proofs.Shorter.{module_shorter}
use Rattle.oer_module_syntax.proofs.Spots.{spots_count}
use Rattle.oer_module_syntax.specs.Tree.{module_of}
use Rattle.oer_module_syntax.specs.Modules.{many, is_last, module_at}
use Rattle.oer_module_syntax.proofs.Loops.{many_end, many_err, many_step}
use Rattle.oer_module_syntax.proofs.modules.read_more_modules.Goals as goal

pub returns-in_err-made : goal.returns-in_err-made
returns-in_err-made c =
    let l = c.more in
    let size = spots_count c.args.cursor.now.spots.now in
    let some = c.more-test.true in
    let p = err_from_is_err_and c.from_residual.result c.from_residual.ensures.1 in
    rw (p.1, p.2) (λ not_memory. l.invariant.0 ∙ many_err (is_last) (module_at c.args.levels) (suc (length (spots_of c.args.cursor.now.spots.now)) - l.turn) (map module_of l.found.items) (state_of l.cursor) _ (omega arith) (sym c.is_last.ensures ∙ c.if-is_last.false) (c.in_err-made.ensures not_memory))

pub returns-then-is_last : goal.returns-then-is_last
returns-then-is_last c =
    let l = c.more in
    let size = spots_count c.args.cursor.now.spots.now in
    let some = c.more-test.true in
    l.invariant.0 ∙ many_end (is_last) (module_at c.args.levels) (suc (length (spots_of c.args.cursor.now.spots.now)) - l.turn) (map module_of l.found.items) (state_of l.cursor) (omega arith) (sym c.is_last.ensures ∙ c.if-is_last.true)

pub more-preserved : goal.more-preserved
more-preserved c =
    let l = c.more in
    let size = spots_count c.args.cursor.now.spots.now in
    let some = c.more-test.true in
    let pushed = ap (map module_of) c.in_ok-push.ensures.items ∙ map_push module_of l.found.items c.in_ok-made.made in
    let next : suc (length (spots_of c.args.cursor.now.spots.now)) - l.turn - 1 ≡ suc (length (spots_of c.args.cursor.now.spots.now)) - (l.turn + 1) = omega arith in
    let less : length (state_of c.read_module.new.cursor).left < length (state_of l.cursor).left = module_shorter c.args.levels (state_of l.cursor) _ c.in_ok-made.ensures in (
      l.invariant.0 ∙ many_step (is_last) (module_at c.args.levels) (suc (length (spots_of c.args.cursor.now.spots.now)) - l.turn) (map module_of l.found.items) (state_of l.cursor) _ _ (omega arith) (sym c.is_last.ensures ∙ c.if-is_last.false) c.in_ok-made.ensures
          ∙ ap₂ (λ n xs. many (is_last) (module_at c.args.levels) n xs (state_of c.read_module.new.cursor)) next (sym pushed),
      omega arith,
    )

pub unreachable-requires : goal.unreachable-requires
unreachable-requires c =
    let size = spots_count c.args.cursor.now.spots.now in
    let over = c.more-test.false in
    let left = c.more.invariant.1 in
    omega arith
