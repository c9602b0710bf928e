use Rattle.std.proofs.Common.{◌≡◌, ◌+◌, ◌-◌, ◌<◌, suc, length, map, sym, ap, ap₂, ◌∙◌, arith}
use Rattle.std.proofs.lemmas.Result.{err_from_is_err_and}
use Rattle.std.proofs.lemmas.List.{map_push}
use Rattle.oer_module_lexer.specs.Token.{spots_of}
use Rattle.oer_module_syntax.specs.State.{state_of, at_sign}
use Rattle.oer_module_syntax.proofs.Shorter.{import_shorter}
use Rattle.oer_module_syntax.proofs.Spots.{spots_count}
use Rattle.oer_module_lexer.specs.declared.token.Sign.TheVariants.{Semicolon}
use Rattle.oer_module_syntax.specs.Tree.{import_of}
use Rattle.oer_module_syntax.specs.Modules.{many, import_at}
use Rattle.oer_module_syntax.proofs.Loops.{many_end, many_err, many_step}
use Rattle.oer_module_syntax.proofs.modules.read_import_list.Goals as goal

pub returns-in_err-import : goal.returns-in_err-import
returns-in_err-import c =
    let l = c.more in
    let size = spots_count c.args.cursor.now.spots.now in
    let some = c.more-test.true in
    let p = err_from_is_err_and c.from_residual.result c.from_residual.ensures.1 in
    rw (p.1, p.2) (λ not_memory. l.invariant.0 ∙ many_err (at_sign Semicolon) (import_at) (suc (length (spots_of c.args.cursor.now.spots.now)) - l.turn) (map import_of l.found.items) (state_of l.cursor) _ (omega arith) (sym c.is_at.ensures ∙ c.if-is_at.false) (c.in_err-import.ensures not_memory))

pub returns-then-is_at : goal.returns-then-is_at
returns-then-is_at c =
    let l = c.more in
    let size = spots_count c.args.cursor.now.spots.now in
    let some = c.more-test.true in
    l.invariant.0 ∙ many_end (at_sign Semicolon) (import_at) (suc (length (spots_of c.args.cursor.now.spots.now)) - l.turn) (map import_of l.found.items) (state_of l.cursor) (omega arith) (sym c.is_at.ensures ∙ c.if-is_at.true)

pub more-preserved : goal.more-preserved
more-preserved c =
    let l = c.more in
    let size = spots_count c.args.cursor.now.spots.now in
    let some = c.more-test.true in
    let pushed = ap (map import_of) c.in_ok-push.ensures.items ∙ map_push import_of l.found.items c.in_ok-import.import in
    let next : suc (length (spots_of c.args.cursor.now.spots.now)) - l.turn - 1 ≡ suc (length (spots_of c.args.cursor.now.spots.now)) - (l.turn + 1) = omega arith in
    let less : length (state_of c.read_import.new.cursor).left < length (state_of l.cursor).left = import_shorter (state_of l.cursor) _ c.in_ok-import.ensures in (
      l.invariant.0 ∙ many_step (at_sign Semicolon) (import_at) (suc (length (spots_of c.args.cursor.now.spots.now)) - l.turn) (map import_of l.found.items) (state_of l.cursor) _ _ (omega arith) (sym c.is_at.ensures ∙ c.if-is_at.false) c.in_ok-import.ensures
          ∙ ap₂ (λ n xs. many (at_sign Semicolon) (import_at) n xs (state_of c.read_import.new.cursor)) next (sym pushed),
      omega arith,
    )

pub unreachable-requires : goal.unreachable-requires
unreachable-requires c =
    let size = spots_count c.args.cursor.now.spots.now in
    let over = c.more-test.false in
    let left = c.more.invariant.1 in
    omega arith
