use Rattle.std.proofs.Common.{◌≡◌, ◌+◌, ◌-◌, ◌++◌, ◌∷◌, [], suc, length, Ok, sym, ap, ap₂, ◌∙◌, arith}
use Rattle.std.proofs.lemmas.Result.{err_from_is_err_and}
use Rattle.oer_lexer.specs.Token.{spots_of}
use Rattle.oer_value_notation.specs.State.{state_of}
use Rattle.oer_notation.specs.Parsing.{entries_more}
use Rattle.oer_notation.specs.Views.{given, known_by}
use Rattle.oer_notation.proofs.Loops.{entries_err, entries_step, entries_end, entries_stop, entries_over, last_spots}
use Rattle.oer_value_notation.proofs.Turns.{spots_count}
use Rattle.oer_notation.proofs.types.read_entries.Goals as goal

pub returns-in_err-schema : goal.returns-in_err-schema
returns-in_err-schema c =
    let l = c.entries in
    let size = spots_count c.args.cursor.now.spots.now in
    let some = c.entries-test.true in
    let p = err_from_is_err_and c.from_residual.result c.from_residual.ensures.1 in
    rw (p.1, p.2) (λ not_memory. l.invariant.0 ∙ entries_err (suc (length (spots_of c.args.cursor.now.spots.now)) - l.turn) (known_by l.definitions) (state_of l.cursor) _ (omega arith) (c.in_err-schema.ensures.read not_memory))

pub returns-in_err-expect_end : goal.returns-in_err-expect_end
returns-in_err-expect_end c =
    let l = c.entries in
    let size = spots_count c.args.cursor.now.spots.now in
    let some = c.entries-test.true in
    let read = c.in_ok-schema.ensures.read in
    let last = last_spots c.read_entry.new.cursor.spots.now ∙ sym c.is_empty.ensures ∙ c.if-is_empty.true in
    let p = err_from_is_err_and c.from_residual-in_err-expect_end.result c.from_residual-in_err-expect_end.ensures.1 in
    rw (p.1, p.2) (λ not_memory. l.invariant.0 ∙ entries_stop (suc (length (spots_of c.args.cursor.now.spots.now)) - l.turn) (known_by l.definitions) (state_of l.cursor) (given c.read_entry.new.types c.in_ok-schema.schema) (state_of c.read_entry.new.cursor) _ (omega arith) read last (c.in_err-expect_end.ensures not_memory))

pub returns-then-is_empty : goal.returns-then-is_empty
returns-then-is_empty c =
    let l = c.entries in
    let size = spots_count c.args.cursor.now.spots.now in
    let some = c.entries-test.true in
    let read = c.in_ok-schema.ensures.read in
    let last = last_spots c.read_entry.new.cursor.spots.now ∙ sym c.is_empty.ensures ∙ c.if-is_empty.true in
    let pushed = c.in_ok-add_type.ensures.known ∙ ap (λ ks. ks ++ given c.read_entry.new.types c.in_ok-schema.schema ∷ []) c.in_ok-schema.ensures.same in
    l.invariant.0 ∙ entries_end (suc (length (spots_of c.args.cursor.now.spots.now)) - l.turn) (known_by l.definitions) (state_of l.cursor) (given c.read_entry.new.types c.in_ok-schema.schema) (state_of c.read_entry.new.cursor) c.in_ok-expect_end.field-0 (omega arith) read last c.in_ok-expect_end.ensures
    ∙ ap Ok (sym pushed)

pub entries-preserved : goal.entries-preserved
entries-preserved c =
    let l = c.entries in
    let size = spots_count c.args.cursor.now.spots.now in
    let some = c.entries-test.true in
    let read = c.in_ok-schema.ensures.read in
    let last = last_spots c.read_entry.new.cursor.spots.now ∙ sym c.is_empty.ensures ∙ c.if-is_empty.false in
    let pushed = c.in_ok-add_type.ensures.known ∙ ap (λ ks. ks ++ given c.read_entry.new.types c.in_ok-schema.schema ∷ []) c.in_ok-schema.ensures.same in
    let next : suc (length (spots_of c.args.cursor.now.spots.now)) - l.turn - 1 ≡ suc (length (spots_of c.args.cursor.now.spots.now)) - (l.turn + 1) = omega arith in (
      l.invariant.0 ∙ entries_step (suc (length (spots_of c.args.cursor.now.spots.now)) - l.turn) (known_by l.definitions) (state_of l.cursor) (given c.read_entry.new.types c.in_ok-schema.schema) (state_of c.read_entry.new.cursor) (omega arith) read last
          ∙ ap₂ (λ n ks. entries_more n ks (state_of c.read_entry.new.cursor)) next (sym pushed),
      c.in_ok-add_type.ensures.whole,
    )

pub returns : goal.returns
returns c =
    let l = c.entries in
    let size = spots_count c.args.cursor.now.spots.now in
    let over = c.entries-test.false in
    λ not_memory. l.invariant.0 ∙ entries_over (suc (length (spots_of c.args.cursor.now.spots.now)) - l.turn) (known_by l.definitions) (state_of l.cursor) (omega arith)
