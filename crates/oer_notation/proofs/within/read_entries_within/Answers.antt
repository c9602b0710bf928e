use Rattle.std.proofs.Common.{◌≡◌, ◌+◌, ◌-◌, ◌≤◌, suc, [], ◌∷◌, ◌++◌, length, false, leb, Ok, Err, sym, ap, ap₂, ◌∙◌, arith}
use Rattle.std.proofs.lemmas.Bool.{le-leb, lt-leb}
use Rattle.std.proofs.lemmas.Result.{err_from_is_err_and}
use Rattle.oer_lexer.specs.Token.{spots_of}
use Rattle.oer_model.specs.Nodes.{type_nodes}
use Rattle.oer_value_notation.specs.State.{state_of}
use Rattle.oer_notation.specs.Views.{given, known_by}
use Rattle.oer_notation.specs.Within.{entries_within}
use Rattle.oer_notation.specs.declared.within.WithinFault.TheVariants.{Parts}
use Rattle.oer_notation.proofs.Loops.{last_spots}
use Rattle.oer_notation.proofs.WithinLoops.{within_end, within_err, within_more, within_over, within_step, within_stop}
use Rattle.oer_value_notation.proofs.Turns.{spots_count}
use Rattle.oer_notation.proofs.within.read_entries_within.Goals as goal

pub returns-in_err-schema : goal.returns-in_err-schema
returns-in_err-schema c =
    let l = c.entries in
    let size = spots_count c.args.cursor.now.spots.now in
    let some = c.entries-test.true in
    let p = err_from_is_err_and c.from_residual.result c.from_residual.ensures.1 in
    rw (p.1, p.2)
    (λ not_memory. l.invariant.0 ∙ within_err (suc (length (spots_of c.args.cursor.now.spots.now)) - l.turn) l.left (known_by
    l.definitions) (state_of l.cursor) _ (omega arith) (c.in_err-schema.ensures.read not_memory))

pub returns-in_default : goal.returns-in_default
returns-in_default c =
    let l = c.entries in
    let size = spots_count c.args.cursor.now.spots.now in
    let some = c.entries-test.true in
    let parts = type_nodes (given c.read_entry.new.types c.in_ok-schema.schema).type in
    let past : leb parts l.left ≡ false = lt-leb parts l.left c.in_default.ensures in
    l.invariant.0
    ∙ within_more (suc (length (spots_of c.args.cursor.now.spots.now)) - l.turn) l.left (known_by l.definitions) (state_of
    l.cursor) (given c.read_entry.new.types c.in_ok-schema.schema) (state_of c.read_entry.new.cursor) (omega arith) c.in_ok-schema.ensures.read past
    ∙ ap (λ f. Err (Parts f.at)) (sym c.fault-at.ensures)

pub returns-in_err-expect_end : goal.returns-in_err-expect_end
returns-in_err-expect_end c =
    let l = c.entries in
    let size = spots_count c.args.cursor.now.spots.now in
    let some = c.entries-test.true in
    let parts = type_nodes (given c.read_entry.new.types c.in_ok-schema.schema).type in
    let sum = c.in-Some.ensures in
    let few : parts ≤ l.left = omega arith in
    let last = last_spots c.read_entry.new.cursor.spots.now ∙ sym c.is_empty.ensures ∙ c.if-is_empty.true in
    let p = err_from_is_err_and c.from_residual-in_err-expect_end.result c.from_residual-in_err-expect_end.ensures.1 in
    rw (p.1, p.2)
    (λ not_memory. l.invariant.0 ∙ within_stop (suc (length (spots_of c.args.cursor.now.spots.now)) - l.turn) l.left (known_by
    l.definitions) (state_of l.cursor) (given c.read_entry.new.types c.in_ok-schema.schema) (state_of c.read_entry.new.cursor) _ (omega arith)
    c.in_ok-schema.ensures.read (le-leb parts l.left few) last (c.in_err-expect_end.ensures not_memory))

pub returns-then-is_empty : goal.returns-then-is_empty
returns-then-is_empty c =
    let l = c.entries in
    let pushed = c.in_ok-add_type.ensures.known ∙ ap (λ ks. ks ++ given c.read_entry.new.types c.in_ok-schema.schema ∷ []) c.in_ok-schema.ensures.same in
    let size = spots_count c.args.cursor.now.spots.now in
    let some = c.entries-test.true in
    let parts = type_nodes (given c.read_entry.new.types c.in_ok-schema.schema).type in
    let sum = c.in-Some.ensures in
    let few : parts ≤ l.left = omega arith in
    let last = last_spots c.read_entry.new.cursor.spots.now ∙ sym c.is_empty.ensures ∙ c.if-is_empty.true in
    l.invariant.0
    ∙ within_end (suc (length (spots_of c.args.cursor.now.spots.now)) - l.turn) l.left (known_by l.definitions) (state_of l.cursor)
    (given c.read_entry.new.types c.in_ok-schema.schema) (state_of c.read_entry.new.cursor) c.in_ok-expect_end.field-0 (omega arith)
    c.in_ok-schema.ensures.read (le-leb parts l.left few) last c.in_ok-expect_end.ensures
    ∙ ap Ok (sym pushed)

pub entries-preserved : goal.entries-preserved
entries-preserved c =
    let l = c.entries in
    let pushed = c.in_ok-add_type.ensures.known ∙ ap (λ ks. ks ++ given c.read_entry.new.types c.in_ok-schema.schema ∷ []) c.in_ok-schema.ensures.same in
    let size = spots_count c.args.cursor.now.spots.now in
    let some = c.entries-test.true in
    let parts = type_nodes (given c.read_entry.new.types c.in_ok-schema.schema).type in
    let sum : c.in-Some.rest + parts ≡ l.left = c.in-Some.ensures in
    let few : parts ≤ l.left = omega arith in
    let rest : l.left - parts ≡ c.in-Some.rest = omega arith in
    let last = last_spots c.read_entry.new.cursor.spots.now ∙ sym c.is_empty.ensures ∙ c.if-is_empty.false in
    let next : suc (length (spots_of c.args.cursor.now.spots.now)) - l.turn - 1 ≡ suc (length (spots_of
    c.args.cursor.now.spots.now)) - (l.turn + 1) = omega arith in (
      l.invariant.0
          ∙ within_step (suc (length (spots_of c.args.cursor.now.spots.now)) - l.turn) l.left (known_by l.definitions) (state_of
          l.cursor) (given c.read_entry.new.types c.in_ok-schema.schema) (state_of c.read_entry.new.cursor) (omega arith) c.in_ok-schema.ensures.read
          (le-leb parts l.left few) last
          ∙ ap₂ (λ n left. entries_within n left (known_by l.definitions ++ given c.read_entry.new.types c.in_ok-schema.schema ∷ []) (state_of
          c.read_entry.new.cursor)) next rest
          ∙ ap (λ ks. entries_within (suc (length (spots_of c.args.cursor.now.spots.now)) - (l.turn + 1)) c.in-Some.rest ks (state_of
          c.read_entry.new.cursor)) (sym pushed),
      c.in_ok-add_type.ensures.whole,
    )

pub returns : goal.returns
returns c =
    let l = c.entries in
    let size = spots_count c.args.cursor.now.spots.now in
    let over = c.entries-test.false in
    λ not_memory. l.invariant.0 ∙ within_over (suc (length (spots_of c.args.cursor.now.spots.now)) - l.turn) l.left (known_by
    l.definitions) (state_of l.cursor) (omega arith)
