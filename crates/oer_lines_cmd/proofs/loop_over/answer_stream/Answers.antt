use Rattle.std.proofs.Common.{◌+◌, arith, Err, Ok, refl, subst, [], ◌∷◌, true}
use Rattle.std.specs.Io.KnownBytes.{prepend_known}
use Rattle.oer_types.specs.Schema.{the_type}
use Rattle.oer_lines_cmd.specs.Reading.{ahead_of, piece_of}
use Rattle.oer_lines_cmd.specs.Stream.{piece_answer, pieces}
use Rattle.oer_lines_cmd.specs.declared.failure.Failure.TheVariants.{Input}
use Rattle.oer_lines_cmd.proofs.Looping.{SoFar, at_start, streams}
use Rattle.oer_lines_cmd.proofs.Messages.{answer_fails, by_path, goes_on, pieces_told, read_fails, stops}
use Rattle.oer_lines_cmd.proofs.TookPiece.{behind, end_of, is_end, not_end, nothing_ahead, passed, told_none, told_piece, took_end, took_some}
use Rattle.oer_lines_cmd.proofs.loop_over.answer_stream.Goals as goal

pub loop-number-init : goal.loop-number-init
loop-number-init g c = (
  omega arith,
  subst (λ t. SoFar (pieces (the_type c.args.schema.now) c.args.asked.limit)
      (by_path (pieces_told c.args.asked.tells_nesting c.args.asked.task (the_type c.args.schema.now) c.args.asked.limit) c.args.asked.task) (g.R.Read.remaining c.args.input.now) t 1 0
      (streams (g.W.Write.contents c.args.output.now) (g.W.Write.contents c.args.output.now) (g.E.Write.contents c.args.errors.now) (g.E.Write.contents c.args.errors.now)))
      (nothing_ahead (ahead_of c.new-ahead.result) (g.R.Read.remaining c.args.input.now) c.new-ahead.ensures) (at_start (pieces (the_type c.args.schema.now) c.args.asked.limit)
      (by_path (pieces_told c.args.asked.tells_nesting c.args.asked.task (the_type c.args.schema.now) c.args.asked.limit) c.args.asked.task)
      (g.R.Read.remaining c.args.input.now) (g.W.Write.contents c.args.output.now) (g.E.Write.contents c.args.errors.now)),
)

pub returns-in_err-piece-clause-exact : goal.returns-in_err-piece-clause-exact
returns-in_err-piece-clause-exact g c = read_fails
    (pieces (the_type c.args.schema.now) c.args.asked.limit) (pieces_told c.args.asked.tells_nesting c.args.asked.task (the_type c.args.schema.now) c.args.asked.limit) c.args.asked.task
    _ _ _ _ _ _ _ _ c.loop-number.invariant.1 _ c.from_residual.result c.from_residual.ensures.1

pub returns-in_default-clause-exact : goal.returns-in_default-clause-exact
returns-in_default-clause-exact g c = stops
    (pieces (the_type c.args.schema.now) c.args.asked.limit) (pieces_told c.args.asked.tells_nesting c.args.asked.task (the_type c.args.schema.now) c.args.asked.limit) c.args.asked.task
    _ _ _ _ _ _ _ _ c.loop-number.invariant.1
    (prepend_known (ahead_of c.take_piece.new.ahead) (g.R.Read.remaining c.take_piece.new.input)) (g.W.Write.contents c.loop-number.output) (g.E.Write.contents c.loop-number.errors)
    [] true (took_end (the_type c.args.schema.now) c.args.schema.now.well_formed.limits c.args.asked.limit
    (prepend_known (ahead_of c.loop-number.ahead) (g.R.Read.remaining c.loop-number.input)) (ahead_of c.take_piece.new.ahead)
    (g.R.Read.remaining c.take_piece.new.input) c.in_ok-piece.field-0 c.in_default.is c.in_ok-piece.ensures) 0 c.loop-number.worst (omega arith)
    (λ path of. told_none (piece_answer c.args.asked.tells_nesting c.args.asked.task (the_type c.args.schema.now) c.args.asked.limit path) c.loop-number.number
    (g.W.Write.contents c.loop-number.output) (g.E.Write.contents c.loop-number.errors)) refl

pub returns-in_err-status-clause-exact : goal.returns-in_err-status-clause-exact
returns-in_err-status-clause-exact g c = answer_fails
    (pieces (the_type c.args.schema.now) c.args.asked.limit) (pieces_told c.args.asked.tells_nesting c.args.asked.task (the_type c.args.schema.now) c.args.asked.limit) c.args.asked.task
    _ _ _ _ _ _ _ _ c.loop-number.invariant.1 (prepend_known (behind c.in-Some.piece (ahead_of c.take_piece.new.ahead)) (g.R.Read.remaining c.take_piece.new.input)) _ _
    (piece_of (ahead_of c.take_piece.new.ahead) c.in-Some.piece ∷ []) (is_end c.in-Some.piece) (took_some (the_type c.args.schema.now) c.args.schema.now.well_formed.limits c.args.asked.limit
    (prepend_known (ahead_of c.loop-number.ahead) (g.R.Read.remaining c.loop-number.input)) (ahead_of c.take_piece.new.ahead)
    (g.R.Read.remaining c.take_piece.new.input) c.in_ok-piece.field-0 c.in-Some.piece c.in-Some.is c.in_ok-piece.ensures) _ c.from_residual-in_err-status.result (λ path of. told_piece
    (piece_answer c.args.asked.tells_nesting c.args.asked.task (the_type c.args.schema.now) c.args.asked.limit path) c.loop-number.number c.octets-octets.result.now
    (ahead_of c.take_piece.new.ahead) c.in-Some.piece (Err c.in_err-status.field-0.0) _ c.octets-octets.ensures (c.in_err-status.ensures.exact path of)) c.from_residual-in_err-status.ensures.1

pub returns-in_default-piece : goal.returns-in_default-piece
returns-in_default-piece g c = record {
  exact = stops
      (pieces (the_type c.args.schema.now) c.args.asked.limit) (pieces_told c.args.asked.tells_nesting c.args.asked.task (the_type c.args.schema.now) c.args.asked.limit) c.args.asked.task
      _ _ _ _ _ _ _ _ c.loop-number.invariant.1 (prepend_known (behind c.in-Some.piece (ahead_of c.take_piece.new.ahead)) (g.R.Read.remaining c.take_piece.new.input)) _ _
      (piece_of (ahead_of c.take_piece.new.ahead) c.in-Some.piece ∷ []) (is_end c.in-Some.piece) (took_some (the_type c.args.schema.now) c.args.schema.now.well_formed.limits c.args.asked.limit
      (prepend_known (ahead_of c.loop-number.ahead) (g.R.Read.remaining c.loop-number.input)) (ahead_of c.take_piece.new.ahead)
      (g.R.Read.remaining c.take_piece.new.input) c.in_ok-piece.field-0 c.in-Some.piece c.in-Some.is c.in_ok-piece.ensures) c.in_ok-status.status c.worse-worst.result c.worse-worst.ensures
      (λ path of. told_piece (piece_answer c.args.asked.tells_nesting c.args.asked.task (the_type c.args.schema.now) c.args.asked.limit path) c.loop-number.number c.octets-octets.result.now
      (ahead_of c.take_piece.new.ahead) c.in-Some.piece (Ok c.in_ok-status.status) _ c.octets-octets.ensures (c.in_ok-status.ensures.exact path of))
      (end_of c.in-Some.piece c.in_default-piece.not-Message);
  statuses = omega (arith, c.worse-worst.ensures, c.loop-number.invariant.0, c.in_ok-status.ensures.statuses);
}

pub loop-number-preserved : goal.loop-number-preserved
loop-number-preserved g c = (
  omega (arith, c.worse-worst.ensures, c.loop-number.invariant.0, c.in_ok-status.ensures.statuses),
  subst (λ l. SoFar (pieces (the_type c.args.schema.now) c.args.asked.limit)
      (by_path (pieces_told c.args.asked.tells_nesting c.args.asked.task (the_type c.args.schema.now) c.args.asked.limit) c.args.asked.task) (g.R.Read.remaining c.args.input.now)
      (prepend_known l (g.R.Read.remaining c.take_piece.new.input)) (c.loop-number.number + 1) c.worse-worst.result
      (streams (g.W.Write.contents c.args.output.now) (g.W.Write.contents c.answer_piece.new.output) (g.E.Write.contents c.args.errors.now) (g.E.Write.contents c.answer_piece.new.errors)))
      (passed c.in-Some.piece c.in-Message.count (ahead_of c.take_piece.new.ahead) (ahead_of c.pass.new.self) c.in-Message.is c.pass.ensures) (goes_on
      (pieces (the_type c.args.schema.now) c.args.asked.limit) (pieces_told c.args.asked.tells_nesting c.args.asked.task (the_type c.args.schema.now) c.args.asked.limit) c.args.asked.task
      _ _ _ _ _ _ _ _ c.loop-number.invariant.1 (prepend_known (behind c.in-Some.piece (ahead_of c.take_piece.new.ahead)) (g.R.Read.remaining c.take_piece.new.input)) _ _
      (piece_of (ahead_of c.take_piece.new.ahead) c.in-Some.piece ∷ []) (is_end c.in-Some.piece) (took_some (the_type c.args.schema.now) c.args.schema.now.well_formed.limits c.args.asked.limit
      (prepend_known (ahead_of c.loop-number.ahead) (g.R.Read.remaining c.loop-number.input)) (ahead_of c.take_piece.new.ahead)
      (g.R.Read.remaining c.take_piece.new.input) c.in_ok-piece.field-0 c.in-Some.piece c.in-Some.is c.in_ok-piece.ensures) c.in_ok-status.status c.worse-worst.result c.worse-worst.ensures
      (λ path of. told_piece (piece_answer c.args.asked.tells_nesting c.args.asked.task (the_type c.args.schema.now) c.args.asked.limit path) c.loop-number.number c.octets-octets.result.now
      (ahead_of c.take_piece.new.ahead) c.in-Some.piece (Ok c.in_ok-status.status) _ c.octets-octets.ensures (c.in_ok-status.ensures.exact path of))
      (not_end c.in-Some.piece c.in-Message.count c.in-Message.is)),
)

pub returns-clause-exact : goal.returns-clause-exact
returns-clause-exact g c = read_fails
    (pieces (the_type c.args.schema.now) c.args.asked.limit) (pieces_told c.args.asked.tells_nesting c.args.asked.task (the_type c.args.schema.now) c.args.asked.limit) c.args.asked.task
    _ _ _ _ _ _ _ _ c.loop-number.invariant.1 Input (Err Input) refl
