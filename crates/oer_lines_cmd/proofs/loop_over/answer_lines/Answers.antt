use Rattle.std.proofs.Common.{arith, Err, Ok, ap, refl, [], ◌∷◌}
use Rattle.std.specs.Prelude.{not}
use Rattle.oer_types.specs.Schema.{the_type}
use Rattle.oer_lines_cmd.specs.Lines.{lines}
use Rattle.oer_lines_cmd.specs.Tasks.{answer_told}
use Rattle.oer_lines_cmd.specs.declared.failure.Failure.TheVariants.{Input}
use Rattle.oer_lines_cmd.proofs.Looping.{at_start}
use Rattle.oer_lines_cmd.proofs.Messages.{answer_fails, by_path, goes_on, lines_told, read_fails, stops}
use Rattle.oer_lines_cmd.proofs.Took.{told_line, took_line}
use Rattle.oer_lines_cmd.proofs.loop_over.answer_lines.Goals as goal

pub loop-number-init : goal.loop-number-init
loop-number-init g c = (
  omega arith,
  at_start lines (by_path (lines_told c.args.asked.tells_nesting c.args.asked.task (the_type c.args.schema.now) c.args.asked.limit) c.args.asked.task)
      (g.R.Read.remaining c.args.input.now) (g.W.Write.contents c.args.output.now) (g.E.Write.contents c.args.errors.now),
)

pub returns-in_err-is_ended-clause-exact : goal.returns-in_err-is_ended-clause-exact
returns-in_err-is_ended-clause-exact g c =
    read_fails lines (lines_told c.args.asked.tells_nesting c.args.asked.task (the_type c.args.schema.now) c.args.asked.limit) c.args.asked.task
    _ _ _ _ _ _ _ _ c.loop-number.invariant.1 _ c.from_residual.result c.from_residual.ensures.1

pub returns-in_err-status-clause-exact : goal.returns-in_err-status-clause-exact
returns-in_err-status-clause-exact g c =
    let line = c.take_line.new.line.items in
    answer_fails lines (lines_told c.args.asked.tells_nesting c.args.asked.task (the_type c.args.schema.now) c.args.asked.limit) c.args.asked.task _ _ _ _ _ _ _ _ c.loop-number.invariant.1
    (g.R.Read.remaining c.take_line.new.input) _ _
    (line ∷ []) (not c.in_ok-is_ended.is_ended) (took_line _ _ line c.in_ok-is_ended.is_ended c.in_ok-is_ended.ensures) _ c.from_residual-in_err-status.result
    (λ path of. told_line (answer_told c.args.asked.tells_nesting c.args.asked.task (the_type c.args.schema.now) c.args.asked.limit path)
    c.loop-number.number c.deref.result.now line (Err c.in_err-status.field-0.0) _ c.deref.ensures.value (c.in_err-status.ensures.exact path of)) c.from_residual-in_err-status.ensures.1

pub returns-then-not-is_ended-clause-exact : goal.returns-then-not-is_ended-clause-exact
returns-then-not-is_ended-clause-exact g c =
    let line = c.take_line.new.line.items in
    stops lines (lines_told c.args.asked.tells_nesting c.args.asked.task (the_type c.args.schema.now) c.args.asked.limit) c.args.asked.task _ _ _ _ _ _ _ _ c.loop-number.invariant.1
    (g.R.Read.remaining c.take_line.new.input) _ _ (line ∷ []) (not c.in_ok-is_ended.is_ended) (took_line _ _ line c.in_ok-is_ended.is_ended c.in_ok-is_ended.ensures)
    c.in_ok-status.status c.worse-worst.result c.worse-worst.ensures
    (λ path of. told_line (answer_told c.args.asked.tells_nesting c.args.asked.task (the_type c.args.schema.now) c.args.asked.limit path)
    c.loop-number.number c.deref.result.now line (Ok c.in_ok-status.status) _ c.deref.ensures.value (c.in_ok-status.ensures.exact path of)) (ap not c.if-not-is_ended.true)

pub loop-number-preserved : goal.loop-number-preserved
loop-number-preserved g c =
    let line = c.take_line.new.line.items in (
      omega (arith, c.worse-worst.ensures, c.loop-number.invariant.0, c.in_ok-status.ensures.statuses),
      goes_on lines (lines_told c.args.asked.tells_nesting c.args.asked.task (the_type c.args.schema.now) c.args.asked.limit) c.args.asked.task
          _ _ _ _ _ _ _ _ c.loop-number.invariant.1 (g.R.Read.remaining c.take_line.new.input) _ _
          (line ∷ []) (not c.in_ok-is_ended.is_ended) (took_line _ _ line c.in_ok-is_ended.is_ended c.in_ok-is_ended.ensures) c.in_ok-status.status c.worse-worst.result c.worse-worst.ensures
          (λ path of. told_line (answer_told c.args.asked.tells_nesting c.args.asked.task (the_type c.args.schema.now) c.args.asked.limit path)
          c.loop-number.number c.deref.result.now line (Ok c.in_ok-status.status) _ c.deref.ensures.value (c.in_ok-status.ensures.exact path of)) (ap not c.if-not-is_ended.false),
    )

pub returns-clause-exact : goal.returns-clause-exact
returns-clause-exact g c =
    read_fails lines (lines_told c.args.asked.tells_nesting c.args.asked.task (the_type c.args.schema.now) c.args.asked.limit) c.args.asked.task
    _ _ _ _ _ _ _ _ c.loop-number.invariant.1 Input (Err Input) refl
