use Rattle.std.proofs.Common.{◌∙◌, arith, Err, Ok, refl, sym}
use Rattle.oer_units.specs.Width.{octets_of_width}
use Rattle.oer_types.specs.Schema.{the_type}
use Rattle.oer_lines_cmd.specs.Frames.{frames, is_last}
use Rattle.oer_lines_cmd.specs.Tasks.{long_answer, octets_told}
use Rattle.oer_lines_cmd.specs.declared.failure.Failure.TheVariants.{Input}
use Rattle.oer_lines_cmd.proofs.Looping.{at_start}
use Rattle.oer_lines_cmd.proofs.Messages.{answer_fails, by_path, frames_told, goes_on, read_fails, stops}
use Rattle.oer_lines_cmd.proofs.Took.{some_octets, told_frame, took_frame}
use Rattle.oer_lines_cmd.proofs.loop_over.answer_frames.Goals as goal

pub loop-number-init : goal.loop-number-init
loop-number-init g c = (
  omega arith,
  at_start (frames (octets_of_width c.args.width))
      (by_path (frames_told c.args.asked.tells_nesting c.args.asked.task (the_type c.args.schema.now) c.args.asked.limit) c.args.asked.task)
      (g.R.Read.remaining c.args.input.now) (g.W.Write.contents c.args.output.now) (g.E.Write.contents c.args.errors.now),
)

pub returns-in_err-taken-clause-exact : goal.returns-in_err-taken-clause-exact
returns-in_err-taken-clause-exact g c = read_fails
    (frames (octets_of_width c.args.width)) (frames_told c.args.asked.tells_nesting c.args.asked.task (the_type c.args.schema.now) c.args.asked.limit)
    c.args.asked.task _ _ _ _ _ _ _ _ c.loop-number.invariant.1 _ c.from_residual.result c.from_residual.ensures.1

pub returns-in_err-status-clause-exact : goal.returns-in_err-status-clause-exact
returns-in_err-status-clause-exact g c =
    let h = took_frame (octets_of_width c.args.width) c.args.asked.limit (g.R.Read.remaining c.loop-number.input) (g.R.Read.remaining c.take_frame.new.input)
    c.take_frame.new.message.items c.in_ok-taken.taken (some_octets c.args.width) c.in_ok-taken.ensures in
    answer_fails (frames (octets_of_width c.args.width)) (frames_told c.args.asked.tells_nesting c.args.asked.task (the_type c.args.schema.now) c.args.asked.limit)
    c.args.asked.task _ _ _ _ _ _ _ _ c.loop-number.invariant.1 _ _ _ h.items (is_last c.in_ok-taken.taken) h.took _ c.from_residual-in_err-status.result
    (λ path of. told_frame (octets_of_width c.args.width) c.args.asked.limit _ _ c.deref.result.now c.take_frame.new.message.items c.in_ok-taken.taken h
    (octets_told c.args.asked.tells_nesting c.args.asked.task (the_type c.args.schema.now) c.args.asked.limit path)
    (long_answer c.args.asked.task c.args.asked.limit path) c.loop-number.number (Err c.in_err-status.field-0.0) _ c.deref.ensures.value (c.in_err-status.ensures.exact path of))
    c.from_residual-in_err-status.ensures.1

pub returns-then-is_last-clause-exact : goal.returns-then-is_last-clause-exact
returns-then-is_last-clause-exact g c =
    let h = took_frame (octets_of_width c.args.width) c.args.asked.limit (g.R.Read.remaining c.loop-number.input) (g.R.Read.remaining c.take_frame.new.input)
    c.take_frame.new.message.items c.in_ok-taken.taken (some_octets c.args.width) c.in_ok-taken.ensures in
    stops (frames (octets_of_width c.args.width)) (frames_told c.args.asked.tells_nesting c.args.asked.task (the_type c.args.schema.now) c.args.asked.limit)
    c.args.asked.task _ _ _ _ _ _ _ _ c.loop-number.invariant.1 _ _ _ h.items (is_last c.in_ok-taken.taken) h.took c.in_ok-status.status c.worse-worst.result c.worse-worst.ensures
    (λ path of. told_frame (octets_of_width c.args.width) c.args.asked.limit _ _ c.deref.result.now c.take_frame.new.message.items c.in_ok-taken.taken h
    (octets_told c.args.asked.tells_nesting c.args.asked.task (the_type c.args.schema.now) c.args.asked.limit path)
    (long_answer c.args.asked.task c.args.asked.limit path) c.loop-number.number (Ok c.in_ok-status.status) _ c.deref.ensures.value (c.in_ok-status.ensures.exact path of))
    (sym c.is_last.ensures ∙ c.if-is_last.true)

pub loop-number-preserved : goal.loop-number-preserved
loop-number-preserved g c =
    let h = took_frame (octets_of_width c.args.width) c.args.asked.limit (g.R.Read.remaining c.loop-number.input) (g.R.Read.remaining c.take_frame.new.input)
    c.take_frame.new.message.items c.in_ok-taken.taken (some_octets c.args.width) c.in_ok-taken.ensures in (
      omega (arith, c.worse-worst.ensures, c.loop-number.invariant.0, c.in_ok-status.ensures.statuses),
      goes_on (frames (octets_of_width c.args.width)) (frames_told c.args.asked.tells_nesting c.args.asked.task (the_type c.args.schema.now) c.args.asked.limit)
          c.args.asked.task _ _ _ _ _ _ _ _ c.loop-number.invariant.1 _ _ _ h.items (is_last c.in_ok-taken.taken) h.took c.in_ok-status.status c.worse-worst.result c.worse-worst.ensures
          (λ path of. told_frame (octets_of_width c.args.width) c.args.asked.limit _ _ c.deref.result.now c.take_frame.new.message.items c.in_ok-taken.taken h
          (octets_told c.args.asked.tells_nesting c.args.asked.task (the_type c.args.schema.now) c.args.asked.limit path)
          (long_answer c.args.asked.task c.args.asked.limit path) c.loop-number.number (Ok c.in_ok-status.status) _ c.deref.ensures.value (c.in_ok-status.ensures.exact path of))
          (sym c.is_last.ensures ∙ c.if-is_last.false),
    )

pub returns-clause-exact : goal.returns-clause-exact
returns-clause-exact g c = read_fails
    (frames (octets_of_width c.args.width)) (frames_told c.args.asked.tells_nesting c.args.asked.task (the_type c.args.schema.now) c.args.asked.limit)
    c.args.asked.task _ _ _ _ _ _ _ _ c.loop-number.invariant.1 Input (Err Input) refl
