use Rattle.std.proofs.Common.{◌∙◌, Some, Ok, Err, sym, true≢false}
use Rattle.oer_cmd.specs.Answer.{types_input}
use Rattle.oer_cmd.specs.Faults.{status_of as fault_status}
use Rattle.oer_cmd.proofs.Meeting.{bytes}
use Rattle.oer_types_cmd.specs.declared.stop.Stop.TheVariants as raw
use Rattle.oer_types_cmd.proofs.Inputs.{asked_types, none_read, reads_hyphen, reads_none, some_text, types_taken, unasked_types, was_given}
use Rattle.oer_types_cmd.proofs.Meeting.{types_met, types_stopped}
use Rattle.oer_types_cmd.proofs.listing.given_types.Goals as goal

pub returns-then-not-is_input-clause-exact : goal.returns-then-not-is_input-clause-exact
returns-then-not-is_input-clause-exact g c = unasked_types c.args.types.now (g.R.Read.remaining c.args.input.now) c.new.result
    (sym c.is_input.ensures ∙ c.if-not-is_input.true) c.new.ensures.bytes

pub returns-then-not-is_input-clause-given : goal.returns-then-not-is_input-clause-given
returns-then-not-is_input-clause-given g c = none_read c.args.types.now (g.R.Read.remaining c.args.input.now) c.new.result
    (sym c.is_input.ensures ∙ c.if-not-is_input.true) c.new.ensures.bytes

pub returns-then-not-is_input-clause-takes : goal.returns-then-not-is_input-clause-takes
returns-then-not-is_input-clause-takes g c = λ yes. absurd (true≢false
    (sym yes ∙ reads_none c.args.types.now (sym c.is_input.ensures ∙ c.if-not-is_input.true)))

pub returns-in-Ok-clause-exact : goal.returns-in-Ok-clause-exact
returns-in-Ok-clause-exact g c =
    asked_types c.args.types.now (g.R.Read.remaining c.args.input.now) (Ok c.in-Ok.given)
    (sym c.is_input.ensures ∙ c.if-not-is_input.false)
    (types_met bytes (types_input (Some c.args.types.now) (g.R.Read.remaining c.args.input.now)) c.in-Ok.given c.in-Ok.ensures.exact)

pub returns-in-Ok-clause-given : goal.returns-in-Ok-clause-given
returns-in-Ok-clause-given g c = was_given (g.R.Read.remaining c.args.input.now) c.args.types.now c.in-Ok.given
    (sym c.is_input.ensures ∙ c.if-not-is_input.false) c.in-Ok.ensures.exact

pub returns-in-Ok-clause-untouched : goal.returns-in-Ok-clause-untouched
returns-in-Ok-clause-untouched g c = λ none. absurd (true≢false
    (sym (reads_hyphen c.args.types.now (sym c.is_input.ensures ∙ c.if-not-is_input.false)) ∙ none))

pub returns-in-Ok-clause-takes : goal.returns-in-Ok-clause-takes
returns-in-Ok-clause-takes g c = λ yes. types_taken 0 _ _ (c.in-Ok.ensures.takes (some_text c.args.types.now))

pub returns-in-Err-clause-exact : goal.returns-in-Err-clause-exact
returns-in-Err-clause-exact g c =
    asked_types c.args.types.now (g.R.Read.remaining c.args.input.now) (Err (raw.Types c.in-Err.fault))
    (sym c.is_input.ensures ∙ c.if-not-is_input.false)
    (types_stopped bytes (types_input (Some c.args.types.now) (g.R.Read.remaining c.args.input.now)) c.in-Err.fault c.in-Err.ensures.exact)

pub returns-in-Err-clause-untouched : goal.returns-in-Err-clause-untouched
returns-in-Err-clause-untouched g c = λ none. absurd (true≢false
    (sym (reads_hyphen c.args.types.now (sym c.is_input.ensures ∙ c.if-not-is_input.false)) ∙ none))

pub returns-in-Err-clause-takes : goal.returns-in-Err-clause-takes
returns-in-Err-clause-takes g c = λ yes.
    types_taken (fault_status c.in-Err.fault) _ _ (c.in-Err.ensures.takes (some_text c.args.types.now))
