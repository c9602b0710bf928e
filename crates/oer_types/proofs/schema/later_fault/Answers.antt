use Rattle.std.proofs.Common.{◌++◌, sym, ◌∙◌}
use Rattle.oer_types.specs.AnyFault.{repeat_faults, spelling_faults, value_faults}
use Rattle.oer_types.proofs.AnyFault.{found_before, past_repeats, past_spelling, past_values}
use Rattle.oer_values.specs.ShapeView.{type_of}
use Rattle.oer_types.proofs.schema.later_fault.Goals as goal

pub returns-then-is_somewhere : goal.returns-then-is_somewhere
returns-then-is_somewhere c =
    let T = type_of c.args.shape.now in
    sym (found_before spelling_faults (repeat_faults ++ value_faults) T c.spelling_fault.result (sym c.spelling_fault.ensures))

pub returns-then-is_somewhere-2 : goal.returns-then-is_somewhere-2
returns-then-is_somewhere-2 c =
    let T = type_of c.args.shape.now in
    let none = sym c.is_somewhere.ensures ∙ c.if-is_somewhere.false in
    sym (past_spelling T none ∙ found_before repeat_faults value_faults T c.repeat_fault.result (sym c.repeat_fault.ensures))

pub returns-then-is_somewhere-3 : goal.returns-then-is_somewhere-3
returns-then-is_somewhere-3 c =
    let T = type_of c.args.shape.now in
    let none = sym c.is_somewhere.ensures ∙ c.if-is_somewhere.false in
    let no_repeats = sym c.is_somewhere-2.ensures ∙ c.if-is_somewhere-2.false in
    sym (past_spelling T none ∙ past_repeats T no_repeats ∙ sym c.value_fault.ensures)

pub returns : goal.returns
returns c =
    let T = type_of c.args.shape.now in
    let none = sym c.is_somewhere.ensures ∙ c.if-is_somewhere.false in
    let no_repeats = sym c.is_somewhere-2.ensures ∙ c.if-is_somewhere-2.false in
    let no_values = sym c.is_somewhere-3.ensures ∙ c.if-is_somewhere-3.false in
    sym (past_spelling T none ∙ past_repeats T no_repeats ∙ past_values T no_values)
