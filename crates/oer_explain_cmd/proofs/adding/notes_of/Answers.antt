use Rattle.std.proofs.Common.{◌≡◌, ◌∙◌, ap, false, sym}
use Rattle.oer_options.specs.Words.{behind}
use Rattle.oer_explain_cmd.specs.Adding.{is_silent, items_behind, named_notes, notes_of, one_notes}
use Rattle.oer_explain_cmd.proofs.Noted.{held_notes, one_said, option_notes, same_notes}
use Rattle.oer_explain_cmd.proofs.adding.notes_of.Goals as goal

pub returns-in-Some : goal.returns-in-Some
returns-in-Some c =
    let o = c.args.options in
    let held = items_behind c.args.held in
    let a = c.in-None-Some-Some in
    let b = c.in-Some.octets.now in
    let said : is_silent c.args.command o held ≡ false = sym c.is_silent.ensures ∙ c.if-is_silent.false in
    same_notes c.named_notes.result (λ x. named_notes x b a.name.now o) (λ x. notes_of x c.args.command o held)
    (held_notes c.args.command o held a.name.now a.types.now said (ap behind a.is-0) (ap behind a.is-1) (ap behind a.is-2) b
    (ap items_behind c.in-Some.is))
    c.named_notes.ensures

pub returns-in-None : goal.returns-in-None
returns-in-None c =
    let o = c.args.options in
    let held = items_behind c.args.held in
    let a = c.in-None-Some-Some in
    let said : is_silent c.args.command o held ≡ false = sym c.is_silent.ensures ∙ c.if-is_silent.false in
    let h = rw c.as_bytes.ensures.value at c.named_notes-in-None.ensures in
    same_notes c.named_notes-in-None.result (λ x. named_notes x a.types.now a.name.now o) (λ x. notes_of x c.args.command o held)
    (option_notes c.args.command o held a.name.now a.types.now said (ap behind a.is-0) (ap behind a.is-1) (ap behind a.is-2)
    (ap items_behind c.in-None.is))
    h

pub returns-in-Some-None-None : goal.returns-in-Some-None-None
returns-in-Some-None-None c =
    let o = c.args.options in
    let held = items_behind c.args.held in
    let a = c.in-Some-None-None in
    let said : is_silent c.args.command o held ≡ false = sym c.is_silent.ensures ∙ c.if-is_silent.false in
    same_notes c.one_notes.result (λ x. one_notes x a.text.now o) (λ x. notes_of x c.args.command o held)
    (one_said c.args.command o held a.text.now said (ap behind a.is-0) (ap behind a.is-1) (ap behind a.is-2))
    c.one_notes.ensures
