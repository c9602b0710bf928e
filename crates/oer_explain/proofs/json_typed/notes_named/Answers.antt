use Rattle.oer_explain.proofs.json_typed.notes_named.Goals as goal

pub returns-in-Some : goal.returns-in-Some
returns-in-Some c = rw (c.in-Ok.ensures.exact, ← c.in-Some.ensures.found) c.json_notes.ensures
