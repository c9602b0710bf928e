use Rattle.std.proofs.Common.{◌≡◌}
use Rattle.oer_explain.proofs.json_typed.type_json_notes.Goals as goal

pub returns-in-Ok : goal.returns-in-Ok
returns-in-Ok c = rw c.in-Ok.ensures.exact c.json_notes.ensures
