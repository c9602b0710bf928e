use Rattle.oer_explain_cmd.proofs.Adds.{none_added, notes_added}
use Rattle.oer_explain_cmd.proofs.saying.add_octets_for.Goals as goal

pub returns-in-Ok : goal.returns-in-Ok
returns-in-Ok g c = notes_added _ c.args.status _ _ c.in-Ok.notes.items c.as_slice.result.now c.as_slice.ensures.value c.in-Ok.ensures c.put_notes.ensures

pub returns-in-Err : goal.returns-in-Err
returns-in-Err g c = none_added _ c.args.status _
