use Rattle.std.proofs.Common.{◌≡◌, None, rules}
use Rattle.serde_json.specs.Read.{read}
use Rattle.oer_types.specs.Schema.{the_type}
use Rattle.oer_explain.proofs.Stopping.{no_json}
use Rattle.oer_explain.proofs.json.text_notes.Goals as goal

pub returns-in-Err-2 : goal.returns-in-Err-2
returns-in-Err-2 c =
    let none : read c.args.text.now ≡ None = search rules in
    no_json c.notes_at.result (the_type c.args.schema.now) c.args.text.now c.as_bytes-octets.result.now c.stop.result none c.as_bytes-octets.ensures.value
    c.stop.ensures c.notes_at.ensures
