use Rattle.std.proofs.Common.{◌≡◌, ◌∙◌, IfOk, List, ap, length, min, rules, string_bytes, ℕ, subst}
use Rattle.std.specs.Prelude.{codes, []}
use Rattle.std.specs.Str.Lossy.{utf8_valid_len}
use Rattle.std.proofs.lemmas.Str.{is_utf8-from_IsUtf8}
use Rattle.oer_types.specs.Schema.{the_type}
use Rattle.oer_explain.specs.Json.{json_notes, text_notes}
use Rattle.oer_explain.specs.Place.{notes_at}
use Rattle.oer_explain.proofs.Stopping.{at_none}
use Rattle.oer_explain.proofs.Utf8.{of_octets}
use Rattle.oer_explain.proofs.json.json_notes.Goals as goal

pub returns-in-Ok : goal.returns-in-Ok
returns-in-Ok c =
    let u = is_utf8-from_IsUtf8 c.args.octets.now c.in-Ok.ensures.cases.1 in
    rw u (rw c.in-Ok.ensures.cases.0 at c.text_notes.ensures)

pub returns-in-Err : goal.returns-in-Err
returns-in-Err c =
    let octets = c.args.octets.now in
    let T = the_type c.args.schema.now in
    let place : c.min.result ≡ min (utf8_valid_len octets) (length octets) =
    c.min.ensures ∙ ap (λ n. min n (length octets)) (c.valid_up_to.ensures ∙ c.in-Err.ensures.valid_len) in
    let said = subst (λ (n : ℕ). IfOk c.notes_at.result (λ s. string_bytes s ≡ notes_at octets n (codes "the text is no UTF-8 from here on") [])) place c.notes_at.ensures in
    at_none c.notes_at.result (λ x. json_notes x T octets)
    (of_octets string_bytes octets (text_notes 0 T octets) _ c.notes_at.result c.in-Err.ensures.cases.0 said)
