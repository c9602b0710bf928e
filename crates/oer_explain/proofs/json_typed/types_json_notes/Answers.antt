use Rattle.std.proofs.Common.{◌≡◌, ◌∙◌, [], rules, string_bytes}
use Rattle.std.proofs.lemmas.Str.{is_utf8-from_IsUtf8}
use Rattle.oer_notation.specs.Parsing.{parse_all}
use Rattle.oer_explain.specs.Json.{notes_named}
use Rattle.oer_explain.proofs.Utf8.{of_none}
use Rattle.oer_explain.proofs.json_typed.types_json_notes.Goals as goal

pub returns-in-Ok : goal.returns-in-Ok
returns-in-Ok c =
    let u = is_utf8-from_IsUtf8 c.args.types.now c.in-Ok.ensures.cases.1 in
    rw u (rw c.in-Ok.ensures.cases.0 at c.notes_named.ensures)

pub returns-in-Err : goal.returns-in-Err
returns-in-Err c =
    let empty : string_bytes c.new.result ≡ [] = search rules in
    (0, empty ∙ of_none c.args.types.now (notes_named 0 (parse_all c.args.types.now) c.args.name.now c.args.octets.now) [] c.in-Err.ensures.cases.0)
