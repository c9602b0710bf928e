use Rattle.std.proofs.Common.{◌≡◌, [], Some, rules}
use Rattle.oer_explain.specs.Json.{type_json_notes}
use Rattle.oer_explain.specs.Types.{type_notes}
use Rattle.oer_explain_cmd.specs.Adding.{json_within, one_notes}
use Rattle.oer_explain_cmd.proofs.Noted.{one_json, same_notes}
use Rattle.oer_explain_cmd.proofs.adding.one_notes.Goals as goal

pub returns-in-Some : goal.returns-in-Some
returns-in-Some c =
    let text = c.args.text.now in
    let o = c.args.options in
    let none : type_notes text ≡ [] = search rules in
    let given : Some c.in-Some.json.now ≡ json_within o = search rules in
    same_notes c.type_json_notes.result (λ x. type_json_notes x text c.in-Some.json.now) (λ x. one_notes x text o)
    (one_json text c.in-Some.json.now o none given)
    (rw c.as_bytes.ensures.value at c.type_json_notes.ensures)
