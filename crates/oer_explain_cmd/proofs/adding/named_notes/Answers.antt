use Rattle.std.proofs.Common.{◌≡◌, [], Some, rules, true}
use Rattle.oer_explain.specs.Json.{types_json_notes}
use Rattle.oer_explain.specs.Types.{defines, types_notes}
use Rattle.oer_explain_cmd.specs.Adding.{json_within, named_notes}
use Rattle.oer_explain_cmd.proofs.Noted.{named_json, same_notes}
use Rattle.oer_explain_cmd.proofs.adding.named_notes.Goals as goal

pub returns-in-Some : goal.returns-in-Some
returns-in-Some c =
    let octets = c.args.octets.now in
    let name = c.args.name.now in
    let o = c.args.options in
    let json = c.in-Some.json.now in
    let none : types_notes octets ≡ [] = search rules in
    let found : defines octets name ≡ true = search rules in
    let given : Some json ≡ json_within o = search rules in
    same_notes c.types_json_notes.result (λ x. types_json_notes x octets name json) (λ x. named_notes x octets name o)
    (named_json octets name json o none found given)
    (rw c.as_bytes.ensures.value at c.types_json_notes.ensures)
