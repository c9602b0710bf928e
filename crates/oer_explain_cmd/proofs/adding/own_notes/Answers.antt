use Rattle.std.proofs.Common.{◌≡◌, Some, rules, true}
use Rattle.oer_types.specs.Schema.{the_type}
use Rattle.oer_explain.specs.Json.{json_notes}
use Rattle.oer_explain_cmd.specs.Adding.{asks, json_within, own_notes}
use Rattle.oer_explain_cmd.proofs.Noted.{own_json, same_notes}
use Rattle.oer_explain_cmd.proofs.adding.own_notes.Goals as goal

pub returns-in-Some : goal.returns-in-Some
returns-in-Some c =
    let o = c.args.options in
    let T = the_type c.args.schema.now in
    let json = c.in-Some.json.now in
    let asked : asks c.args.command o.task ≡ true = search rules in
    let given : Some json ≡ json_within o = search rules in
    same_notes c.json_notes.result (λ x. json_notes x T json) (λ x. own_notes x c.args.command T o)
    (own_json c.args.command T json o asked given)
    (rw c.as_bytes.ensures.value at c.json_notes.ensures)
