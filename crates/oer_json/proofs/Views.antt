-- A tree of JSON, level by level.
use Rattle.std.proofs.Common.{◌≡◌, Bool, String, Global, rules, string_bytes}
use Rattle.serde_json.specs.Data.{null, boolean, number, string}
use Rattle.serde_json.specs.View.{view, number_view}
use Rattle.serde_json.specs.declared.number.Number.{Number}
use Rattle.serde_json.specs.declared.value.Value as json
use Rattle.serde_json.proofs.Views.{view-Array, view-Object}

pub view-Null : view json.Null ≡ null
view-Null = search (rules, json.the_lemmas)

pub view-Bool : (b : Bool) → view (json.Bool b) ≡ boolean b
view-Bool b = search (rules, json.the_lemmas)

pub view-Number : (n : Number) → view (json.Number n) ≡ number (number_view n)
view-Number n = search (rules, json.the_lemmas)

pub view-String : (s : String Global) → view (json.String s) ≡ string (string_bytes s)
view-String s = search (rules, json.the_lemmas)

-- each level of a tree
pub ruleset trees = (view-Null, view-Bool, view-Number, view-String, view-Array, view-Object)
