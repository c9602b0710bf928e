use Rattle.std.proofs.Common.{◌≡◌, ◌++◌, drop, string_bytes}
use Rattle.oer_explain.specs.JsonNames.{behind_commas, texts_behind}
use Rattle.oer_explain.proofs.json_names.push_behind_commas.Given as goal

-- what is there and what is left are the whole
abbrev pub invariant-loop-name : goal.invariant-loop-name
invariant-loop-name l = string_bytes l.fn.text ++ behind_commas (texts_behind l.names) ≡ string_bytes l.text ++ behind_commas
    (texts_behind (drop l.name-index l.names))
