use Rattle.std.proofs.Common.{◌≡◌, drop}
use Rattle.oer_explain.specs.JsonNames.{first_near, texts_behind}
use Rattle.oer_explain.proofs.json_names.first_near.Given as goal

-- none before is near
abbrev pub invariant-loop-name : goal.invariant-loop-name
invariant-loop-name l = first_near l.most l.key (texts_behind l.names) ≡ first_near l.most l.key (texts_behind (drop l.name-index l.names))
