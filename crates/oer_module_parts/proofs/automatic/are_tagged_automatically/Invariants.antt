use Rattle.std.proofs.Common.{◌≡◌, drop}
use Rattle.oer_module_parts.specs.Automatic.{are_untagged}
use Rattle.oer_module_parts.proofs.automatic.are_tagged_automatically.Given as goal

-- none before has a tag
abbrev pub invariant-loop-mark : goal.invariant-loop-mark
invariant-loop-mark l = are_untagged l.marks ≡ are_untagged (drop l.mark-index l.marks)
