use Rattle.std.proofs.Common.{◌≡◌, drop, map}
use Rattle.oer_at.specs.Names.{text_behind}
use Rattle.oer_c.specs.Parts.{are_words}
use Rattle.oer_c.proofs.names.are_words.Given as goal

abbrev pub invariant-loop-name : goal.invariant-loop-name
invariant-loop-name l = are_words (map text_behind l.names) ≡ are_words (map text_behind (drop l.name-index l.names))
