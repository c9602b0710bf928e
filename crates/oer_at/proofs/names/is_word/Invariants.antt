use Rattle.std.proofs.Common.{◌≡◌, drop}
use Rattle.oer_at.specs.Names.{are_of_words}
use Rattle.oer_at.proofs.names.is_word.Given as goal

abbrev pub invariant-loop-c : goal.invariant-loop-c
invariant-loop-c l = are_of_words l.text ≡ are_of_words (drop l.c-index l.text)
