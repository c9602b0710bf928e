use Rattle.std.proofs.Common.{◌≡◌, drop, map, string_bytes}
use Rattle.oer_words.specs.Words.{stands}
use Rattle.oer_words.proofs.words.stands.Given as goal

abbrev pub invariant-loop-word : goal.invariant-loop-word
invariant-loop-word l = stands l.option (map string_bytes l.words) ≡ stands l.option (map string_bytes (drop l.word-index l.words))
