use Rattle.std.proofs.Common.{◌≡◌, ◌+◌, ◌≤◌, drop, map, string_bytes}
use Rattle.oer_words.specs.Words.{times}
use Rattle.oer_words.proofs.flag.times.Given as goal

abbrev pub invariant-loop-word : goal.invariant-loop-word
invariant-loop-word l =
    (times l.flag (map string_bytes l.words) ≡ l.times + times l.flag (map string_bytes (drop l.word-index l.words))) × (l.times ≤ l.word-index)
