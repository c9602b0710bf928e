use Rattle.std.proofs.Common.{◌≡◌, ◌∷◌, ◌++◌, drop, map, string_bytes}
use Rattle.std.specs.Prelude.{if◌then◌else◌}
use Rattle.oer_words.specs.Flag.{others}
use Rattle.oer_words.specs.Words.{words_of}
use Rattle.oer_words.proofs.flag.others.Given as goal

-- the words that stay are those so far, and what stays of the rest
abbrev pub invariant-loop-word : goal.invariant-loop-word
invariant-loop-word l =
    let rest = map string_bytes (drop l.word-index l.words) in
    l.program ∷ others l.flag (map string_bytes l.words) ≡ words_of l.kept ++ (if l.is_option then others l.flag rest else rest)
