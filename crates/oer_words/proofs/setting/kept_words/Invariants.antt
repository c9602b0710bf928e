use Rattle.std.proofs.Common.{◌≡◌, ◌∷◌, map, take}
use Rattle.oer_words.specs.Words.{words_of}
use Rattle.oer_words.specs.Scan.{text_behind}
use Rattle.oer_words.proofs.setting.kept_words.Given as goal

abbrev pub invariant-loop-word : goal.invariant-loop-word
invariant-loop-word l = words_of l.words ≡ l.program ∷ map text_behind (take l.word-index l.kept)
