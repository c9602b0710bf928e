use Rattle.std.proofs.Common.{◌≡◌, ◌∷◌, ◌++◌, drop, map}
use Rattle.oer_module_options.specs.Scan.{item_of}
use Rattle.oer_module_cmd.specs.Given.{kept_words, words_of}
use Rattle.oer_module_cmd.proofs.given.kept_words.Given as goal

-- the words so far, and those of what is left
abbrev pub invariant-loop-item : goal.invariant-loop-item
invariant-loop-item l = words_of l.words ++ kept_words (map item_of (drop l.item-index l.kept)) ≡ l.program ∷ kept_words (map item_of l.kept)
