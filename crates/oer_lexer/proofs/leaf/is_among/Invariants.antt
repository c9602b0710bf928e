use Rattle.std.proofs.Common.{◌≡◌, drop}
use Rattle.std.specs.List.{list_any}
use Rattle.oer_lexer.specs.LeafWords.{is_word_of}
use Rattle.oer_lexer.proofs.leaf.is_among.Given as goal

-- the word is none of those of the types before
abbrev pub invariant-loop-leaf : goal.invariant-loop-leaf
invariant-loop-leaf l = list_any (is_word_of l.word) (drop l.leaf-index l.leaves) ≡ list_any (is_word_of l.word) l.leaves
