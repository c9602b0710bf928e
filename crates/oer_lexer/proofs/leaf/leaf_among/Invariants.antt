use Rattle.std.proofs.Common.{◌≡◌, drop}
use Rattle.oer_lexer.specs.LeafWords.{leaf_among}
use Rattle.oer_lexer.proofs.leaf.leaf_among.Given as goal

-- none of the types before begins with the word
abbrev pub invariant-loop-leaf : goal.invariant-loop-leaf
invariant-loop-leaf l = leaf_among l.word (drop l.leaf-index l.leaves) ≡ leaf_among l.word l.leaves
