use Rattle.std.proofs.Common.{◌≡◌, drop}
use Rattle.oer_module_syntax.specs.Words.{keyword_among}
use Rattle.oer_module_syntax.proofs.word.keyword_among.Given as goal

-- the word is none of those before
abbrev pub invariant-loop-keyword : goal.invariant-loop-keyword
invariant-loop-keyword l = keyword_among l.word (drop l.keyword-index l.keywords) ≡ keyword_among l.word l.keywords
