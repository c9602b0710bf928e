use Rattle.std.proofs.Common.{◌≡◌, drop}
use Rattle.oer_module_syntax.specs.Words.{builtin_among}
use Rattle.oer_module_syntax.proofs.word.builtin_among.Given as goal

-- the word is none of those before
abbrev pub invariant-loop-builtin : goal.invariant-loop-builtin
invariant-loop-builtin l = builtin_among l.word (drop l.builtin-index l.builtins) ≡ builtin_among l.word l.builtins
