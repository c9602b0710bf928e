use Rattle.std.proofs.Common.{◌≡◌, ◌+◌, length}
use Rattle.oer_lexer.specs.Lexing.{word_len}
use Rattle.oer_module_lexer.proofs.lengths.word_len.Given as goal

abbrev pub invariant-loop-rest : goal.invariant-loop-rest
invariant-loop-rest l = (l.n + word_len l.rest ≡ word_len l.bytes) × (l.n + length l.rest ≡ length l.bytes)

abbrev pub decreases-loop-rest : goal.decreases-loop-rest
decreases-loop-rest l = length l.rest
