use Rattle.std.proofs.Common.{◌≡◌, ◌+◌, length}
use Rattle.oer_lexer.specs.Lexing.{plus}
use Rattle.oer_module_lexer.specs.Lexing.{text_len}
use Rattle.oer_module_lexer.proofs.lengths.text_len.Given as goal

abbrev pub invariant-loop-rest : goal.invariant-loop-rest
invariant-loop-rest l = (text_len l.bytes ≡ plus l.n (text_len l.rest)) × (l.n + length l.rest ≡ length l.bytes)

abbrev pub decreases-loop-rest : goal.decreases-loop-rest
decreases-loop-rest l = length l.rest
