use Rattle.std.proofs.Common.{◌≡◌, ◌+◌, ◌≤◌, length}
use Rattle.oer_lexer.specs.Lexing.{plus, block_len}
use Rattle.oer_module_lexer.proofs.lengths.block_len.Given as goal

abbrev pub invariant-loop-rest : goal.invariant-loop-rest
invariant-loop-rest l = (block_len l.bytes 0 ≡ plus l.n (block_len l.rest l.depth)) × (l.n + length l.rest ≡ length l.bytes) × (l.depth ≤ l.n)

abbrev pub decreases-loop-rest : goal.decreases-loop-rest
decreases-loop-rest l = length l.rest
