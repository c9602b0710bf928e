use Rattle.std.proofs.Common.{◌≡◌, ◌+◌, length}
use Rattle.oer_module_lexer.specs.Lexing.{run_len}
use Rattle.oer_module_lexer.proofs.lengths.run_len.Given as goal

abbrev pub invariant-loop-rest : goal.invariant-loop-rest
invariant-loop-rest l = (l.n + run_len l.class l.rest ≡ run_len l.class l.bytes) × (l.n + length l.rest ≡ length l.bytes)

abbrev pub decreases-loop-rest : goal.decreases-loop-rest
decreases-loop-rest l = length l.rest
