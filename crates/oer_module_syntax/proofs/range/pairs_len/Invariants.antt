use Rattle.std.proofs.Common.{◌≡◌, ◌+◌, length}
use Rattle.oer_module_lexer.specs.Token.{spots_of}
use Rattle.oer_module_syntax.specs.Ranges.{pairs_len}
use Rattle.oer_module_syntax.proofs.range.pairs_len.Given as goal

abbrev pub invariant-loop-rest : goal.invariant-loop-rest
invariant-loop-rest l = (l.n + pairs_len l.pair (spots_of l.rest) ≡ pairs_len l.pair (spots_of l.spots)) × (l.n + length l.rest ≡ length l.spots)

abbrev pub decreases-loop-rest : goal.decreases-loop-rest
decreases-loop-rest l = length l.rest
