use Rattle.std.proofs.Common.{◌≡◌, ◌+◌, length, reverse, Ok}
use Rattle.oer_module_lexer.specs.Token.{spots_of}
use Rattle.oer_module_syntax.specs.Ranges.{groups_len}
use Rattle.oer_module_syntax.specs.State.{state_of, ◌>>=◌}
use Rattle.oer_module_syntax.proofs.range.groups_len.Given as goal

abbrev pub invariant-loop-rest : goal.invariant-loop-rest
invariant-loop-rest l =
    (groups_len l.extent (state_of l.cursor) (spots_of l.spots) (reverse l.fn.opened.items)
    ≡ (groups_len l.extent (state_of l.cursor) (spots_of l.rest) (reverse l.opened.items) >>= λ k. Ok (l.n + k)))
    × (l.n + length l.rest ≡ length l.spots)

abbrev pub decreases-loop-rest : goal.decreases-loop-rest
decreases-loop-rest l = length l.rest
