use Rattle.std.proofs.Common.{◌≡◌, drop}
use Rattle.oer_lexer.specs.Token.{spots_of}
use Rattle.oer_notation.specs.Weight.{heavy_at, heavy_from, scale_of}
use Rattle.oer_notation.proofs.weight.heavy_at.Given as goal

abbrev pub invariant-loop-index : goal.invariant-loop-index
invariant-loop-index l = heavy_at l.room (spots_of l.spots) ≡ heavy_from (spots_of (drop l.index l.spots)) (scale_of l.scale)
