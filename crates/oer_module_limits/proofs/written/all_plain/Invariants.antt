use Rattle.std.proofs.Common.{◌≡◌, drop}
use Rattle.oer_module_lexer.specs.Token.{spots_of}
use Rattle.oer_module_limits.specs.Written.{all_plain}
use Rattle.oer_module_limits.proofs.written.all_plain.Given as goal

-- each of those before is plain
abbrev pub invariant-loop-spot : goal.invariant-loop-spot
invariant-loop-spot l = all_plain (spots_of l.spots) ≡ all_plain (spots_of (drop l.spot-index l.spots))
