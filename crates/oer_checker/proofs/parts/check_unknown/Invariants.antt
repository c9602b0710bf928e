use Rattle.std.proofs.Common.{◌≡◌, drop}
use Rattle.oer_model.specs.Checking.{check_unknown}
use Rattle.oer_checker.specs.BitView.{bits_in}
use Rattle.oer_checker.specs.Places.{place_of}
use Rattle.oer_checker.specs.Steps.{and_after}
use Rattle.oer_checker.proofs.parts.check_unknown.Given as goal

abbrev pub invariant-loop-index : goal.invariant-loop-index
invariant-loop-index l = and_after l.is_canonical (check_unknown (drop l.index (bits_in l.bits)) (place_of l.at)) ≡ check_unknown (drop l.known (bits_in l.bits)) (place_of l.fn.at)
