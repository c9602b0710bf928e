use Rattle.std.proofs.Common.{◌≡◌, length}
use Rattle.oer_model.specs.FaultTest.{tags_repeat}
use Rattle.oer_values.specs.ShapeView.{later_of}
use Rattle.oer_types.proofs.rule.later_tags_repeat.Given as goal

abbrev pub invariant-loop-alt : goal.invariant-loop-alt
invariant-loop-alt l = tags_repeat (later_of l.rest) ≡ tags_repeat (later_of l.alts)

abbrev pub decreases-loop-alt : goal.decreases-loop-alt
decreases-loop-alt l = length l.rest
