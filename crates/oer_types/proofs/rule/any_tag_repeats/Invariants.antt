use Rattle.std.proofs.Common.{◌≡◌, length}
use Rattle.oer_model.specs.FaultTest.{tags_repeat}
use Rattle.oer_values.specs.ShapeView.{root_of, later_of}
use Rattle.oer_types.proofs.rule.any_tag_repeats.Given as goal

abbrev pub invariant-loop-alt : goal.invariant-loop-alt
invariant-loop-alt l = tags_repeat (root_of l.rest (later_of l.later)) ≡ tags_repeat (root_of l.alts (later_of l.later))

abbrev pub decreases-loop-alt : goal.decreases-loop-alt
decreases-loop-alt l = length l.rest
