use Rattle.std.proofs.Common.{◌≡◌, ◌++◌, length}
use Rattle.oer_model.specs.FaultTest.{names_repeat}
use Rattle.oer_values.specs.ShapeView.{root_of}
use Rattle.oer_model.specs.WellFormed.{alternative_names}
use Rattle.oer_model.specs.AsnType.{no_alternatives}
use Rattle.oer_types.proofs.name.few_alternative_names_repeat.Given as goal

abbrev pub invariant-loop-alt : goal.invariant-loop-alt
invariant-loop-alt l = names_repeat (alternative_names (root_of l.rest no_alternatives) ++ alternative_names (root_of l.later no_alternatives)) ≡ names_repeat (alternative_names (root_of l.alts no_alternatives) ++ alternative_names (root_of l.later no_alternatives))

abbrev pub decreases-loop-alt : goal.decreases-loop-alt
decreases-loop-alt l = length l.rest
