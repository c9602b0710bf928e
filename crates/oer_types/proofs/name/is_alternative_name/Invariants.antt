use Rattle.std.proofs.Common.{◌≡◌, drop, string_bytes}
use Rattle.oer_model.specs.FaultTest.{contains_name}
use Rattle.oer_values.specs.ShapeView.{root_of}
use Rattle.oer_model.specs.WellFormed.{alternative_names}
use Rattle.oer_model.specs.AsnType.{no_alternatives}
use Rattle.oer_types.proofs.name.is_alternative_name.Given as goal

abbrev pub invariant-loop-alt : goal.invariant-loop-alt
invariant-loop-alt l = contains_name (string_bytes l.name) (alternative_names (root_of (drop l.alt-index l.alts) no_alternatives)) ≡ contains_name (string_bytes l.name) (alternative_names (root_of l.alts no_alternatives))
