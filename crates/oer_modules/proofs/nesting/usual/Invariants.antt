use Rattle.std.proofs.Common.{◌≡◌, ◌<◌, ◌-◌}
use Rattle.oer_module_names.specs.Views.{modules_in}
use Rattle.oer_module_types.specs.Types.{typed}
use Rattle.oer_module_values.specs.Views.{type_in}
use Rattle.oer_modules.specs.Nesting.{most}
use Rattle.oer_modules.proofs.nesting.usual.Given as goal

-- from so often down it is the same
abbrev pub invariant-loop-nesting : goal.invariant-loop-nesting
invariant-loop-nesting l = record {
  same : most (λ n. typed (modules_in l.names) n (type_in l.of)) 7 ≡ most (λ n. typed (modules_in l.names) n (type_in l.of)) (l.nesting - 1);
  some : 0 < l.nesting;
}

abbrev pub decreases-loop-nesting : goal.decreases-loop-nesting
decreases-loop-nesting l = l.nesting
