use Rattle.std.proofs.Common.{◌≡◌, ◌<◌, ◌-◌, length}
use Rattle.oer_module_names.specs.Views.{modules_in}
use Rattle.oer_module_values.specs.Types.{meaning, walk}
use Rattle.oer_module_values.specs.Views.{given_in, type_in}
use Rattle.oer_module_values.proofs.types.resolve.Given as goal

-- the way from here is as long as is left
abbrev pub invariant-steps : goal.invariant-steps
invariant-steps l =
    record {
      is : meaning (modules_in l.names) (type_in l.fn.of) ≡ walk (modules_in l.names) (255 - l.turn) (type_in l.here) (given_in l.given.items);
      within : l.here.«module» < length (modules_in l.names);
    }
