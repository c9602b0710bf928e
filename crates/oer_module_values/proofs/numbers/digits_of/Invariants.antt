use Rattle.std.proofs.Common.{◌≡◌, ◌-◌}
use Rattle.oer_module_names.specs.Views.{modules_in}
use Rattle.oer_module_values.specs.Numbers.{numeral}
use Rattle.oer_module_values.specs.Views.{wanted_of, IsWantedWithin}
use Rattle.oer_module_values.proofs.numbers.digits_of.Given as goal

-- the way from here is as long as is left
abbrev pub invariant-steps : goal.invariant-steps
invariant-steps l =
    record {
      is : numeral (modules_in l.names) 255 (wanted_of l.fn.wanted) ≡ numeral (modules_in l.names) (255 - l.turn) (wanted_of l.here);
      within : IsWantedWithin (modules_in l.names) l.here;
    }
