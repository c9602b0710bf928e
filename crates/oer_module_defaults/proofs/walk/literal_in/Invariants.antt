use Rattle.std.proofs.Common.{◌≡◌, ◌-◌}
use Rattle.oer_module_names.specs.Views.{modules_in}
use Rattle.oer_module_defaults.specs.Views.{IsSourceWithin, source_of}
use Rattle.oer_module_defaults.specs.Walks.{walk}
use Rattle.oer_module_defaults.proofs.walk.literal_in.Given as goal

-- the way from here is as long as is left
abbrev pub invariant-steps : goal.invariant-steps
invariant-steps l =
    record {
      is : walk (modules_in l.names) 255 (source_of l.fn.source) ≡ walk (modules_in l.names) (255 - l.turn) (source_of l.here);
      within : IsSourceWithin (modules_in l.names) l.here;
    }
