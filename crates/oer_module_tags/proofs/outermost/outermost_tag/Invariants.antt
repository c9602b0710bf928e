use Rattle.std.proofs.Common.{◌≡◌, ◌<◌, ◌-◌, length}
use Rattle.oer_module_names.specs.Views.{modules_in}
use Rattle.oer_module_values.specs.Views.{type_in}
use Rattle.oer_module_tags.specs.Outermost.{outermost_tag, tag_within}
use Rattle.oer_module_tags.proofs.outermost.outermost_tag.Given as goal

-- the way from here is as long as is left
abbrev pub invariant-steps : goal.invariant-steps
invariant-steps l =
    record {
      is : outermost_tag (modules_in l.names) (type_in l.fn.of) ≡ tag_within (modules_in l.names) (255 - l.turn) (type_in l.here);
      within : l.here.«module» < length (modules_in l.names);
    }
