use Rattle.std.proofs.Common.{◌≡◌, ◌+◌, ◌*◌, drop, map}
use Rattle.std.specs.List.{All}
use Rattle.oer_module_names.specs.Views.{modules_in}
use Rattle.oer_module_syntax.specs.Tree.{element_of, elements_from}
use Rattle.oer_module_text.specs.Room.{room_of}
use Rattle.oer_module_defaults.specs.Components.{elements_at, roots_at}
use Rattle.oer_module_defaults.specs.Views.{IsComponentWithin, component_of}
use Rattle.oer_module_defaults.proofs.component.+listing.Given as goal

abbrev pub decreases-list_root : goal.decreases-list_root
decreases-list_root l = 8 * l.levels + 0

abbrev pub decreases-list_included : goal.decreases-list_included
decreases-list_included l = 8 * l.levels + 1

abbrev pub decreases-list_inner : goal.decreases-list_inner
decreases-list_inner l = 8 * l.levels + 2

abbrev pub decreases-list_element : goal.decreases-list_element
decreases-list_element l = 8 * l.levels + 3

abbrev pub decreases-list_elements : goal.decreases-list_elements
decreases-list_elements l = 8 * l.levels + 4

abbrev pub decreases-list_meant : goal.decreases-list_meant
decreases-list_meant l = 8 * l.levels + 5

-- what is found, and what is left behind it, are all
abbrev pub invariant-list_elements-loop-element : goal.invariant-list_elements-loop-element
invariant-list_elements-loop-element l =
    let ms = modules_in l.scope.names.now in
    record {
      list : elements_at (roots_at ms l.levels) l.fn.listing (elements_from (map element_of l.elements)) (map component_of l.fn.found.items) (room_of l.fn.room)
          ≡ elements_at (roots_at ms l.levels) l.here (elements_from (map element_of (drop l.element-index l.elements))) (map component_of l.found.items)
          (room_of l.room);
      within : All (IsComponentWithin ms) l.found.items;
      same : l.here.«module» ≡ l.fn.listing.«module»;
    }
