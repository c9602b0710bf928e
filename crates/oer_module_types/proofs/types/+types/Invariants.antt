use Rattle.std.proofs.Common.{◌≡◌, ◌+◌, ◌*◌, drop, map}
use Rattle.oer_module_names.specs.Views.{modules_in}
use Rattle.oer_module_syntax.specs.Tree.{element_of, elements_from}
use Rattle.oer_module_text.specs.Room.{room_of}
use Rattle.oer_module_types.specs.Gathered.{gathered_of}
use Rattle.oer_module_types.specs.Types.{elements_at, root_at, roots_at, type_at}
use Rattle.oer_module_types.proofs.types.+types.Given as goal

abbrev pub decreases-write_type : goal.decreases-write_type
decreases-write_type l = 20 * l.levels + 0

abbrev pub decreases-write_component : goal.decreases-write_component
decreases-write_component l = 20 * l.levels + 1

abbrev pub decreases-write_included : goal.decreases-write_included
decreases-write_included l = 20 * l.levels + 2

abbrev pub decreases-write_components_of : goal.decreases-write_components_of
decreases-write_components_of l = 20 * l.levels + 3

abbrev pub decreases-write_element : goal.decreases-write_element
decreases-write_element l = 20 * l.levels + 4

abbrev pub decreases-write_elements : goal.decreases-write_elements
decreases-write_elements l = 20 * l.levels + 5

abbrev pub decreases-write_root_element : goal.decreases-write_root_element
decreases-write_root_element l = 20 * l.levels + 5

abbrev pub decreases-write_root : goal.decreases-write_root
decreases-write_root l = 20 * l.levels + 6

abbrev pub decreases-write_braces : goal.decreases-write_braces
decreases-write_braces l = 20 * l.levels + 6

abbrev pub decreases-write_inside : goal.decreases-write_inside
decreases-write_inside l = 20 * l.levels + 7

abbrev pub decreases-write_narrowed : goal.decreases-write_narrowed
decreases-write_narrowed l = 20 * l.levels + 8

abbrev pub decreases-write_structure : goal.decreases-write_structure
decreases-write_structure l = 20 * l.levels + 9

abbrev pub decreases-write_meant : goal.decreases-write_meant
decreases-write_meant l = 20 * l.levels + 10

abbrev pub decreases-write_items : goal.decreases-write_items
decreases-write_items l = 20 * l.levels + 8

abbrev pub decreases-write_list : goal.decreases-write_list
decreases-write_list l = 20 * l.levels + 9

-- what is gathered and written, and what is left behind it, are all; the path is as it was
abbrev pub invariant-write_elements-loop-element : goal.invariant-write_elements-loop-element
invariant-write_elements-loop-element l =
    let ms = modules_in l.scope.names.now in
    let type = type_at ms l.scope.nesting l.levels in
    let roots = roots_at ms l.scope.nesting l.levels in
    let m = l.frame.place.«module» in
    record {
      text : elements_at ms type roots m l.frame.tags.now l.fn.path.items l.frame.before (elements_from (map element_of l.elements)) (gathered_of l.fn.gathered) (room_of l.fn.room)
          ≡ elements_at ms type roots m l.frame.tags.now l.fn.path.items l.before (elements_from (map element_of (drop l.element-index l.elements))) (gathered_of l.gathered) (room_of l.room);
      path : l.path.items ≡ l.fn.path.items;
      count : l.before.elements ≡ l.element-index;
    }

-- the same of the root of a SEQUENCE
abbrev pub invariant-write_root-loop-element : goal.invariant-write_root-loop-element
invariant-write_root-loop-element l =
    let ms = modules_in l.scope.names.now in
    let type = type_at ms l.scope.nesting l.levels in
    let roots = roots_at ms l.scope.nesting l.levels in
    let m = l.frame.place.«module» in
    record {
      text : root_at ms type roots m l.frame.tags.now l.fn.path.items l.frame.before (elements_from (map element_of l.elements)) (gathered_of l.fn.gathered) (room_of l.fn.room)
          ≡ root_at ms type roots m l.frame.tags.now l.fn.path.items l.before (elements_from (map element_of (drop l.element-index l.elements))) (gathered_of l.gathered) (room_of l.room);
      path : l.path.items ≡ l.fn.path.items;
      count : l.before.elements ≡ l.element-index;
    }
