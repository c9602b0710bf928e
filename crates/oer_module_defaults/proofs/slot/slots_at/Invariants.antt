use Rattle.std.proofs.Common.{◌≡◌, ◌≤◌, [], drop, map}
use Rattle.std.specs.List.{All}
use Rattle.oer_module_names.specs.Views.{modules_in}
use Rattle.oer_module_defaults.specs.Slots.{slots_at}
use Rattle.oer_module_defaults.specs.Views.{IsSlotWithin, component_of, entry_of, slot_of}
use Rattle.oer_module_defaults.proofs.slot.slots_at.Given as goal

-- those found, and those of what is left, are all; no more entries are taken than there were components
abbrev pub invariant-loop-component : goal.invariant-loop-component
invariant-loop-component l = record {
  slots : slots_at l.place (map entry_of l.entries) 0 (map component_of l.components) []
      ≡ slots_at l.place (map entry_of l.entries) l.taken (map component_of (drop l.component-index l.components)) (map slot_of l.slots.items);
  few : l.taken ≤ l.component-index;
  within : All (IsSlotWithin (modules_in l.scope.names.now)) l.slots.items;
}
