-- What holds of the components of a SEQUENCE and what they are given.
use Rattle.std.specs.Prelude.{◌≡◌, List, [], Ok}
use Rattle.oer_module_names.specs.declared.error.Place.{Place}
use Rattle.oer_module_defaults.specs.Components.{Component}
use Rattle.oer_module_defaults.specs.Slots.{Entry, Slot, Fills, slots_at}

-- What components are given are the members of braces, in their order.
abbrev pub SlotsAreSound : Type 0
SlotsAreSound = (p : Place) (es : List Entry) (cs : List Component) (ss : List Slot) → slots_at p es 0 cs [] ≡ Ok ss → Fills es cs ss
