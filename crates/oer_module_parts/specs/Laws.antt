-- What holds of the parts.
use Rattle.std.specs.Prelude.{◌≡◌, ℤ, pos, ◌^◌, List, Option, Ok}
use Rattle.oer_module_parts.specs.Automatic.{AreAutomatic, automatic_numbers}
use Rattle.oer_module_parts.specs.Numbered.{AreBelow, AreNumbered}
use Rattle.oer_module_parts.specs.Numbering.{number_items}
use Rattle.oer_module_parts.specs.declared.automatic.Place.{Place}

-- The numbers that are found are those of the items.
abbrev pub NumbersSound : Type 0
NumbersSound = (root more : List (Option ℤ)) (ns : List ℤ) → number_items root more ≡ Ok ns → AreNumbered root more ns

-- The items have no others.
abbrev pub NumbersUnique : Type 0
NumbersUnique = (root more : List (Option ℤ)) (ms ns : List ℤ) → AreNumbered root more ms → AreNumbered root more ns → ms ≡ ns

abbrev pub AutomaticSound : Type 0
AutomaticSound = (places : List Place) → AreAutomatic places (automatic_numbers places)

-- Those that the items have are found, if they are below 2^127.
abbrev pub NumbersComplete : Type 0
NumbersComplete = (root more : List (Option ℤ)) (ns : List ℤ) → AreNumbered root more ns → AreBelow (pos (2 ^ 127)) ns → number_items root more ≡ Ok ns
