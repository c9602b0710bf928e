-- What a flag of the parser tells: whether all types that were read since it was set have no fault after the first two.
use Rattle.std.specs.Prelude.{◌≡◌, Bool, true, false, ◌||◌}
use Rattle.oer_model.specs.FaultTest.{in_additions, in_alternatives, in_fields}
use Rattle.oer_values.specs.ShapeView.{additions_from, fields_from, later_from, root_from}
use Rattle.oer_types.specs.AnyFault.{any_fault_here}
use Rattle.oer_notation.specs.Reading.{Choices, Components}

-- where the flag is still set it was set before, and there is no such fault
pub record Tells (before after fault : Bool) : Type 0 where
  pub kept : after ≡ true → before ≡ true
  pub none : after ≡ true → fault ≡ false

-- the same of what stands beside others that had no such fault
pub record TellsMore (before after had has : Bool) : Type 0 where
  pub kept : after ≡ true → before ≡ true
  pub none : after ≡ true → had ≡ false → has ≡ false

abbrev pub components_have_fault : Components → Bool
components_have_fault c = in_fields any_fault_here (fields_from c.root) || in_additions any_fault_here (additions_from c.added)

abbrev pub choices_have_fault : Choices → Bool
choices_have_fault c = in_alternatives any_fault_here (root_from c.root (later_from c.added))
