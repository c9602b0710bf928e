-- Which JSON a type rejects.
use Rattle.std.specs.Prelude.{Bool, true, false, Option, Some, None, Result, Ok, Err}
use Rattle.serde_json.specs.Data.{Data}
use Rattle.oer_model.specs.AsnType.{AsnType}
use Rattle.oer_json.specs.Take.{taken}
use Rattle.oer_json.specs.declared.fault.JsonFault.{JsonFault}
use Rattle.oer_json.specs.declared.fault.JsonFault.TheVariants.{Memory, Kind, Name, Missing, Range, Misfit}

abbrev pub same_fault : JsonFault → JsonFault → Bool
same_fault Memory Memory = true
same_fault Kind Kind = true
same_fault Name Name = true
same_fault Missing Missing = true
same_fault Range Range = true
same_fault Misfit Misfit = true
same_fault one other = false

abbrev pub fault_among : {A : Type 0} → Result A JsonFault → Option JsonFault
fault_among (Ok v) = None
fault_among (Err fault) = Some fault

-- the fault with which the type rejects the JSON, if it does
abbrev pub fault_of : AsnType → Data → Option JsonFault
fault_of T j = fault_among (taken T j)

abbrev pub is_that : JsonFault → Option JsonFault → Bool
is_that fault None = false
is_that fault (Some other) = same_fault fault other

-- the type rejects the JSON with this fault
unfoldable pub is_rejected : JsonFault → AsnType → Data → Bool
is_rejected fault T j = is_that fault (fault_of T j)
