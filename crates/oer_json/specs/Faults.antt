-- The names of the faults.
use Rattle.std.specs.Prelude.{ℕ, List, codes}
use Rattle.oer_json.specs.declared.fault.JsonFault.{JsonFault}
use Rattle.oer_json.specs.declared.fault.JsonFault.TheVariants.{Memory, Kind, Name, Missing, Range, Misfit}

abbrev pub json_fault_name : JsonFault → List ℕ
json_fault_name Memory = codes "Memory"
json_fault_name Kind = codes "Kind"
json_fault_name Name = codes "Name"
json_fault_name Missing = codes "Missing"
json_fault_name Range = codes "Range"
json_fault_name Misfit = codes "Misfit"
