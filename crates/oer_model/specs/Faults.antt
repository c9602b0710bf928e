-- The names of the faults.
use Rattle.std.specs.Prelude.{ℕ, List, codes}
use Rattle.oer_model.specs.declared.fault.SchemaFault.{SchemaFault}
use Rattle.oer_model.specs.declared.fault.SchemaFault.TheVariants.{TooDeep, TooManyParts, BoundOrder, SizeOrder, BadName, RepeatedName, NoItems, RepeatedNumber, RepeatedTag, DefaultMisfit, EmptyElement}

abbrev pub schema_fault_name : SchemaFault → List ℕ
schema_fault_name TooDeep = codes "TooDeep"
schema_fault_name TooManyParts = codes "TooManyParts"
schema_fault_name BoundOrder = codes "BoundOrder"
schema_fault_name SizeOrder = codes "SizeOrder"
schema_fault_name BadName = codes "BadName"
schema_fault_name RepeatedName = codes "RepeatedName"
schema_fault_name NoItems = codes "NoItems"
schema_fault_name RepeatedNumber = codes "RepeatedNumber"
schema_fault_name RepeatedTag = codes "RepeatedTag"
schema_fault_name DefaultMisfit = codes "DefaultMisfit"
schema_fault_name EmptyElement = codes "EmptyElement"
