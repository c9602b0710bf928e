-- The names of the faults.
use Rattle.std.specs.Prelude.{ℕ, List, codes}
use Rattle.oer_model.specs.Faults.{schema_fault_name}
use Rattle.oer_value_notation.specs.declared.fault.TextWhy.{TextWhy}
use Rattle.oer_value_notation.specs.declared.fault.TextWhy.TheVariants.{Memory, Token, Syntax, Number, Name, Repeated, Mixed, Default, Schema}

abbrev pub text_why_name : TextWhy → List ℕ
text_why_name Memory = codes "Memory"
text_why_name Token = codes "Token"
text_why_name Syntax = codes "Syntax"
text_why_name Number = codes "Number"
text_why_name Name = codes "Name"
text_why_name Repeated = codes "Repeated"
text_why_name Mixed = codes "Mixed"
text_why_name Default = codes "Default"
text_why_name (Schema fault) = schema_fault_name fault
