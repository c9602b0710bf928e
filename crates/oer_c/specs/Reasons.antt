-- The numbers of the reasons for which texts, modules and JSON are rejected.
use Rattle.std.specs.Prelude.{ℕ}
use Rattle.oer_module_syntax.specs.declared.fault.Why.TheVariants as unread
use Rattle.oer_module_text.specs.declared.error.Why as refused
use Rattle.oer_module_text.specs.declared.error.Why.TheVariants as refusals
use Rattle.oer_module_values.specs.declared.error.Why.TheVariants as unresolved
use Rattle.oer_model.specs.declared.fault.SchemaFault.{SchemaFault}
use Rattle.oer_model.specs.declared.fault.SchemaFault.TheVariants.{TooDeep, TooManyParts, BoundOrder, SizeOrder, BadName, RepeatedName, NoItems, RepeatedNumber, RepeatedTag, DefaultMisfit, EmptyElement}
use Rattle.oer_value_notation.specs.declared.fault.TextWhy.{TextWhy}
use Rattle.oer_value_notation.specs.declared.fault.TextWhy.TheVariants as text
use Rattle.oer_json.specs.declared.fault.JsonFault.{JsonFault}
use Rattle.oer_json.specs.declared.fault.JsonFault.TheVariants as json

abbrev pub schema_number : SchemaFault → ℕ
schema_number TooDeep = 9
schema_number TooManyParts = 10
schema_number BoundOrder = 11
schema_number SizeOrder = 12
schema_number BadName = 13
schema_number RepeatedName = 14
schema_number NoItems = 15
schema_number RepeatedNumber = 16
schema_number RepeatedTag = 17
schema_number DefaultMisfit = 18
schema_number EmptyElement = 19

abbrev pub text_number : TextWhy → ℕ
text_number text.Memory = 1
text_number text.Token = 2
text_number text.Syntax = 3
text_number text.Number = 4
text_number text.Name = 5
text_number text.Repeated = 6
text_number text.Mixed = 7
text_number text.Default = 8
text_number (text.Schema fault) = schema_number fault

-- of a text of modules that can't be read: its tokens, its levels, and else its syntax
abbrev pub modules_number : refused.Why → ℕ
modules_number (refusals.Unresolved (unresolved.Unread unread.Token)) = 1
modules_number (refusals.Unresolved (unresolved.Unread unread.TooDeep)) = 3
modules_number _ = 2

abbrev pub json_number : JsonFault → ℕ
json_number json.Memory = 1
json_number json.Kind = 2
json_number json.Name = 3
json_number json.Missing = 4
json_number json.Range = 5
json_number json.Misfit = 6
