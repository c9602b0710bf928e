-- Whether any of the faults after the first two holds, for a walk that asks for some of them at once.
use Rattle.std.specs.Prelude.{List, [], ◌∷◌, Bool, false, ◌||◌}
use Rattle.oer_model.specs.AsnType.{AsnType, choice, extensible_sequence, leaf, sequence, sequence_of}
use Rattle.oer_model.specs.FaultTest.{has_fault_here, in_additions, in_alternatives, in_fields, later_faults, somewhere}
use Rattle.oer_model.specs.declared.fault.SchemaFault.{SchemaFault}
use Rattle.oer_model.specs.declared.fault.SchemaFault.TheVariants.{BoundOrder, SizeOrder, BadName, RepeatedName, NoItems, RepeatedNumber, RepeatedTag, DefaultMisfit, EmptyElement}
use Rattle.oer_types.specs.declared.rule.Sought.{Sought}
use Rattle.oer_types.specs.declared.rule.Sought.TheVariants.{One, Spelling, Repeats, Values}

-- of the type itself, whatever the types in it have
abbrev pub any_here : List SchemaFault → AsnType → Bool
any_here [] T = false
any_here (f ∷ fs) T = has_fault_here f T || any_here fs T

abbrev pub any_fault_here : AsnType → Bool
any_fault_here = any_here later_faults

-- the same faults by what they are told from: each number and name alone,
abbrev pub spelling_faults : List SchemaFault
spelling_faults = BoundOrder ∷ SizeOrder ∷ BadName ∷ []

-- the names, numbers and tags of one type together,
abbrev pub repeat_faults : List SchemaFault
repeat_faults = RepeatedName ∷ NoItems ∷ RepeatedNumber ∷ RepeatedTag ∷ []

-- the values that a type has
abbrev pub value_faults : List SchemaFault
value_faults = DefaultMisfit ∷ EmptyElement ∷ []

-- whether the type itself has what a walk looks for
abbrev pub is_sought : Sought → AsnType → Bool
is_sought (One fault) = has_fault_here fault
is_sought Spelling = any_here spelling_faults
is_sought Repeats = any_here repeat_faults
is_sought Values = any_here value_faults

-- of a type in it, or of one in those
abbrev pub inside : (AsnType → Bool) → AsnType → Bool
inside q (leaf kind) = false
inside q (sequence fs) = in_fields q fs
inside q (extensible_sequence fs more) = in_fields q fs || in_additions q more
inside q (sequence_of s T) = somewhere q T
inside q (choice extensible more) = in_alternatives q more

-- whether any is in the type or in one in it
abbrev pub any_fault : AsnType → Bool
any_fault = somewhere any_fault_here
