-- Types of which no fault holds.
use Rattle.oer_model.specs.AsnType.{Additions, Alternatives, AsnType, Fields, addition, alternative, field, later, no_additions, no_alternatives, no_fields}
use Rattle.oer_model.specs.WellFormed.{HasFault}
use Rattle.oer_model.specs.declared.fault.SchemaFault.{SchemaFault}

pub record IsFaultless (T : AsnType) : Type 0 where
  pub faultless : (fault : SchemaFault) → HasFault T fault → ⊥

-- those of the components
abbrev pub FieldsAreFaultless : Fields → Type 0
FieldsAreFaultless no_fields = Unit {0}
FieldsAreFaultless (field name need T fs) = IsFaultless T × FieldsAreFaultless fs

abbrev pub AdditionsAreFaultless : Additions → Type 0
AdditionsAreFaultless no_additions = Unit {0}
AdditionsAreFaultless (addition name T more) = IsFaultless T × AdditionsAreFaultless more

abbrev pub AlternativesAreFaultless : Alternatives → Type 0
AlternativesAreFaultless no_alternatives = Unit {0}
AlternativesAreFaultless (alternative name t T more) = IsFaultless T × AlternativesAreFaultless more
AlternativesAreFaultless (later name t T more) = IsFaultless T × AlternativesAreFaultless more
