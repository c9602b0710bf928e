-- Defaults that fit meet no end where no CHOICE in one has chosen the tag of an end.
use Rattle.oer_model.specs.AsnType.{Additions, Alternatives, AsnType, Fields, Need, default, may, must}
use Rattle.oer_model.specs.AsnType.{addition, alternative, choice, extensible_sequence, field, later, leaf, no_additions, no_alternatives, no_fields, sequence, sequence_of}
use Rattle.oer_model.specs.Fits.{AdditionDefaultsFit, AlternativeDefaultsFit, DefaultFits, DefaultsFit, FieldDefaultsFit, Fits}
use Rattle.oer_nesting.proofs.Free.{free_meets_none}
use Rattle.oer_nesting.specs.Deeper.{HasNoEnd}
use Rattle.oer_nesting.specs.Defaults.{AdditionDefaultsHaveNoEnd, AlternativeDefaultsHaveNoEnd, DefaultsHaveNoEnd, FieldDefaultsHaveNoEnd}
use Rattle.oer_nesting.specs.Defaults.{AdditionsHaveFreeDefaults, AlternativesHaveFreeDefaults, FieldsHaveFreeDefaults, HasFreeDefaults}
use Rattle.oer_nesting.specs.Free.{IsFree}

free_default : (need : Need) (T : AsnType) → DefaultFits need (Fits T) → DefaultFits need IsFree → DefaultFits need (HasNoEnd T)
free_default must T fit free = tt
free_default may T fit free = tt
free_default (default d) T fit free = free_meets_none T d fit free

mutual
  pub free_defaults : (T : AsnType) → DefaultsFit T → HasFreeDefaults T → DefaultsHaveNoEnd T
  free_defaults (leaf kind) fit free = tt
  free_defaults (sequence fs) fit free = of_fields fs fit free
  free_defaults (extensible_sequence fs more) fit free = (of_fields fs fit.0 free.0, of_additions more fit.1 free.1)
  free_defaults (sequence_of size T) fit free = free_defaults T fit free
  free_defaults (choice extensible more) fit free = of_alternatives more fit free

  of_fields : (fs : Fields) → FieldDefaultsFit fs → FieldsHaveFreeDefaults fs → FieldDefaultsHaveNoEnd fs
  of_fields no_fields fit free = tt
  of_fields (field name need T fs) fit free =
      (free_defaults T fit.0 free.0, free_default need T fit.1 free.1, of_fields fs fit.2 free.2)

  of_additions : (more : Additions) → AdditionDefaultsFit more → AdditionsHaveFreeDefaults more → AdditionDefaultsHaveNoEnd more
  of_additions no_additions fit free = tt
  of_additions (addition name T more) fit free = (free_defaults T fit.0 free.0, of_additions more fit.1 free.1)

  of_alternatives : (more : Alternatives) → AlternativeDefaultsFit more → AlternativesHaveFreeDefaults more → AlternativeDefaultsHaveNoEnd more
  of_alternatives no_alternatives fit free = tt
  of_alternatives (alternative name t T more) fit free = (free_defaults T fit.0 free.0, of_alternatives more fit.1 free.1)
  of_alternatives (later name t T more) fit free = (free_defaults T fit.0 free.0, of_alternatives more fit.1 free.1)
