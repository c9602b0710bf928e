-- Types whose defaults meet no end, and two ways to tell them.
use Rattle.oer_model.specs.AsnType.{Additions, Alternatives, AsnType, Fields, addition, alternative, choice, extensible_sequence, field, later, leaf, no_additions, no_alternatives, no_fields, sequence, sequence_of}
use Rattle.oer_model.specs.Fits.{DefaultFits}
use Rattle.oer_nesting.specs.Deeper.{HasNoEnd}
use Rattle.oer_nesting.specs.Free.{IsFree}

-- No part of a default stands where the type of its component has an end.
abbrev mutual
  pub DefaultsHaveNoEnd : AsnType → Type 0
  DefaultsHaveNoEnd (leaf kind) = Unit {0}
  DefaultsHaveNoEnd (sequence fs) = FieldDefaultsHaveNoEnd fs
  DefaultsHaveNoEnd (extensible_sequence fs more) = FieldDefaultsHaveNoEnd fs × AdditionDefaultsHaveNoEnd more
  DefaultsHaveNoEnd (sequence_of size T) = DefaultsHaveNoEnd T
  DefaultsHaveNoEnd (choice extensible more) = AlternativeDefaultsHaveNoEnd more

  pub FieldDefaultsHaveNoEnd : Fields → Type 0
  FieldDefaultsHaveNoEnd no_fields = Unit {0}
  FieldDefaultsHaveNoEnd (field name need T fs) = DefaultsHaveNoEnd T × DefaultFits need (HasNoEnd T) × FieldDefaultsHaveNoEnd fs

  pub AdditionDefaultsHaveNoEnd : Additions → Type 0
  AdditionDefaultsHaveNoEnd no_additions = Unit {0}
  AdditionDefaultsHaveNoEnd (addition name T more) = DefaultsHaveNoEnd T × AdditionDefaultsHaveNoEnd more

  pub AlternativeDefaultsHaveNoEnd : Alternatives → Type 0
  AlternativeDefaultsHaveNoEnd no_alternatives = Unit {0}
  AlternativeDefaultsHaveNoEnd (alternative name t T more) = DefaultsHaveNoEnd T × AlternativeDefaultsHaveNoEnd more
  AlternativeDefaultsHaveNoEnd (later name t T more) = DefaultsHaveNoEnd T × AlternativeDefaultsHaveNoEnd more

-- the type holds no other
abbrev pub IsLeaf : AsnType → Type 0
IsLeaf (leaf kind) = Unit {0}
IsLeaf T = ⊥

-- Only components whose types hold no other have defaults.
abbrev mutual
  pub HasLeafDefaults : AsnType → Type 0
  HasLeafDefaults (leaf kind) = Unit {0}
  HasLeafDefaults (sequence fs) = FieldsHaveLeafDefaults fs
  HasLeafDefaults (extensible_sequence fs more) = FieldsHaveLeafDefaults fs × AdditionsHaveLeafDefaults more
  HasLeafDefaults (sequence_of size T) = HasLeafDefaults T
  HasLeafDefaults (choice extensible more) = AlternativesHaveLeafDefaults more

  pub FieldsHaveLeafDefaults : Fields → Type 0
  FieldsHaveLeafDefaults no_fields = Unit {0}
  FieldsHaveLeafDefaults (field name need T fs) = HasLeafDefaults T × DefaultFits need (λ d. IsLeaf T) × FieldsHaveLeafDefaults fs

  pub AdditionsHaveLeafDefaults : Additions → Type 0
  AdditionsHaveLeafDefaults no_additions = Unit {0}
  AdditionsHaveLeafDefaults (addition name T more) = HasLeafDefaults T × AdditionsHaveLeafDefaults more

  pub AlternativesHaveLeafDefaults : Alternatives → Type 0
  AlternativesHaveLeafDefaults no_alternatives = Unit {0}
  AlternativesHaveLeafDefaults (alternative name t T more) = HasLeafDefaults T × AlternativesHaveLeafDefaults more
  AlternativesHaveLeafDefaults (later name t T more) = HasLeafDefaults T × AlternativesHaveLeafDefaults more

-- In no default has a CHOICE chosen the tag of an end.
abbrev mutual
  pub HasFreeDefaults : AsnType → Type 0
  HasFreeDefaults (leaf kind) = Unit {0}
  HasFreeDefaults (sequence fs) = FieldsHaveFreeDefaults fs
  HasFreeDefaults (extensible_sequence fs more) = FieldsHaveFreeDefaults fs × AdditionsHaveFreeDefaults more
  HasFreeDefaults (sequence_of size T) = HasFreeDefaults T
  HasFreeDefaults (choice extensible more) = AlternativesHaveFreeDefaults more

  pub FieldsHaveFreeDefaults : Fields → Type 0
  FieldsHaveFreeDefaults no_fields = Unit {0}
  FieldsHaveFreeDefaults (field name need T fs) = HasFreeDefaults T × DefaultFits need IsFree × FieldsHaveFreeDefaults fs

  pub AdditionsHaveFreeDefaults : Additions → Type 0
  AdditionsHaveFreeDefaults no_additions = Unit {0}
  AdditionsHaveFreeDefaults (addition name T more) = HasFreeDefaults T × AdditionsHaveFreeDefaults more

  pub AlternativesHaveFreeDefaults : Alternatives → Type 0
  AlternativesHaveFreeDefaults no_alternatives = Unit {0}
  AlternativesHaveFreeDefaults (alternative name t T more) = HasFreeDefaults T × AlternativesHaveFreeDefaults more
  AlternativesHaveFreeDefaults (later name t T more) = HasFreeDefaults T × AlternativesHaveFreeDefaults more
