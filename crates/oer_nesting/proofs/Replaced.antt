-- A type is itself with no end replaced, leaves have no ends, and the example.
use Rattle.std.proofs.Common.{inl, inr, zero, suc, refl}
use Rattle.oer_model.specs.AsnType.{Additions, Alternatives, AsnType, Fields, Need, addition, alternative, choice, default, extensible_sequence, field, later, leaf, may, must, no_additions, no_alternatives, no_fields, sequence, sequence_of}
use Rattle.oer_model.specs.AsnValue.{AsnValue}
use Rattle.oer_model.specs.Fits.{DefaultFits}
use Rattle.oer_nesting.specs.Deeper.{Deeper, DeeperAdditions, DeeperAlternatives, DeeperFields, HasNoEnd}
use Rattle.oer_nesting.specs.Defaults.{AdditionDefaultsHaveNoEnd, AdditionsHaveLeafDefaults, AlternativeDefaultsHaveNoEnd, AlternativesHaveLeafDefaults, DefaultsHaveNoEnd, FieldDefaultsHaveNoEnd, FieldsHaveLeafDefaults, HasLeafDefaults, IsLeaf}
use Rattle.oer_nesting.specs.Example.{NestsOnceMore, nest, unnamed}

mutual
  pub none_replaced : (T : AsnType) → Deeper T T
  none_replaced (leaf kind) = refl
  none_replaced (sequence fs) = (fs, refl, fields_none fs)
  none_replaced (extensible_sequence fs more) = (fs, more, refl, fields_none fs, additions_none more)
  none_replaced (sequence_of size T) = (T, refl, none_replaced T)
  none_replaced (choice extensible more) = inr (more, refl, alternatives_none more)

  fields_none : (fs : Fields) → DeeperFields fs fs
  fields_none no_fields = refl
  fields_none (field name need T fs) = (T, fs, refl, none_replaced T, fields_none fs)

  additions_none : (more : Additions) → DeeperAdditions more more
  additions_none no_additions = refl
  additions_none (addition name T more) = (T, more, refl, none_replaced T, additions_none more)

  alternatives_none : (more : Alternatives) → DeeperAlternatives more more
  alternatives_none no_alternatives = refl
  alternatives_none (alternative name t T more) = (T, more, refl, none_replaced T, alternatives_none more)
  alternatives_none (later name t T more) = (T, more, refl, none_replaced T, alternatives_none more)

leaf_meets_none : (T : AsnType) → IsLeaf T → (v : AsnValue) → HasNoEnd T v
leaf_meets_none (leaf kind) is v = tt
leaf_meets_none (sequence fs) is v = absurd is
leaf_meets_none (extensible_sequence fs more) is v = absurd is
leaf_meets_none (sequence_of size T) is v = absurd is
leaf_meets_none (choice extensible more) is v = absurd is

default_meets_none : (need : Need) (T : AsnType) → DefaultFits need (λ d. IsLeaf T) → DefaultFits need (HasNoEnd T)
default_meets_none must T has = tt
default_meets_none may T has = tt
default_meets_none (default d) T has = leaf_meets_none T has d

mutual
  pub leaf_defaults : (T : AsnType) → HasLeafDefaults T → DefaultsHaveNoEnd T
  leaf_defaults (leaf kind) has = tt
  leaf_defaults (sequence fs) has = field_defaults fs has
  leaf_defaults (extensible_sequence fs more) has = (field_defaults fs has.0, addition_defaults more has.1)
  leaf_defaults (sequence_of size T) has = leaf_defaults T has
  leaf_defaults (choice extensible more) has = alternative_defaults more has

  field_defaults : (fs : Fields) → FieldsHaveLeafDefaults fs → FieldDefaultsHaveNoEnd fs
  field_defaults no_fields has = tt
  field_defaults (field name need T fs) has = (leaf_defaults T has.0, default_meets_none need T has.1, field_defaults fs has.2)

  addition_defaults : (more : Additions) → AdditionsHaveLeafDefaults more → AdditionDefaultsHaveNoEnd more
  addition_defaults no_additions has = tt
  addition_defaults (addition name T more) has = (leaf_defaults T has.0, addition_defaults more has.1)

  alternative_defaults : (more : Alternatives) → AlternativesHaveLeafDefaults more → AlternativeDefaultsHaveNoEnd more
  alternative_defaults no_alternatives has = tt
  alternative_defaults (alternative name t T more) has = (leaf_defaults T has.0, alternative_defaults more has.1)
  alternative_defaults (later name t T more) has = (leaf_defaults T has.0, alternative_defaults more has.1)

pub nests_once_more : NestsOnceMore
nests_once_more zero = (inl (unnamed, refl), (tt, tt), λ n. n.0 (unnamed, refl))
nests_once_more (suc k) =
    let once = nests_once_more k in
    ((field unnamed may (nest (suc k)) no_fields, refl, (nest (suc k), no_fields, refl, once.0, refl)), ((once.1, tt), tt), λ n. once.2 n.0.0)
