-- A type that contains itself is written out so many times, one in the other; where it would stand once more is an end.
-- Here: the same type with some of its ends replaced, as where it is written out more often, and values that meet no end.
use Rattle.std.specs.Prelude.{◌≡◌, ◌⊎◌, ℕ, List, false}
use Rattle.oer_units.specs.declared.tagging.Class.TheVariants.{Private}
use Rattle.oer_units.specs.declared.tagging.Tag.{Tag}
use Rattle.oer_model.specs.AsnType.{Additions, Alternatives, AsnType, Fields, addition, alternative, choice, extensible_sequence, field, later, leaf, no_additions, no_alternatives, no_fields, null, sequence, sequence_of}
use Rattle.oer_model.specs.AsnValue.{AsnValue, Places, Values, absent, chosen, items, no_places, no_values, present, seq, value}
use Rattle.oer_model.specs.Constraints.{same_tag}
use Rattle.oer_model.specs.Fits.{FitsByTag}

-- the tag of an end
abbrev pub end_tag : Tag
end_tag = record { class = Private; number = 4294967295 }

-- an end: CHOICE {too-deep [PRIVATE 4294967295] NULL}, whatever its alternative is called
abbrev pub IsEnd : AsnType → Type 0
IsEnd T = (name : List ℕ) × (T ≡ choice false (alternative name end_tag null no_alternatives))

-- U is T with some of its ends replaced, each by any type. Else they are the same: names, needs, defaults, tags, sizes and bounds.
abbrev mutual
  pub Deeper : AsnType → AsnType → Type 0
  Deeper (leaf kind) U = U ≡ leaf kind
  Deeper (sequence fs) U = (gs : Fields) × (U ≡ sequence gs) × DeeperFields fs gs
  Deeper (extensible_sequence fs more) U = (gs : Fields) × (others : Additions) × (U ≡ extensible_sequence gs others)
      × DeeperFields fs gs × DeeperAdditions more others
  Deeper (sequence_of size T) U = (X : AsnType) × (U ≡ sequence_of size X) × Deeper T X
  Deeper (choice extensible more) U = IsEnd (choice extensible more)
      ⊎ ((others : Alternatives) × (U ≡ choice extensible others) × DeeperAlternatives more others)

  pub DeeperFields : Fields → Fields → Type 0
  DeeperFields no_fields gs = gs ≡ no_fields
  DeeperFields (field name need T fs) gs = (X : AsnType) × (rest : Fields) × (gs ≡ field name need X rest)
      × Deeper T X × DeeperFields fs rest

  pub DeeperAdditions : Additions → Additions → Type 0
  DeeperAdditions no_additions others = others ≡ no_additions
  DeeperAdditions (addition name T more) others = (X : AsnType) × (rest : Additions) × (others ≡ addition name X rest)
      × Deeper T X × DeeperAdditions more rest

  pub DeeperAlternatives : Alternatives → Alternatives → Type 0
  DeeperAlternatives no_alternatives others = others ≡ no_alternatives
  DeeperAlternatives (alternative name t T more) others = (X : AsnType) × (rest : Alternatives) × (others ≡ alternative name t X rest)
      × Deeper T X × DeeperAlternatives more rest
  DeeperAlternatives (later name t T more) others = (X : AsnType) × (rest : Alternatives) × (others ≡ later name t X rest)
      × Deeper T X × DeeperAlternatives more rest

-- of a value of SEQUENCE: P holds of the root's components, and Q of the known additions
abbrev pub OfSequence : (Places → Type 0) → (Places → Type 0) → AsnValue → Type 0
OfSequence P Q (seq root added us) = P root × Q added
OfSequence P Q v = Unit {0}

-- P holds of the first component, if it is there, and Q of the others
abbrev pub OfPlaces : (AsnValue → Type 0) → (Places → Type 0) → Places → Type 0
OfPlaces P Q no_places = Unit {0}
OfPlaces P Q (absent ps) = Q ps
OfPlaces P Q (present v ps) = P v × Q ps

-- P holds of each value
abbrev pub OfValues : (AsnValue → Type 0) → Values → Type 0
OfValues P no_values = Unit {0}
OfValues P (value v vs) = P v × OfValues P vs

-- of a value of SEQUENCE OF: P holds of each element
abbrev pub OfItems : (AsnValue → Type 0) → AsnValue → Type 0
OfItems P (items vs) = OfValues P vs
OfItems P v = Unit {0}

-- of a value of CHOICE: P holds of the tag and the value, if the alternative is known
abbrev pub OfChosen : (Tag → AsnValue → Type 0) → AsnValue → Type 0
OfChosen P (chosen t v) = P t v
OfChosen P v = Unit {0}

-- No part of the value v of T stands where T has an end.
abbrev mutual
  pub HasNoEnd : AsnType → AsnValue → Type 0
  HasNoEnd (leaf kind) v = Unit {0}
  HasNoEnd (sequence fs) v = OfSequence (FieldsHaveNoEnd fs) (λ added. Unit {0}) v
  HasNoEnd (extensible_sequence fs more) v = OfSequence (FieldsHaveNoEnd fs) (AdditionsHaveNoEnd more) v
  HasNoEnd (sequence_of size T) v = OfItems (HasNoEnd T) v
  HasNoEnd (choice extensible more) v = (IsEnd (choice extensible more) → ⊥) × OfChosen (AlternativeHasNoEnd more) v

  pub FieldsHaveNoEnd : Fields → Places → Type 0
  FieldsHaveNoEnd no_fields ps = Unit {0}
  FieldsHaveNoEnd (field name need T fs) ps = OfPlaces (HasNoEnd T) (FieldsHaveNoEnd fs) ps

  pub AdditionsHaveNoEnd : Additions → Places → Type 0
  AdditionsHaveNoEnd no_additions ps = Unit {0}
  AdditionsHaveNoEnd (addition name T more) ps = OfPlaces (HasNoEnd T) (AdditionsHaveNoEnd more) ps

  pub AlternativeHasNoEnd : Alternatives → Tag → AsnValue → Type 0
  AlternativeHasNoEnd no_alternatives t v = Unit {0}
  AlternativeHasNoEnd (alternative name u T more) t v = FitsByTag (same_tag u t) (HasNoEnd T) (AlternativeHasNoEnd more t) v
  AlternativeHasNoEnd (later name u T more) t v = FitsByTag (same_tag u t) (HasNoEnd T) (AlternativeHasNoEnd more t) v
