-- A type only adds to another, after extension markers: the two are the same but for further additions at the end of a
-- SEQUENCE that has a marker, further alternatives at the end of such a CHOICE, and further items at the end of such an ENUMERATED.
use Rattle.std.specs.Prelude.{◌≡◌, List, ◌++◌, Bool, true, false}
use Rattle.oer_model.specs.LeafType.{LeafType, NamedNumber, enumerated}
use Rattle.oer_model.specs.AsnType.{Additions, Alternatives, AsnType, Fields, addition, alternative, choice, extensible_sequence, field, later, leaf, no_additions, no_alternatives, no_fields, sequence, sequence_of}
use Rattle.oer_model.specs.Widths.{AreLater}

-- further items, where there is a marker
abbrev pub ExtendsLeaf : LeafType → LeafType → Type 0
ExtendsLeaf (enumerated xs true) other = (further : List NamedNumber) × (other ≡ enumerated (xs ++ further) true)
ExtendsLeaf kind other = other ≡ kind

-- alternatives behind the last one, where there is a marker
abbrev pub AreFurther : Bool → Alternatives → Type 0
AreFurther true others = AreLater others
AreFurther false others = others ≡ no_alternatives

-- U only adds to T. Else they are the same: names, OPTIONAL, defaults, tags, sizes, bounds and markers.
abbrev mutual
  pub Extends : AsnType → AsnType → Type 0
  Extends (leaf kind) U = (other : LeafType) × (U ≡ leaf other) × ExtendsLeaf kind other
  Extends (sequence fs) U = (gs : Fields) × (U ≡ sequence gs) × FieldsExtend fs gs
  Extends (extensible_sequence fs more) U = (gs : Fields) × (others : Additions) × (U ≡ extensible_sequence gs others)
      × FieldsExtend fs gs × AdditionsExtend more others
  Extends (sequence_of size T) U = (X : AsnType) × (U ≡ sequence_of size X) × Extends T X
  Extends (choice marker more) U = (others : Alternatives) × (U ≡ choice marker others) × AlternativesExtend marker more others

  pub FieldsExtend : Fields → Fields → Type 0
  FieldsExtend no_fields gs = gs ≡ no_fields
  FieldsExtend (field name need T fs) gs = (X : AsnType) × (rest : Fields) × (gs ≡ field name need X rest) × Extends T X × FieldsExtend fs rest

  -- further ones may follow
  pub AdditionsExtend : Additions → Additions → Type 0
  AdditionsExtend no_additions others = Unit {0}
  AdditionsExtend (addition name T more) others = (X : AsnType) × (rest : Additions) × (others ≡ addition name X rest)
      × Extends T X × AdditionsExtend more rest

  pub AlternativesExtend : Bool → Alternatives → Alternatives → Type 0
  AlternativesExtend marker no_alternatives others = AreFurther marker others
  AlternativesExtend marker (alternative name t T more) others = (X : AsnType) × (rest : Alternatives)
      × (others ≡ alternative name t X rest) × Extends T X × AlternativesExtend marker more rest
  AlternativesExtend marker (later name t T more) others = (X : AsnType) × (rest : Alternatives)
      × (others ≡ later name t X rest) × Extends T X × AlternativesExtend marker more rest
