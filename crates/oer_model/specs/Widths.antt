-- The numbers in a type have the widths of those in a `Shape`, and alternatives behind the extension marker are the last.
use Rattle.std.specs.Prelude.{◌≡◌, ℕ, ◌^◌, ◌<◌, ℤ, FitsSigned, List, [], ◌∷◌, Bool, true, Option, Some, None, IfSome}
use Rattle.std.specs.Int.{w64, w128}
use Rattle.oer_model.specs.LeafType.{LeafType, enumerated, integer, string_size}
use Rattle.oer_model.specs.AsnType.{Additions, Alternatives, AsnType, Fields, NamedNumber, addition, alternative, choice, extensible_sequence, field, later, leaf, no_additions, no_alternatives, no_fields, sequence, sequence_of}
use Rattle.oer_model.specs.declared.size.Size.{Size}
use Rattle.oer_units.specs.Laws.{HasTagNumber}

-- a bound has 128 bits
abbrev pub HasBoundWidth : Option ℤ → Type 0
HasBoundWidth None = Unit {0}
HasBoundWidth (Some z) = FitsSigned w128 z

-- the numbers of items have 64 bits
abbrev pub HaveItemWidths : List NamedNumber → Type 0
HaveItemWidths [] = Unit {0}
HaveItemWidths (i ∷ is) = FitsSigned w64 i.number × HaveItemWidths is

abbrev pub HasEndWidth : Option ℕ → Type 0
HasEndWidth None = Unit {0}
HasEndWidth (Some n) = n < 2 ^ 64

-- the ends of a size have 64 bits
abbrev pub HasSizeWidths : Size → Type 0
HasSizeWidths s = (s.low < 2 ^ 64) × HasEndWidth s.high

-- all of them after the extension marker
abbrev pub AreLater : Alternatives → Type 0
AreLater no_alternatives = Unit {0}
AreLater (alternative name t T more) = ⊥
AreLater (later name t T more) = AreLater more

-- alternatives behind the marker are the last, and there are none without a marker
abbrev pub AreInOrder : Bool → Alternatives → Type 0
AreInOrder marker no_alternatives = Unit {0}
AreInOrder marker (alternative name t T more) = AreInOrder marker more
AreInOrder marker (later name t T more) = (marker ≡ true) × AreLater more

abbrev pub LeafHasWidths : LeafType → Type 0
LeafHasWidths (integer low high) = HasBoundWidth low × HasBoundWidth high
LeafHasWidths (enumerated is extensible) = HaveItemWidths is
LeafHasWidths kind = IfSome (string_size kind) HasSizeWidths

-- Bounds have 128 bits, the ends of sizes and the numbers of items 64, tag numbers 32; alternatives stand in order.
abbrev mutual
  pub HasWidths : AsnType → Type 0
  HasWidths (leaf kind) = LeafHasWidths kind
  HasWidths (sequence fs) = FieldsHaveWidths fs
  HasWidths (extensible_sequence fs more) = FieldsHaveWidths fs × AdditionsHaveWidths more
  HasWidths (sequence_of s T) = HasSizeWidths s × HasWidths T
  HasWidths (choice extensible more) = AreInOrder extensible more × AlternativesHaveWidths more

  pub FieldsHaveWidths : Fields → Type 0
  FieldsHaveWidths no_fields = Unit {0}
  FieldsHaveWidths (field name need T fs) = HasWidths T × FieldsHaveWidths fs

  pub AdditionsHaveWidths : Additions → Type 0
  AdditionsHaveWidths no_additions = Unit {0}
  AdditionsHaveWidths (addition name T more) = HasWidths T × AdditionsHaveWidths more

  pub AlternativesHaveWidths : Alternatives → Type 0
  AlternativesHaveWidths no_alternatives = Unit {0}
  AlternativesHaveWidths (alternative name t T more) = HasTagNumber t × HasWidths T × AlternativesHaveWidths more
  AlternativesHaveWidths (later name t T more) = HasTagNumber t × HasWidths T × AlternativesHaveWidths more
