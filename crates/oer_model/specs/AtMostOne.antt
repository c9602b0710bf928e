-- That a type is well-formed has at most one proof, as the fact of a ghost field must.
use Rattle.std.specs.Prelude.{ℕ, ℤ, FitsSigned, List, [], ◌∷◌, Bool, Option, Some, None, IfSome}
use Rattle.std.specs.Int.{Width, w64, w128}
use Rattle.std.specs.Coded.{×_prop, Unit-prop}
use Rattle.std.proofs.Props.{props}
use Rattle.oer_model.specs.LeafType.{LeafType, enumerated, integer, string_size}
use Rattle.oer_model.specs.AsnType.{Additions, Alternatives, AsnType, Fields, NamedNumber, addition, alternative, choice, extensible_sequence, field, later, leaf, no_additions, no_alternatives, no_fields, sequence, sequence_of}
use Rattle.oer_units.specs.Laws.{HasTagNumber}
use Rattle.oer_model.specs.Constraints.{AdditionsKeepLimits, AlternativesKeepLimits, FieldsKeepLimits, HasSizeLimit, KeepsLimits}
use Rattle.oer_model.specs.WellFormed.{IsWellFormed}
use Rattle.oer_model.specs.Widths.{AdditionsHaveWidths, AlternativesHaveWidths, AreInOrder, AreLater, FieldsHaveWidths, HasBoundWidth, HasEndWidth, HasSizeWidths, HasWidths, HaveItemWidths, LeafHasWidths}
use Rattle.oer_model.specs.declared.size.Size.{Size}
use Rattle.oer_units.specs.declared.tagging.Tag.{Tag}

size_prop : (s : Size) → IsProp (HasSizeLimit s)
size_prop s = hlevel props

tag_prop : (t : Tag) → IsProp (HasTagNumber t)
tag_prop t = hlevel props

some_prop : {A : Type 0} (o : Option A) (P : A → Type 0) → ((x : A) → IsProp (P x)) → IsProp (IfSome o P)
some_prop None P p = Unit-prop
some_prop (Some x) P p = p x

mutual
  pub limits_prop : (T : AsnType) → IsProp (KeepsLimits T)
  limits_prop (leaf kind) = some_prop (string_size kind) HasSizeLimit size_prop
  limits_prop (sequence fs) = fields_prop fs
  limits_prop (extensible_sequence fs more) = hlevel (props, fields_prop fs, additions_prop more)
  limits_prop (sequence_of s T) = hlevel (props, limits_prop T)
  limits_prop (choice extensible more) = alternatives_prop more

  fields_prop : (fs : Fields) → IsProp (FieldsKeepLimits fs)
  fields_prop no_fields = Unit-prop
  fields_prop (field name need T fs) = ×_prop (limits_prop T) (fields_prop fs)

  additions_prop : (more : Additions) → IsProp (AdditionsKeepLimits more)
  additions_prop no_additions = Unit-prop
  additions_prop (addition name T more) = ×_prop (limits_prop T) (additions_prop more)

  alternatives_prop : (more : Alternatives) → IsProp (AlternativesKeepLimits more)
  alternatives_prop no_alternatives = Unit-prop
  alternatives_prop (alternative name t T more) = hlevel (limits_prop T, alternatives_prop more, tag_prop t)
  alternatives_prop (later name t T more) = hlevel (limits_prop T, alternatives_prop more, tag_prop t)

width_prop : (w : Width) (z : ℤ) → IsProp (FitsSigned w z)
width_prop w z = hlevel props

bound_prop : (o : Option ℤ) → IsProp (HasBoundWidth o)
bound_prop None = Unit-prop
bound_prop (Some z) = width_prop w128 z

items_prop : (is : List NamedNumber) → IsProp (HaveItemWidths is)
items_prop [] = Unit-prop
items_prop (i ∷ is) = ×_prop (width_prop w64 i.number) (items_prop is)

end_prop : (o : Option ℕ) → IsProp (HasEndWidth o)
end_prop None = Unit-prop
end_prop (Some n) = hlevel props

ends_prop : (s : Size) → IsProp (HasSizeWidths s)
ends_prop s = hlevel (props, end_prop s.high)

later_prop : (more : Alternatives) → IsProp (AreLater more)
later_prop no_alternatives = Unit-prop
later_prop (alternative name t T more) = hlevel props
later_prop (later name t T more) = later_prop more

order_prop : (marker : Bool) (more : Alternatives) → IsProp (AreInOrder marker more)
order_prop marker no_alternatives = Unit-prop
order_prop marker (alternative name t T more) = order_prop marker more
order_prop marker (later name t T more) = hlevel (props, later_prop more)

leaf_widths_prop : (kind : LeafType) → IsProp (LeafHasWidths kind)
leaf_widths_prop (integer low high) = ×_prop (bound_prop low) (bound_prop high)
leaf_widths_prop (enumerated is extensible) = items_prop is
leaf_widths_prop kind = some_prop (string_size kind) HasSizeWidths ends_prop

mutual
  pub widths_prop : (T : AsnType) → IsProp (HasWidths T)
  widths_prop (leaf kind) = leaf_widths_prop kind
  widths_prop (sequence fs) = field_widths_prop fs
  widths_prop (extensible_sequence fs more) = ×_prop (field_widths_prop fs) (addition_widths_prop more)
  widths_prop (sequence_of s T) = ×_prop (ends_prop s) (widths_prop T)
  widths_prop (choice extensible more) = ×_prop (order_prop extensible more) (alternative_widths_prop more)

  field_widths_prop : (fs : Fields) → IsProp (FieldsHaveWidths fs)
  field_widths_prop no_fields = Unit-prop
  field_widths_prop (field name need T fs) = ×_prop (widths_prop T) (field_widths_prop fs)

  addition_widths_prop : (more : Additions) → IsProp (AdditionsHaveWidths more)
  addition_widths_prop no_additions = Unit-prop
  addition_widths_prop (addition name T more) = ×_prop (widths_prop T) (addition_widths_prop more)

  alternative_widths_prop : (more : Alternatives) → IsProp (AlternativesHaveWidths more)
  alternative_widths_prop no_alternatives = Unit-prop
  alternative_widths_prop (alternative name t T more) = hlevel (tag_prop t, widths_prop T, alternative_widths_prop more)
  alternative_widths_prop (later name t T more) = hlevel (tag_prop t, widths_prop T, alternative_widths_prop more)

pub IsWellFormed-prop : (T : AsnType) → IsProp (IsWellFormed T)
IsWellFormed-prop T = hlevel (props, widths_prop T, limits_prop T)
