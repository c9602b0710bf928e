-- A type with an extension marker in each of its ends.
use Rattle.std.specs.Prelude.{◌≡◌, Bool, true, false, [], ◌||◌, Option, Some, None, Vec, ⊤}
use Rattle.std.specs.declared.alloc.Global.{Global}
use Rattle.oer_model.specs.AsnType.{Additions, Alternatives, AsnType, Fields, addition, alternative, choice, extensible_sequence, field, later, leaf, no_additions, no_alternatives, no_fields, sequence, sequence_of}
use Rattle.oer_values.specs.ShapeView.{SeenAddition, SeenAlternative, SeenField}
use Rattle.oer_values.specs.declared.shape.Alt.{Alt}
use Rattle.oer_ends.specs.Ends.{are_of_end}

abbrev mutual
  pub opened : AsnType → AsnType
  opened (leaf k) = leaf k
  opened (sequence fs) = sequence (opened_fields fs)
  opened (extensible_sequence fs more) = extensible_sequence (opened_fields fs) (opened_additions more)
  opened (sequence_of size T) = sequence_of size (opened T)
  opened (choice extensible more) = choice (extensible || are_of_end more) (opened_alternatives more)

  pub opened_fields : Fields → Fields
  opened_fields no_fields = no_fields
  opened_fields (field name need T fs) = field name need (opened T) (opened_fields fs)

  pub opened_additions : Additions → Additions
  opened_additions no_additions = no_additions
  opened_additions (addition name T more) = addition name (opened T) (opened_additions more)

  pub opened_alternatives : Alternatives → Alternatives
  opened_alternatives no_alternatives = no_alternatives
  opened_alternatives (alternative name t T more) = alternative name t (opened T) (opened_alternatives more)
  opened_alternatives (later name t T more) = later name t (opened T) (opened_alternatives more)

-- of the parts of a SEQUENCE or CHOICE, as they are seen
abbrev pub opened_field : SeenField → SeenField
opened_field f = record f { type = opened f.type }

abbrev pub opened_addition : SeenAddition → SeenAddition
opened_addition a = record a { type = opened a.type }

abbrev pub opened_alternative : SeenAlternative → SeenAlternative
opened_alternative a = record a { type = opened a.type }

-- what stands behind the marker of a CHOICE that gets one, if it is an end: nothing
abbrev pub IsMarker : Bool → Option (Vec Alt Global) → Type 0
IsMarker true (Some behind) = behind.items ≡ []
IsMarker false None = ⊤
IsMarker ends additions = ⊥
