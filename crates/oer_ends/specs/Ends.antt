-- Ends of a type, and whether it has one.
use Rattle.std.specs.Prelude.{Bool, true, false, not, ◌&&◌, ◌||◌}
use Rattle.oer_model.specs.AsnType.{Additions, Alternatives, AsnType, Fields, addition, alternative, choice, extensible_sequence, field, later, leaf, no_additions, no_alternatives, no_fields, sequence, sequence_of}
use Rattle.oer_model.specs.Constraints.{same_tag}
use Rattle.oer_model.specs.LeafType.{LeafType}
use Rattle.oer_model.specs.LeafType as kind
use Rattle.oer_nesting.specs.Deeper.{end_tag}
use Rattle.oer_values.specs.ShapeView.{SeenAlternative}

abbrev pub is_null_kind : LeafType → Bool
is_null_kind kind.null = true
is_null_kind k = false

abbrev pub is_null : AsnType → Bool
is_null (leaf k) = is_null_kind k
is_null T = false

-- the alternative is that of an end: NULL, with the tag of an end
abbrev pub is_end_alternative : SeenAlternative → Bool
is_end_alternative a = is_null a.type && same_tag end_tag a.tag

-- there are no alternatives
abbrev pub is_last : Alternatives → Bool
is_last no_alternatives = true
is_last more = false

-- a CHOICE without extension marker that has these alternatives is an end
abbrev pub are_of_end : Alternatives → Bool
are_of_end no_alternatives = false
are_of_end (alternative name t T more) = is_last more && is_end_alternative (record { name = name; tag = t; type = T })
are_of_end (later name t T more) = false

-- the type has an end
abbrev mutual
  pub has_end : AsnType → Bool
  has_end (leaf k) = false
  has_end (sequence fs) = fields_have_end fs
  has_end (extensible_sequence fs more) = fields_have_end fs || additions_have_end more
  has_end (sequence_of size T) = has_end T
  has_end (choice extensible more) = alternatives_have_end more || (not extensible && are_of_end more)

  pub fields_have_end : Fields → Bool
  fields_have_end no_fields = false
  fields_have_end (field name need T fs) = has_end T || fields_have_end fs

  pub additions_have_end : Additions → Bool
  additions_have_end no_additions = false
  additions_have_end (addition name T more) = has_end T || additions_have_end more

  pub alternatives_have_end : Alternatives → Bool
  alternatives_have_end no_alternatives = false
  alternatives_have_end (alternative name t T more) = has_end T || alternatives_have_end more
  alternatives_have_end (later name t T more) = has_end T || alternatives_have_end more
