-- Types without the sizes of their lists, which change no octet, so that the reader of modules leaves them out.
use Rattle.oer_model.specs.AsnType.{Additions, Alternatives, AsnType, Fields, addition, alternative, choice, extensible_sequence, field, later, leaf, no_additions, no_alternatives, no_fields, sequence, sequence_of}
use Rattle.oer_model.specs.Constraints.{any_size}

abbrev mutual
  pub unsized : AsnType → AsnType
  unsized (leaf L) = leaf L
  unsized (sequence fs) = sequence (unsized_fields fs)
  unsized (extensible_sequence fs more) = extensible_sequence (unsized_fields fs) (unsized_additions more)
  unsized (sequence_of size T) = sequence_of any_size (unsized T)
  unsized (choice extensible more) = choice extensible (unsized_alternatives more)

  pub unsized_fields : Fields → Fields
  unsized_fields no_fields = no_fields
  unsized_fields (field name need T fs) = field name need (unsized T) (unsized_fields fs)

  pub unsized_additions : Additions → Additions
  unsized_additions no_additions = no_additions
  unsized_additions (addition name T more) = addition name (unsized T) (unsized_additions more)

  pub unsized_alternatives : Alternatives → Alternatives
  unsized_alternatives no_alternatives = no_alternatives
  unsized_alternatives (alternative name t T more) = alternative name t (unsized T) (unsized_alternatives more)
  unsized_alternatives (later name t T more) = later name t (unsized T) (unsized_alternatives more)
