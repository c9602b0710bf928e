-- What is gathered of the components of a type in the notation, behind others: their types without the sizes of lists.
use Rattle.std.specs.Prelude.{Bool, Option, Some, None, if◌then◌else◌}
use Rattle.oer_model.specs.AsnType.{Additions, Alternatives, Fields, addition, alternative, field, later, may, must, no_additions, no_alternatives, no_fields}
use Rattle.oer_module_types.specs.Gathered.{Gathered, with_marker, with_part}
use Rattle.oer_same_types.specs.Unsized.{unsized}

unfoldable pub with_additions : Additions → Gathered → Gathered
with_additions no_additions h = h
with_additions (addition name T more) h = with_additions more (with_part None name may (unsized T) h)

abbrev pub with_rest : Option Additions → Gathered → Gathered
with_rest None h = h
with_rest (Some more) h = with_additions more (with_marker h)

unfoldable pub with_fields : Fields → Option Additions → Gathered → Gathered
with_fields no_fields more h = with_rest more h
with_fields (field name need T fs) more h = with_fields fs more (with_part None name need (unsized T) h)

-- alternatives behind the marker
unfoldable pub with_later : Alternatives → Gathered → Gathered
with_later no_alternatives h = h
with_later (alternative name t T more) h = with_later more (with_part (Some t) name must (unsized T) h)
with_later (later name t T more) h = with_later more (with_part (Some t) name must (unsized T) h)

-- The alternatives of a CHOICE, with a marker or not; those behind it are later ones.
unfoldable pub with_alternatives : Bool → Alternatives → Gathered → Gathered
with_alternatives marker no_alternatives h = if marker then with_marker h else h
with_alternatives marker (alternative name t T more) h = with_alternatives marker more (with_part (Some t) name must (unsized T) h)
with_alternatives marker (later name t T more) h = with_later (later name t T more) (with_marker h)
