-- The code's types, as the definitions see them.
use Rattle.std.specs.Prelude.{List, [], ◌∷◌, map, Bool, if◌then◌else◌, Option, None, string_bytes}
use Rattle.oer_values.specs.ShapeView.{need_of, type_of}
use Rattle.oer_values.specs.declared.shape.Addition as code_addition
use Rattle.oer_values.specs.declared.shape.Alt.{Alt}
use Rattle.oer_values.specs.declared.shape.Field as code_field
use Rattle.oer_compare.specs.Difference.{Difference, Part, alternative_differs, at, at_addition, at_alternative, at_component, at_element, component_differs, differ, inside, named_differs, or_else}
use Rattle.oer_compare.specs.declared.difference.Aspect.TheVariants.{Extra, Missing}
use Rattle.oer_compare.specs.declared.difference.Difference as code_difference
use Rattle.oer_compare.specs.declared.difference.Part as code_part
use Rattle.oer_compare.specs.declared.difference.Part.TheVariants as raw

abbrev pub part_of : code_part.Part → Part
part_of (raw.Component index name) = at_component index name.now
part_of (raw.Addition index name) = at_addition index name.now
part_of raw.Element = at_element
part_of (raw.Alternative name) = at_alternative name.now

abbrev pub seen : code_difference.Difference → Difference
seen d = (map part_of d.path.items, d.aspect)

abbrev pub fields_differ_at : code_field.Field → code_field.Field → Option Difference
fields_differ_at x y =
    component_differs (string_bytes x.name) (string_bytes y.name) (need_of x.need) (need_of y.need) (differ (type_of x.shape) (type_of y.shape))

abbrev pub additions_differ_at : code_addition.Addition → code_addition.Addition → Option Difference
additions_differ_at x y = named_differs (string_bytes x.name) (string_bytes y.name) (differ (type_of x.shape) (type_of y.shape))

abbrev pub alts_differ_at : Alt → Alt → Option Difference
alts_differ_at x y =
    alternative_differs (string_bytes x.name) (string_bytes y.name) x.tag y.tag (differ (type_of x.shape) (type_of y.shape))

-- grows: further alternatives may follow
abbrev pub alts_differ : Bool → List Alt → List Alt → Option Difference
alts_differ grows [] [] = None
alts_differ grows [] (y ∷ ys) = if grows then None else at (at_alternative (string_bytes y.name)) Extra
alts_differ grows (x ∷ xs) [] = at (at_alternative (string_bytes x.name)) Missing
alts_differ grows (x ∷ xs) (y ∷ ys) = or_else (inside (at_alternative (string_bytes x.name)) (alts_differ_at x y)) (alts_differ grows xs ys)
