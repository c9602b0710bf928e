-- The parts to which steps lead, as a type says.
use Rattle.std.specs.Prelude.{ℕ, zero, suc, List, [], Option, Some, None, if◌then◌else◌}
use Rattle.std.specs.Fmt.{decimal}
use Rattle.oer_units.specs.declared.tagging.Tag.{Tag}
use Rattle.oer_model.specs.AsnType.{Additions, Alternatives, AsnType, Fields, Need, addition, alternative, choice, default, extensible_sequence, field, later, may, must, no_additions, no_alternatives, no_fields, sequence, sequence_of}
use Rattle.oer_model.specs.AsnValue.{AsnValue}
use Rattle.oer_model.specs.Constraints.{same_tag}
use Rattle.oer_model.specs.Parts.{Step, to_addition, to_component, to_item}
use Rattle.oer_json.specs.Keys.{place_key, tag_key}

-- what a part is called, its type, if that is known, and the value of its DEFAULT, if it has one
pub record Known : Type 0 where
  pub name : List ℕ
  pub type : Option AsnType
  pub default_value : Option AsnValue

-- a part of a type without a DEFAULT
abbrev pub plainly : List ℕ → AsnType → Known
plainly name T = record { name = name; type = Some T; default_value = None }

-- a part that the type doesn't know
abbrev pub unknown : List ℕ → Known
unknown name = record { name = name; type = None; default_value = None }

abbrev pub default_in : Need → Option AsnValue
default_in must = None
default_in may = None
default_in (default v) = Some v

-- the component with the number i; without a name where there is none
abbrev pub component_at : ℕ → Fields → Known
component_at i no_fields = unknown []
component_at zero (field name need T fs) = record { name = name; type = Some T; default_value = default_in need }
component_at (suc i) (field name need T fs) = component_at i fs

-- the addition with the number i, which is the number k of these
abbrev pub addition_at : ℕ → ℕ → Additions → Known
addition_at i k no_additions = unknown (place_key i)
addition_at i zero (addition name T more) = plainly name T
addition_at i (suc k) (addition name T more) = addition_at i k more

-- the first alternative with the tag
abbrev pub alternative_at : Tag → Alternatives → Known
alternative_at t no_alternatives = unknown (tag_key t)
alternative_at t (alternative name u T more) = if same_tag u t then plainly name T else alternative_at t more
alternative_at t (later name u T more) = if same_tag u t then plainly name T else alternative_at t more

-- the alternative with the tag, if one was read
abbrev pub chosen_by : Option Tag → Alternatives → Known
chosen_by None more = unknown []
chosen_by (Some t) more = alternative_at t more

-- the part to which the step leads from a value of the type, of a CHOICE the alternative with the tag; without a name where
-- the type has no such step
abbrev pub part_of : AsnType → Option Tag → Step → Known
part_of (sequence fs) t (to_component i) = component_at i fs
part_of (extensible_sequence fs more) t (to_component i) = component_at i fs
part_of (extensible_sequence fs more) t (to_addition i) = addition_at i i more
part_of (sequence_of size T) t (to_item i) = plainly (decimal i) T
part_of (choice extensible more) t step = chosen_by t more
part_of _ t step = unknown []

-- the same where the type may be unknown
abbrev pub part_in : Option AsnType → Option Tag → Step → Known
part_in None t step = unknown []
part_in (Some T) t step = part_of T t step
