-- The value of a type to begin with: what must be in it, or all that may be.
use Rattle.std.specs.Prelude.{ℕ, List, [], ◌∷◌, replicate, Bool, true, false, not, ◌&&◌, ◌||◌, eqb, max, if◌then◌else◌, ℤ, pos, int_le, Option, Some, None}
use Rattle.oer_units.specs.declared.tagging.Tag.{Tag}
use Rattle.oer_model.specs.ContentType.{ContentType, object_id, octet_string, restricted_string, utf8_string}
use Rattle.oer_model.specs.Contents.{content_value}
use Rattle.oer_model.specs.LeafType.{LeafType, NamedNumber, bit_string, boolean, content, enumerated, integer, null}
use Rattle.oer_model.specs.LeafValue.{LeafValue}
use Rattle.oer_model.specs.LeafValue as kind
use Rattle.oer_model.specs.AsnType.{Additions, Alternatives, AsnType, Fields, Need, addition, alternative, choice, default, extensible_sequence, field, later, leaf, may, must, no_additions, no_alternatives, no_fields, sequence, sequence_of}
use Rattle.oer_model.specs.AsnValue.{AsnValue, Places, chosen, items, leaf_value, no_places, nothing, seq}
use Rattle.oer_model.specs.Constraints.{at_most, same_tag}
use Rattle.oer_model.specs.Fits.{listed}
use Rattle.oer_model.specs.declared.size.Size.{Size}
use Rattle.oer_nesting.specs.Deeper.{end_tag}
use Rattle.oer_values.specs.DefaultView.{place}
use Rattle.oer_skeleton.specs.declared.parts.Parts.{Parts}
use Rattle.oer_skeleton.specs.declared.parts.Parts.TheVariants.{Needed, All}

-- ---- values that hold no other

-- the lower bound where it is above 0, else 0
abbrev pub raised : Option ℤ → ℤ
raised None = pos 0
raised (Some low) = if int_le low (pos 0) then pos 0 else low

-- the upper bound where it is below z, else z
abbrev pub lowered : Option ℤ → ℤ → ℤ
lowered None z = z
lowered (Some high) z = if int_le z high then z else high

-- the number between the bounds that is nearest to 0
abbrev pub nearest : Option ℤ → Option ℤ → ℤ
nearest low high = lowered high (raised low)

-- the number of the first item
abbrev pub first_number : List NamedNumber → ℤ
first_number [] = pos 0
first_number (x ∷ xs) = x.number

-- the shortest: octets 0, characters 0, the object identifier 0.0
abbrev pub smallest_content : ContentType → List ℕ
smallest_content (octet_string size) = replicate size.low 0
smallest_content object_id = 0 ∷ 0 ∷ []
smallest_content (restricted_string letters size) = replicate size.low 48
smallest_content (utf8_string size) = replicate size.low 48

abbrev pub smallest_leaf : LeafType → LeafValue
smallest_leaf boolean = kind.bool false
smallest_leaf null = kind.nothing
smallest_leaf (integer low high) = kind.int (nearest low high)
smallest_leaf (enumerated xs extensible) = kind.enum (first_number xs)
smallest_leaf (bit_string size) = kind.bit_list (replicate size.low false)
smallest_leaf (content inner) = content_value inner (smallest_content inner)

-- ---- which types have a value without the end of a nesting

-- a component that must be there has one
abbrev pub may_be_left_out : Need → Bool → Bool
may_be_left_out must b = b
may_be_left_out may b = true
may_be_left_out (default d) b = true

-- It has a value without an end that keeps to the root's alternatives.
abbrev mutual
  pub is_legal : AsnType → Bool
  is_legal (leaf kind) = true
  is_legal (sequence fs) = are_legal fs
  is_legal (extensible_sequence fs more) = are_legal fs
  is_legal (sequence_of size T) = eqb size.low 0 || is_legal T
  is_legal (choice extensible more) = any_legal more

  pub are_legal : Fields → Bool
  are_legal no_fields = true
  are_legal (field name need T fs) = may_be_left_out need (is_legal T) && are_legal fs

  pub any_legal : Alternatives → Bool
  any_legal no_alternatives = false
  any_legal (alternative name t T more) = (not (same_tag t end_tag) && is_legal T) || any_legal more
  any_legal (later name t T more) = false

-- ---- values that hold others

-- how many elements: as few as may be; of all parts one at least, where it may be there and needs no end
abbrev pub elements : Parts → Bool → Size → ℕ
elements Needed legal size = size.low
elements All legal size = if legal && at_most size.high 1 then max size.low 1 else size.low

-- a component that may be absent, by the value that it would have
abbrev pub optional_part : Parts → Bool → AsnValue → Option AsnValue
optional_part Needed legal v = None
optional_part All true v = Some v
optional_part All false v = None

abbrev pub default_part : Parts → AsnValue → Option AsnValue
default_part Needed d = None
default_part All d = Some d

abbrev pub part : Parts → Need → Bool → AsnValue → Option AsnValue
part parts must legal v = Some v
part parts may legal v = optional_part parts legal v
part parts (default d) legal v = default_part parts d

-- an alternative is taken: the first that needs no end, or the first where each does
abbrev pub is_taken : Bool → Tag → Bool → Bool
is_taken any t legal = not any || (not (same_tag t end_tag) && legal)

-- The value of the type to begin with.
abbrev mutual
  pub skeleton : Parts → AsnType → AsnValue
  skeleton parts (leaf kind) = leaf_value (smallest_leaf kind)
  skeleton parts (sequence fs) = seq (skeleton_fields parts fs) no_places []
  skeleton parts (extensible_sequence fs more) = seq (skeleton_fields parts fs) (skeleton_additions parts more) []
  skeleton parts (sequence_of size T) = items (listed (replicate (elements parts (is_legal T) size) (skeleton parts T)))
  skeleton parts (choice extensible more) = skeleton_chosen parts (any_legal more) more

  pub skeleton_fields : Parts → Fields → Places
  skeleton_fields parts no_fields = no_places
  skeleton_fields parts (field name need T fs) = place (part parts need (is_legal T) (skeleton parts T)) (skeleton_fields parts fs)

  pub skeleton_additions : Parts → Additions → Places
  skeleton_additions parts no_additions = no_places
  skeleton_additions parts (addition name T more) = place (optional_part parts (is_legal T) (skeleton parts T)) (skeleton_additions parts more)

  -- of the first alternative that is taken; there is one in each type that is well-formed
  pub skeleton_chosen : Parts → Bool → Alternatives → AsnValue
  skeleton_chosen parts any no_alternatives = nothing
  skeleton_chosen parts any (alternative name t T more) =
      if is_taken any t (is_legal T) then chosen t (skeleton parts T) else skeleton_chosen parts any more
  skeleton_chosen parts any (later name t T more) = nothing
