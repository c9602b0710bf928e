-- The canonical octets of the parts of values.
use Rattle.std.specs.Prelude.{ℕ, List, [], ◌∷◌, ◌++◌, Bool, true, not, Option, Some, None, is_some, if◌then◌else◌}
use Rattle.oer_model.specs.AsnType.{Additions, Alternatives, AsnType, Fields, Need, choice, default, extensible_sequence, may, must, sequence, sequence_of}
use Rattle.oer_model.specs.AsnValue.{AsnValue, Places, Unknown, Values, foreign}
use Rattle.oer_model.specs.Canonical.{addition_bits, all_octets, bitmap_octets, canonical_octets, plain_addition_octets, plain_alternative_octets, plain_field_octets, plain_octets, root_bits, same, trimmed, trimmed_additions, trimmed_alternative, trimmed_fields, unknown_marks, unknown_octets}
use Rattle.oer_units.specs.Least.{counted, tag_octets}
use Rattle.oer_model.specs.Bits.{padded}
use Rattle.oer_model.specs.Constraints.{addition_count}
use Rattle.oer_model.specs.Filling.{filled, map_values}
use Rattle.oer_units.specs.declared.tagging.Tag.{Tag}

-- a component that is there is written: it isn't equal to its default, after both are filled
abbrev pub is_kept : Need → AsnType → AsnValue → Bool
is_kept must T v = true
is_kept may T v = true
is_kept (default d) T v = not (same (filled T v) (filled T d))

-- the presence bits of a root's components
abbrev pub field_bits : Fields → Places → List Bool
field_bits fs ps = root_bits fs (trimmed_fields fs ps)

-- the octets of a root's components
abbrev pub field_octets : Fields → Places → List ℕ
field_octets fs ps = plain_field_octets fs (trimmed_fields fs ps)

-- the bits and the octets of the known additions
abbrev pub known_bits : Additions → Places → List Bool
known_bits more ps = addition_bits more (trimmed_additions more ps)

abbrev pub known_octets : Additions → Places → List ℕ
known_octets more ps = plain_addition_octets more (trimmed_additions more ps)

-- the octets of the alternative with the tag
abbrev pub chosen_octets : Alternatives → Tag → AsnValue → List ℕ
chosen_octets more t v = plain_alternative_octets more t (trimmed_alternative more t v)

-- a bit before others, if there is one
abbrev pub first_bits : Option Bool → List Bool
first_bits None = []
first_bits (Some x) = x ∷ []

-- the component that is written, if it is there
abbrev pub kept_place : Need → AsnType → Option AsnValue → Option AsnValue
kept_place need T None = None
kept_place need T (Some v) = if is_kept need T v then Some v else None

-- its presence bit, where it may be absent
abbrev pub place_bit : Need → Option AsnValue → List Bool
place_bit must p = []
place_bit may p = is_some p ∷ []
place_bit (default d) p = is_some p ∷ []

-- its octets
abbrev pub place_octets_of : AsnType → Option AsnValue → List ℕ
place_octets_of T None = []
place_octets_of T (Some v) = canonical_octets T v

-- those of an addition, with their length
abbrev pub counted_place : AsnType → Option AsnValue → List ℕ
counted_place T None = []
counted_place T (Some v) = counted (canonical_octets T v)

-- an alternative that the type doesn't know
abbrev pub foreign_octets : AsnValue → List ℕ
foreign_octets (foreign t w) = tag_octets t ++ counted w
foreign_octets _ = []

-- the octets of a value that holds no other; none for others
abbrev pub leaf_octets : AsnType → AsnValue → List ℕ
leaf_octets (sequence fs) v = []
leaf_octets (extensible_sequence fs more) v = []
leaf_octets (sequence_of size T) v = []
leaf_octets (choice extensible more) v = foreign_octets v
leaf_octets T v = plain_octets T v

-- those of the elements
abbrev pub values_octets : AsnType → Values → List ℕ
values_octets T vs = all_octets (plain_octets T) (map_values (trimmed T) vs)

-- those after the root, where an addition is there: the bitmap, the known additions, the unknown ones
abbrev pub addition_octets : Additions → Places → List Unknown → List ℕ
addition_octets more added us =
    bitmap_octets (known_bits more added ++ unknown_marks (addition_count more) us) ++ (known_octets more added ++ unknown_octets us)

-- the preamble and the components of a root
abbrev pub root_octets : Option Bool → Fields → Places → List ℕ
root_octets first fs ps = padded (first_bits first ++ field_bits fs ps) ++ field_octets fs ps
