-- What a value is. A vector's spare room is no part of it.
use Rattle.std.specs.Prelude.{ℕ, ℤ, List, Bool}
use Rattle.oer_units.specs.declared.tagging.Tag.{Tag}
use Rattle.oer_model.specs.LeafValue.{LeafValue}
use Rattle.oer_model.specs.LeafValue as kind

-- an addition that the type doesn't know: its place, counted over all additions, and the octets of its open type
pub data Unknown : Type 0 where
  unknown : ℕ → List ℕ → Unknown

mutual
  pub data AsnValue : Type 0 where
    leaf_value : LeafValue → AsnValue
    -- the root's components, the known additions, the unknown ones
    seq : Places → Places → List Unknown → AsnValue
    items : Values → AsnValue
    chosen : Tag → AsnValue → AsnValue
    -- an alternative that the type doesn't know, and the octets of its open type
    foreign : Tag → List ℕ → AsnValue

  pub data Values : Type 0 where
    no_values : Values
    value : AsnValue → Values → Values

  -- the components of a SEQUENCE, each there or absent
  pub data Places : Type 0 where
    no_places : Places
    absent : Places → Places
    present : AsnValue → Places → Places

-- The values that hold no other, by their kinds.
pattern abbrev pub bool : Bool → AsnValue
bool x = leaf_value (kind.bool x)

pattern abbrev pub nothing : AsnValue
nothing = leaf_value kind.nothing

pattern abbrev pub int : ℤ → AsnValue
int z = leaf_value (kind.int z)

pattern abbrev pub enum : ℤ → AsnValue
enum z = leaf_value (kind.enum z)

pattern abbrev pub bit_list : List Bool → AsnValue
bit_list s = leaf_value (kind.bit_list s)

pattern abbrev pub octets : List ℕ → AsnValue
octets w = leaf_value (kind.octets w)

pattern abbrev pub text : List ℕ → AsnValue
text w = leaf_value (kind.text w)

pattern abbrev pub oid : List ℕ → AsnValue
oid arcs = leaf_value (kind.oid arcs)
