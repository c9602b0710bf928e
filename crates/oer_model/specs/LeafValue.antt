-- The values that hold no other value.
use Rattle.std.specs.Prelude.{ℕ, ℤ, List, Bool}

pub data LeafValue : Type 0 where
  bool : Bool → LeafValue
  nothing : LeafValue
  int : ℤ → LeafValue
  enum : ℤ → LeafValue
  bit_list : List Bool → LeafValue
  octets : List ℕ → LeafValue
  -- a character string, in UTF-8
  text : List ℕ → LeafValue
  oid : List ℕ → LeafValue
