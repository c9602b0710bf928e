-- Names and their places.
use Rattle.std.specs.Prelude.{◌≡◌, ◌++◌, ℕ, zero, suc, Bool, true, false, List, [], ◌∷◌, Option, None, Some, IsSome, option_map, nat_eq, if◌then◌else◌, String, string_bytes}
use Rattle.std.specs.BTreeMap.{BTreeMap, Updates, btree_map_len, get, insert_entry}
use Rattle.std.specs.Str.{bytes_eq}
use Rattle.std.specs.String.{string_cmp}

-- the first place of a Name
abbrev pub place_in : List (List ℕ) → List ℕ → Option ℕ
place_in [] w = None
place_in (v ∷ vs) w = if bytes_eq v w then Some 0 else option_map suc (place_in vs w)

-- the Name with this place
abbrev pub name_at : {Y : Type 0} → ℕ → List (String Y × ℕ) → List ℕ
name_at i [] = []
name_at i (e ∷ es) = if nat_eq e.1 i then string_bytes e.0 else name_at i es

-- so many Names, from this place on
abbrev pub names_from : {Y : Type 0} → ℕ → ℕ → List (String Y × ℕ) → List (List ℕ)
names_from i zero es = []
names_from i (suc n) es = name_at i es ∷ names_from (suc i) n es

-- the Names of a map, in the order of their places
abbrev pub names_in : {Y : Type 0} → BTreeMap (String Y) ℕ → List (List ℕ)
names_in m = names_from 0 (btree_map_len m) m.entries

-- n is m with one Name more, which has the next place
pub record IsGrown {Y : Type 0} (m n : BTreeMap (String Y) ℕ) (k : String Y) : Type 0 where
  pub absent : get string_cmp m k ≡ None
  pub entries : n.entries ≡ insert_entry string_cmp m.entries k (btree_map_len m)
  pub updates : Updates string_cmp m n k (Some (btree_map_len m))
  pub len : btree_map_len n ≡ suc (btree_map_len m)

-- a new Name was put behind the others, or one that was among them was not
abbrev pub IsAdded : Bool → List (List ℕ) → List ℕ → List (List ℕ) → Type 0
IsAdded true old w now = (place_in old w ≡ None) × (now ≡ old ++ w ∷ [])
IsAdded false old w now = IsSome (place_in old w) × (now ≡ old)
