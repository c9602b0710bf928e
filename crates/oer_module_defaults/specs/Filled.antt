-- A value of SEQUENCE as it is put together.
use Rattle.std.specs.Prelude.{List, [], ◌∷◌, ◌++◌, map, Bool, false, ◌||◌, Option, option_map, is_some, if◌then◌else◌}
use Rattle.oer_model.specs.AsnValue.{AsnValue, seq}
use Rattle.oer_values.specs.ValueView.{places_from, value_of}
use Rattle.oer_module_defaults.specs.declared.filled.Filled.{Filled as RawFilled}

-- the components of the root and the additions so far, each there or absent, and whether one of them is there
pub record Filled : Type 0 where
  pub root : List (Option AsnValue)
  pub added : List (Option AsnValue)
  pub any : Bool

unfoldable pub filled_of : RawFilled → Filled
filled_of f =
    record { root = map (option_map value_of) f.root.items; added = map (option_map value_of) f.added.items; any = f.any }

unfoldable pub empty : Filled
empty = record { root = []; added = []; any = false }

-- one more, an addition or a component of the root
unfoldable pub with_value : Bool → Option AsnValue → Filled → Filled
with_value added v f =
    if added then record { root = f.root; added = f.added ++ v ∷ []; any = f.any || is_some v }
    else record { root = f.root ++ v ∷ []; added = f.added; any = f.any || is_some v }

-- nothing in it is unknown
unfoldable pub sequence_in : Filled → AsnValue
sequence_in f = seq (places_from f.root) (places_from f.added) []
