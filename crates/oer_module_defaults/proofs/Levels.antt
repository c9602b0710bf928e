-- A value in which so many levels of values may nest, a level on.
use Rattle.std.proofs.Common.{◌≡◌, ℕ, suc, List, refl}
use Rattle.oer_module_names.specs.declared.error.Place.{Place}
use Rattle.oer_module_syntax.specs.Tree.{Module}
use Rattle.oer_module_terms.specs.Trees.{Value}
use Rattle.oer_module_text.specs.Room.{Room}
use Rattle.oer_module_values.specs.Types.{TypeIn}
use Rattle.oer_module_defaults.specs.Defaults.{governed_at, value_at}
use Rattle.oer_module_defaults.specs.Values.{value_place}

module _ (ms : List Module) where
  value_step : (k : ℕ) (t : TypeIn) (m : ℕ) (v : Value) (r : Room) → value_at ms (suc k) t m v r ≡ governed_at (value_at ms k) ms t (value_place m v) v r
  unfolding value_at
  value_step k t m v r = refl

  pub value_once : (levels k : ℕ) (t : TypeIn) (m : ℕ) (p : Place) (v : Value) (r : Room) → levels ≡ suc k → p ≡ value_place m v
      → value_at ms levels t m v r ≡ governed_at (value_at ms k) ms t p v r
  value_once levels k t m p v r l q = rw (l, q) (value_step k t m v r)
