-- What a component is written to need is what it needs.
use Rattle.std.proofs.Common.{ℕ, List, Bool, true, false, refl}
use Rattle.oer_module_defaults.specs.Defaults.{default_at}
use Rattle.oer_module_syntax.specs.Tree.{Module, Tree, Need, must, may, default}
use Rattle.oer_module_text.specs.Room.{Room}
use Rattle.oer_module_types.specs.Types.{added_at, need_at, needed_at}
use Rattle.oer_module_values.specs.Types.{type_in}
use Rattle.oer_meant_types.proofs.Holding.{Holds, once}
use Rattle.oer_meant_types.specs.Types.{IsNeed, absent, added, by_default, there}
use Rattle.oer_meant_values.specs.Laws.{DefaultsAreSound}
use Rattle.oer_meant_values.specs.Parts.{part}

module _ (defaults : DefaultsAreSound) (ms : List Module) where
  of_added : (m at : ℕ) (w : List ℕ) (t : Tree) (need : Need) (r : Room) → Holds (λ x. IsNeed ms (part m true w t need) x.0) (added_at m at need r)
  of_added m at w t must r = record { told = added refl }
  of_added m at w t may r = record { told = added refl }
  of_added m at w t (default v) r = record { told = tt }

  of_root : (m : ℕ) (w : List ℕ) (t : Tree) (need : Need) (r : Room) → Holds (λ x. IsNeed ms (part m false w t need) x.0) (needed_at ms m t need r)
  of_root m w t must r = record { told = there refl refl }
  of_root m w t may r = record { told = absent refl refl }
  of_root m w t (default v) r = once _ (default_at ms (type_in m t) m v _) _ (λ x is.
      record { told = by_default v x.0 refl refl (defaults ms (type_in m t) m v _ x.1 x.0 is) })

  pub need_is : (is_added : Bool) (m at : ℕ) (w : List ℕ) (t : Tree) (need : Need) (r : Room)
      → Holds (λ x. IsNeed ms (part m is_added w t need) x.0) (need_at ms is_added m at t need r)
  unfolding need_at
  need_is true m at w t need r = of_added m at w t need r
  need_is false m at w t need r = of_root m w t need r
