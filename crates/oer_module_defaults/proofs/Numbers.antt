-- The search for an item of an ENUMERATED by its name.
use Rattle.std.proofs.Common.{◌≡◌, ℕ, zero, suc, ◌≤◌, ◌<◌, List, [], ◌∷◌, length, drop, get_or, drop-cons, map, Some, None}
use Rattle.std.proofs.Common.{true, false, refl, arith}
use Rattle.std.specs.Str.{bytes_eq}
use Rattle.oer_module_leaves.specs.Numbered.{item_of}
use Rattle.oer_module_leaves.specs.declared.numbered.NumberedItem.{NumberedItem as RawItem}
use Rattle.oer_module_defaults.specs.Items.{number_named}

module _ (w : List ℕ) where
  pub number_here : (xs : List RawItem) (i : ℕ) (x : RawItem) → i < length xs → bytes_eq (item_of (get_or xs i x)).name w ≡ true
      → number_named w (map item_of (drop i xs)) ≡ Some (get_or xs i x).number
  number_here xs i x less h = rw (drop-cons xs i x less, h) refl

  pub number_later : (xs : List RawItem) (i : ℕ) (x : RawItem) → i < length xs → bytes_eq (item_of (get_or xs i x)).name w ≡ false
      → number_named w (map item_of (drop i xs)) ≡ number_named w (map item_of (drop (suc i) xs))
  number_later xs i x less h = rw (drop-cons xs i x less, h) refl

  pub number_over : (xs : List RawItem) (i : ℕ) → length xs ≤ i → number_named w (map item_of (drop i xs)) ≡ None
  number_over [] zero h = refl
  number_over [] (suc i) h = refl
  number_over (x ∷ xs) zero h = absurd (omega arith)
  number_over (x ∷ xs) (suc i) h = number_over xs i (omega arith)
