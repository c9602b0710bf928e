-- The search for an item by its name.
use Rattle.std.proofs.Common.{◌≡◌, ℕ, zero, suc, ◌≤◌, ◌<◌, List, [], ◌∷◌, ◌++◌, length, drop, get_or, drop-cons, map, Some, None, Bool}
use Rattle.std.proofs.Common.{true, false, cond, refl, arith}
use Rattle.std.specs.Str.{bytes_eq}
use Rattle.oer_module_terms.specs.Trees.{Item, item_of}
use Rattle.oer_module_terms.specs.declared.tree.Item.{Item as RawItem}
use Rattle.oer_module_values.specs.Numbers.{item_named}

module _ (w : List ℕ) where
  pub item_here : (xs : List RawItem) (i : ℕ) (x : RawItem) → i < length xs → bytes_eq (item_of (get_or xs i x)).name w ≡ true
      → item_named w (map item_of (drop i xs)) ≡ Some (item_of (get_or xs i x))
  item_here xs i x less h = rw (drop-cons xs i x less, h) refl

  pub item_later : (xs : List RawItem) (i : ℕ) (x : RawItem) → i < length xs → bytes_eq (item_of (get_or xs i x)).name w ≡ false
      → item_named w (map item_of (drop i xs)) ≡ item_named w (map item_of (drop (suc i) xs))
  item_later xs i x less h = rw (drop-cons xs i x less, h) refl

  pub item_over : (xs : List RawItem) (i : ℕ) → length xs ≤ i → item_named w (map item_of (drop i xs)) ≡ None
  item_over [] zero h = refl
  item_over [] (suc i) h = refl
  item_over (x ∷ xs) zero h = absurd (omega arith)
  item_over (x ∷ xs) (suc i) h = item_over xs i (omega arith)

  first_by : (x : Item) (xs ys : List Item) (i : Item) (b : Bool) → (item_named w xs ≡ Some i → item_named w (xs ++ ys) ≡ Some i)
      → cond b (Some x) (item_named w xs) ≡ Some i → cond b (Some x) (item_named w (xs ++ ys)) ≡ Some i
  first_by x xs ys i true on h = h
  first_by x xs ys i false on h = on h

  -- the first of two lists, or of the second where none is in the first
  pub item_first : (xs ys : List Item) (i : Item) → item_named w xs ≡ Some i → item_named w (xs ++ ys) ≡ Some i
  item_first [] ys i h = absurd (cc)
  item_first (x ∷ xs) ys i h = first_by x xs ys i (bytes_eq x.name w) (item_first xs ys i) h

  second_by : (x : Item) (xs ys : List Item) (b : Bool) → (item_named w xs ≡ None → item_named w (xs ++ ys) ≡ item_named w ys)
      → cond b (Some x) (item_named w xs) ≡ None → cond b (Some x) (item_named w (xs ++ ys)) ≡ item_named w ys
  second_by x xs ys true on h = absurd (cc)
  second_by x xs ys false on h = on h

  pub item_second : (xs ys : List Item) → item_named w xs ≡ None → item_named w (xs ++ ys) ≡ item_named w ys
  item_second [] ys h = refl
  item_second (x ∷ xs) ys h = second_by x xs ys (bytes_eq x.name w) (item_second xs ys) h
