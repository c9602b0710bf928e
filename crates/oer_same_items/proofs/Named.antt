-- The numbers that the reader of modules finds for items, and their names.
use Rattle.std.proofs.Common.{◌≡◌, ℕ, suc, List, [], ◌∷◌, ◌++◌, map, Bool, true, false, Option, Some, Result, Ok, Err, ℤ, pos, refl, sym, ap, subst, ◌∙◌}
use Rattle.oer_model.specs.AsnType.{NamedNumber}
use Rattle.oer_module_leaves.specs.Numbered.{with_numbers}
use Rattle.oer_module_names.specs.declared.error.Place.{Place}
use Rattle.oer_module_syntax.specs.Tree.{Module}
use Rattle.oer_module_terms.specs.Trees.{Amount, number, Item}
use Rattle.oer_module_values.specs.Digits.{whole_of}
use Rattle.oer_module_values.specs.Errors.{Error, place_in, ◌>>=◌}
use Rattle.oer_module_values.specs.Numbers.{bare, count, fitting, given_by, given_number, given_numbers, integer_at, numeral, step, whole}
use Rattle.oer_same_items.specs.Laws.{as_named}
use Rattle.oer_same_items.proofs.Counted.{AreGiven, IsGiven, by_place, its_own, no_more, one_more}
use Rattle.oer_same_items.proofs.Taken.{SayItems, SaysNumber, say_item, say_none, says_none, says_own}
use Rattle.oer_same_items.proofs.Whole.{fitting_once}

bind_ok : {A B : Type 0} (r : Result A Error) (f : A → Result B Error) (b : B) → (r >>= f) ≡ Ok b → (a : A) × (r ≡ Ok a) × (f a ≡ Ok b)
bind_ok (Ok a) f b h = (a, refl, h)
bind_ok (Err e) f b h = absurd (cc)

same_ok : {A E : Type 0} {x y : A} → ◌≡◌ {A = Result A E} (Ok x) (Ok y) → x ≡ y
same_ok h = cc

module _ (ms : List Module) where
  -- ---- a number

  digits_reached : (n : ℕ) (p : Place) (minus : Bool) (w : List ℕ)
      → numeral ms (suc n) (record { place = p; governor = bare p.«module»; amount = number minus w }) ≡ Ok (record { place = p; negative = minus; digits = w })
  unfolding numeral step
  digits_reached n p minus w = refl

  pub digits_counted : (p : Place) (minus : Bool) (w : List ℕ) → integer_at ms p (number minus w) ≡ fitting p (whole_of minus w)
  unfolding count
  digits_counted p minus w = ap (λ r. r >>= whole) (digits_reached 254 p minus w)

  number_given : {numbered : Bool} {place : ℕ} {z : ℤ} {n : Option Amount} → SaysNumber numbered place z n → (p : Place) (o : Option ℤ) → given_by ms p n ≡ Ok o
      → IsGiven numbered place z o
  number_given (says_own {place} {z} minus w written) p o h =
      let step = bind_ok (integer_at ms p (number minus w)) (λ z. Ok (Some z)) o h in
      let is : step.0 ≡ z = fitting_once p minus w step.0 z written (sym (digits_counted p minus w) ∙ step.1) in
      subst (λ o. IsGiven true place z o) (ap Some (sym is) ∙ same_ok step.2) its_own
  number_given (says_none {place}) p o h = subst (λ o. IsGiven false place (pos place) o) (same_ok h) by_place

  -- ---- the numbers of items

  numbers_given : (m : ℕ) {numbered : Bool} {place : ℕ} {items : List NamedNumber} {is : List Item} → SayItems numbered place items is → (os : List (Option ℤ))
      → given_numbers ms m is ≡ Ok os → AreGiven numbered place items os
  numbers_given m {numbered} {place} say_none os h = subst (λ os. AreGiven numbered place [] os) (same_ok h) no_more
  numbers_given m {numbered} {place} (say_item {w} {z} {n} {items} {is} at says more) os h =
      let first = bind_ok (given_by ms (place_in m at) n) (λ n. given_numbers ms m is >>= λ ns. Ok (n ∷ ns)) os h in
      let rest = bind_ok (given_numbers ms m is) (λ ns. Ok (first.0 ∷ ns)) os first.2 in
      subst (λ os. AreGiven numbered place (record { name = w; number = z } ∷ items) os) (same_ok rest.2)
      (one_more (number_given says (place_in m at) first.0 first.1) (numbers_given m more rest.0 rest.1))

  given_append : (m : ℕ) (is js : List Item) (os qs : List (Option ℤ)) → given_numbers ms m is ≡ Ok os → given_numbers ms m js ≡ Ok qs
      → given_numbers ms m (is ++ js) ≡ Ok (os ++ qs)
  given_append m [] js os qs h g = g ∙ ap (λ l. Ok (l ++ qs)) (same_ok h)
  given_append m (i ∷ is) js os qs h g =
      let first = bind_ok (given_number ms m i) (λ n. given_numbers ms m is >>= λ ns. Ok (n ∷ ns)) os h in
      let rest = bind_ok (given_numbers ms m is) (λ ns. Ok (first.0 ∷ ns)) os first.2 in
      ap (λ r. r >>= λ n. given_numbers ms m (is ++ js) >>= λ ns. Ok (n ∷ ns)) first.1
      ∙ ap (λ r. r >>= λ ns. Ok (first.0 ∷ ns)) (given_append m is js rest.0 qs rest.1 g)
      ∙ ap (λ l. Ok (l ++ qs)) (same_ok rest.2)

  -- what is given in the root and behind the marker, together
  pub all_given : (m : ℕ) (numbered : Bool) (items : List NamedNumber) (is js : List Item) (os qs : List (Option ℤ)) → SayItems numbered 0 items (is ++ js)
      → given_numbers ms m is ≡ Ok os → given_numbers ms m js ≡ Ok qs → AreGiven numbered 0 items (os ++ qs)
  all_given m numbered items is js os qs s h g = numbers_given m s (os ++ qs) (given_append m is js os qs h g)

-- ---- names

-- with their numbers the items are those of the notation
pub names_same : {numbered : Bool} {place : ℕ} {items : List NamedNumber} {is : List Item} → SayItems numbered place items is
    → map as_named (with_numbers is (map (λ i. i.number) items)) ≡ items
names_same say_none = refl
names_same (say_item {w} {z} at says more) = ap (λ l. record { name = w; number = z } ∷ l) (names_same more)
