-- As many given numbers as items, where each is given one or none.
use Rattle.std.proofs.Common.{◌≡◌, ℕ, suc, ℤ, List, [], ◌∷◌, length, map, Option, Result, Ok, Err, refl, ap, subst, ◌∙◌}
use Rattle.std.proofs.lemmas.List.{length-map}
use Rattle.oer_module_syntax.specs.Tree.{Module}
use Rattle.oer_module_terms.specs.Trees.{Item, item_of as written_of}
use Rattle.oer_module_terms.specs.declared.tree.Item.{Item as RawWritten}
use Rattle.oer_module_values.specs.Errors.{Error, ◌>>=◌}
use Rattle.oer_module_values.specs.Numbers.{given_number, given_numbers}

abbrev AreGiven : ℕ → Result (List (Option ℤ)) Error → Type 0
AreGiven k (Ok os) = length os ≡ k
AreGiven k (Err e) = Unit {0}

given_then : (ms : List Module) (m : ℕ) (is : List Item) (o : Option ℤ) → (r : Result (List (Option ℤ)) Error) → AreGiven (length is) r
    → AreGiven (suc (length is)) (r >>= λ os. Ok (o ∷ os))
given_then ms m is o (Ok os) h = ap suc h
given_then ms m is o (Err e) h = tt

given_first : (ms : List Module) (m : ℕ) (is : List Item) (r : Result (Option ℤ) Error) → AreGiven (length is) (given_numbers ms m is)
    → AreGiven (suc (length is)) (r >>= λ o. given_numbers ms m is >>= λ os. Ok (o ∷ os))
given_first ms m is (Ok o) h = given_then ms m is o (given_numbers ms m is) h
given_first ms m is (Err e) h = tt

are_given : (ms : List Module) (m : ℕ) (is : List Item) → AreGiven (length is) (given_numbers ms m is)
are_given ms m [] = refl
are_given ms m (i ∷ is) = given_first ms m is (given_number ms m i) (are_given ms m is)

pub given_counted : (ms : List Module) (m : ℕ) (is : List Item) (os : List (Option ℤ)) → given_numbers ms m is ≡ Ok os → length os ≡ length is
given_counted ms m is os h = subst (AreGiven (length is)) h (are_given ms m is)

-- of items as the code has them
pub given_of_items : (ms : List Module) (m : ℕ) (is : List RawWritten) (os : List (Option ℤ)) → given_numbers ms m (map written_of is) ≡ Ok os
    → length os ≡ length is
given_of_items ms m is os h = given_counted ms m (map written_of is) os h ∙ length-map is written_of
