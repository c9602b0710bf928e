-- Lists, step by step.
use Rattle.std.proofs.Common.{◌≡◌, ℕ, zero, suc, ◌+◌, ◌<◌, ◌≤◌, List, [], ◌∷◌, ◌++◌, length, drop, take, get_or, false, ◌==◌, Some, refl, sym, ap, ◌∙◌, arith, add-one}
use Rattle.std.proofs.lemmas.Bool.Decides.{nat_tests}
use Rattle.std.specs.List.{slice_get}

pub no_zero : (m : ℕ) → suc m == 0 ≡ false
no_zero m = grind (arith, nat_tests)

pub empty_of : (xs : List ℕ) → length xs ≡ 0 → xs ≡ []
empty_of [] h = refl
empty_of (x ∷ xs) h = absurd (omega arith)

pub take_next : (xs : List ℕ) (k x : ℕ) → slice_get xs k ≡ Some x → take (k + 1) xs ≡ take k xs ++ x ∷ []
take_next [] k x h = absurd (cc)
take_next (y ∷ ys) zero x h = let same : y ≡ x = cc in ap (λ z. z ∷ []) same
take_next (y ∷ ys) (suc k) x h = rw (add-one (suc k)) (ap (λ zs. y ∷ zs) (sym (ap (λ n. take n ys) (add-one k)) ∙ take_next ys k x h))

pub nothing_left : {A : Type 0} (xs : List A) (i : ℕ) → length xs ≤ i → drop i xs ≡ []
nothing_left [] zero h = refl
nothing_left [] (suc i) h = refl
nothing_left (x ∷ xs) zero h = absurd (omega arith)
nothing_left (x ∷ xs) (suc i) h = nothing_left xs i (omega arith)

-- the element at a place, and those behind it
pub split_at : {A : Type 0} (xs : List A) (i : ℕ) (x : A) → i < length xs → x ≡ get_or xs i x → drop i xs ≡ x ∷ drop (suc i) xs
split_at [] i x h e = absurd (omega arith)
split_at (y ∷ xs) zero x h e = ap (λ z. z ∷ xs) (sym e)
split_at (y ∷ xs) (suc i) x h e = split_at xs i x (omega arith) e
