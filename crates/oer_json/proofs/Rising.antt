-- Numbers in rising order.
use Rattle.std.proofs.Common.{◌≡◌, ◌⊎◌, inl, inr, ℕ, suc, ◌<◌, ◌≤◌, ◌==◌, nat_lt, List, [], ◌∷◌, Bool, true, false, Less, Equal, Greater, nat_cmp, refl, sym, arith}
use Rattle.std.proofs.lemmas.Bool.{eqb-true, eqb-false, ltb-true, ltb-false}
use Rattle.std.specs.BTreeSet.{insert_key}
use Rattle.oer_model.specs.WellFormed.{AnyOf}

-- each from the lowest on and above the one before it
abbrev pub Rises : ℕ → List ℕ → Type 0
Rises low [] = Unit {0}
Rises low (x ∷ xs) = (low ≤ x) × Rises (suc x) xs

-- n is one of them
abbrev pub IsIn : ℕ → List ℕ → Type 0
IsIn n xs = AnyOf (λ x. x ≡ n) xs

pub rises_from : (low lower : ℕ) (xs : List ℕ) → lower ≤ low → Rises low xs → Rises lower xs
rises_from low lower [] l h = tt
rises_from low lower (x ∷ xs) l h = (omega (arith, h.0), h.1)

pub in_above : (low : ℕ) (xs : List ℕ) (n : ℕ) → Rises low xs → IsIn n xs → low ≤ n
in_above low [] n h i = absurd i
in_above low (x ∷ xs) n h (inl e) = omega (arith, h.0)
in_above low (x ∷ xs) n h (inr i) = let l = in_above (suc x) xs n h.1 i in let k = h.0 in omega arith

-- what is in a list and isn't its head is in the tail
in_tail : (x n : ℕ) (xs : List ℕ) → x < n → IsIn n (x ∷ xs) → IsIn n xs
in_tail x n xs l (inl e) = absurd (omega arith)
in_tail x n xs l (inr i) = i

-- lists that rise and have the same numbers are the same
pub same_rising : (low : ℕ) (xs ys : List ℕ) → Rises low xs → Rises low ys → ((n : ℕ) → IsIn n xs → IsIn n ys) → ((n : ℕ) → IsIn n ys → IsIn n xs) → xs ≡ ys
same_rising low [] [] h k f g = refl
same_rising low [] (y ∷ ys) h k f g = absurd (g y (inl refl))
same_rising low (x ∷ xs) [] h k f g = absurd (f x (inl refl))
same_rising low (x ∷ xs) (y ∷ ys) h k f g =
    let a = in_above y (y ∷ ys) x (omega arith, k.1) (f x (inl refl)) in
    let b = in_above x (x ∷ xs) y (omega arith, h.1) (g y (inl refl)) in
    let e : x ≡ y = omega arith in
    let same = same_rising (suc x) xs ys h.1 (rises_from (suc y) (suc x) ys (omega arith) k.1)
    (λ n i. in_tail y n ys (let l = in_above (suc x) xs n h.1 i in omega arith) (f n (inr i)))
    (λ n i. in_tail x n xs (let l = in_above (suc y) ys n k.1 i in omega arith) (g n (inr i))) in
    (λ i. e i ∷ same i)

-- where a number goes
abbrev Goes : ℕ → ℕ → Type 0
Goes n x = ((n < x) × (nat_cmp n x ≡ Less)) ⊎ (((n ≡ x) × (nat_cmp n x ≡ Equal)) ⊎ ((x < n) × (nat_cmp n x ≡ Greater)))

goes : (n x : ℕ) → Goes n x
goes n x = first (nat_lt n x) refl
  where
    second : nat_lt n x ≡ false → (b : Bool) → n == x ≡ b → Goes n x
    second l true e = inr (inl (eqb-true n x e, rw (l, e) refl))
    second l false e = let k = ltb-false n x l in let d = eqb-false n x e in inr (inr (omega (arith, d), rw (l, e) refl))

    first : (b : Bool) → nat_lt n x ≡ b → Goes n x
    first true e = inl (ltb-true n x e, rw e refl)
    first false e = second e (n == x) refl

pub insert_rises : (low : ℕ) (xs : List ℕ) (n : ℕ) → low ≤ n → Rises low xs → Rises low (insert_key nat_cmp xs n)
insert_rises low [] n l h = (l, tt)
insert_rises low (x ∷ xs) n l h = by (goes n x) (λ s. insert_rises (suc x) xs n s h.1)
  where
    by : Goes n x → (x < n → Rises (suc x) (insert_key nat_cmp xs n)) → Rises low (insert_key nat_cmp (x ∷ xs) n)
    by (inl (s, e)) later = rw e (l, (s, h.1))
    by (inr (inl (s, e))) later = rw e h
    by (inr (inr (s, e))) later = rw e (h.0, later s)

pub insert_has : (xs : List ℕ) (n : ℕ) → IsIn n (insert_key nat_cmp xs n)
insert_has [] n = inl refl
insert_has (x ∷ xs) n = by (goes n x) (insert_has xs n)
  where
    by : Goes n x → IsIn n (insert_key nat_cmp xs n) → IsIn n (insert_key nat_cmp (x ∷ xs) n)
    by (inl (s, e)) later = rw e (inl refl)
    by (inr (inl (s, e))) later = rw e (inl (sym s))
    by (inr (inr (s, e))) later = rw e (inr later)

pub insert_keeps : (xs : List ℕ) (n m : ℕ) → IsIn m xs → IsIn m (insert_key nat_cmp xs n)
insert_keeps [] n m i = absurd i
insert_keeps (x ∷ xs) n m i = by (goes n x) (insert_keeps xs n m) i
  where
    by : Goes n x → (IsIn m xs → IsIn m (insert_key nat_cmp xs n)) → IsIn m (x ∷ xs) → IsIn m (insert_key nat_cmp (x ∷ xs) n)
    by (inl (s, e)) later i = rw e (inr i)
    by (inr (inl (s, e))) later i = rw e i
    by (inr (inr (s, e))) later (inl p) = rw e (inl p)
    by (inr (inr (s, e))) later (inr i) = rw e (inr (later i))

pub insert_adds : (xs : List ℕ) (n m : ℕ) → IsIn m (insert_key nat_cmp xs n) → (n ≡ m) ⊎ IsIn m xs
insert_adds [] n m (inl e) = inl e
insert_adds [] n m (inr i) = absurd i
insert_adds (x ∷ xs) n m i = by (goes n x) (insert_adds xs n m) i
  where
    behind : (n ≡ m) ⊎ IsIn m xs → (n ≡ m) ⊎ IsIn m (x ∷ xs)
    behind (inl e) = inl e
    behind (inr i) = inr (inr i)

    below : (IsIn m (insert_key nat_cmp xs n) → (n ≡ m) ⊎ IsIn m xs) → IsIn m (x ∷ insert_key nat_cmp xs n) → (n ≡ m) ⊎ IsIn m (x ∷ xs)
    below later (inl e) = inr (inl e)
    below later (inr i) = behind (later i)

    above : IsIn m (n ∷ x ∷ xs) → (n ≡ m) ⊎ IsIn m (x ∷ xs)
    above (inl e) = inl e
    above (inr i) = inr i

    by : Goes n x → (IsIn m (insert_key nat_cmp xs n) → (n ≡ m) ⊎ IsIn m xs) → IsIn m (insert_key nat_cmp (x ∷ xs) n) → (n ≡ m) ⊎ IsIn m (x ∷ xs)
    by (inl (s, e)) later i = above (rw e at i)
    by (inr (inl (s, e))) later i = inr (rw e at i)
    by (inr (inr (s, e))) later i = below later (rw e at i)
