-- A way through numbered places that ends, ends within as many turns as there are places.
use Rattle.std.proofs.Common.{◌≡◌, ◌<◌, ◌≤◌, ◌+◌, ◌⊎◌, inl, inr, ℕ, zero, suc, Bool, true, false, Option, None, Some, is_some, refl, sym, subst, ap, ◌∙◌, arith}
use Rattle.std.proofs.lemmas.Bool.{cases_order}

-- what is at a place: nothing, the end, or the way to another place
pub data Turn (A : Type 0) : Type 0 where
  stuck : Turn A
  done : A → Turn A
  on : ℕ → Turn A

abbrev pub turned : {A : Type 0} → (ℕ → Option A) → Turn A → Option A
turned more stuck = None
turned more (done x) = Some x
turned more (on j) = more j

-- the end of the way from a place, within so many turns
abbrev pub chain : {A : Type 0} → (ℕ → Turn A) → ℕ → ℕ → Option A
chain f zero k = None
chain f (suc n) k = turned (chain f n) (f k)

abbrev tick : Bool → ℕ
tick true = 1
tick false = 0

-- how many numbers below n pass
abbrev count : (ℕ → Bool) → ℕ → ℕ
count p zero = 0
count p (suc n) = tick (p n) + count p n

most_counted : (p : ℕ → Bool) (n : ℕ) → count p n ≤ n
most_counted p zero = omega arith
most_counted p (suc n) = by (p n) (most_counted p n)
  where
    by : (b : Bool) → count p n ≤ n → tick b + count p n ≤ suc n
    by true h = omega (arith, h)
    by false h = omega (arith, h)

all_counted : (p : ℕ → Bool) (n : ℕ) → n ≤ count p n → (k : ℕ) → k < n → p k ≡ true
all_counted p zero h k l = absurd (omega (arith, l))
all_counted p (suc n) h k l = by (p n) refl h (all_counted p n) (most_counted p n) (cases_order k n)
  where
    by : (b : Bool) → p n ≡ b → suc n ≤ tick b + count p n → (n ≤ count p n → (k : ℕ) → k < n → p k ≡ true) → count p n ≤ n → (k ≡ n) ⊎ ((k < n) ⊎ (n < k)) → p k ≡ true
    by true e c rest most (inl same) = ap p same ∙ e
    by true e c rest most (inr (inl less)) = rest (omega (arith, c)) k less
    by true e c rest most (inr (inr more)) = absurd (omega (arith, more, l))
    by false e c rest most o = absurd (omega (arith, c, most))

-- what passes by p passes by q, too
module _ (p q : ℕ → Bool) (more : (k : ℕ) → p k ≡ true → q k ≡ true) where
  ticked : (n : ℕ) → tick (p n) ≤ tick (q n)
  ticked n = by (p n) (q n) (more n)
    where
      by : (a b : Bool) → (a ≡ true → b ≡ true) → tick a ≤ tick b
      by true true h = omega arith
      by true false h = let e = h refl in cc
      by false b h = omega arith

  counted : (n : ℕ) → count p n ≤ count q n
  counted zero = omega arith
  counted (suc n) = omega (arith, ticked n, counted n)

  -- either no number below n passes by q alone, or q passes more
  grown : (n : ℕ) → ((k : ℕ) → k < n → q k ≡ true → p k ≡ true) ⊎ (count p n + 1 ≤ count q n)
  grown zero = inl (λ k l e. absurd (omega (arith, l)))
  grown (suc n) = by (p n) (q n) refl refl (grown n) (ticked n) (counted n)
    where
      last : (p n ≡ true) ⊎ (q n ≡ false) → ((k : ℕ) → k < n → q k ≡ true → p k ≡ true) → (k : ℕ) → k < suc n → q k ≡ true → p k ≡ true
      last here before k l e = at (cases_order k n)
        where
          at : (k ≡ n) ⊎ ((k < n) ⊎ (n < k)) → p k ≡ true
          at (inl same) = elim here [ inl here_too ↦ ap p same ∙ here_too | inr gone ↦ let never : q k ≡ false = ap q same ∙ gone in cc ]
          at (inr (inl less)) = before k less e
          at (inr (inr after)) = absurd (omega (arith, after, l))

      by : (a b : Bool) → p n ≡ a → q n ≡ b → ((k : ℕ) → k < n → q k ≡ true → p k ≡ true) ⊎ (count p n + 1 ≤ count q n) → tick a ≤ tick b → count p n ≤ count q n
          → ((k : ℕ) → k < suc n → q k ≡ true → p k ≡ true) ⊎ (tick a + count p n + 1 ≤ tick b + count q n)
      by a b x y (inr up) t c = inr (omega (arith, up, t))
      by true b x y (inl before) t c = inl (last (inl x) before)
      by false false x y (inl before) t c = inl (last (inr y) before)
      by false true x y (inl before) t c = inr (omega (arith, c))

module _ {A : Type 0} (f : ℕ → Turn A) where
  abbrev ends : ℕ → ℕ → Bool
  ends n k = is_some (chain f n k)

  -- one turn more
  chain_more : (n k : ℕ) (x : A) → chain f n k ≡ Some x → chain f (suc n) k ≡ Some x
  chain_more zero k x h = cc
  chain_more (suc n) k x h = by (f k) h (λ j. chain_more n j x)
    where
      by : (t : Turn A) → turned (chain f n) t ≡ Some x → ((j : ℕ) → chain f n j ≡ Some x → chain f (suc n) j ≡ Some x) → turned (chain f (suc n)) t ≡ Some x
      by stuck h rest = cc
      by (done y) h rest = h
      by (on j) h rest = rest j h

  chain_plus : (d n m k : ℕ) (x : A) → m ≡ d + n → chain f n k ≡ Some x → chain f m k ≡ Some x
  chain_plus zero n m k x e h = let same : n ≡ m = omega (arith, e) in subst (λ i. chain f i k ≡ Some x) same h
  chain_plus (suc d) n m k x e h =
      let next : suc (d + n) ≡ m = omega (arith, e) in
      subst (λ i. chain f i k ≡ Some x) next (chain_more (d + n) k x (chain_plus d n (d + n) k x refl h))

  some_is : (o : Option A) → is_some o ≡ true → (x : A) × (o ≡ Some x)
  some_is None h = cc
  some_is (Some x) h = (x, refl)

  ends_more : (n k : ℕ) → ends n k ≡ true → ends (suc n) k ≡ true
  ends_more n k h = let x = some_is (chain f n k) h in ap is_some (chain_more n k x.0 x.1)

  -- two ends of one way are one
  same_end : (n m k : ℕ) (x y : A) → chain f n k ≡ Some x → chain f m k ≡ Some y → Some x ≡ Some y
  same_end n m k x y h g = let plus : n + m ≡ m + n = omega arith in sym (chain_plus m n (n + m) k x plus h) ∙ chain_plus n m (n + m) k y refl g

  module _ (most : ℕ) (within : (k j : ℕ) → k < most → f k ≡ on j → j < most) where
    -- where one turn more ends no other way, no number of turns does
    settled : (n : ℕ) → ((k : ℕ) → k < most → ends (suc n) k ≡ true → ends n k ≡ true) → (m k : ℕ) → k < most → ends m k ≡ true → ends n k ≡ true
    settled n back zero k l e = cc
    settled n back (suc m) k l e = by (f k) refl e (settled n back m)
      where
        by : (t : Turn A) → f k ≡ t → is_some (turned (chain f m) t) ≡ true → ((j : ℕ) → j < most → ends m j ≡ true → ends n j ≡ true) → ends n k ≡ true
        by stuck s e rest = cc
        by (done x) s e rest = back k l (ap (λ t. is_some (turned (chain f n) t)) s)
        by (on j) s e rest = back k l (ap (λ t. is_some (turned (chain f n) t)) s ∙ rest j (within k j l s) e)

    spent : (n : ℕ) → ((m k : ℕ) → k < most → ends m k ≡ true → ends n k ≡ true) ⊎ (n ≤ count (ends n) most)
    spent zero = inr (omega arith)
    spent (suc n) = by (spent n) (grown (ends n) (ends (suc n)) (ends_more n) most)
      where
        by : ((m k : ℕ) → k < most → ends m k ≡ true → ends n k ≡ true) ⊎ (n ≤ count (ends n) most)
            → ((k : ℕ) → k < most → ends (suc n) k ≡ true → ends n k ≡ true) ⊎ (count (ends n) most + 1 ≤ count (ends (suc n)) most)
            → ((m k : ℕ) → k < most → ends m k ≡ true → ends (suc n) k ≡ true) ⊎ (suc n ≤ count (ends (suc n)) most)
        by (inl all) g = inl (λ m k l e. ends_more n k (all m k l e))
        by (inr c) (inl back) = inl (λ m k l e. ends_more n k (settled n back m k l e))
        by (inr c) (inr up) = inr (omega (arith, c, up))

    ends_within : (m k : ℕ) → k < most → ends m k ≡ true → ends most k ≡ true
    ends_within m k l e = by (spent most)
      where
        by : ((m k : ℕ) → k < most → ends m k ≡ true → ends most k ≡ true) ⊎ (most ≤ count (ends most) most) → ends most k ≡ true
        by (inl all) = all m k l e
        by (inr c) = all_counted (ends most) most c k l

    pub chain_within : (m k : ℕ) (x : A) → k < most → chain f m k ≡ Some x → chain f most k ≡ Some x
    chain_within m k x l h =
        let y = some_is (chain f most k) (ends_within m k l (ap is_some h)) in
        y.1 ∙ sym (same_end m most k x y.0 h y.1)
