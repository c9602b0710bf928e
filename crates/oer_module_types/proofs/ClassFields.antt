-- The search for a field of a class.
use Rattle.std.proofs.Common.{◌≡◌, ℕ, zero, suc, ◌+◌, ◌-◌, ◌≤◌, ◌<◌, List, [], ◌∷◌, length, drop, get_or, drop-cons, Bool, false}
use Rattle.std.proofs.Common.{refl, sym, ap, ap₂, ◌∙◌, arith}
use Rattle.oer_module_lexer.specs.Token.{spots_of, token_of}
use Rattle.oer_module_lexer.specs.declared.token.Spot.{Spot as RawSpot}
use Rattle.oer_module_types.specs.Fields.{has_type_field, is_type_field}

module _ (w : List ℕ) (xs : List RawSpot) where
  -- the test of the tokens at three indexes
  abbrev pub test : RawSpot → ℕ → ℕ → ℕ → Bool
  test x i j k = is_type_field w (token_of (get_or xs i x).token) (token_of (get_or xs j x).token) (token_of (get_or xs k x).token)

  three : (k : ℕ) (x : RawSpot) → suc (suc k) < length xs
      → drop k xs ≡ get_or xs k x ∷ get_or xs (suc k) x ∷ get_or xs (suc (suc k)) x ∷ drop (suc (suc (suc k))) xs
  three k x less =
      drop-cons xs k x (omega arith)
      ∙ ap (λ l. get_or xs k x ∷ l)
      (drop-cons xs (suc k) x (omega arith) ∙ ap (λ l. get_or xs (suc k) x ∷ l) (drop-cons xs (suc (suc k)) x less))

  two : (k : ℕ) (x : RawSpot) → suc (suc k) < length xs
      → drop (suc k) xs ≡ get_or xs (suc k) x ∷ get_or xs (suc (suc k)) x ∷ drop (suc (suc (suc k))) xs
  two k x less =
      drop-cons xs (suc k) x (omega arith) ∙ ap (λ l. get_or xs (suc k) x ∷ l) (drop-cons xs (suc (suc k)) x less)

  later : (k : ℕ) (x : RawSpot) → suc (suc k) < length xs → test x k (suc k) (suc (suc k)) ≡ false
      → has_type_field w (spots_of (drop k xs)) ≡ has_type_field w (spots_of (drop (suc k) xs))
  later k x less is = rw (three k x less, two k x less, is) refl

  pub field_later : (i : ℕ) (x : RawSpot) → 2 ≤ i → i < length xs → test x (i - 2) (i - 1) i ≡ false
      → has_type_field w (spots_of (drop (i - 2) xs)) ≡ has_type_field w (spots_of (drop (i + 1 - 2) xs))
  field_later i x some less is =
      let second : i - 1 ≡ suc (i - 2) = omega (arith, some) in
      let third : i ≡ suc (suc (i - 2)) = omega (arith, some) in
      let next : suc (i - 2) ≡ i + 1 - 2 = omega (arith, some) in
      later (i - 2) x (omega (arith, some, less)) (sym (ap₂ (test x (i - 2)) second third) ∙ is)
      ∙ ap (λ k. has_type_field w (spots_of (drop k xs))) next

few : (w : List ℕ) (xs : List RawSpot) → length xs ≤ 2 → has_type_field w (spots_of xs) ≡ false
few w [] h = refl
few w (x ∷ []) h = refl
few w (x ∷ y ∷ []) h = refl
few w (x ∷ y ∷ z ∷ xs) h = absurd (omega arith)

pub field_over : (w : List ℕ) (xs : List RawSpot) (k : ℕ) → length xs ≤ k + 2 → has_type_field w (spots_of (drop k xs)) ≡ false
field_over w xs zero h = few w xs (omega arith)
field_over w [] (suc k) h = refl
field_over w (x ∷ xs) (suc k) h = field_over w xs k (omega arith)
