-- Numbers in base 128 have one spelling.
use Rattle.std.proofs.Common.{◌≡◌, ℕ, zero, suc, ◌+◌, ◌*◌, ◌%◌, ◌<◌, ◌≤◌, inl, inr, List, [], ◌∷◌, length, ap, ap₂, sym, ◌∙◌, arith}
use Rattle.oer_units.specs.Spelling.{class_number, IsDigits, IsBase128, IsTag}
use Rattle.oer_units.specs.declared.tagging.Tag.{Tag}

-- high after k more digits
abbrev pub grown : ℕ → ℕ → ℕ
grown zero high = high
grown (suc k) high = grown k (high * 128)

pub grown_mono : (k a b : ℕ) → a ≤ b → grown k a ≤ grown k b
grown_mono zero a b l = l
grown_mono (suc k) a b l = grown_mono k (a * 128) (b * 128) (omega arith)

pub grown_up : (k m a : ℕ) → k ≤ m → grown k a ≤ grown m a
grown_up zero zero a l = omega arith
grown_up zero (suc m) a l = let i = grown_up zero m (a * 128) (omega arith) in omega arith
grown_up (suc k) zero a l = absurd (omega arith)
grown_up (suc k) (suc m) a l = grown_up k m (a * 128) (omega arith)

pub digits_lt : (high n : ℕ) (w : List ℕ) → IsDigits high n w → n < grown (length w) (suc high)
digits_lt high n [] d = absurd d
digits_lt high n (x ∷ []) (l, e) = omega arith
digits_lt high n (x ∷ y ∷ w) (l, m, d) = let i = digits_lt (high * 128 + x % 128) n (y ∷ w) d in let j = grown_mono (length (y ∷ w)) (suc (high * 128 + x % 128)) (suc high * 128) (omega arith) in omega arith

pub digits_ge : (high n : ℕ) (w : List ℕ) → IsDigits high n w → grown (length w) high ≤ n
digits_ge high n [] d = absurd d
digits_ge high n (x ∷ []) (l, e) = omega arith
digits_ge high n (x ∷ y ∷ w) (l, m, d) = let i = digits_ge (high * 128 + x % 128) n (y ∷ w) d in let j = grown_mono (length (y ∷ w)) (high * 128) (high * 128 + x % 128) (omega arith) in omega arith

pub digits_same : (g h n : ℕ) (w z : List ℕ) → length w ≡ length z → IsDigits g n w → IsDigits h n z → (g ≡ h) × (w ≡ z)
digits_same g h n [] z e d d' = absurd d
digits_same g h n (x ∷ []) [] e d d' = absurd d'
digits_same g h n (x ∷ []) (y ∷ []) e (l, is) (l', is') = (omega arith, ap (λ x. x ∷ []) (omega arith))
digits_same g h n (x ∷ []) (y ∷ y' ∷ z) e d d' = absurd (omega arith)
digits_same g h n (x ∷ x' ∷ w) [] e d d' = absurd d'
digits_same g h n (x ∷ x' ∷ w) (y ∷ []) e d d' = absurd (omega arith)
digits_same g h n (x ∷ x' ∷ w) (y ∷ y' ∷ z) e (l, m, d) (l', m', d') =
    let rest = digits_same (g * 128 + x % 128) (h * 128 + y % 128) n (x' ∷ w) (y' ∷ z) (omega arith) d d' in
    let both : g * 128 + x % 128 ≡ h * 128 + y % 128 = rest.0 in
    (omega arith, ap₂ (λ x y. x ∷ y) (omega arith) rest.1)

pub not_longer : (n : ℕ) (w z : List ℕ) → IsBase128 n w → IsBase128 n z → length w < length z → ⊥
not_longer n w [] s t l = t
not_longer n [] (y ∷ []) s t l = s
not_longer n (x ∷ w) (y ∷ []) s t l = omega arith
not_longer n [] (y ∷ y' ∷ z) s t l = s
not_longer n (x ∷ w) (y ∷ y' ∷ z) (apart, d) (apart', (m, m', d')) l =
    let high : 1 ≤ y % 128 = omega arith in
    let small = digits_lt 0 n (x ∷ w) d in
    let large = digits_ge (0 * 128 + y % 128) n (y' ∷ z) d' in
    let more = grown_mono (length (y' ∷ z)) 1 (0 * 128 + y % 128) (omega arith) in
    let up = grown_up (length (x ∷ w)) (length (y' ∷ z)) 1 (omega arith) in
    omega arith

pub base128_one : (n : ℕ) (w z : List ℕ) → IsBase128 n w → IsBase128 n z → w ≡ z
base128_one n w z s t = by_length (not_longer n w z s t) (not_longer n z w t s)
  where
    to_digits : (v : List ℕ) → IsBase128 n v → IsDigits 0 n v
    to_digits [] s = s
    to_digits (x ∷ v) s = s.1

    by_length : (length w < length z → ⊥) → (length z < length w → ⊥) → w ≡ z
    by_length a b = (digits_same 0 0 n w z (omega arith) (to_digits w s) (to_digits z t)).1

pub tag_one : (t : Tag) (p q : List ℕ) → IsTag t p → IsTag t q → p ≡ q
tag_one t p q (inl s) (inl s') = s.0 ∙ sym s'.0
tag_one t p q (inl s) (inr (w, e, low, high, d)) = absurd (let i = s.1 in omega arith)
tag_one t p q (inr (w, e, low, high, d)) (inl s) = absurd (let i = s.1 in omega arith)
tag_one t p q (inr (w, e, low, high, d)) (inr (z, e', low', high', d')) = e ∙ ap (λ w. (64 * class_number t.class + 63) ∷ w) (base128_one t.number w z d d') ∙ sym e'
