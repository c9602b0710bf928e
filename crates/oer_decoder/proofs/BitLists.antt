-- Lists of the bits of octets.
use Rattle.std.proofs.Common.{◌≡◌, ◌≢◌, ℕ, zero, suc, ◌+◌, ◌-◌, ◌*◌, ◌/◌, ◌%◌, ◌^◌, ◌<◌, ◌≤◌, Bool, true, false, ◌&&◌, eqb, List, [], ◌∷◌, ◌++◌, length, take, drop, get_or, drop-cons, add-one, refl, sym, ap, ◌∙◌, arith, length-append, length-drop, length-take}
use Rattle.oer_model.specs.Bits.{all_false, bit, bits_of}
use Rattle.oer_model.proofs.reading.Parts.{length-bits_of}
use Rattle.oer_decoder.specs.BitReading.{used}

take_none : (A : Type 0) (m : ℕ) → take {A = A} m [] ≡ []
take_none A zero = refl
take_none A (suc m) = refl

drop_none : (A : Type 0) (m : ℕ) → drop {A = A} m [] ≡ []
drop_none A zero = refl
drop_none A (suc m) = refl

pub bits_of-append : (a b : List ℕ) → bits_of (a ++ b) ≡ bits_of a ++ bits_of b
bits_of-append [] b = refl
bits_of-append (x ∷ a) b = ap (λ (l : List Bool). bit x 7 ∷ bit x 6 ∷ bit x 5 ∷ bit x 4 ∷ bit x 3 ∷ bit x 2 ∷ bit x 1 ∷ bit x 0 ∷ l) (bits_of-append a b)

pub all_false-append : (s t : List Bool) → all_false (s ++ t) ≡ (all_false s && all_false t)
all_false-append [] t = refl
all_false-append (true ∷ s) t = refl
all_false-append (false ∷ s) t = all_false-append s t

take_past : (s t : List Bool) (k n : ℕ) → n ≡ length s + k → take n (s ++ t) ≡ s ++ take k t
take_past [] t k n e = let h : n ≡ k = omega arith in ap (λ (m : ℕ). take m t) h
take_past (x ∷ s) t k zero e = absurd (omega arith)
take_past (x ∷ s) t k (suc n) e = ap (λ (l : List Bool). x ∷ l) (take_past s t k n (omega arith))

-- the last octet loses its last bits
pub used-last : (u : ℕ) (a : List ℕ) (x : ℕ) → u ≤ 7 → used u (a ++ x ∷ []) ≡ bits_of a ++ take (8 - u) (bits_of (x ∷ []))
used-last u a x le =
    let l : length (bits_of (a ++ x ∷ [])) - u ≡ length (bits_of a) + (8 - u) = omega (arith, length-bits_of (a ++ x ∷ []), length-bits_of a, length-append a (x ∷ [])) in
    ap (λ (s : List Bool). take (length (bits_of (a ++ x ∷ [])) - u) s) (bits_of-append a (x ∷ [])) ∙ take_past (bits_of a) (bits_of (x ∷ [])) (8 - u) (length (bits_of (a ++ x ∷ [])) - u) l

-- ---- octets that are zero

zero_bits : (x : ℕ) (t : List Bool) → x ≡ 0 → all_false (bit x 7 ∷ bit x 6 ∷ bit x 5 ∷ bit x 4 ∷ bit x 3 ∷ bit x 2 ∷ bit x 1 ∷ bit x 0 ∷ t) ≡ all_false t
unfolding bit
zero_bits x t e = rw e refl

pub zero_octet : (x : ℕ) (xs : List ℕ) → x ≡ 0 → all_false (bits_of (x ∷ xs)) ≡ all_false (bits_of xs)
zero_octet x xs e = zero_bits x (bits_of xs) e

eqb_no : (n : ℕ) → eqb n 1 ≡ false → n ≢ 1
eqb_no (suc zero) e h = absurd (cc)
eqb_no zero e h = absurd (omega arith)
eqb_no (suc (suc n)) e h = absurd (omega arith)

not_set : (x i : ℕ) → bit x i ≡ false → (x / 2 ^ i) % 2 ≢ 1
unfolding bit
not_set x i e = eqb_no ((x / 2 ^ i) % 2) e

each8 : (a b c d e f g h : Bool) (t : List Bool) → all_false (a ∷ b ∷ c ∷ d ∷ e ∷ f ∷ g ∷ h ∷ t) ≡ true → (a ≡ false) × (b ≡ false) × (c ≡ false) × (d ≡ false) × (e ≡ false) × (f ≡ false) × (g ≡ false) × (h ≡ false)
each8 true b c d e f g h t is = absurd (cc)
each8 false true c d e f g h t is = absurd (cc)
each8 false false true d e f g h t is = absurd (cc)
each8 false false false true e f g h t is = absurd (cc)
each8 false false false false true f g h t is = absurd (cc)
each8 false false false false false true g h t is = absurd (cc)
each8 false false false false false false true h t is = absurd (cc)
each8 false false false false false false false true t is = absurd (cc)
each8 false false false false false false false false t is = (refl, refl, refl, refl, refl, refl, refl, refl)

none_set : (x : ℕ) → x < 256 → (x / 128) % 2 ≢ 1 → (x / 64) % 2 ≢ 1 → (x / 32) % 2 ≢ 1 → (x / 16) % 2 ≢ 1 → (x / 8) % 2 ≢ 1 → (x / 4) % 2 ≢ 1 → (x / 2) % 2 ≢ 1 → (x / 1) % 2 ≢ 1 → x ≡ 0
none_set x l a b c d e f g h = omega arith

cleared_octet : (x : ℕ) (t : List Bool) → x < 256 → all_false (bit x 7 ∷ bit x 6 ∷ bit x 5 ∷ bit x 4 ∷ bit x 3 ∷ bit x 2 ∷ bit x 1 ∷ bit x 0 ∷ t) ≡ true → x ≡ 0
cleared_octet x t l is =
    let each = each8 (bit x 7) (bit x 6) (bit x 5) (bit x 4) (bit x 3) (bit x 2) (bit x 1) (bit x 0) t is in
    none_set x l (not_set x 7 each.0) (not_set x 6 each.1) (not_set x 5 each.2) (not_set x 4 each.3) (not_set x 3 each.4) (not_set x 2 each.5) (not_set x 1 each.6) (not_set x 0 each.7)

pub set_octet : (x : ℕ) (xs : List ℕ) → x < 256 → x ≢ 0 → all_false (bits_of (x ∷ xs)) ≡ false
set_octet x xs l some = by_cases (all_false (bits_of (x ∷ xs))) refl where
  by_cases : (b : Bool) → all_false (bits_of (x ∷ xs)) ≡ b → b ≡ false
  by_cases true e = absurd (some (cleared_octet x (bits_of xs) l e))
  by_cases false e = refl

-- ---- the first bits, and those after them

drop_bits : (k m : ℕ) (d : List ℕ) → m ≡ 8 * k → drop m (bits_of d) ≡ bits_of (drop k d)
drop_bits zero m d e = let h : m ≡ 0 = omega arith in rw h refl
drop_bits (suc k) m [] e = drop_none Bool m
drop_bits (suc k) m (x ∷ d) e = let h : m ≡ suc (suc (suc (suc (suc (suc (suc (suc (8 * k)))))))) = omega arith in rw h (drop_bits k (8 * k) d refl)

take_bits : (k m : ℕ) (d : List ℕ) → m ≡ 8 * k → take m (bits_of d) ≡ bits_of (take k d)
take_bits zero m d e = let h : m ≡ 0 = omega arith in rw h refl
take_bits (suc k) m [] e = take_none Bool m
take_bits (suc k) m (x ∷ d) e =
    let h : m ≡ suc (suc (suc (suc (suc (suc (suc (suc (8 * k)))))))) = omega arith in
    rw h (ap (λ (l : List Bool). bit x 7 ∷ bit x 6 ∷ bit x 5 ∷ bit x 4 ∷ bit x 3 ∷ bit x 2 ∷ bit x 1 ∷ bit x 0 ∷ l) (take_bits k (8 * k) d refl))

drop_take : (m n : ℕ) (s : List Bool) → drop m (take n s) ≡ take (n - m) (drop m s)
drop_take zero n s = ap (λ (k : ℕ). take k s) (omega arith)
drop_take (suc m) zero s = let h : 0 - suc m ≡ 0 = omega arith in rw h refl
drop_take (suc m) (suc n) [] = sym (take_none Bool (suc n - suc m))
drop_take (suc m) (suc n) (x ∷ s) = drop_take m n s ∙ ap (λ (k : ℕ). take k (drop m s)) (omega arith)

pub take_all : {A : Type 0} (n : ℕ) (s : List A) → length s ≤ n → take n s ≡ s
take_all {A} n [] le = take_none A n
take_all zero (x ∷ s) le = absurd (omega arith)
take_all {A} (suc n) (x ∷ s) le = ap (λ (l : List A). x ∷ l) (take_all n s (omega arith))

take_less : (m n : ℕ) (s : List Bool) → m ≤ n → take m (take n s) ≡ take m s
take_less zero n s le = refl
take_less (suc m) zero s le = absurd (omega arith)
take_less (suc m) (suc n) [] le = refl
take_less (suc m) (suc n) (x ∷ s) le = ap (λ (l : List Bool). x ∷ l) (take_less m n s (omega arith))

drop_past : (n : ℕ) (s : List Bool) → length s ≤ n → drop n s ≡ []
drop_past zero [] le = refl
drop_past (suc n) [] le = refl
drop_past zero (x ∷ s) le = absurd (omega arith)
drop_past (suc n) (x ∷ s) le = drop_past n s (omega arith)

-- of k octets, and of the bits from m = 8 * k on
pub clear_few : (k m u : ℕ) (d : List ℕ) → m ≡ 8 * k → length d ≤ k → all_false (drop m (used u d)) ≡ true
clear_few k m u d e le = ap all_false (drop_past m (used u d) (omega (arith, length-take (length (bits_of d) - u) (bits_of d), length-bits_of d)))

pub clear_many : (k m u : ℕ) (d : List ℕ) → m ≡ 8 * k → k < length d → drop m (used u d) ≡ used u (drop k d)
clear_many k m u d e less =
    drop_take m (length (bits_of d) - u) (bits_of d)
    ∙ ap (λ (s : List Bool). take (length (bits_of d) - u - m) s) (drop_bits k m d e)
    ∙ ap (λ (n : ℕ). take n (bits_of (drop k d))) (omega (arith, length-bits_of d, length-bits_of (drop k d), length-drop k d))

pub kept_few : (k m u : ℕ) (d : List ℕ) → m ≡ 8 * k → length d ≤ k → take m (used u d) ≡ used u d
kept_few k m u d e le = take_all m (used u d) (omega (arith, length-take (length (bits_of d) - u) (bits_of d), length-bits_of d))

pub kept_many : (k m u : ℕ) (d : List ℕ) → m ≡ 8 * k → u ≤ 7 → k < length d → take m (used u d) ≡ bits_of (take k d)
kept_many k m u d e le less = take_less m (length (bits_of d) - u) (bits_of d) (omega (arith, length-bits_of d)) ∙ take_bits k m d e

-- ---- octets one after another

bits_at : (xs : List ℕ) (i : ℕ) → i < length xs → drop i xs ≡ get_or xs i 0 ∷ drop (i + 1) xs
bits_at xs i less = drop-cons xs i 0 less ∙ ap (λ (k : ℕ). get_or xs i 0 ∷ drop k xs) (sym (add-one i))

pub set_at : (xs : List ℕ) (i : ℕ) → i < length xs → (get_or xs i 0 ≡ 0 → ⊥) → get_or xs i 0 < 256 → all_false (bits_of (drop i xs)) ≡ false
set_at xs i less some fits = ap (λ (l : List ℕ). all_false (bits_of l)) (bits_at xs i less) ∙ set_octet (get_or xs i 0) (drop (i + 1) xs) fits some

pub zero_at : (xs : List ℕ) (i : ℕ) → i < length xs → get_or xs i 0 ≡ 0 → all_false (bits_of (drop i xs)) ≡ all_false (bits_of (drop (i + 1) xs))
zero_at xs i less none = ap (λ (l : List ℕ). all_false (bits_of l)) (bits_at xs i less) ∙ zero_octet (get_or xs i 0) (drop (i + 1) xs) none

-- the octets before the last, and the last
split_last : (xs : List ℕ) → 1 ≤ length xs → take (length xs - 1) xs ++ get_or xs (length xs - 1) 0 ∷ [] ≡ xs
split_last [] le = absurd (omega arith)
split_last (x ∷ []) le = refl
split_last (x ∷ y ∷ xs) le =
    let e : length (x ∷ y ∷ xs) - 1 ≡ suc (length (y ∷ xs) - 1) = omega arith in
    rw e (ap (λ (l : List ℕ). x ∷ l) (split_last (y ∷ xs) (omega arith)))

pub used-split : (u : ℕ) (xs : List ℕ) → u ≤ 7 → 1 ≤ length xs → all_false (used u xs) ≡ (all_false (bits_of (take (length xs - 1) xs)) && all_false (take (8 - u) (bits_of (get_or xs (length xs - 1) 0 ∷ []))))
used-split u xs le some =
    ap (λ (l : List ℕ). all_false (used u l)) (sym (split_last xs some))
    ∙ ap all_false (used-last u (take (length xs - 1) xs) (get_or xs (length xs - 1) 0) le)
    ∙ all_false-append (bits_of (take (length xs - 1) xs)) (take (8 - u) (bits_of (get_or xs (length xs - 1) 0 ∷ [])))
