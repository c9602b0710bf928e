-- Bits of digits 0 and 1.
use Rattle.std.proofs.Common.{◌≡◌, ℕ, zero, suc, ◌+◌, ◌-◌, ◌*◌, ◌/◌, ◌%◌, ◌^◌, ◌<◌, ◌≤◌, List, [], ◌∷◌, length, take, drop, map, Bool, true, false, cond, eqb, refl, ap, ◌∙◌, arith, sub-one}
use Rattle.oer_model.specs.Bits.{bit, bits_of, octets_for}
use Rattle.oer_literals.specs.Bits.{is_one, octet_of, octets_more}

abbrev one_if : Bool → ℕ
one_if b = cond b 1 0

at_most_one : (b : Bool) → one_if b ≤ 1
at_most_one true = omega arith
at_most_one false = omega arith

tells_bit : (b : Bool) → eqb (one_if b) 1 ≡ b
tells_bit true = refl
tells_bit false = refl

bit_is : (x i : ℕ) (b : Bool) → (x / 2 ^ i) % 2 ≡ one_if b → bit x i ≡ b
unfolding bit
bit_is x i b e = ap (λ n. eqb n 1) e ∙ tells_bit b

abbrev eight : Bool → Bool → Bool → Bool → Bool → Bool → Bool → Bool → ℕ
eight a b c d e f g h = 128 * one_if a + 64 * one_if b + 32 * one_if c + 16 * one_if d + 8 * one_if e + 4 * one_if f + 2 * one_if g + one_if h

octet_bits : (a b c d e f g h : Bool) (xs : List ℕ) → bits_of (eight a b c d e f g h ∷ xs) ≡ a ∷ b ∷ c ∷ d ∷ e ∷ f ∷ g ∷ h ∷ bits_of xs
octet_bits a b c d e f g h xs =
    let la = at_most_one a in
    let lb = at_most_one b in
    let lc = at_most_one c in
    let ld = at_most_one d in
    let le = at_most_one e in
    let lf = at_most_one f in
    let lg = at_most_one g in
    let lh = at_most_one h in
    let b7 = bit_is (eight a b c d e f g h) 7 a (omega arith) in
    let b6 = bit_is (eight a b c d e f g h) 6 b (omega arith) in
    let b5 = bit_is (eight a b c d e f g h) 5 c (omega arith) in
    let b4 = bit_is (eight a b c d e f g h) 4 d (omega arith) in
    let b3 = bit_is (eight a b c d e f g h) 3 e (omega arith) in
    let b2 = bit_is (eight a b c d e f g h) 2 f (omega arith) in
    let b1 = bit_is (eight a b c d e f g h) 1 g (omega arith) in
    let b0 = bit_is (eight a b c d e f g h) 0 h (omega arith) in
    cc

pub bits_whole : (n : ℕ) (w : List ℕ) → length w ≤ n → take (length w) (bits_of (octets_more n w)) ≡ map is_one w
unfolding octets_more octet_of
bits_whole zero [] l = refl
bits_whole zero (a ∷ w) l = absurd (omega arith)
bits_whole (suc n) [] l = refl
bits_whole (suc n) (a ∷ []) l = ap (take 1) (octet_bits (is_one a) false false false false false false false (octets_more n []))
bits_whole (suc n) (a ∷ b ∷ []) l = ap (take 2) (octet_bits (is_one a) (is_one b) false false false false false false (octets_more n []))
bits_whole (suc n) (a ∷ b ∷ c ∷ []) l = ap (take 3) (octet_bits (is_one a) (is_one b) (is_one c) false false false false false (octets_more n []))
bits_whole (suc n) (a ∷ b ∷ c ∷ d ∷ []) l = ap (take 4) (octet_bits (is_one a) (is_one b) (is_one c) (is_one d) false false false false (octets_more n []))
bits_whole (suc n) (a ∷ b ∷ c ∷ d ∷ e ∷ []) l = ap (take 5) (octet_bits (is_one a) (is_one b) (is_one c) (is_one d) (is_one e) false false false (octets_more n []))
bits_whole (suc n) (a ∷ b ∷ c ∷ d ∷ e ∷ f ∷ []) l = ap (take 6) (octet_bits (is_one a) (is_one b) (is_one c) (is_one d) (is_one e) (is_one f) false false (octets_more n []))
bits_whole (suc n) (a ∷ b ∷ c ∷ d ∷ e ∷ f ∷ g ∷ []) l = ap (take 7) (octet_bits (is_one a) (is_one b) (is_one c) (is_one d) (is_one e) (is_one f) (is_one g) false (octets_more n []))
bits_whole (suc n) (a ∷ b ∷ c ∷ d ∷ e ∷ f ∷ g ∷ h ∷ w) l =
    ap (take (length (a ∷ b ∷ c ∷ d ∷ e ∷ f ∷ g ∷ h ∷ w))) (octet_bits (is_one a) (is_one b) (is_one c) (is_one d) (is_one e) (is_one f) (is_one g) (is_one h) (octets_more n w))
    ∙ ap (λ s. is_one a ∷ is_one b ∷ is_one c ∷ is_one d ∷ is_one e ∷ is_one f ∷ is_one g ∷ is_one h ∷ s) (bits_whole n w (omega arith))

pub octets_count : (n : ℕ) (w : List ℕ) → length w ≤ n → length (octets_more n w) ≡ octets_for (length w)
unfolding octets_more octets_for
octets_count zero [] l = refl
octets_count zero (a ∷ w) l = absurd (omega arith)
octets_count (suc n) [] l = refl
octets_count (suc n) (a ∷ []) l = ap suc (octets_count n [] (omega arith))
octets_count (suc n) (a ∷ b ∷ []) l = ap suc (octets_count n [] (omega arith))
octets_count (suc n) (a ∷ b ∷ c ∷ []) l = ap suc (octets_count n [] (omega arith))
octets_count (suc n) (a ∷ b ∷ c ∷ d ∷ []) l = ap suc (octets_count n [] (omega arith))
octets_count (suc n) (a ∷ b ∷ c ∷ d ∷ e ∷ []) l = ap suc (octets_count n [] (omega arith))
octets_count (suc n) (a ∷ b ∷ c ∷ d ∷ e ∷ f ∷ []) l = ap suc (octets_count n [] (omega arith))
octets_count (suc n) (a ∷ b ∷ c ∷ d ∷ e ∷ f ∷ g ∷ []) l = ap suc (octets_count n [] (omega arith))
octets_count (suc n) (a ∷ b ∷ c ∷ d ∷ e ∷ f ∷ g ∷ h ∷ w) l = let r = octets_count n w (omega arith) in ap suc r ∙ omega arith

-- ---- the turns of the loop

pub octets_done : (n : ℕ) (w : List ℕ) → length w ≤ 0 → octets_more n w ≡ []
unfolding octets_more
octets_done zero w h = refl
octets_done (suc n) [] h = refl
octets_done (suc n) (c ∷ cs) h = absurd (omega arith)

pub octets_turn : (n : ℕ) (w : List ℕ) → 0 < n → (length w ≡ 0 → ⊥) → octets_more n w ≡ octet_of w ∷ octets_more (n - 1) (drop 8 w)
unfolding octets_more
octets_turn zero w some h = absurd (omega arith)
octets_turn (suc n) [] some h = absurd (h refl)
octets_turn (suc n) (c ∷ cs) some h = rw sub-one refl

pub octets_over : (n : ℕ) (w : List ℕ) → n ≤ 0 → octets_more n w ≡ []
unfolding octets_more
octets_over zero w h = refl
octets_over (suc n) w h = absurd (omega arith)
