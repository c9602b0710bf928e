-- Lists of the bits of octets.
use Rattle.std.proofs.Common.{◌≡◌, drop-cons, ℕ, zero, suc, ◌+◌, ◌-◌, ◌*◌, ◌/◌, ◌%◌, ◌<◌, ◌≤◌, Bool, true, false, not, ◌&&◌, List, [], ◌∷◌, length, take, drop, get_or, refl, sym, ap, ◌∙◌, arith, length-drop, length-take}
use Rattle.oer_model.specs.Bits.{all_false, bit, bits_of, first_bit, later_bits, octets_for, spare_bits}
use Rattle.oer_model.specs.Checking.{ends_set}
use Rattle.oer_model.proofs.reading.Parts.{length-bits_of}
use Rattle.oer_checker.specs.BitView.{bits_in}
use Rattle.oer_checker.specs.Steps.{last_are_zero}
use Rattle.oer_checker.specs.declared.bits.Bits.{Bits}

take_none : (A : Type 0) (m : ℕ) → take {A = A} m [] ≡ []
take_none A zero = refl
take_none A (suc m) = refl

pub drop_none : (A : Type 0) (m : ℕ) → drop {A = A} m [] ≡ []
drop_none A zero = refl
drop_none A (suc m) = refl

drop_bits : (k m : ℕ) (d : List ℕ) → m ≡ 8 * k → drop m (bits_of d) ≡ bits_of (drop k d)
drop_bits zero m d e = let h : m ≡ 0 = omega arith in rw h refl
drop_bits (suc k) m [] e = drop_none Bool m
drop_bits (suc k) m (x ∷ d) e = let h : m ≡ suc (suc (suc (suc (suc (suc (suc (suc (8 * k)))))))) = omega arith in rw h (drop_bits k (8 * k) d refl)

pub take_all : {A : Type 0} (n : ℕ) (s : List A) → length s ≤ n → take n s ≡ s
take_all {A} n [] le = take_none A n
take_all zero (x ∷ s) le = absurd (omega arith)
take_all {A} (suc n) (x ∷ s) le = ap (λ (l : List A). x ∷ l) (take_all n s (omega arith))

pub drop_past : {A : Type 0} (n : ℕ) (s : List A) → length s ≤ n → drop n s ≡ []
drop_past zero [] le = refl
drop_past (suc n) [] le = refl
drop_past zero (x ∷ s) le = absurd (omega arith)
drop_past (suc n) (x ∷ s) le = drop_past n s (omega arith)

pub drop_sum : {A : Type 0} (a b n : ℕ) (s : List A) → n ≡ a + b → drop n s ≡ drop b (drop a s)
drop_sum {A} zero b n s e = let h : n ≡ b = omega arith in ap (λ (k : ℕ). drop k s) h
drop_sum {A} (suc a) b n [] e = drop_none A n ∙ sym (drop_none A b)
drop_sum {A} (suc a) b zero (x ∷ s) e = absurd (omega arith)
drop_sum {A} (suc a) b (suc n) (x ∷ s) e = drop_sum a b n s (omega arith)

pub drop_next : (n : ℕ) (s : List Bool) → drop (n + 1) s ≡ later_bits (drop n s)
drop_next n s = drop_sum n 1 (n + 1) s refl ∙ one (drop n s) where
  one : (t : List Bool) → drop 1 t ≡ later_bits t
  one [] = refl
  one (x ∷ t) = refl

first_within : (f t : ℕ) (s : List Bool) → f < t → first_bit (drop f (take t s)) ≡ first_bit (drop f s)
first_within f t [] less = ap (λ (l : List Bool). first_bit (drop f l)) (take_none Bool t)
first_within zero zero (x ∷ s) less = absurd (omega arith)
first_within zero (suc t) (x ∷ s) less = refl
first_within (suc f) zero (x ∷ s) less = absurd (omega arith)
first_within (suc f) (suc t) (x ∷ s) less = first_within f t s (omega arith)

-- the first bit of those from one to another
pub first_there : (f t : ℕ) (s : List Bool) → f < t → first_bit (drop f (take t s)) ≡ first_bit (drop f s)
first_there f t s less = first_within f t s less

pub none_there : (f t : ℕ) (s : List Bool) → t ≤ f → drop f (take t s) ≡ []
none_there f t s le = drop_past f (take t s) (omega (arith, length-take t s))

pub all_false_by : (s : List Bool) → all_false s ≡ (not (first_bit s) && all_false (later_bits s))
all_false_by [] = refl
all_false_by (x ∷ s) = refl

-- ---- one bit

octet_bit : (x : ℕ) (rest : List ℕ) (r : ℕ) → r < 8 → first_bit (drop r (bits_of (x ∷ rest))) ≡ bit x (7 - r)
octet_bit x rest zero l = refl
octet_bit x rest (suc zero) l = refl
octet_bit x rest (suc (suc zero)) l = refl
octet_bit x rest (suc (suc (suc zero))) l = refl
octet_bit x rest (suc (suc (suc (suc zero)))) l = refl
octet_bit x rest (suc (suc (suc (suc (suc zero))))) l = refl
octet_bit x rest (suc (suc (suc (suc (suc (suc zero)))))) l = refl
octet_bit x rest (suc (suc (suc (suc (suc (suc (suc zero))))))) l = refl
octet_bit x rest (suc (suc (suc (suc (suc (suc (suc (suc r)))))))) l = absurd (omega arith)

split_at : (i : ℕ) (xs : List ℕ) → drop i (bits_of xs) ≡ drop (i % 8) (bits_of (drop (i / 8) xs))
split_at i xs = drop_sum (8 * (i / 8)) (i % 8) i (bits_of xs) (omega arith) ∙ ap (drop (i % 8)) (drop_bits (i / 8) (8 * (i / 8)) xs refl)

pub bit_there : (i : ℕ) (xs : List ℕ) (x : ℕ) (rest : List ℕ) → drop (i / 8) xs ≡ x ∷ rest → bit x (7 - i % 8) ≡ first_bit (drop i (bits_of xs))
bit_there i xs x rest e = sym (octet_bit x rest (i % 8) (omega arith)) ∙ ap (λ (l : List ℕ). first_bit (drop (i % 8) (bits_of l))) (sym e) ∙ ap first_bit (sym (split_at i xs))

pub bit_at : (i : ℕ) (xs : List ℕ) → i / 8 < length xs → bit (get_or xs (i / 8) 0) (7 - i % 8) ≡ first_bit (drop i (bits_of xs))
bit_at i xs less = bit_there i xs (get_or xs (i / 8) 0) (drop (suc (i / 8)) xs) (drop-cons xs (i / 8) 0 less)

pub bit_past : (i : ℕ) (xs : List ℕ) → length xs ≤ i / 8 → false ≡ first_bit (drop i (bits_of xs))
bit_past i xs le = ap first_bit (sym (drop_past i (bits_of xs) (omega (arith, length-bits_of xs))))

-- ---- the last bits

last_one : (x : Bool) (s : List Bool) → ends_set (x ∷ s) ≡ first_bit (drop (length s) (x ∷ s))
last_one x [] = refl
last_one x (y ∷ s) = last_one y s

ends_by : (s : List Bool) (n : ℕ) → length s ≡ suc n → ends_set s ≡ first_bit (drop n s)
ends_by [] n e = absurd (omega arith)
ends_by (x ∷ s) n e = last_one x s ∙ ap (λ (k : ℕ). first_bit (drop k (x ∷ s))) (omega arith)

pub ends_last : (from : ℕ) (s : List Bool) → from < length s → ends_set (drop from s) ≡ first_bit (drop (length s - 1) s)
ends_last from s less =
    ends_by (drop from s) (length s - 1 - from) (omega (arith, length-drop from s))
    ∙ ap first_bit (sym (drop_sum from (length s - 1 - from) (length s - 1) s (omega arith)))

pub ends_none : (from : ℕ) (s : List Bool) → length s ≤ from → true ≡ ends_set (drop from s)
ends_none from s le = ap ends_set (sym (drop_past from s le))

-- the last bits of the last octet
pub last_octet : (u : ℕ) (xs : List ℕ) → u ≤ 7 → all_false (drop (8 - u) (take 8 (bits_of (drop (length xs - 1) xs)))) ≡ last_are_zero u xs
last_octet u [] le = ap (λ (l : List Bool). all_false l) (drop_none Bool (8 - u)) ∙ ap all_false (sym (drop_none Bool (0 - u)))
last_octet u (x ∷ xs) le =
    let k : ℕ = length (x ∷ xs) - 1 in
    let one : length (drop k (x ∷ xs)) ≡ 1 = omega (arith, length-drop k (x ∷ xs)) in
    ap (λ (l : List Bool). all_false (drop (8 - u) l)) (take_all 8 (bits_of (drop k (x ∷ xs))) (omega (arith, length-bits_of (drop k (x ∷ xs)), one)))
    ∙ ap (λ (l : List Bool). all_false (drop (8 - u) l)) (sym (drop_bits k (8 * k) (x ∷ xs) refl))
    ∙ ap all_false (sym (drop_sum (8 * k) (8 - u) (length (bits_of (x ∷ xs)) - u) (bits_of (x ∷ xs)) (omega (arith, length-bits_of (x ∷ xs)))))

-- the bits past the first n
pub spare_last : (n : ℕ) (w : List ℕ) → length w ≡ octets_for n → all_false (drop n (bits_of w)) ≡ last_are_zero (spare_bits n) w
unfolding octets_for
spare_last n w e = ap (λ (k : ℕ). all_false (drop k (bits_of w))) (omega (arith, length-bits_of w))

pub none_left : (xs : List ℕ) → take (length xs - length xs) (drop (length xs) xs) ≡ []
none_left xs = let e : length xs - length xs ≡ 0 = omega arith in ap (λ (k : ℕ). take k (drop (length xs) xs)) e

-- ---- bits from one to another

pub bit_in : (b : Bits) (i : ℕ) → b.from ≡ 0 → i < b.to → first_bit (drop i (bits_in b)) ≡ first_bit (drop i (bits_of b.octets.now))
bit_in b i start less = ap (λ (f : ℕ). first_bit (drop i (drop f (take b.to (bits_of b.octets.now))))) start ∙ first_there i b.to (bits_of b.octets.now) less

pub clear_set : (b : Bits) (i from : ℕ) (r : Bool) → b.from ≡ 0 → i < b.to → r ≡ first_bit (drop i (bits_of b.octets.now)) → r ≡ true → all_false (drop i (bits_in b)) ≡ all_false (drop from (bits_in b)) → false ≡ all_false (drop from (bits_in b))
clear_set b i from r start less is set inv =
    ap (λ (x : Bool). not x && all_false (later_bits (drop i (bits_in b)))) (sym set ∙ is ∙ sym (bit_in b i start less)) ∙ sym (all_false_by (drop i (bits_in b))) ∙ inv

pub clear_next : (b : Bits) (i from : ℕ) (r : Bool) → b.from ≡ 0 → i < b.to → r ≡ first_bit (drop i (bits_of b.octets.now)) → r ≡ false → all_false (drop i (bits_in b)) ≡ all_false (drop from (bits_in b)) → all_false (drop (i + 1) (bits_in b)) ≡ all_false (drop from (bits_in b))
clear_next b i from r start less is unset inv =
    ap all_false (drop_next i (bits_in b))
    ∙ ap (λ (x : Bool). not x && all_false (later_bits (drop i (bits_in b)))) (sym unset ∙ is ∙ sym (bit_in b i start less)) ∙ sym (all_false_by (drop i (bits_in b))) ∙ inv

pub clear_end : (b : Bits) (i from : ℕ) → b.from ≡ 0 → b.to ≤ i → all_false (drop i (bits_in b)) ≡ all_false (drop from (bits_in b)) → true ≡ all_false (drop from (bits_in b))
clear_end b i from start le inv =
    ap all_false (sym (none_there i b.to (bits_of b.octets.now) le)) ∙ ap (λ (f : ℕ). all_false (drop i (drop f (take b.to (bits_of b.octets.now))))) (sym start) ∙ inv

pub ends_bit : (b : Bits) (from : ℕ) (r : Bool) → b.from ≡ 0 → length (bits_in b) ≡ b.to → from < b.to → r ≡ first_bit (drop (b.to - 1) (bits_of b.octets.now)) → r ≡ ends_set (drop from (bits_in b))
ends_bit b from r start many less is =
    is ∙ sym (bit_in b (b.to - 1) start (omega arith))
    ∙ ap (λ (n : ℕ). first_bit (drop (n - 1) (bits_in b))) (sym many)
    ∙ sym (ends_last from (bits_in b) (omega (arith, many)))
