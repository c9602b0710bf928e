-- Digits in base 128, one after another.
use Rattle.std.proofs.Common.{◌≡◌, ℕ, zero, suc, ◌+◌, ◌-◌, ◌*◌, ◌/◌, ◌%◌, ◌^◌, ◌<◌, ◌≤◌, false, cond, eqb, List, [], ◌∷◌, ◌++◌, length, set, take, drop, arith, refl, sym, ap, ◌∙◌, append_assoc, length-append, inl, inr}
use Rattle.std.proofs.lemmas.List.{drop-set, length-drop, take_all, drop_all}
use Rattle.std.proofs.Math.Nat.{pow-suc}
use Rattle.std.proofs.lemmas.Bool.{le-ltb, lt-ltb, ne_eqb}
use Rattle.std.proofs.lemmas.Bool.Decides.{eqb_tells}
use Rattle.oer_units.specs.declared.tagging.Tag.{Tag}
use Rattle.oer_units.specs.Spelling.{class_number}
use Rattle.oer_units.specs.Least.{upper_digits, base128_octets, tag_octets}

upper_none : (k : ℕ) → upper_digits k 0 ≡ []
upper_none zero = refl
upper_none (suc k) = refl

-- more room makes no difference
upper_room : (k m n : ℕ) → n ≤ k → n ≤ m → upper_digits k n ≡ upper_digits m n
upper_room zero m n a b = let none : n ≡ 0 = omega arith in rw none (sym (upper_none m))
upper_room (suc k) zero n a b = let none : n ≡ 0 = omega arith in rw none refl
upper_room (suc k) (suc m) n a b = elim (eqb_tells n 0) [
  | inl same ↦ rw same.0 refl
  | inr differs ↦ let some = differs.1 in rw differs.0 (ap (λ (l : List ℕ). l ++ (128 + n % 128) ∷ []) (upper_room k m (n / 128) (omega arith) (omega arith)))
]

-- the upper digits of what is still to be written
abbrev pub upper : ℕ → List ℕ
upper n = upper_digits n n

upper_suc : (m : ℕ) → upper (suc m) ≡ upper (suc m / 128) ++ (128 + suc m % 128) ∷ []
upper_suc m = let some : eqb (suc m) 0 ≡ false = ne_eqb _ _ (λ (h : suc m ≡ 0). omega arith) in rw some (ap (λ (l : List ℕ). l ++ (128 + suc m % 128) ∷ []) (upper_room m (suc m / 128) (suc m / 128) (omega arith) (omega arith)))

pub upper_step : (n : ℕ) → 0 < n → upper n ≡ upper (n / 128) ++ (128 + n % 128) ∷ []
upper_step zero h = absurd (omega arith)
upper_step (suc m) h = upper_suc m

pub base128_is : (n : ℕ) → base128_octets n ≡ upper (n / 128) ++ (n % 128) ∷ []
unfolding base128_octets
base128_is n = ap (λ (l : List ℕ). l ++ (n % 128) ∷ []) (upper_room n (n / 128) (n / 128) (omega arith) (omega arith))

-- one digit less fits one octet less
pub fits_step : (k rest : ℕ) → rest < 128 ^ k → 0 < rest → (1 ≤ k) × (rest / 128 < 128 ^ (k - 1))
fits_step zero rest less some = absurd (omega arith)
fits_step (suc k) rest less some =
    let one : suc k - 1 ≡ k = omega arith in
    let power : 128 ^ suc k ≡ 128 ^ k * 128 = pow-suc 128 k in
    (omega arith, rw one (omega arith))

-- the last digit stands in the buffer
pub fill_first : (buffer : List ℕ) (n : ℕ) → length buffer ≡ 20 → upper (n / 128) ++ drop 19 (set buffer 19 (n % 128)) ≡ base128_octets n
fill_first buffer n size =
    let inside : 19 < length buffer = omega arith in
    let none : drop 20 buffer ≡ [] = drop_all 20 buffer (omega arith) in
    let placed : drop 19 (set buffer 19 (n % 128)) ≡ n % 128 ∷ [] = drop-set buffer 19 (n % 128) inside ∙ ap (λ (l : List ℕ). n % 128 ∷ l) none in
    ap (λ (l : List ℕ). upper (n / 128) ++ l) placed ∙ sym (base128_is n)

-- one digit more does
pub fill_step : (buffer : List ℕ) (at rest n : ℕ) → length buffer ≡ 20 → at ≤ 19 → 1 ≤ at → 0 < rest → upper rest ++ drop at buffer ≡ base128_octets n → upper (rest / 128) ++ drop (at - 1) (set buffer (at - 1) (128 + rest % 128)) ≡ base128_octets n
fill_step buffer at rest n size room one some h =
    let back : at - 1 + 1 ≡ at = omega arith in
    let inside : at - 1 < length buffer = omega arith in
    let placed : drop (at - 1) (set buffer (at - 1) (128 + rest % 128)) ≡ (128 + rest % 128) ∷ drop at buffer = drop-set buffer (at - 1) (128 + rest % 128) inside ∙ ap (λ (i : ℕ). (128 + rest % 128) ∷ drop i buffer) back in
    rw placed (sym (append_assoc (upper (rest / 128)) ((128 + rest % 128) ∷ []) (drop at buffer)) ∙ ap (λ (l : List ℕ). l ++ drop at buffer) (sym (upper_step rest some)) ∙ h)

pub fill_end : (buffer : List ℕ) (at rest n : ℕ) → rest ≤ 0 → upper rest ++ drop at buffer ≡ base128_octets n → drop at buffer ≡ base128_octets n
fill_end buffer at rest n none h = let zero_left : rest ≡ 0 = omega arith in ap (λ (r : ℕ). upper r ++ drop at buffer) (sym zero_left) ∙ h

-- how many digits

pub count_first : (n : ℕ) → 1 + length (upper (n / 128)) ≡ length (base128_octets n)
count_first n = omega (arith, ap length (base128_is n), length-append (upper (n / 128)) (n % 128 ∷ []))

pub count_step : (rest : ℕ) → 0 < rest → length (upper rest) ≡ 1 + length (upper (rest / 128))
count_step rest some = omega (arith, ap length (upper_step rest some), length-append (upper (rest / 128)) ((128 + rest % 128) ∷ []))

pub count_end : (count rest n : ℕ) → rest ≤ 0 → count + length (upper rest) ≡ length (base128_octets n) → count ≡ length (base128_octets n)
count_end count rest n none h = let zero_left : rest ≡ 0 = omega arith in omega (arith, h, ap (λ (r : ℕ). length (upper r)) zero_left)

-- tags

pub tag_short : (t : Tag) → t.number < 63 → tag_octets t ≡ (64 * class_number t.class + t.number) ∷ []
unfolding tag_octets
tag_short t h = ap (λ b. cond b ((64 * class_number t.class + t.number) ∷ []) ((64 * class_number t.class + 63) ∷ base128_octets t.number)) (lt-ltb t.number 63 h)

pub tag_long : (t : Tag) → 63 ≤ t.number → tag_octets t ≡ (64 * class_number t.class + 63) ∷ base128_octets t.number
unfolding tag_octets
tag_long t h = ap (λ b. cond b ((64 * class_number t.class + t.number) ∷ []) ((64 * class_number t.class + 63) ∷ base128_octets t.number)) (le-ltb t.number 63 h)

-- the first octet, before the digits
pub headed_digits : (t : Tag) (buffer : List ℕ) (r class : ℕ) → length buffer ≡ 20 → 1 ≤ r → r ≤ 19 → 63 ≤ t.number → class ≡ 64 * class_number t.class → drop r buffer ≡ base128_octets t.number → take (20 - (r - 1)) (drop (r - 1) (set buffer (r - 1) (class + 63))) ≡ tag_octets t
headed_digits t buffer r class size one room far is h =
    let back : r - 1 + 1 ≡ r = omega arith in
    let inside : r - 1 < length buffer = omega arith in
    let head = class + 63 in
    let placed : drop (r - 1) (set buffer (r - 1) head) ≡ head ∷ base128_octets t.number = drop-set buffer (r - 1) head inside ∙ ap (λ (i : ℕ). head ∷ drop i buffer) back ∙ ap (λ (l : List ℕ). head ∷ l) h in
    let len : length (base128_octets t.number) ≡ 20 - r = omega (arith, ap length h, length-drop r buffer) in
    let all : length (head ∷ base128_octets t.number) ≤ 20 - (r - 1) = omega arith in
    ap (λ (l : List ℕ). take (20 - (r - 1)) l) placed ∙ take_all (20 - (r - 1)) (head ∷ base128_octets t.number) all ∙ ap (λ (c : ℕ). (c + 63) ∷ base128_octets t.number) is ∙ sym (tag_long t far)

pub all_digits : (buffer : List ℕ) (r n : ℕ) → length buffer ≡ 20 → drop r buffer ≡ base128_octets n → take (20 - r) (drop r buffer) ≡ base128_octets n
all_digits buffer r n size h = take_all (20 - r) (drop r buffer) (omega (arith, length-drop r buffer)) ∙ h
