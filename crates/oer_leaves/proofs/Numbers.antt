-- The lowest octets of numbers.
use Rattle.std.proofs.Common.{◌≡◌, ℕ, suc, ◌+◌, ◌-◌, ◌*◌, ◌/◌, ◌%◌, ◌^◌, ◌<◌, ◌≤◌, List, [], ◌∷◌, ◌++◌, length, drop, take, refl, sym, ap, ◌∙◌, arith, append_assoc, set, get_or, Bool, length-append, pow-add, mul_assoc}
use Rattle.std.proofs.lemmas.List.{take_all, drop_all, drop-set, drop_more, length-drop}
use Rattle.std.specs.Int.{w64, to_be_bytes}
use Rattle.oer_units.specs.Least.{base128_octets, big_endian, length_octets, subidentifier_octets}
use Rattle.oer_units.proofs.Lowest.{low_above}
use Rattle.oer_units.proofs.Numbers.{length-big_endian}
use Rattle.oer_units.proofs.Needed.{last_bytes}
use Rattle.oer_units.proofs.WrittenDigits.{upper, upper_step, base128_is}
use Rattle.oer_model.specs.Bits.{octets_for, padded, spare_bits}
use Rattle.oer_model.specs.Canonical.{bitmap_octets}
use Rattle.oer_model.proofs.bits.LeastBits.{length-padded}

-- the lowest octets are those of the lowest 64 bits
low_bits : (n k : ℕ) → k ≤ 8 → big_endian k (n % 2 ^ 64) ≡ big_endian k n
low_bits n k le =
    let sum : k + (8 - k) ≡ 8 = omega arith in
    let power : 256 ^ k * 256 ^ (8 - k) ≡ 2 ^ 64 = sym (pow-add 256 k (8 - k)) ∙ ap (λ (i : ℕ). 256 ^ i) sum in
    let product : 256 ^ k * (256 ^ (8 - k) * (n / 2 ^ 64)) ≡ 2 ^ 64 * (n / 2 ^ 64) = sym (mul_assoc (256 ^ k) (256 ^ (8 - k)) (n / 2 ^ 64)) ∙ ap (λ (x : ℕ). x * (n / 2 ^ 64)) power in
    let parts : n % 2 ^ 64 + 2 ^ 64 * (n / 2 ^ 64) ≡ n = omega arith in
    let whole : n % 2 ^ 64 + 256 ^ k * (256 ^ (8 - k) * (n / 2 ^ 64)) ≡ n = ap (λ (x : ℕ). n % 2 ^ 64 + x) product ∙ parts in
    sym (low_above k (n % 2 ^ 64) (256 ^ (8 - k) * (n / 2 ^ 64))) ∙ ap (λ (x : ℕ). big_endian k x) whole

pub last_octets : (n k : ℕ) (bytes : List ℕ) → k ≤ 8 → bytes ≡ to_be_bytes w64 (n % 2 ^ 64) → big_endian k n ≡ take (8 - (8 - k)) (drop (8 - k) bytes)
last_octets n k bytes le is =
    let same : drop (8 - k) bytes ≡ big_endian k n = ap (λ l. drop (8 - k) l) is ∙ last_bytes 8 k (n % 2 ^ 64) le ∙ low_bits n k le in
    sym (ap (λ l. take (8 - (8 - k)) l) same ∙ take_all (8 - (8 - k)) (big_endian k n) (omega (arith, length-big_endian k n)))

-- one digit more
pub fill_more : (buffer whole : List ℕ) (at rest : ℕ) → length buffer ≡ 20 → at ≤ 19 → 1 ≤ at → 0 < rest → upper rest ++ drop at buffer ≡ whole → upper (rest / 128) ++ drop (at - 1) (set buffer (at - 1) (128 + rest % 128)) ≡ whole
fill_more buffer whole at rest size room one some h =
    let back : at - 1 + 1 ≡ at = omega arith in
    let inside : at - 1 < length buffer = omega arith in
    let placed : drop (at - 1) (set buffer (at - 1) (128 + rest % 128)) ≡ (128 + rest % 128) ∷ drop at buffer = drop-set buffer (at - 1) (128 + rest % 128) inside ∙ ap (λ (i : ℕ). (128 + rest % 128) ∷ drop i buffer) back in
    rw placed (sym (append_assoc (upper (rest / 128)) ((128 + rest % 128) ∷ []) (drop at buffer)) ∙ ap (λ (l : List ℕ). l ++ drop at buffer) (sym (upper_step rest some)) ∙ h)

pub fill_all : (buffer whole : List ℕ) (at rest : ℕ) → rest ≤ 0 → upper rest ++ drop at buffer ≡ whole → drop at buffer ≡ whole
fill_all buffer whole at rest none h = let zero_left : rest ≡ 0 = omega arith in ap (λ (r : ℕ). upper r ++ drop at buffer) (sym zero_left) ∙ h

-- the subidentifier of two arcs, by its last digit and the others
pub two_arcs : (a b from : ℕ) (zeros buffer : List ℕ) → length zeros ≡ 20 → length buffer ≡ 20 → from ≤ 19
    → drop from buffer ≡ upper (40 * (a / 128) + b / 128 + (40 * (a % 128) + b % 128) / 128) ++ drop 19 (set zeros 19 ((40 * (a % 128) + b % 128) % 128))
    → base128_octets (40 * a + b) ≡ take (20 - from) (drop from buffer)
two_arcs a b from zeros buffer z size le is =
    let n : ℕ = 40 * a + b in
    let high : 40 * (a / 128) + b / 128 + (40 * (a % 128) + b % 128) / 128 ≡ n / 128 = omega arith in
    let low : (40 * (a % 128) + b % 128) % 128 ≡ n % 128 = omega arith in
    let none : drop 20 zeros ≡ [] = drop_all 20 zeros (omega arith) in
    let placed : drop 19 (set zeros 19 (n % 128)) ≡ n % 128 ∷ [] = drop-set zeros 19 (n % 128) (omega arith) ∙ ap (λ (l : List ℕ). n % 128 ∷ l) none in
    let e : drop from buffer ≡ base128_octets n = is ∙ ap (λ (m : ℕ). upper m ++ drop 19 (set zeros 19 ((40 * (a % 128) + b % 128) % 128))) high ∙ ap (λ (m : ℕ). upper (n / 128) ++ drop 19 (set zeros 19 m)) low ∙ ap (λ (l : List ℕ). upper (n / 128) ++ l) placed ∙ sym (base128_is n) in
    sym (take_all (20 - from) (drop from buffer) (omega (arith, length-drop from buffer)) ∙ e)

pub arcs_step : (xs : List ℕ) (i d : ℕ) → i < length xs → subidentifier_octets (drop i xs) ≡ base128_octets (get_or xs i d) ++ subidentifier_octets (drop (i + 1) xs)
arcs_step xs i d h = ap subidentifier_octets (drop_more xs i d h)

-- the contents of a BIT STRING
pub bitmap_is : (s : List Bool) (n m u : ℕ) → m ≡ suc n → n ≡ octets_for (length s) → u ≡ spare_bits (length s) → bitmap_octets s ≡ (length_octets m ++ u ∷ []) ++ padded s
unfolding bitmap_octets
bitmap_is s n m u more e f =
    let l : suc (length (padded s)) ≡ m = ap suc (length-padded s ∙ sym e) ∙ sym more in
    ap (λ k. length_octets k ++ spare_bits (length s) ∷ padded s) l ∙ ap (λ k. length_octets m ++ k ∷ padded s) (sym f) ∙ sym (append_assoc (length_octets m) (u ∷ []) (padded s))

pub bitmap_counted : (s : List Bool) (count m u : ℕ) → count ≡ length s → m ≡ (count + 7) / 8 + 1 → u ≡ spare_bits count → bitmap_octets s ≡ (length_octets m ++ u ∷ []) ++ padded s
unfolding octets_for
bitmap_counted s count m u is e f = bitmap_is s (octets_for (length s)) m u (e ∙ ap (λ n. (n + 7) / 8 + 1) is ∙ omega arith) refl (f ∙ ap spare_bits is)

pub bitmap_long : (s : List Bool) (count : ℕ) → count ≡ length s → ((count + 7) / 8 + 1 < 2 ^ 64 → ⊥) → 2 ^ 64 ≤ length (bitmap_octets s)
unfolding octets_for bitmap_octets
bitmap_long s count is h =
    let many : 2 ^ 64 ≤ (count + 7) / 8 + 1 = omega (arith, h) in
    omega (arith, many, ap (λ n. (n + 7) / 8) is, length-padded s, length-append (length_octets (length (spare_bits (length s) ∷ padded s))) (spare_bits (length s) ∷ padded s))

pub bits_padded : (a b : List Bool) (first rest n : ℕ) → first ≡ length a → rest ≡ length b → n ≡ (first + rest + 7) / 8 → n ≡ length (padded (a ++ b))
unfolding octets_for
bits_padded a b first rest n f r e = e ∙ ap (λ (k : ℕ). (k + 7) / 8) (let sum : first + rest ≡ length (a ++ b) = omega (arith, f, r, length-append a b) in sum) ∙ sym (length-padded (a ++ b))

pub more_bits : (done n : ℕ) (whole part a b : List Bool) → part ≡ a ++ b → n ≡ length a → done + length part ≡ length whole → done + n + length b ≡ length whole
more_bits done n whole part a b is e h = omega (arith, ap length is, length-append a b, e, h)
