-- The strings and object identifiers that are drawn.
use Rattle.std.proofs.Common.{◌≡◌, ◌⊎◌, inl, inr, ℕ, zero, suc, ◌+◌, ◌/◌, ◌%◌, ◌^◌, ◌<◌, ◌≤◌, List, [], ◌∷◌, ◌++◌, length, map, take, get_or, Bool, cond, true, false, ◌&&◌, leb, ltb, eqb, if◌then◌else◌}
use Rattle.std.proofs.Common.{refl, sym, ap, ◌∙◌, subst, lit<, arith}
use Rattle.std.proofs.lemmas.Bool.{eqb-false, eqb-true, le-leb, lt-ltb, ltb-true}
use Rattle.std.proofs.lemmas.List.{append-nil, length-map, map_more}
use Rattle.std.proofs.lemmas.Nat.{mod_below}
use Rattle.std.proofs.lemmas.Str.{chars-encodes, encodes-IsAscii, encodes-append, is_utf8-from_IsUtf8}
use Rattle.std.proofs.lemmas.Str.Ascii.{IsAscii-from_all}
use Rattle.std.proofs.lemmas.List.Elements.{All-cons, All-nil}
use Rattle.std.specs.List.{All}
use Rattle.std.specs.Str.{all_scalars, chars, encode_utf8_all, is_utf8}
use Rattle.std.specs.Char.{encode_utf8}
use Rattle.std.proofs.Math.Utf8.{low_scalar, scalar, scalar_cases}
use Rattle.oer_units.specs.Octets.{IsOctets}
use Rattle.oer_model.specs.AsnType.{Alphabet, ia5, numeric, printable, visible}
use Rattle.oer_model.specs.Bits.{octets_for}
use Rattle.oer_model.specs.Constraints.{all_characters, is_character}
use Rattle.oer_model.specs.Contents.{AllBelow, AreArcs}
use Rattle.oer_model.proofs.bits.Packing.{bits_counted}
use Rattle.oer_model.proofs.fitting.Tests.{and_true, both}
use Rattle.oer_random.specs.Leaves.{arc, arcs_drawn, bits_drawn, letter, letters_of, numeric_letter, octets_drawn, printable_letter, second, text_of, utf8_letter}
use Rattle.oer_random.specs.Words.{words, after}
use Rattle.oer_random.specs.declared.letters.Letters.TheVariants.{Utf8}
use Rattle.oer_random.proofs.Lengths.{length_below, length_is}

pub words_counted : (n seed : ℕ) → length (words n seed) ≡ n
words_counted zero seed = refl
words_counted (suc n) seed = ap suc (words_counted n (after seed))

mapped_counted : {A : Type 0} (f : ℕ → A) (n seed : ℕ) → length (map f (words n seed)) ≡ n
mapped_counted f n seed = length-map (words n seed) f ∙ words_counted n seed

-- ---- octets and bits

below_256 : (xs : List ℕ) → IsOctets (map (λ x. x % 256) xs)
below_256 [] = tt
below_256 (x ∷ xs) = (mod_below x 256 (lit< tt), below_256 xs)

pub octets_fit : (n seed : ℕ) → IsOctets (octets_drawn n seed)
octets_fit n seed = below_256 (words n seed)

pub octets_counted : (n seed : ℕ) → length (octets_drawn n seed) ≡ n
octets_counted n seed = mapped_counted (λ x. x % 256) n seed

pub drawn_bits_counted : (n seed : ℕ) → length (bits_drawn n seed) ≡ n
drawn_bits_counted n seed = bits_counted (octets_drawn (octets_for n) seed) n (octets_counted (octets_for n) seed)

-- ---- characters of an alphabet

abbrev every : (ℕ → Bool) → ℕ → Bool
every f zero = true
every f (suc n) = f n && every f n

holds_at : (f : ℕ → Bool) (n k : ℕ) → every f n ≡ true → k < n → f k ≡ true
holds_at f zero k e l = absurd (omega arith)
holds_at f (suc n) k e l = by (eqb k n) refl (holds_at f n k (both (f n) (every f n) e).1)
  where
    by : (b : Bool) → eqb k n ≡ b → (k < n → f k ≡ true) → f k ≡ true
    by true s h = subst (λ m. f m ≡ true) (sym (eqb-true k n s)) (both (f n) (every f n) e).0
    by false s h = let d = eqb-false k n s in h (omega (arith, d))

-- a character of the alphabet, and of ASCII
abbrev is_good : Alphabet → ℕ → Bool
is_good letters c = is_character letters c && ltb c 128

letter_good : (letters : Alphabet) (x : ℕ) → is_good letters (letter (letters_of letters) x) ≡ true
letter_good ia5 x = holds_at (λ k. is_good ia5 k) 128 (x % 128) refl (mod_below x 128 (lit< tt))
letter_good visible x = holds_at (λ k. is_good visible (32 + k)) 95 (x % 95) refl (mod_below x 95 (lit< tt))
letter_good numeric x = holds_at (λ k. is_good numeric (numeric_letter k)) 11 (x % 11) refl (mod_below x 11 (lit< tt))
letter_good printable x = holds_at (λ k. is_good printable (printable_letter k)) 74 (x % 74) refl (mod_below x 74 (lit< tt))

module _ (letters : Alphabet) where
  abbrev letter_of : ℕ → ℕ
  letter_of x = letter (letters_of letters) x

  fits_at : (x : ℕ) → (is_character letters (letter_of x) ≡ true) × (letter_of x < 128)
  fits_at x = let k = both (is_character letters (letter_of x)) (ltb (letter_of x) 128) (letter_good letters x) in (k.0, ltb-true (letter_of x) 128 k.1)

  all_ascii : (xs : List ℕ) → All (λ b. b < 128) (map letter_of xs)
  all_ascii [] = All-nil (λ b. b < 128)
  all_ascii (x ∷ xs) = All-cons (λ b. b < 128) (letter_of x) (map letter_of xs) (fits_at x).1 (all_ascii xs)

  all_octets : (xs : List ℕ) → IsOctets (map letter_of xs)
  all_octets [] = tt
  all_octets (x ∷ xs) = let k = fits_at x in (omega (arith, k), all_octets xs)

  all_fit : (xs : List ℕ) → all_characters letters (map letter_of xs) ≡ true
  all_fit [] = refl
  all_fit (x ∷ xs) = and_true (is_character letters (letter_of x)) (all_characters letters (map letter_of xs)) (fits_at x).0 (all_fit xs)

  -- their UTF-8 has an octet for each
  text_is : (n seed : ℕ) → text_of (letters_of letters) n seed ≡ map letter_of (words n seed)
  text_is n seed = encodes-IsAscii (map letter_of (words n seed)) (IsAscii-from_all (map letter_of (words n seed)) (all_ascii (words n seed)))

  pub text_fits : (n seed : ℕ) → IsOctets (text_of (letters_of letters) n seed) × (all_characters letters (text_of (letters_of letters) n seed) ≡ true)
      × (length (text_of (letters_of letters) n seed) ≡ n)
  text_fits n seed =
      subst (λ w. IsOctets w × (all_characters letters w ≡ true) × (length w ≡ n)) (sym (text_is n seed))
      (all_octets (words n seed), all_fit (words n seed), mapped_counted letter_of n seed)

-- ---- characters of a UTF8String

between : (c : ℕ) → 57344 ≤ c → c < 1114112 → scalar c ≡ true
between c l h = by (ltb c 55296) refl
  where
    by : (b : Bool) → ltb c 55296 ≡ b → cond b true (leb 57344 c && ltb c 1114112) ≡ true
    by true e = refl
    by false e = and_true (leb 57344 c) (ltb c 1114112) (le-leb 57344 c l) (lt-ltb c 1114112 h)

either_scalar : (b : Bool) (x y : ℕ) → scalar x ≡ true → scalar y ≡ true → scalar (if b then x else y) ≡ true
either_scalar true x y e f = e
either_scalar false x y e f = f

utf8_scalar : (octets n : ℕ) → scalar (utf8_letter octets n) ≡ true
utf8_scalar octets n =
    let a = mod_below n 128 (lit< tt) in
    let b = mod_below n 1920 (lit< tt) in
    let c = mod_below n 53248 (lit< tt) in
    let d = mod_below n 1056768 (lit< tt) in
    either_scalar (eqb octets 0) (n % 128) _ (low_scalar (n % 128) (omega (arith, a)))
    (either_scalar (eqb octets 1) (128 + n % 1920) _ (low_scalar (128 + n % 1920) (omega (arith, b)))
    (either_scalar (eqb octets 2) (2048 + n % 53248) (57344 + n % 1056768) (low_scalar (2048 + n % 53248) (omega (arith, c)))
    (between (57344 + n % 1056768) (omega arith) (omega (arith, d)))))

all_scalar : (xs : List ℕ) → all_scalars (map (letter Utf8) xs) ≡ true
all_scalar [] = refl
all_scalar (x ∷ xs) = and_true (scalar (letter Utf8 x)) (all_scalars (map (letter Utf8) xs)) (utf8_scalar (x % 4) (x / 4)) (all_scalar xs)

either_octets : (b : Bool) (xs ys : List ℕ) → (b ≡ true → IsOctets xs) → (b ≡ false → IsOctets ys) → IsOctets (cond b xs ys)
either_octets true xs ys f g = f refl
either_octets false xs ys f g = g refl

one_character : (c : ℕ) → c < 1114112 → IsOctets (encode_utf8 c)
unfolding encode_utf8
one_character c l =
    either_octets (ltb c 128) _ _ (λ e. let k = ltb-true c 128 e in (omega (arith, k), tt))
    (λ _. either_octets (ltb c 2048) _ _ (λ e. let k = ltb-true c 2048 e in (omega (arith, k), (omega arith, tt)))
    (λ _. either_octets (ltb c 65536) _ _ (λ e. let k = ltb-true c 65536 e in (omega (arith, k), (omega arith, (omega arith, tt))))
    (λ _. (omega (arith, l), (omega arith, (omega arith, (omega arith, tt)))))))

joined : (xs ys : List ℕ) → IsOctets xs → IsOctets ys → IsOctets (xs ++ ys)
joined [] ys o p = p
joined (x ∷ xs) ys o p = (o.0, joined xs ys o.1 p)

scalar_below : (c : ℕ) → scalar c ≡ true → c < 1114112
scalar_below c e = by (scalar_cases c e)
  where
    by : (c < 55296) ⊎ ((57344 ≤ c) × (c < 1114112)) → c < 1114112
    by (inl l) = omega (arith, l)
    by (inr l) = l.1

all_encoded : (cs : List ℕ) → all_scalars cs ≡ true → IsOctets (encode_utf8_all cs)
all_encoded [] e = tt
all_encoded (c ∷ cs) e =
    let k = both (scalar c) (all_scalars cs) e in
    joined (encode_utf8 c) (encode_utf8_all cs) (one_character c (scalar_below c k.0)) (all_encoded cs k.1)

pub utf8_fits : (n seed : ℕ) → IsOctets (text_of Utf8 n seed) × (is_utf8 (text_of Utf8 n seed) ≡ true) × (length (chars (text_of Utf8 n seed)) ≡ n)
utf8_fits n seed =
    let cs = map (letter Utf8) (words n seed) in
    let e = all_scalar (words n seed) in
    (all_encoded cs e, is_utf8-from_IsUtf8 (encode_utf8_all cs) (cs, (e, refl)), ap length (chars-encodes cs e) ∙ mapped_counted (letter Utf8) n seed)

-- ---- object identifiers

arc_below : (x : ℕ) → arc x < 170141183460469231731687303715884105728
arc_below x =
    let m = mod_below x 64 (lit< tt) in
    subst (λ n. n < 170141183460469231731687303715884105728) (length_is (x % 64) (x / 64)) (length_below (x % 64) (x / 64) (omega (arith, m)))

arcs_below : (xs : List ℕ) → AllBelow (2 ^ 128) (map arc xs)
arcs_below [] = tt
arcs_below (x ∷ xs) = let l = arc_below x in (omega (arith, l), arcs_below xs)

second_small : (a x : ℕ) → a < 2 → second a x < 40
second_small a x l = subst (λ b. (if b then x % 40 else arc x) < 40) (sym (lt-ltb a 2 l)) (mod_below x 40 (lit< tt))

second_below : (a x : ℕ) → second a x < 170141183460469231731687303715884105728
second_below a x = by (ltb a 2)
  where
    by : (b : Bool) → (if b then x % 40 else arc x) < 170141183460469231731687303715884105728
    by true = let m = mod_below x 40 (lit< tt) in omega (arith, m)
    by false = arc_below x

pub arcs_fit : (seed : ℕ) → AreArcs (arcs_drawn seed)
arcs_fit seed =
    let m = mod_below seed 3 (lit< tt) in
    let a = seed % 3 in
    let b = second a (seed / 3) in
    let l = second_below a (seed / 3) in
    (a, b, map arc (words (seed / 16 % 4) seed), refl, omega (arith, m), second_small a (seed / 3), omega (arith, m, l), arcs_below (words (seed / 16 % 4) seed))

-- ---- one more character

pub text_more : (f : ℕ → ℕ) (xs : List ℕ) (i d : ℕ) → i < length xs
    → encode_utf8_all (map f (take i xs)) ++ encode_utf8 (f (get_or xs i d)) ≡ encode_utf8_all (map f (take (i + 1) xs))
text_more f xs i d l =
    let front = map f (take i xs) in
    let c = f (get_or xs i d) in
    sym (ap encode_utf8_all (map_more f xs i d l) ∙ encodes-append front (c ∷ []) ∙ ap (λ w. encode_utf8_all front ++ w) (append-nil (encode_utf8 c)))
