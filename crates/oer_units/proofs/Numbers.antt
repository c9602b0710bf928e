-- Octets and the numbers for which they stand.
use Rattle.std.proofs.Common.{◌≡◌, ℕ, zero, suc, ◌+◌, ◌-◌, ◌*◌, ◌/◌, ◌%◌, ◌^◌, ◌<◌, ◌≤◌, max, ◌⊎◌, inl, inr, ⊎_elim, cond, ℤ, pos, negsuc, ◌-ℤ◌, ◌≢◌, List, [], ◌∷◌, ◌++◌, length, refl, sym, ap, ◌∙◌, subst, arith, length-append}
use Rattle.std.proofs.Math.Nat.{div-add-mod', mod-lt, div-lt_iff_lt-mul, pow-suc, pow-zero, mul-le-mul_right}
use Rattle.std.proofs.lemmas.Bool.{lt-ltb, le-ltb, cases_lt}
use Rattle.std.proofs.lemmas.Int.{ints}
use Rattle.std.proofs.lemmas.Int.Digits.{number_lt, number_push, number_digits_of, all_below_base_digits_of, length-digits_of-le, length-digits_of_step}
use Rattle.std.specs.Int.Digits.{digits_of, number_from_digits_after}
use Rattle.oer_units.specs.Least.{big_endian, octets_needed, unsigned_octets, signed_octets, length_octets, counted}
use Rattle.oer_units.proofs.Spelling.{Octets, unsigned, signed, Shortest, Long, Len, Counted}

-- lists of as many octets that stand for one number are one list
same_after : (n m : ℕ) (xs ys : List ℕ) → length xs ≡ length ys → Octets xs → Octets ys → number_from_digits_after 256 n xs ≡ number_from_digits_after 256 m ys → (n ≡ m) × (xs ≡ ys)
same_after n m [] [] l p q e = (e, refl)
same_after n m [] (y ∷ ys) l p q e = absurd (omega arith)
same_after n m (x ∷ xs) [] l p q e = absurd (omega arith)
same_after n m (x ∷ xs) (y ∷ ys) l p q e =
    let r = same_after (n * 256 + x) (m * 256 + y) xs ys (omega arith) p.1 q.1 e in
    let a : n ≡ m = omega (arith, r.0, p.0, q.0) in
    let b : x ≡ y = omega (arith, r.0, p.0, q.0) in
    let c = r.1 in
    (a, cc)

pub same_octets : (xs ys : List ℕ) → length xs ≡ length ys → Octets xs → Octets ys → unsigned xs ≡ unsigned ys → xs ≡ ys
same_octets xs ys l p q e = (same_after 0 0 xs ys l p q e).1

pub octets_append : (xs ys : List ℕ) → Octets xs → Octets ys → Octets (xs ++ ys)
octets_append [] ys p q = q
octets_append (x ∷ xs) ys p q = (p.0, octets_append xs ys p.1 q)

pub length-big_endian : (k n : ℕ) → length (big_endian k n) ≡ k
length-big_endian zero n = refl
length-big_endian (suc k) n = omega (arith, length-append (big_endian k (n / 256)) (n % 256 ∷ []), length-big_endian k (n / 256))

pub octets-big_endian : (k n : ℕ) → Octets (big_endian k n)
octets-big_endian zero n = tt
octets-big_endian (suc k) n = octets_append (big_endian k (n / 256)) (n % 256 ∷ []) (octets-big_endian k (n / 256)) (mod-lt n (omega arith), tt)

pub unsigned-big_endian : (k n : ℕ) → n < 256 ^ k → unsigned (big_endian k n) ≡ n
unsigned-big_endian zero n h = omega (arith, pow-zero 256)
unsigned-big_endian (suc k) n h =
    let below : n < 256 ^ k * 256 = omega (arith, pow-suc 256 k) in
    let less : n / 256 < 256 ^ k = (div-lt_iff_lt-mul {k = 256} {x = n} {y = 256 ^ k} (omega arith)).1 below in
    number_push 256 (big_endian k (n / 256)) (n % 256) ∙ ap (λ x. x * 256 + n % 256) (unsigned-big_endian k (n / 256) less) ∙ div-add-mod' n 256

pub unsigned_below : (w : List ℕ) → Octets w → unsigned w < 256 ^ length w
unsigned_below w p = number_lt 256 w p

-- how many octets a number needs

pub needed_some : (n : ℕ) → 1 ≤ octets_needed n
unfolding octets_needed
needed_some n = omega arith

pub needed_room : (n : ℕ) → n < 256 ^ octets_needed n
unfolding octets_needed
needed_room zero = omega arith
needed_room (suc n) =
    let l : 1 ≤ length (digits_of 256 (suc n)) = omega (arith, length-digits_of_step 256 (suc n) (omega arith) (omega arith)) in
    let m : max 1 (length (digits_of 256 (suc n))) ≡ length (digits_of 256 (suc n)) = omega arith in
    let below = number_lt 256 (digits_of 256 (suc n)) (all_below_base_digits_of 256 (suc n) (omega arith)) in
    let same = number_digits_of 256 (suc n) (omega arith) in
    let e = ap (λ k. 256 ^ k) m in
    omega (arith, below, same, e)

pub needed_least : (k n : ℕ) → 1 ≤ k → n < 256 ^ k → octets_needed n ≤ k
unfolding octets_needed
needed_least k n some h = omega (arith, length-digits_of-le 256 k n (omega arith) h)

pub length-unsigned_octets : (n : ℕ) → length (unsigned_octets n) ≡ octets_needed n
unfolding unsigned_octets
length-unsigned_octets n = length-big_endian (octets_needed n) n

pub octets-unsigned_octets : (n : ℕ) → Octets (unsigned_octets n)
unfolding unsigned_octets
octets-unsigned_octets n = octets-big_endian (octets_needed n) n

pub unsigned-unsigned_octets : (n : ℕ) → unsigned (unsigned_octets n) ≡ n
unfolding unsigned_octets
unsigned-unsigned_octets n = unsigned-big_endian (octets_needed n) n (needed_room n)

-- any octets that stand for n are at least as many
pub unsigned_least : (n : ℕ) (w : List ℕ) → 1 ≤ length w → Octets w → unsigned w ≡ n → octets_needed n ≤ length w
unsigned_least n w some p e = needed_least (length w) n some (omega (arith, unsigned_below w p, e))

pub unsigned_only : (n : ℕ) (w : List ℕ) → length w ≡ octets_needed n → Octets w → unsigned w ≡ n → w ≡ unsigned_octets n
unsigned_only n w l p e = same_octets w (unsigned_octets n) (l ∙ sym (length-unsigned_octets n)) p (octets-unsigned_octets n) (e ∙ sym (unsigned-unsigned_octets n))

power_pos : (k : ℕ) → 1 ≤ 256 ^ k
power_pos zero = omega (arith, pow-zero 256)
power_pos (suc k) = omega (arith, pow-suc 256 k, power_pos k)

pub power_mono : (i j : ℕ) → 256 ^ i ≤ 256 ^ (i + j)
power_mono i zero = let e : i + 0 ≡ i = omega arith in omega (arith, ap (λ k. 256 ^ k) e)
power_mono i (suc j) = let e : i + suc j ≡ suc (i + j) = omega arith in omega (arith, ap (λ k. 256 ^ k) e, pow-suc 256 (i + j), power_mono i j)

pub power_le : (i j : ℕ) → i ≤ j → 256 ^ i ≤ 256 ^ j
power_le i j h = let e : i + (j - i) ≡ j = omega arith in omega (arith, power_mono i (j - i), ap (λ k. 256 ^ k) e)

-- a number of at most 127 octets has a count that is written in one
few : (n : ℕ) → octets_needed n ≤ 127 → octets_needed (octets_needed n) ≤ 127
few n h = omega (arith, needed_least 1 (octets_needed n) (omega arith) (omega arith))

-- below 2 ^ 64 eight are enough
pub needed_64 : (n : ℕ) → n < 2 ^ 64 → octets_needed n ≤ 127
needed_64 n h = omega (arith, needed_least 8 n (omega arith) (omega arith))

-- The length determinant.

long_form : (n : ℕ) → octets_needed n ≤ 127 → Long (λ w. unsigned w ≡ n) ((128 + octets_needed n) ∷ unsigned_octets n)
long_form n h =
    let l = length-unsigned_octets n in
    record {
      w = unsigned_octets n;
      is = ap (λ k. (128 + k) ∷ unsigned_octets n) (sym l);
      some = omega (arith, needed_some n, l);
      most = omega arith;
      octets = octets-unsigned_octets n;
      stands = unsigned-unsigned_octets n;
    }

length_long : (n : ℕ) (b : List ℕ) → Long (λ w. unsigned w ≡ n) b → 1 + octets_needed n ≤ length b
length_long n b r = omega (arith, ap length r.is, unsigned_least n r.w r.some r.octets r.stands)

pub length_octets_below : (n : ℕ) → n < 128 → length_octets n ≡ n ∷ []
unfolding length_octets
length_octets_below n h = ap (λ b. cond b (n ∷ []) ((128 + octets_needed n) ∷ unsigned_octets n)) (lt-ltb n 128 h)

pub length_octets_above : (n : ℕ) → 128 ≤ n → length_octets n ≡ (128 + octets_needed n) ∷ unsigned_octets n
unfolding length_octets
length_octets_above n h = ap (λ b. cond b (n ∷ []) ((128 + octets_needed n) ∷ unsigned_octets n)) (le-ltb n 128 h)

pub length_is : (n : ℕ) → octets_needed n ≤ 127 → Len n (length_octets n)
length_is n h = ⊎_elim
    (λ l. inl (length_octets_below n l, l))
    (λ l. inr (subst (Long (λ w. unsigned w ≡ n)) (sym (length_octets_above n l)) (long_form n h)))
    (cases_lt n 128)

pub length_least : (n : ℕ) (c : List ℕ) → Len n c → length (length_octets n) ≤ length c
length_least n c (inl r) = omega (arith, ap length (length_octets_below n r.1), ap length r.0)
length_least n c (inr r) = ⊎_elim
    (λ l. omega (arith, ap length (length_octets_below n l), length_long n c r))
    (λ l. omega (arith, ap length (length_octets_above n l), length-unsigned_octets n, length_long n c r))
    (cases_lt n 128)

pub length_shortest : (n : ℕ) → octets_needed n ≤ 127 → Shortest (Len n) (length_octets n)
length_shortest n h = record { spelling = length_is n h; least = length_least n }

-- what has a spelling needs at most 127 octets
pub length_below : (n : ℕ) (b : List ℕ) → Len n b → octets_needed n ≤ 127
length_below n b (inl r) = omega (arith, needed_least 1 n (omega arith) (omega arith))
length_below n b (inr r) = omega (arith, unsigned_least n r.w r.some r.octets r.stands)

pub length_only : (n : ℕ) (b : List ℕ) → Shortest (Len n) b → b ≡ length_octets n
length_only n b r = go r.spelling
  where
    go : Len n b → b ≡ length_octets n
    go (inl s) = s.0 ∙ sym (length_octets_below n s.1)
    go (inr s) = ⊎_elim
        (λ l. absurd (omega (arith, length_long n b s, r.least (n ∷ []) (inl (refl, l)), needed_some n)))
        (λ l.
        let shorter : length b ≤ length (length_octets n) = r.least (length_octets n) (length_is n (length_below n b (inr s))) in
        let above = length_octets_above n l in
        let same : length s.w ≡ octets_needed n = omega (arith, shorter, ap length above, ap length s.is, length-unsigned_octets n, unsigned_least n s.w s.some s.octets s.stands) in
        s.is ∙ ap (λ k. (128 + k) ∷ s.w) same ∙ ap (λ w. (128 + octets_needed n) ∷ w) (unsigned_only n s.w same s.octets s.stands) ∙ sym above)
        (cases_lt n 128)

-- The one shortest list for which something stands.
pub record Sole (Stands : List ℕ → Type 0) (s : List ℕ) : Type 0 where
  pub some : 1 ≤ length s
  pub octets : Octets s
  pub stands : Stands s
  pub least : (w : List ℕ) → 1 ≤ length w → Octets w → Stands w → length s ≤ length w
  pub only : (w : List ℕ) → length w ≡ length s → Octets w → Stands w → w ≡ s

pub sole_unsigned : (n : ℕ) → Sole (λ w. unsigned w ≡ n) (unsigned_octets n)
sole_unsigned n = record {
  some = omega (arith, length-unsigned_octets n, needed_some n);
  octets = octets-unsigned_octets n;
  stands = unsigned-unsigned_octets n;
  least = λ w some p e. omega (arith, length-unsigned_octets n, unsigned_least n w some p e);
  only = λ w l p e. unsigned_only n w (l ∙ length-unsigned_octets n) p e;
}

-- any spelling of a length is as long as the shortest one of a smaller length
length_mono : (k n : ℕ) (c : List ℕ) → Len n c → k ≤ n → length (length_octets k) ≤ length c
length_mono k n c s h = ⊎_elim
    (λ l. omega (arith, ap length (length_octets_below k l), below_more))
    (λ l. omega (arith, ap length (length_octets_above k l), length-unsigned_octets k, longer l, needed_least (octets_needed n) k (needed_some n) (omega (arith, needed_room n))))
    (cases_lt k 128)
  where
    below_more : 1 ≤ length c
    below_more = ⊎_elim (λ r. omega (arith, ap length r.0)) (λ r. omega (arith, ap length r.is)) s

    longer : 128 ≤ k → 1 + octets_needed n ≤ length c
    longer l = ⊎_elim (λ r. absurd (omega arith)) (λ r. length_long n c r) s

module _ (Stands : List ℕ → Type 0) (s : List ℕ) (sole : Sole Stands s) where
  -- Counted: a length and the octets.
  counted_is : octets_needed (length s) ≤ 127 → Counted Stands (counted s)
  counted_is h = record {
    l = length_octets (length s);
    w = s;
    is = refl;
    some = sole.some;
    counts = length_is (length s) h;
    octets = sole.octets;
    stands = sole.stands;
  }

  counted_least : (c : List ℕ) → Counted Stands c → length (counted s) ≤ length c
  counted_least c r =
      let more = sole.least r.w r.some r.octets r.stands in
      omega (arith, ap length r.is, length-append r.l r.w, length-append (length_octets (length s)) s, length_mono (length s) (length r.w) r.l r.counts more)

  pub counted_shortest : octets_needed (length s) ≤ 127 → Shortest (Counted Stands) (counted s)
  counted_shortest h = record { spelling = counted_is h; least = counted_least }

  pub counted_only : (b : List ℕ) → Shortest (Counted Stands) b → b ≡ counted s
  counted_only b r =
      let c = r.spelling in
      let more = sole.least c.w c.some c.octets c.stands in
      let fits : octets_needed (length s) ≤ 127 = omega (arith, needed_least (octets_needed (length c.w)) (length s) (needed_some (length c.w)) (omega (arith, needed_room (length c.w))), length_below (length c.w) c.l c.counts) in
      let short = r.least (counted s) (counted_is fits) in
      let long = length_mono (length s) (length c.w) c.l c.counts more in
      let lens = omega_lengths b c.l c.w c.is short long more in
      let same : c.w ≡ s = sole.only c.w lens.0 c.octets c.stands in
      let head : c.l ≡ length_octets (length s) = length_only (length s) c.l (record { spelling = subst (λ k. Len k c.l) lens.0 c.counts; least = λ d q. omega (arith, length_least (length s) d q, lens.1) }) in
      c.is ∙ ap (λ x. x ++ c.w) head ∙ ap (λ x. length_octets (length s) ++ x) same
    where
      omega_lengths : (b l w : List ℕ) → b ≡ l ++ w → length b ≤ length (counted s) → length (length_octets (length s)) ≤ length l → length s ≤ length w → (length w ≡ length s) × (length l ≡ length (length_octets (length s)))
      omega_lengths b l w e short long more =
          let a = length-append l w in
          let d = length-append (length_octets (length s)) s in
          let f = ap length e in
          (omega arith, omega arith)

  -- The long form.
  pub long_is : length s ≤ 127 → Long Stands ((128 + length s) ∷ s)
  long_is h = record { w = s; is = refl; some = sole.some; most = h; octets = sole.octets; stands = sole.stands }

  pub long_least : (c : List ℕ) → Long Stands c → 1 + length s ≤ length c
  long_least c r = omega (arith, ap length r.is, sole.least r.w r.some r.octets r.stands)

  pub long_only : (b : List ℕ) → Long Stands b → length b ≤ 1 + length s → b ≡ (128 + length s) ∷ s
  long_only b r h =
      let more = sole.least r.w r.some r.octets r.stands in
      let e : length r.w ≡ length s = omega (arith, ap length r.is) in
      r.is ∙ ap (λ k. (128 + k) ∷ r.w) e ∙ ap (λ w. (128 + length s) ∷ w) (sole.only r.w e r.octets r.stands)

-- Two's complement.

after_is : (n : ℕ) (w : List ℕ) → number_from_digits_after 256 n w ≡ n * 256 ^ length w + unsigned w
after_is n [] = omega (arith, ap (λ x. n * x) (pow-zero 256))
after_is n (d ∷ ds) =
    let e = ap (λ x. n * x) (pow-suc 256 (length ds)) in
    omega (arith, after_is (n * 256 + d) ds, after_is (0 * 256 + d) ds, e)

below_zero : (u p : ℕ) → u < p → pos u -ℤ pos p ≡ negsuc (p - 1 - u)
below_zero u p h = omega (arith, ints)

signed_cases : (w : List ℕ) → 1 ≤ length w → Octets w → ((2 * unsigned w < 256 ^ length w) × (signed w ≡ pos (unsigned w))) ⊎ ((256 ^ length w ≤ 2 * unsigned w) × (signed w ≡ negsuc (256 ^ length w - 1 - unsigned w)))
signed_cases [] some p = absurd (omega arith)
signed_cases (o ∷ w) some p =
    let power = pow-suc 256 (length w) in
    let is = after_is (0 * 256 + o) w in
    let rest = unsigned_below w p.1 in
    let whole = unsigned_below (o ∷ w) p in
    ⊎_elim
    (λ l.
    let most : o * 256 ^ length w ≤ 127 * 256 ^ length w = mul-le-mul_right (256 ^ length w) (omega arith) in
    inl (omega arith, ap (λ b. cond b (pos (unsigned (o ∷ w))) (pos (unsigned (o ∷ w)) -ℤ pos (256 ^ length (o ∷ w)))) (lt-ltb o 128 l)))
    (λ l.
    let least : 128 * 256 ^ length w ≤ o * 256 ^ length w = mul-le-mul_right (256 ^ length w) l in
    inr (omega arith, ap (λ b. cond b (pos (unsigned (o ∷ w))) (pos (unsigned (o ∷ w)) -ℤ pos (256 ^ length (o ∷ w)))) (le-ltb o 128 l) ∙ below_zero (unsigned (o ∷ w)) (256 ^ length (o ∷ w)) whole))
    (cases_lt o 128)

pub signed_pos : (n : ℕ) (w : List ℕ) → 1 ≤ length w → Octets w → signed w ≡ pos n → (unsigned w ≡ n) × (2 * n < 256 ^ length w)
signed_pos n w some p e = ⊎_elim
    (λ r. let same : unsigned w ≡ n = let f = r.1 in cc in (same, omega (arith, r.0)))
    (λ r. let f = r.1 in absurd (cc))
    (signed_cases w some p)

pub signed_negsuc : (m : ℕ) (w : List ℕ) → 1 ≤ length w → Octets w → signed w ≡ negsuc m → (unsigned w + suc m ≡ 256 ^ length w) × (2 * m < 256 ^ length w)
signed_negsuc m w some p e = ⊎_elim
    (λ r. let f = r.1 in absurd (cc))
    (λ r.
    let same : 256 ^ length w - 1 - unsigned w ≡ m = let f = r.1 in cc in
    let below = unsigned_below w p in
    (omega (arith, r.0), omega (arith, r.0)))
    (signed_cases w some p)

-- 256 ^ k is even from k = 1 on
even : (k m : ℕ) → 1 ≤ k → 256 ^ k ≢ 2 * m + 1
even zero m h e = omega arith
even (suc k) m h e = omega (arith, pow-suc 256 k)

pub signed_pos_is : (n : ℕ) (w : List ℕ) → 1 ≤ length w → Octets w → unsigned w ≡ n → 2 * n < 256 ^ length w → signed w ≡ pos n
signed_pos_is n w some p e h = ⊎_elim (λ r. r.1 ∙ ap pos e) (λ r. absurd (omega (arith, r.0))) (signed_cases w some p)

pub signed_negsuc_is : (m : ℕ) (w : List ℕ) → 1 ≤ length w → Octets w → unsigned w + suc m ≡ 256 ^ length w → 2 * m < 256 ^ length w → signed w ≡ negsuc m
signed_negsuc_is m w some p e h = ⊎_elim
    (λ r. let odd = even (length w) m some in absurd (omega (arith, r.0, odd)))
    (λ r. let same : 256 ^ length w - 1 - unsigned w ≡ m = omega arith in r.1 ∙ ap negsuc same)
    (signed_cases w some p)

half_room : (m : ℕ) → suc m ≤ 256 ^ octets_needed (2 * m)
half_room m = omega (arith, needed_room (2 * m))

pub sole_signed : (x : ℤ) → Sole (λ w. signed w ≡ x) (signed_octets x)
unfolding signed_octets
sole_signed (pos n) =
    let k : ℕ = octets_needed (2 * n) in
    let room = needed_room (2 * n) in
    let l = length-big_endian k n in
    let some : 1 ≤ length (big_endian k n) = omega (arith, needed_some (2 * n)) in
    let stands = unsigned-big_endian k n (omega arith) in
    record {
      some = some;
      octets = octets-big_endian k n;
      stands = signed_pos_is n (big_endian k n) some (octets-big_endian k n) stands (omega (arith, ap (λ j. 256 ^ j) l));
      least = λ w some p e. omega (arith, l, needed_least (length w) (2 * n) some (signed_pos n w some p e).1);
      only = λ w l p e. same_octets w (big_endian k n) l p (octets-big_endian k n) ((signed_pos n w (omega arith) p e).0 ∙ sym stands);
    }
sole_signed (negsuc m) =
    let k : ℕ = octets_needed (2 * m) in
    let u : ℕ = 256 ^ k - suc m in
    let room = needed_room (2 * m) in
    let l = length-big_endian k u in
    let some : 1 ≤ length (big_endian k u) = omega (arith, needed_some (2 * m)) in
    let stands : unsigned (big_endian k u) ≡ u = unsigned-big_endian k u (omega arith) in
    let power = ap (λ j. 256 ^ j) l in
    record {
      some = some;
      octets = octets-big_endian k u;
      stands = signed_negsuc_is m (big_endian k u) some (octets-big_endian k u) (omega arith) (omega arith);
      least = λ w some p e. omega (arith, l, needed_least (length w) (2 * m) some (signed_negsuc m w some p e).1);
      only = λ w l p e. same_octets w (big_endian k u) l p (octets-big_endian k u) (let f = (signed_negsuc m w (omega arith) p e).0 in let g = ap (λ j. 256 ^ j) l in omega arith);
    }

pub length-signed_octets : (x : ℤ) (m : ℕ) → (x ≡ pos m) ⊎ (x ≡ negsuc m) → length (signed_octets x) ≡ octets_needed (2 * m)
unfolding signed_octets
length-signed_octets x m (inl e) = ap (λ z. length (signed_octets z)) e ∙ length-big_endian (octets_needed (2 * m)) m
length-signed_octets x m (inr e) = ap (λ z. length (signed_octets z)) e ∙ length-big_endian (octets_needed (2 * m)) (256 ^ octets_needed (2 * m) - suc m)

-- how the count is computed
pub needed_below : (n : ℕ) → n < 256 → octets_needed n ≡ 1
needed_below n h = omega (arith, needed_some n, needed_least 1 n (omega arith) (omega arith))

pub needed_step : (n : ℕ) → 256 ≤ n → octets_needed n ≡ 1 + octets_needed (n / 256)
unfolding octets_needed
needed_step n h =
    let more : 1 ≤ n / 256 = omega arith in
    omega (arith, length-digits_of_step 256 n (omega arith) (omega arith), length-digits_of_step 256 (n / 256) (omega arith) (omega arith))
