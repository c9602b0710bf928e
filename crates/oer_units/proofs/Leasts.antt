-- The least forms are shortest, as the definitions say it.
use Rattle.std.proofs.Common.{◌≡◌, ℕ, ◌+◌, ◌*◌, ◌^◌, ◌<◌, ◌≤◌, inl, inr, ⊎_elim, Bool, true, false, cond, leb, if◌then◌else◌, ℤ, pos, negsuc, ◌-ℤ◌, List, [], ◌∷◌, length, refl, sym, ap, ◌∙◌, subst, arith, le-leb, leb-true}
use Rattle.std.proofs.lemmas.Bool.{lt-ltb, le-ltb, cases_lt}
use Rattle.std.specs.Int.Digits.{number_from_digits_after}
use Rattle.oer_units.specs.Least.{octets_needed, unsigned_octets, signed_octets, length_octets, counted, enumerated_octets}
use Rattle.oer_units.specs.Numbers.{unsigned, unsigned_after, signed, natural}
use Rattle.oer_units.specs.Octets.{IsOctets, IsShortest}
use Rattle.oer_units.specs.Spelling.{IsLength, IsCounted, StandsFor, IsEnumerated}
use Rattle.oer_units.proofs.Enums.{enum_shortest}
use Rattle.oer_units.proofs.Numbers.{Sole, needed_least, length_only, length_shortest, length_below, counted_only, counted_shortest, sole_unsigned, length-signed_octets, length-unsigned_octets}
use Rattle.oer_units.proofs.OneSpelling.{octets_split, octets_join}
use Rattle.oer_units.proofs.Spelling.{Octets}
use Rattle.oer_units.proofs.Spelling as s

pub octets_to : (w : List ℕ) → IsOctets w → Octets w
octets_to [] o = tt
octets_to (x ∷ w) (l, o) = (l, octets_to w o)

pub octets_from : (w : List ℕ) → Octets w → IsOctets w
octets_from [] o = tt
octets_from (x ∷ w) o = (o.0, octets_from w o.1)

pub after_is : (n : ℕ) (w : List ℕ) → unsigned_after n w ≡ number_from_digits_after 256 n w
after_is n [] = refl
after_is n (x ∷ w) = ap (λ k. unsigned_after k w) (let e : 256 * n + x ≡ n * 256 + x = omega arith in e) ∙ after_is (n * 256 + x) w

pub unsigned_is : (w : List ℕ) → unsigned w ≡ s.unsigned w
unfolding unsigned
unsigned_is w = after_is 0 w

pub negative : (u v p : ℕ) → u ≡ v → pos u -ℤ pos p ≡ pos v -ℤ pos p
negative u v p e = ap (λ u. pos u -ℤ pos p) e

pub signed_is : (w : List ℕ) → 1 ≤ length w → signed w ≡ s.signed w
unfolding signed
signed_is [] some = absurd (omega arith)
signed_is (x ∷ w) some = ⊎_elim
    (λ l. by_low (leb 128 x) refl (low x l) ∙ ap pos (unsigned_is (x ∷ w)) ∙ sym (ap (λ b. cond b (pos (s.unsigned (x ∷ w))) (pos (s.unsigned (x ∷ w)) -ℤ pos (256 ^ length (x ∷ w)))) (lt-ltb x 128 l)))
    (λ l. by_high (leb 128 x) refl (le-leb 128 x l) ∙ negative (unsigned (x ∷ w)) (s.unsigned (x ∷ w)) (256 ^ length (x ∷ w)) (unsigned_is (x ∷ w)) ∙ sym (ap (λ b. cond b (pos (s.unsigned (x ∷ w))) (pos (s.unsigned (x ∷ w)) -ℤ pos (256 ^ length (x ∷ w)))) (le-ltb x 128 l)))
    (cases_lt x 128)
  where
    low : (x : ℕ) → x < 128 → leb 128 x ≡ false
    low x l = go (leb 128 x) refl
      where
        go : (c : Bool) → leb 128 x ≡ c → leb 128 x ≡ false
        go true e = absurd (let i : 128 ≤ x = leb-true 128 x e in omega arith)
        go false e = e

    by_low : (c : Bool) → leb 128 x ≡ c → leb 128 x ≡ false → (if leb 128 x then pos (unsigned (x ∷ w)) -ℤ pos (256 ^ length (x ∷ w)) else pos (unsigned (x ∷ w))) ≡ pos (unsigned (x ∷ w))
    by_low c e f = ap (λ c. if c then pos (unsigned (x ∷ w)) -ℤ pos (256 ^ length (x ∷ w)) else pos (unsigned (x ∷ w))) f

    by_high : (c : Bool) → leb 128 x ≡ c → leb 128 x ≡ true → (if leb 128 x then pos (unsigned (x ∷ w)) -ℤ pos (256 ^ length (x ∷ w)) else pos (unsigned (x ∷ w))) ≡ pos (unsigned (x ∷ w)) -ℤ pos (256 ^ length (x ∷ w))
    by_high c e f = ap (λ c. if c then pos (unsigned (x ∷ w)) -ℤ pos (256 ^ length (x ∷ w)) else pos (unsigned (x ∷ w))) f

-- shortest by one of two relations that hold of the same octets, and so by the other
pub shortest_to : (R R' : List ℕ → Type 0) (b : List ℕ) → (R' b → IsOctets b × R b) → ((c : List ℕ) → IsOctets c → R c → R' c) → s.Shortest R' b → IsShortest R b
shortest_to R R' b f g h = let both = f h.spelling in (both.0, both.1, λ c o r. h.least c (g c o r))

pub shortest_from : (R R' : List ℕ → Type 0) (b : List ℕ) → (IsOctets b → R b → R' b) → ((c : List ℕ) → R' c → IsOctets c × R c) → IsShortest R b → s.Shortest R' b
shortest_from R R' b f g (o, r, least) = record { spelling = f o r; least = λ c r'. (let both = g c r' in least c both.0 both.1) }

pub len_to : (n : ℕ) (b : List ℕ) → IsOctets b → IsLength n b → s.Len n b
len_to n b o (inl e) = inl e
len_to n b o (inr (k, w, e, low, high, many, is)) =
    inr (record { w = w; is = e ∙ ap (λ k. (128 + k) ∷ w) (sym many); some = omega arith; most = omega arith; octets = octets_to w (subst IsOctets e o).1; stands = sym (unsigned_is w) ∙ is })

pub len_from : (n : ℕ) (b : List ℕ) → s.Len n b → IsOctets b × IsLength n b
len_from n b (inl (e, l)) = (subst IsOctets (sym e) (omega arith, tt), inl (e, l))
len_from n b (inr r) =
    let some = r.some in
    let most = r.most in
    (subst IsOctets (sym r.is) (omega arith, octets_from r.w r.octets), inr (length r.w, r.w, r.is, r.some, r.most, refl, unsigned_is r.w ∙ r.stands))

pub len_only : (n : ℕ) (b : List ℕ) → IsShortest (IsLength n) b → b ≡ length_octets n
len_only n b h = length_only n b (shortest_from (IsLength n) (s.Len n) b (len_to n b) (len_from n) h)

pub len_exists : (n : ℕ) → octets_needed n ≤ 127 → IsShortest (IsLength n) (length_octets n)
len_exists n h = shortest_to (IsLength n) (s.Len n) (length_octets n) (len_from n (length_octets n)) (λ c. len_to n c) (length_shortest n h)

pub len_small : (n : ℕ) (b : List ℕ) → IsOctets b → IsLength n b → octets_needed n ≤ 127
len_small n b o l = length_below n b (len_to n b o l)

-- counted numbers
module _ {A : Type 0} (R : A → List ℕ → Type 0) (x : A) (P : List ℕ → Type 0) (to : (w : List ℕ) → R x w → (1 ≤ length w) × P w) (from : (w : List ℕ) → 1 ≤ length w → P w → R x w) where
  number_to : (b : List ℕ) → IsOctets b → IsCounted R x b → s.Counted P b
  number_to b o (l, c, e, len, r) =
      let parts = octets_split l c (subst IsOctets e o) in
      let both = to c r in
      record { l = l; w = c; is = e; some = both.0; counts = len_to (length c) l parts.0 len; octets = octets_to c parts.1; stands = both.1 }

  number_from : (b : List ℕ) → s.Counted P b → IsOctets b × IsCounted R x b
  number_from b r =
      let len = len_from (length r.w) r.l r.counts in
      (subst IsOctets (sym r.is) (octets_join r.l r.w len.0 (octets_from r.w r.octets)), (r.l, r.w, r.is, len.1, from r.w r.some r.stands))

  pub number_exists : (w : List ℕ) → Sole P w → octets_needed (length w) ≤ 127 → IsShortest (IsCounted R x) (counted w)
  number_exists w sole h = shortest_to (IsCounted R x) (s.Counted P) (counted w) (number_from (counted w)) number_to (counted_shortest P w sole h)

  pub number_only : (w : List ℕ) → Sole P w → (b : List ℕ) → IsShortest (IsCounted R x) b → b ≡ counted w
  number_only w sole b h = counted_only P w sole b (shortest_from (IsCounted R x) (s.Counted P) b (number_to b) number_from h)

abbrev pub IsQuantity : ℕ → List ℕ → Type 0
IsQuantity n w = (1 ≤ length w) × (unsigned w ≡ n)

pub quantity_to : (n : ℕ) (w : List ℕ) → IsQuantity n w → (1 ≤ length w) × (s.unsigned w ≡ n)
quantity_to n w (some, is) = (some, sym (unsigned_is w) ∙ is)

pub quantity_from : (n : ℕ) (w : List ℕ) → 1 ≤ length w → s.unsigned w ≡ n → IsQuantity n w
quantity_from n w some is = (some, unsigned_is w ∙ is)

pub quantity_only : (n : ℕ) (b : List ℕ) → IsShortest (IsCounted (StandsFor unsigned) n) b → b ≡ counted (unsigned_octets n)
quantity_only n b h = number_only IsQuantity n (λ w. s.unsigned w ≡ n) (quantity_to n) (quantity_from n) (unsigned_octets n) (sole_unsigned n) b h

pub few_octets : (k : ℕ) → k ≤ 127 → octets_needed k ≤ 127
few_octets k h = omega (arith, needed_least 1 k (omega arith) (omega arith))

pub quantity_exists : (n : ℕ) → n < 2 ^ 128 → IsShortest (IsCounted (StandsFor unsigned) n) (counted (unsigned_octets n))
quantity_exists n h = number_exists IsQuantity n (λ w. s.unsigned w ≡ n) (quantity_to n) (quantity_from n) (unsigned_octets n) (sole_unsigned n)
    (few_octets (length (unsigned_octets n)) (omega (arith, length-unsigned_octets n, needed_least 16 n (omega arith) (omega arith))))

pub natural_to : (n : ℕ) (w : List ℕ) → StandsFor natural (pos n) w → (1 ≤ length w) × (s.unsigned w ≡ n)
natural_to n w (some, is) = (some, sym (unsigned_is w) ∙ positive (unsigned w) n is)
  where
    positive : (a b : ℕ) → pos a ≡ pos b → a ≡ b
    positive a b e = cc

pub natural_from : (n : ℕ) (w : List ℕ) → 1 ≤ length w → s.unsigned w ≡ n → StandsFor natural (pos n) w
natural_from n w some is = (some, ap pos (unsigned_is w ∙ is))

pub signed_to : (z : ℤ) (w : List ℕ) → StandsFor signed z w → (1 ≤ length w) × (s.signed w ≡ z)
signed_to z w (some, is) = (some, sym (signed_is w some) ∙ is)

pub signed_from : (z : ℤ) (w : List ℕ) → 1 ≤ length w → s.signed w ≡ z → StandsFor signed z w
signed_from z w some is = (some, signed_is w some ∙ is)

pub signed_few : (p : ℕ) (x : ℤ) → s.Within (256 ^ p) x → 1 ≤ p → length (signed_octets x) ≤ p
signed_few p (pos n) h some = omega (arith, length-signed_octets (pos n) n (inl refl), needed_least p (2 * n) some h)
signed_few p (negsuc n) h some = omega (arith, length-signed_octets (negsuc n) n (inr refl), needed_least p (2 * n) some h)

-- octets of one length, of which all have it
pub fixed_shortest : (R : List ℕ → Type 0) (k : ℕ) (b : List ℕ) → IsOctets b → length b ≡ k → R b → IsShortest (λ c. (length c ≡ k) × R c) b
fixed_shortest R k b o l r = (o, (l, r), λ c oc rc. omega (arith, rc.0))

pub enum_to : (z : ℤ) (b : List ℕ) → IsOctets b → IsEnumerated z b → s.EnumForm z b
enum_to z b o (inl (x, e, l, is)) = inl (record { n = x; stands = sym is; is = e; small = l })
enum_to z b o (inr (k, w, e, low, high, many, is)) =
    let some : 1 ≤ length w = omega arith in
    inr (record { w = w; is = e ∙ ap (λ k. (128 + k) ∷ w) (sym many); some = some; most = omega arith; octets = octets_to w (subst IsOctets e o).1; stands = sym (signed_is w some) ∙ is })

pub enum_from : (z : ℤ) (b : List ℕ) → s.EnumForm z b → IsOctets b × IsEnumerated z b
enum_from z b (inl r) = let small = r.small in (subst IsOctets (sym r.is) (omega arith, tt), inl (r.n, r.is, r.small, sym r.stands))
enum_from z b (inr r) =
    let some = r.some in
    let most = r.most in
    (subst IsOctets (sym r.is) (omega arith, octets_from r.w r.octets), inr (length r.w, r.w, r.is, r.some, r.most, refl, signed_is r.w r.some ∙ r.stands))

pub enum_exists : (z : ℤ) → s.Within (2 ^ 64) z → IsShortest (IsEnumerated z) (enumerated_octets z)
enum_exists z h = shortest_to (IsEnumerated z) (s.EnumForm z) (enumerated_octets z) (enum_from z (enumerated_octets z)) (enum_to z) (enum_shortest z (let i = signed_few 8 z h (omega arith) in omega arith))
