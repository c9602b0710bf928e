-- The shortest spelling of an enumeration's number.
use Rattle.std.proofs.Common.{◌≡◌, ℕ, ◌+◌, ◌<◌, ◌≤◌, ◌⊎◌, inl, inr, ⊎_elim, cond, ℤ, pos, negsuc, List, [], ◌∷◌, length, refl, sym, ap, ◌∙◌, subst, arith}
use Rattle.std.proofs.lemmas.Bool.{lt-ltb, le-ltb, cases_lt}
use Rattle.oer_units.specs.Least.{signed_octets, enumerated_octets}
use Rattle.oer_units.proofs.Numbers.{sole_signed, long_is, long_least, long_only}
use Rattle.oer_units.proofs.Spelling.{signed, Shortest, Long, EnumForm}

-- x has no short form
IsLong : ℤ → Type 0
IsLong x = (n : ℕ) → pos n ≡ x → 128 ≤ n

short_octets : (n : ℕ) → n < 128 → enumerated_octets (pos n) ≡ n ∷ []
unfolding enumerated_octets
short_octets n h = ap (λ b. cond b (n ∷ []) ((128 + length (signed_octets (pos n))) ∷ signed_octets (pos n))) (lt-ltb n 128 h)

long_octets : (x : ℤ) → IsLong x → enumerated_octets x ≡ (128 + length (signed_octets x)) ∷ signed_octets x
unfolding enumerated_octets IsLong
long_octets (pos n) h = ap (λ b. cond b (n ∷ []) ((128 + length (signed_octets (pos n))) ∷ signed_octets (pos n))) (le-ltb n 128 (h n refl))
long_octets (negsuc n) h = refl

cases : (x : ℤ) → ((n : ℕ) × (x ≡ pos n) × (n < 128)) ⊎ IsLong x
unfolding IsLong
cases (pos n) = ⊎_elim (λ l. inl (n, refl, l)) (λ l. inr (λ m e. let f : m ≡ n = cc in omega arith)) (cases_lt n 128)
cases (negsuc n) = inr (λ m e. absurd (cc))

enum_least : (x : ℤ) (c : List ℕ) → EnumForm x c → length (enumerated_octets x) ≤ length c
unfolding IsLong
enum_least x c s = ⊎_elim
    (λ r. omega (arith, ap length (ap enumerated_octets r.1 ∙ short_octets r.0 r.2), one c s))
    (λ l. ⊎_elim
    (λ r. absurd (omega (arith, l r.n r.stands, r.small)))
    (λ r. omega (arith, ap length (long_octets x l), long_least _ _ (sole_signed x) c r)) s)
    (cases x)
  where
    one : (d : List ℕ) → EnumForm x d → 1 ≤ length d
    one d (inl r) = omega (arith, ap length r.is)
    one d (inr r) = omega (arith, ap length r.is)

pub enum_shortest : (x : ℤ) → length (signed_octets x) ≤ 127 → Shortest (EnumForm x) (enumerated_octets x)
unfolding IsLong
enum_shortest x h = record {
  spelling = ⊎_elim
      (λ r. inl (record { n = r.0; stands = sym r.1; is = ap enumerated_octets r.1 ∙ short_octets r.0 r.2; small = r.2 }))
      (λ l. inr (subst (Long (λ w. signed w ≡ x)) (sym (long_octets x l)) (long_is _ _ (sole_signed x) h)))
      (cases x);
  least = enum_least x;
}

pub enum_only : (x : ℤ) (b : List ℕ) → Shortest (EnumForm x) b → b ≡ enumerated_octets x
unfolding IsLong
enum_only x b s = go s.spelling
  where
    go : EnumForm x b → b ≡ enumerated_octets x
    go (inl r) = r.is ∙ sym (ap enumerated_octets (sym r.stands) ∙ short_octets r.n r.small)
    go (inr r) = ⊎_elim
        (λ f. absurd (omega (arith, s.least (f.0 ∷ []) (inl (record { n = f.0; stands = sym f.1; is = refl; small = f.2 })), ap length r.is, r.some)))
        (λ l. long_only _ _ (sole_signed x) b r (omega (arith, s.least (enumerated_octets x) (inr (subst (Long (λ w. signed w ≡ x)) (sym (long_octets x l)) (long_is _ _ (sole_signed x) (omega (arith, (sole_signed x).least r.w r.some r.octets r.stands, r.most))))), ap length (long_octets x l))) ∙ sym (long_octets x l))
        (cases x)
