-- The bits of unknown additions.
use Rattle.std.proofs.Common.{◌≡◌, ℕ, zero, suc, ◌+◌, ◌-◌, ◌≤◌, max, Bool, true, false, List, [], ◌∷◌, ◌++◌, length, replicate, refl, sym, ap, ap₂, ◌∙◌, subst, arith, length-append}
use Rattle.std.proofs.lemmas.List.{length-replicate}
use Rattle.oer_units.specs.Least.{octets_needed, counted}
use Rattle.oer_model.proofs.canonical.Bridge.{strict_counted_only, strict_counted_exists}
use Rattle.oer_model.specs.AsnValue.{Unknown, unknown}
use Rattle.oer_model.specs.Bits.{all_false}
use Rattle.oer_model.specs.Canonical.{unknown_marks, unknown_octets, any_unknown}
use Rattle.oer_model.specs.Encoding.{IsItself, SpellsUnknown}
use Rattle.oer_model.specs.Fits.{after_last, FitsUnknown}
use Rattle.oer_model.specs.Strict.{StrictCounted}

-- the places rise, from n on
abbrev pub Rises : ℕ → List Unknown → Type 0
Rises n [] = Unit {0}
Rises n (unknown m w ∷ us) = (n ≤ m) × Rises (suc m) us

lower : (n : ℕ) (us : List Unknown) → Rises (suc n) us → Rises n us
lower n [] r = tt
lower n (unknown m w ∷ us) (l, r) = (omega arith, r)

pub unknown_rises : (n : ℕ) (z : List Bool) (us : List Unknown) (u : List ℕ) → SpellsUnknown (StrictCounted IsItself) n z us u → Rises n us
unknown_rises n [] us u (is, e) = subst (Rises n) (sym is) tt
unknown_rises n (true ∷ z) us u (w, rest, b1, b2, is, e, k, r) = subst (Rises n) (sym is) (omega arith, unknown_rises (suc n) z rest b2 r)
unknown_rises n (false ∷ z) us u p = lower n us (unknown_rises (suc n) z us u p)

pub fits_rise : (n : ℕ) (us : List Unknown) → FitsUnknown n us → Rises n us
fits_rise n [] f = tt
fits_rise n (unknown m w ∷ us) (l, h, o, f) = (l, fits_rise (suc m) us f)

-- as many bits as places from n up to the last one
pub marks_length : (n : ℕ) (us : List Unknown) → Rises n us → n + length (unknown_marks n us) ≡ max n (after_last us)
marks_length n [] r = omega arith
marks_length n (unknown m w ∷ []) (l, r) = omega (arith, length-append (replicate (m - n) false) (true ∷ []), length-replicate (m - n) false)
marks_length n (unknown m w ∷ unknown k x ∷ us) (l, r) =
    let rest = marks_length (suc m) (unknown k x ∷ us) r in
    let some = length-append (replicate (k - suc m) false) (true ∷ unknown_marks (suc k) us) in
    omega (arith, length-append (replicate (m - n) false) (true ∷ unknown_marks (suc m) (unknown k x ∷ us)), length-replicate (m - n) false)

skipped : (n m : ℕ) (s : List Bool) → suc n ≤ m → replicate (m - n) false ++ s ≡ false ∷ (replicate (m - suc n) false ++ s)
skipped n m s l = ap (λ k. replicate k false ++ s) (let e : m - n ≡ suc (m - suc n) = omega arith in e)

marks_skip : (n : ℕ) (us : List Unknown) → Rises (suc n) us → 1 ≤ length (unknown_marks n us) → unknown_marks n us ≡ false ∷ unknown_marks (suc n) us
marks_skip n [] r some = absurd (omega arith)
marks_skip n (unknown m w ∷ us) (l, r) some = skipped n m (true ∷ unknown_marks (suc m) us) l

here_marks : (n : ℕ) (w : List ℕ) (us : List Unknown) → unknown_marks n (unknown n w ∷ us) ≡ true ∷ unknown_marks (suc n) us
here_marks n w us = ap (λ k. replicate k false ++ (true ∷ unknown_marks (suc n) us)) (let e : n - n ≡ 0 = omega arith in e)

pub unknown_plain : (n : ℕ) (z : List Bool) (us : List Unknown) (u : List ℕ) → SpellsUnknown (StrictCounted IsItself) n z us u → length z ≡ length (unknown_marks n us) → (z ≡ unknown_marks n us) × (u ≡ unknown_octets us)
unknown_plain n [] us u (is, e) l = (sym (ap (unknown_marks n) is), e ∙ sym (ap unknown_octets is))
unknown_plain n (true ∷ z) us u (w, rest, b1, b2, is, e, k, r) l =
    let marks = ap (unknown_marks n) is ∙ here_marks n w rest in
    let o = unknown_plain (suc n) z rest b2 r (omega (arith, ap length marks)) in
    (ap (λ z. true ∷ z) o.0 ∙ sym marks, e ∙ ap₂ (λ x y. x ++ y) (strict_counted_only IsItself w w (λ c is. is) b1 k) o.1 ∙ sym (ap unknown_octets is))
unknown_plain n (false ∷ z) us u p l =
    let marks = marks_skip n us (unknown_rises (suc n) z us u p) (omega arith) in
    let o = unknown_plain (suc n) z us u p (omega (arith, ap length marks)) in
    (ap (λ z. false ∷ z) o.0 ∙ sym marks, o.1)

move : (n k : ℕ) (z : List Bool) (us : List Unknown) (u : List ℕ) → SpellsUnknown (StrictCounted IsItself) (n + k) z us u → SpellsUnknown (StrictCounted IsItself) n (replicate k false ++ z) us u
move n zero z us u p = subst (λ m. SpellsUnknown (StrictCounted IsItself) m z us u) (let e : n + 0 ≡ n = omega arith in e) p
move n (suc k) z us u p = move (suc n) k z us u (subst (λ m. SpellsUnknown (StrictCounted IsItself) m z us u) (let e : n + suc k ≡ suc n + k = omega arith in e) p)

-- every content has a length determinant
abbrev pub AreShort : List Unknown → Type 0
AreShort [] = Unit {0}
AreShort (unknown n w ∷ us) = (octets_needed (length w) ≤ 127) × AreShort us

pub unknown_exists : (n : ℕ) (us : List Unknown) → Rises n us → AreShort us → SpellsUnknown (StrictCounted IsItself) n (unknown_marks n us) us (unknown_octets us)
unknown_exists n [] r s = (refl, refl)
unknown_exists n (unknown m w ∷ us) (l, r) (h, s) =
    move n (m - n) (true ∷ unknown_marks (suc m) us) (unknown m w ∷ us) (counted w ++ unknown_octets us)
    (subst (λ k. SpellsUnknown (StrictCounted IsItself) k (true ∷ unknown_marks (suc m) us) (unknown m w ∷ us) (counted w ++ unknown_octets us)) (let e : m ≡ n + (m - n) = omega arith in e)
    (w, us, counted w, unknown_octets us, refl, refl, strict_counted_exists IsItself w w refl h, unknown_exists (suc m) us r s))

pub marks_set : (n : ℕ) (us : List Unknown) → any_unknown us ≡ true → all_false (unknown_marks n us) ≡ false
marks_set n [] e = absurd (cc)
marks_set n (unknown m w ∷ us) e = go (m - n)
  where
    go : (k : ℕ) → all_false (replicate k false ++ (true ∷ unknown_marks (suc m) us)) ≡ false
    go zero = refl
    go (suc k) = go k

pub last_below : (n : ℕ) (us : List Unknown) → FitsUnknown n us → after_last us ≤ 65536
last_below n [] f = omega arith
last_below n (unknown m w ∷ []) (l, h, o, f) = omega arith
last_below n (unknown m w ∷ unknown k x ∷ us) (l, h, o, f) = last_below (suc m) (unknown k x ∷ us) f
