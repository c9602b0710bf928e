-- What was written beside octets, and whether it is they.
use Rattle.std.proofs.Common.{inl, inr, ◌≡◌, ◌↔◌, ℕ, ◌<◌, ◌≤◌, ◌^◌, List, [], ◌∷◌, ◌++◌, length, take, drop, Bool, true, false, eqb, Option, Some, None, Result, Ok, Err, IsTrue, arith, refl, sym, ap, ◌∙◌, subst, append-nil, append_assoc}
use Rattle.std.proofs.lemmas.List.{append_cancel_left, length-take, take-append-drop, take_all}
use Rattle.std.proofs.Math.Seq.{drop-append_seam, take-append_seam}
use Rattle.std.specs.Io.KnownBytes.{Appends}
use Rattle.std.specs.Result.{is_ok}
use Rattle.oer_model.specs.AsnType.{AsnType}
use Rattle.oer_model.specs.AsnValue.{AsnValue}
use Rattle.oer_model.specs.Canonical.{canonical_octets}
use Rattle.oer_model.specs.Constraints.{KeepsLimits}
use Rattle.oer_model.specs.Fits.{Fits}
use Rattle.oer_model.specs.Laws.{CanonicalComputed, CanonicalGiven}
use Rattle.oer_model.specs.Strict.{IsCanonical}
use Rattle.oer_leaves.specs.Comparing.{begins_with, beside, failures_at, held_at}
use Rattle.oer_leaves.specs.Wrote.{Stopped, Wrote}
use Rattle.oer_leaves.specs.declared.comparison.Differing.{Differing}
use Rattle.oer_units.specs.declared.fault.SinkFault.{SinkFault}

-- it tells which octets they are, and what was written
beside_same : (o p b d : List ℕ) → beside o b ≡ beside p d → (o ≡ p) × (b ≡ d)
beside_same o p b d e =
    let heads : length o ≡ length p = cc e in
    let tails : o ++ b ≡ p ++ d = cc e in
    let cut : (n : ℕ) → length p ≡ n → take n (p ++ d) ≡ p = λ n is. ap (λ m. take m (p ++ d)) (sym is) ∙ take-append_seam p d in
    let left : (n : ℕ) → length p ≡ n → drop n (p ++ d) ≡ d = λ n is. ap (λ m. drop m (p ++ d)) (sym is) ∙ drop-append_seam p d in
    (sym (take-append_seam o b) ∙ ap (take (length o)) tails ∙ cut (length o) (sym heads), sym (drop-append_seam o b) ∙ ap (drop (length o)) tails ∙ left (length o) (sym heads))

held_then : (o b : List ℕ) (new : Option (List ℕ)) → Appends (Some (beside o [])) new b → new ≡ Some (beside o b)
held_then o b None h = absurd h
held_then o b (Some w) h = ap (λ (x : List ℕ). Some x) (h ∙ ap (λ (l : List ℕ). length o ∷ (l ++ b)) (append-nil o))

held_none : (p : List ℕ) (at : ℕ) (o b : List ℕ) → held_at p at None ≡ Some (beside o b) → (p ≡ o) × (take at p ≡ b)
held_none p at o b e = beside_same p o (take at p) b (cc e)

held_some : (p : List ℕ) (at : ℕ) (x : Differing) (o b : List ℕ) → held_at p at (Some x) ≡ Some (beside o b) → (begins_with x.octet (drop at p) ≡ false) × (p ≡ o) × (take at p ++ x.octet ∷ [] ≡ b)
held_some p at x o b e = by (begins_with x.octet (drop at p)) refl
  where
    by : (t : Bool) → begins_with x.octet (drop at p) ≡ t → (begins_with x.octet (drop at p) ≡ false) × (p ≡ o) × (take at p ++ x.octet ∷ [] ≡ b)
    by true is = absurd (none e)
      where
        none : held_at p at (Some x) ≡ Some (beside o b) → ⊥
        none = rw (is) (λ h. absurd (cc h))
    by false is = let h = some e in (is, h.0, h.1)
      where
        some : held_at p at (Some x) ≡ Some (beside o b) → (p ≡ o) × (take at p ++ x.octet ∷ [] ≡ b)
        some = rw (is) (λ h. beside_same p o (take at p ++ x.octet ∷ []) b (cc h))

-- what comes after the first so many is the next
is_next : (o : List ℕ) (at x : ℕ) (rest : List ℕ) → o ≡ take at o ++ x ∷ rest → begins_with x (drop at o) ≡ true
is_next o at x rest e =
    let is : drop at o ≡ x ∷ rest = append_cancel_left (take at o) (drop at o) (x ∷ rest) (take-append-drop at o ∙ e) in
    ap (begins_with x) is ∙ same x
  where
    same : (n : ℕ) → eqb n n ≡ true
    same n = grind (arith)

differs : (t : Bool) → t ≡ false → t ≡ true → ⊥
differs t off on = cc (sym off ∙ on)

-- all were taken exactly where what was written are the octets
taken : (whole o p : List ℕ) (at : ℕ) (d : Option Differing) → held_at p at d ≡ Some (beside o whole) → ((d ≡ None) × (length p ≤ at)) ↔ (o ≡ whole)
taken whole o p at None e =
    let h = held_none p at o whole e in
    (λ k. sym h.0 ∙ sym (take_all at p k.1) ∙ h.1, λ same. (refl, omega (arith, ap length (h.1 ∙ sym same ∙ sym h.0), length-take at p)))
taken whole o p at (Some x) e =
    let h = held_some p at x o whole e in
    (λ k. absurd (cc k.0), λ same. absurd (differs _ h.0 (is_next p at x.octet [] (h.1 ∙ same ∙ sym h.2))))

-- it failed only after an octet that isn't the next
failed : (e : SinkFault) (whole o p : List ℕ) (at : ℕ) (d : Option Differing) → length o < 2 ^ 64 → Stopped 0 whole (Some (beside o [])) 0 e (held_at p at d) (failures_at d) → o ≡ whole → ⊥
failed k whole o p at d few (inr many) same = omega (arith, many, few, ap length same)
failed k whole o p at None few (inl (j, is, less, app, count)) same = omega (arith, count)
failed k whole o p at (Some x) few (inl (j, is, less, app, count)) same =
    let h = held_some p at x o (take j whole) (held_then o (take j whole) _ app) in
    let split : p ≡ take j whole ++ drop j whole = h.1 ∙ same ∙ sym (take-append-drop j whole) in
    let next : p ≡ take at p ++ x.octet ∷ drop j whole = split ∙ ap (λ (l : List ℕ). l ++ drop j whole) (sym h.2) ∙ append_assoc (take at p) (x.octet ∷ []) (drop j whole) in
    differs _ h.0 (is_next p at x.octet (drop j whole) next)

canonical_is : (T : AsnType) (v : AsnValue) → CanonicalGiven → CanonicalComputed → KeepsLimits T → Fits T v → (o : List ℕ) → length o < 2 ^ 64 → (o ≡ canonical_octets T v) ↔ IsCanonical T v o
canonical_is T v given computed limits fits o few = (λ same. subst (λ b. IsCanonical T v b) (sym same) (given T limits v fits (omega (arith, few, ap length same))), λ h. computed T v o h)

-- ---- what the comparison tells, by how the writer ended

pub where_ok : (T : AsnType) (v : AsnValue) → CanonicalGiven → CanonicalComputed → KeepsLimits T → Fits T v → (r : Result ℕ SinkFault) (o p : List ℕ) (at : ℕ) (d : Option Differing) (s : Bool) → length o < 2 ^ 64 → is_ok r ≡ true → Wrote 0 (canonical_octets T v) (Some (beside o [])) 0 r (held_at p at d) (failures_at d) → (IsTrue s ↔ ((d ≡ None) × (length p ≤ at))) → IsTrue s ↔ IsCanonical T v o
where_ok T v given computed limits fits (Ok n) o p at d s few ok (is, app, count) same =
    let all = taken (canonical_octets T v) o p at d (held_then o (canonical_octets T v) (held_at p at d) app) in
    let one = canonical_is T v given computed limits fits o few in
    (λ yes. one.0 (all.0 (same.0 yes)), λ h. same.1 (all.1 (one.1 h)))
where_ok T v given computed limits fits (Err e) o p at d s few ok stopped same = absurd (cc ok)

pub where_err : (T : AsnType) (v : AsnValue) → CanonicalComputed → (r : Result ℕ SinkFault) (o p : List ℕ) (at : ℕ) (d : Option Differing) (s : Bool) → length o < 2 ^ 64 → s ≡ is_ok r → is_ok r ≡ false → Wrote 0 (canonical_octets T v) (Some (beside o [])) 0 r (held_at p at d) (failures_at d) → IsTrue s ↔ IsCanonical T v o
where_err T v computed (Ok n) o p at d s few is err wrote = absurd (cc err)
where_err T v computed (Err e) o p at d s few is err stopped = rw (is) (λ yes. absurd (cc yes), λ h. absurd (failed e (canonical_octets T v) o p at d few stopped (computed T v o h)))
