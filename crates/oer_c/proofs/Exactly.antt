-- From what `check` answers to whether the octets are the canonical octets of a value.
use Rattle.std.proofs.Common.{◌≡◌, ◌↔◌, ◌≤◌, ◌+◌, ℕ, List, [], ◌∷◌, ◌++◌, length, Ok, Err, inl, inr, arith, sym, ap, ◌∙◌, subst}
use Rattle.std.proofs.lemmas.List.{append-nil, length-append}
use Rattle.oer_units.specs.declared.fault.ReadFault.{ReadFault}
use Rattle.oer_model.specs.AsnType.{AsnType}
use Rattle.oer_model.specs.AsnValue.{AsnValue}
use Rattle.oer_model.specs.Strict.{IsCanonical}
use Rattle.oer_model.proofs.canonical.Again.{canonical_encodes}
use Rattle.oer_checker.specs.Check.{Finds, Tells}
use Rattle.oer_checker.specs.declared.verdict.Verdict.{Verdict}
use Rattle.oer_c.specs.Checking.{IsStatus}

-- a front that is as long as the whole is the whole
all_of : (octets b rest : List ℕ) → octets ≡ b ++ rest → length octets ≤ length b → b ≡ octets
all_of octets b [] is le = sym (is ∙ append-nil b)
all_of octets b (x ∷ rest) is le =
    absurd (let n : length octets ≡ length b + length (x ∷ rest) = ap length is ∙ length-append b (x ∷ rest) in omega (arith, n, le))

-- the whole is found
long : (T : AsnType) (octets : List ℕ) (v : Verdict) (w : AsnValue) → Finds T octets (Ok v) → IsCanonical T w octets → v.octets ≡ length octets
long T octets v w finds canonical =
    let e = canonical_encodes T w octets canonical in
    finds e.0 octets [] (sym (append-nil octets)) e.1

-- the status is 0 only for canonical octets
only_canonical : (T : AsnType) (octets : List ℕ) (v : Verdict) (status : ℕ) → Tells T octets (Ok v) → IsStatus (length octets) v status → status ≡ 0
    → (w : AsnValue) × IsCanonical T w octets
only_canonical T octets v status told (inl (is, less)) zero = absurd (cc (is, zero))
only_canonical T octets v status told (inr (inl (is, le, basic))) zero = absurd (cc (is, zero))
only_canonical T octets v status (b, rest, parts, len, encodes, iff) (inr (inr (is, le, canonical))) zero =
    let same : b ≡ octets = all_of octets b rest parts (omega (arith, le, len)) in
    subst (λ (xs : List ℕ). (w : AsnValue) × IsCanonical T w xs) same (iff.0 canonical)

-- and for all of them
each_canonical : (T : AsnType) (octets : List ℕ) (v : Verdict) (status : ℕ) → Tells T octets (Ok v) → Finds T octets (Ok v) → IsStatus (length octets) v status
    → (w : AsnValue) → IsCanonical T w octets → status ≡ 0
each_canonical T octets v status told finds (inl (is, less)) w canonical = absurd (let n = long T octets v w finds canonical in omega (arith, n, less))
each_canonical T octets v status (b, rest, parts, len, encodes, iff) finds (inr (inl (is, le, basic))) w canonical =
    let same : b ≡ octets = all_of octets b rest parts (omega (arith, le, len)) in
    absurd (cc (basic, iff.1 (w, subst (IsCanonical T w) (sym same) canonical)))
each_canonical T octets v status told finds (inr (inr (is, le, kept))) w canonical = is

pub exactly : (T : AsnType) (octets : List ℕ) (v : Verdict) (status : ℕ) → Tells T octets (Ok v) → Finds T octets (Ok v) → IsStatus (length octets) v status
    → (status ≡ 0) ↔ ((w : AsnValue) × IsCanonical T w octets)
exactly T octets v status told finds is = (only_canonical T octets v status told is, λ (w, canonical). each_canonical T octets v status told finds is w canonical)

-- octets that are rejected are no canonical octets
pub none_rejected : (T : AsnType) (octets : List ℕ) (e : ReadFault) (status : ℕ) → Finds T octets (Err e) → status ≡ 1
    → (status ≡ 0) ↔ ((w : AsnValue) × IsCanonical T w octets)
none_rejected T octets e status finds is =
    (λ zero. absurd (cc (is, zero)), λ (w, canonical). absurd (let e = canonical_encodes T w octets canonical in finds e.0 octets [] (sym (append-nil octets)) e.1))
