-- The headline.
use Rattle.std.proofs.Common.{◌≡◌, ℕ, ◌-◌, ◌^◌, ◌<◌, ◌≤◌, List, ◌++◌, length, refl, ap, sym, ◌∙◌, subst, arith}
use Rattle.oer_units.specs.Octets.{IsOctets}
use Rattle.oer_units.specs.Reader.{Outcome, Place, at, bind, give, got, refused, then_read}
use Rattle.oer_units.proofs.Closure.{got_place, got_value}
use Rattle.oer_units.proofs.OneSpelling.{octets_split}
use Rattle.oer_model.proofs.canonical.Again.{canonical_tells, rewrite_twice}
use Rattle.oer_model.proofs.canonical.CanonicalForms.{encodes_from}
use Rattle.oer_model.proofs.canonical.Given.{canon_given}
use Rattle.oer_model.proofs.reading.Main.{value_lawful}
use Rattle.oer_model.proofs.reading.Theorems.{one_reading, reads_each}
use Rattle.oer_model.specs.AsnType.{AsnType}
use Rattle.oer_model.specs.AsnValue.{AsnValue}
use Rattle.oer_model.specs.Canonical.{canonical_octets}
use Rattle.oer_model.specs.Constraints.{KeepsLimits}
use Rattle.oer_model.specs.Encoding.{Encodes}
use Rattle.oer_model.specs.Headline.{Accepts, Headline, Rewrites}
use Rattle.oer_model.specs.Reading.{read_value}
use Rattle.oer_model.specs.Strict.{IsCanonical}

-- what is read is an encoding at the front
encoded : (T : AsnType) → KeepsLimits T → (input : List ℕ) (n : ℕ) → IsOctets input → (v : AsnValue) (q : Place) → read_value T (at input n) ≡ got v q → (b : List ℕ) × (input ≡ b ++ q.input) × (length b ≤ n) × Encodes T v b
encoded T w input n o v q e =
    let a = (value_lawful T w).sound (at input n) v q e in
    (a.0, a.2, (let i = a.3 in omega arith), encodes_from T w v a.0 (octets_split a.0 q.input (subst IsOctets a.2 o)).0 a.1)

accepts : (T : AsnType) → KeepsLimits T → Accepts T
accepts T w input n o v rest = (
  λ (left, e). encoded T w input n o v (at rest left) e,
  λ (b, e, short, x). (n - length b, ap (λ w. read_value T (at w n)) e ∙ reads_each T w v b rest n x short),
)

rewritten_from : (T : AsnType) (c : List ℕ) (q : Place) (p : Place) (o : Outcome AsnValue) → read_value T p ≡ o → then_read (λ v. give (canonical_octets T v)) o ≡ got c q → (v : AsnValue) × (read_value T p ≡ got v q) × (canonical_octets T v ≡ c)
unfolding give
rewritten_from T c q p (got v s) f g = (v, f ∙ ap (λ s. got v s) (got_place (canonical_octets T v) c s q g), got_value (canonical_octets T v) c s q g)
rewritten_from T c q p (refused why rest) f g = absurd (cc)

rewrites : (T : AsnType) → KeepsLimits T → Rewrites T
unfolding bind
rewrites T w input n c q o e few =
    let r = rewritten_from T c q (at input n) (read_value T (at input n)) refl e in
    let x = encoded T w input n o r.0 q r.1 in
    let given = canon_given T w r.0 x.3.1 (subst (λ b. length b < 2 ^ 64) (sym r.2) few) in
    ((r.0, x.0, x.1, x.2, x.3, subst (IsCanonical T r.0) r.2 given), rewrite_twice T w input n c q o e few)

pub headlines : Headline
headlines T w = (canonical_tells T w.limits, accepts T w.limits, one_reading T w.limits, rewrites T w.limits)
