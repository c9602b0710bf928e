-- Equal canonical octets, and rewriting.
use Rattle.std.proofs.Common.{◌≡◌, ℕ, ◌+◌, ◌^◌, ◌<◌, List, ◌++◌, length, refl, ap, sym, ◌∙◌, subst}
use Rattle.oer_units.specs.Octets.{IsOctets}
use Rattle.oer_units.specs.Reader.{Place, at, Outcome, got, refused, give, bind, then_read}
use Rattle.oer_units.proofs.Closure.{got_value}
use Rattle.oer_units.proofs.OneSpelling.{octets_split}
use Rattle.oer_model.proofs.canonical.Computed.{form_computed}
use Rattle.oer_model.proofs.fitting.Fitting.{enc_fits}
use Rattle.oer_model.proofs.canonical.Given.{canon_given}
use Rattle.oer_model.proofs.reading.Main.{value_lawful}
use Rattle.oer_model.proofs.canonical.StrictEnc.{strict_within, canon_shared, canon_tells, canon_encodes}
use Rattle.oer_model.proofs.filling.Trimming.{trims_from_fills}
use Rattle.oer_model.proofs.canonical.CanonicalForms.{form_of_canonical, canonical_of_form, canonical_octets_are}
use Rattle.oer_model.specs.Strict.{IsCanonical}
use Rattle.oer_model.specs.AsnType.{AsnType}
use Rattle.oer_model.specs.AsnValue.{AsnValue}
use Rattle.oer_model.specs.Canonical.{plain_octets, canonical_octets}
use Rattle.oer_model.specs.Constraints.{KeepsLimits}
use Rattle.oer_model.specs.Laws.{CanonicalTellsFilled, CanonicalEncodes, rewritten, EqualOctets, CanonicalStays, RewriteTwice}
use Rattle.oer_model.specs.Reading.{read_value}

pub equal_octets : EqualOctets
equal_octets T wf v w f g s = (
  λ e. canon_tells T wf v w (canonical_octets T v) (form_of_canonical T v (canonical_octets T v) (canon_given T wf v f s)) (form_of_canonical T w (canonical_octets T v) (subst (IsCanonical T w) (sym e) (canon_given T wf w g (subst (λ b. length b < 2 ^ 64) e s)))),
  λ e. ap (plain_octets T) (trims_from_fills T v w e),
)

read_back : (T : AsnType) → KeepsLimits T → (w : AsnValue) (b rest : List ℕ) (m : ℕ) → canonical_octets T w ≡ b → read_value T (at (b ++ rest) (length b + m)) ≡ got w (at rest m) → rewritten T (at (b ++ rest) (length b + m)) ≡ got b (at rest m)
unfolding bind give
read_back T wf w b rest m c e = ap (then_read (λ v. give (canonical_octets T v))) e ∙ ap (λ b. got b (at rest m)) c

pub canon_stays : CanonicalStays
canon_stays T wf v b rest m c =
    let d = canon_encodes T v b (form_of_canonical T v b c) in
    read_back T wf d.0 b rest m (sym (form_computed T d.0 b d.2)) ((value_lawful T wf).complete d.0 b rest m d.1)

rewritten_from : (T : AsnType) (input : List ℕ) (n : ℕ) (c : List ℕ) (q : Place) → rewritten T (at input n) ≡ got c q → (v : AsnValue) × (s : Place) × (read_value T (at input n) ≡ got v s) × (canonical_octets T v ≡ c)
unfolding bind give
rewritten_from T input n c q e = go (read_value T (at input n)) refl e
  where
    go : (o : Outcome AsnValue) → read_value T (at input n) ≡ o → then_read (λ v. give (canonical_octets T v)) o ≡ got c q → (v : AsnValue) × (s : Place) × (read_value T (at input n) ≡ got v s) × (canonical_octets T v ≡ c)
    go (got v s) f g = (v, s, f, got_value (canonical_octets T v) c s q g)
    go (refused why rest) f g = absurd (cc)

pub rewrite_twice : RewriteTwice
rewrite_twice T wf input n c q o e small rest m =
    let r = rewritten_from T input n c q e in
    let a = (value_lawful T wf).sound (at input n) r.0 r.1 r.2 in
    let octs = octets_split a.0 r.1.input (subst IsOctets a.2 o) in
    let fits = enc_fits T wf r.0 a.0 octs.0 a.1 in
    let given = canon_given T wf r.0 fits (subst (λ b. length b < 2 ^ 64) (sym r.3) small) in
    canon_stays T wf r.0 c rest m (subst (IsCanonical T r.0) r.3 given)

pub canonical_tells : CanonicalTellsFilled
canonical_tells T wf v w b f g s = (
  λ t. canon_tells T wf v w b (form_of_canonical T v b s) (form_of_canonical T w b t),
  λ e. canonical_of_form T wf w b g (canonical_octets_are T v b s) (canon_shared T v w b e (form_of_canonical T v b s)),
)

pub canonical_encodes : CanonicalEncodes
canonical_encodes T v b (f, w, e, (o, g, s)) = (w, (o, g, strict_within T w b s), (g, w, refl, (o, g, s)), e)
