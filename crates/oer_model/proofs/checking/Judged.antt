-- The law of checking.
use Rattle.std.proofs.Common.{◌≡◌, ℕ, ◌^◌, ◌<◌, List, [], length, refl, subst}
use Rattle.oer_units.specs.Octets.{IsOctets}
use Rattle.oer_units.specs.Reader.{at, Outcome, got, refused}
use Rattle.oer_units.proofs.Closure.{is_one}
use Rattle.oer_model.proofs.canonical.CanonicalForms.{canonical_of_form}
use Rattle.oer_model.proofs.fitting.Fitting.{enc_fits}
use Rattle.oer_model.proofs.checking.Checked.{Input, input_left}
use Rattle.oer_model.proofs.checking.CheckedParts.{value_checked}
use Rattle.oer_model.proofs.reading.Main.{value_lawful}
use Rattle.oer_model.proofs.canonical.StrictEnc.{strict_within}
use Rattle.oer_model.specs.AsnType.{AsnType}
use Rattle.oer_model.specs.AsnValue.{AsnValue}
use Rattle.oer_model.specs.Checking.{check_value}
use Rattle.oer_model.specs.Constraints.{KeepsLimits}
use Rattle.oer_model.specs.Fits.{DefaultsFit}
use Rattle.oer_model.specs.Laws.{Judges, CheckTells}
use Rattle.oer_model.specs.Reading.{read_value}
use Rattle.oer_model.specs.Strict.{IsStrictSpelling}

judged_by : (T : AsnType) → KeepsLimits T → DefaultsFit T → (input : List ℕ) (n : ℕ) → IsOctets input → length input < 2 ^ 64 → (o : Outcome AsnValue) → read_value T (at input n) ≡ o → Judges T input o (check_value T (at input n))
judged_by T wf d input n o few (refused why rest) e = (value_checked T wf d).refuses (at input n) why rest e
judged_by T wf d input n o few (got v q) e =
    let a = (value_lawful T wf).sound (at input n) v q e in
    let t = (value_checked T wf d).tells (at input n) v q e in
    let whole : Input input = record { octs = o; few = few } in
    let here = input_left a.0 q.input (subst Input a.2 whole) in
    let u = t.2 a.0 here a.2 in (
      a.0,
      t.0,
      a.2,
      t.1,
      (λ f. (v, canonical_of_form T wf v a.0 (enc_fits T wf v a.0 here.octs a.1) here.octs (v, refl, u.0 f)), λ (w, (g, x, same, (ox, fx, s))). u.1 (subst (λ x. IsStrictSpelling T x a.0) (is_one (value_lawful T wf) x v a.0 a.0 [] [] (strict_within T x a.0 s) a.1 refl).0 s)),
    )

pub check_tells : CheckTells
check_tells T wf d input n o few = judged_by T wf d input n o few (read_value T (at input n)) refl
