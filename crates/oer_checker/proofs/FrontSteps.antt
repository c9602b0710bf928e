-- From what the checker answers to what its caller learns.
use Rattle.std.proofs.Common.{◌≡◌, ℕ, ◌-◌, ◌^◌, ◌<◌, ◌≤◌, Bool, List, [], ◌∷◌, ◌++◌, length, drop, Ok, Err, arith, refl, sym, ap, ap₂, ◌∙◌, subst, length-append, length-drop}
use Rattle.oer_units.specs.declared.fault.Why.{Why}
use Rattle.oer_units.specs.declared.fault.ReadFault.{ReadFault}
use Rattle.oer_units.specs.Octets.{IsOctets}
use Rattle.oer_units.specs.Reader.{Outcome, Place, at, got, refused}
use Rattle.oer_units.proofs.Closure.{got_place, got_value}
use Rattle.oer_model.specs.AsnType.{AsnType}
use Rattle.oer_model.specs.AsnValue.{AsnValue}
use Rattle.oer_model.specs.Checking.{check_value}
use Rattle.oer_model.specs.Constraints.{KeepsLimits}
use Rattle.oer_model.specs.Encoding.{Encodes}
use Rattle.oer_model.specs.Fits.{DefaultsFit}
use Rattle.oer_model.specs.Laws as law
use Rattle.oer_model.specs.Laws.{Judges, Means}
use Rattle.oer_model.specs.Reading.{read_value}
use Rattle.oer_model.proofs.checking.Checked.{front_same}
use Rattle.oer_model.proofs.checking.Judged.{check_tells}
use Rattle.oer_model.proofs.reading.Main.{value_lawful}
use Rattle.oer_model.proofs.reading.Theorems.{reads_each, reads_encodings}
use Rattle.oer_checker.specs.Check.{Answers, Finds, IsFound, Tells, most}
use Rattle.oer_checker.specs.declared.verdict.Verdict.{Verdict}

abbrev no : Why → List ℕ → Outcome Bool
no why rest = refused why rest

dropped : (t ys : List ℕ) → drop (length t) (t ++ ys) ≡ ys
dropped [] ys = refl
dropped (x ∷ t) ys = dropped t ys

front_size : (input t rest : List ℕ) → input ≡ t ++ rest → length input - length rest ≡ length t
front_size input t rest e = omega (arith, ap length e, length-append t rest)

rest_is : (input t rest : List ℕ) (n : ℕ) → input ≡ t ++ rest → n ≡ length t → rest ≡ drop n input
rest_is input t rest n e is = sym (ap₂ (λ (k : ℕ) (l : List ℕ). drop k l) is e ∙ dropped t rest)

module _ (T : AsnType) (wf : KeepsLimits T) (d : DefaultsFit T) (input : List ℕ) (octs : IsOctets input) (few : length input < 2 ^ 64) where
  judged : (o : Outcome AsnValue) → read_value T (at input most) ≡ o → Judges T input o (check_value T (at input most))
  judged o e = subst (λ (r : Outcome AsnValue). Judges T input r (check_value T (at input most))) e (check_tells T wf d input most octs few)

  told : (o : Outcome AsnValue) → read_value T (at input most) ≡ o → law.IsRightAnswer (λ why t rest. Means why T most t rest) T input most o
  told o e = subst (λ (r : Outcome AsnValue). law.IsRightAnswer (λ why t rest. Means why T most t rest) T input most r) e (reads_encodings T wf input most octs)

  found : (verdict : Verdict) (f : Bool) (q : Place) → verdict.octets ≡ length input - length q.input → verdict.canonical ≡ f → got f q ≡ check_value T (at input most) → Tells T input (Ok verdict) × Answers T input (Ok verdict)
  found verdict f q many flag e = cases (read_value T (at input most)) refl where
    cases : (o : Outcome AsnValue) → read_value T (at input most) ≡ o → Tells T input (Ok verdict) × Answers T input (Ok verdict)
    cases (refused why rest) h = let j = judged (refused why rest) h in absurd (cc)
    cases (got v r) h =
        let j = judged (got v r) h in
        let t = told (got v r) h in
        let a = (value_lawful T wf).sound (at input most) v r h in
        let same : got f q ≡ got j.1 r = e ∙ j.3 in
        let flags : f ≡ j.1 = got_value f j.1 q r same in
        let places : q ≡ r = got_place f j.1 q r same in
        let fronts : t.0 ≡ j.0 = front_same t.0 j.0 r.input (sym t.1 ∙ j.2) in
        let size : verdict.octets ≡ length j.0 = many ∙ ap (λ (p : Place). length input - length p.input) places ∙ front_size input j.0 r.input j.2 in
        let front : a.0 ≡ j.0 = front_same a.0 j.0 r.input (sym a.2 ∙ j.2) in
        let left : r.left ≡ most - verdict.octets = (let l = a.3 in omega (arith, size, ap length front)) in
        let rest : r.input ≡ drop verdict.octets input = rest_is input j.0 r.input verdict.octets j.2 size in (
          (j.0, r.input, j.2, size, (v, subst (λ (b : List ℕ). Encodes T v b) fronts t.3), ((λ c. j.4.0 (sym flags ∙ sym flag ∙ c)), (λ c. flag ∙ flags ∙ j.4.1 c))),
          j.3 ∙ ap₂ (λ (g : Bool) (p : Place). got g p) (sym flags ∙ sym flag) (ap₂ (λ (l : List ℕ) (n : ℕ). at l n) rest left),
        )

  stopped : (e : ReadFault) (why : Why) (rest : List ℕ) → e.taken ≡ length input - length rest → e.why ≡ why → refused why rest ≡ check_value T (at input most) → Tells T input (Err e) × Answers T input (Err e)
  stopped e why rest many is h = cases (read_value T (at input most)) refl where
    cases : (o : Outcome AsnValue) → read_value T (at input most) ≡ o → Tells T input (Err e) × Answers T input (Err e)
    cases (got v r) k = let j = judged (got v r) k in let same : refused why rest ≡ got j.1 r = h ∙ j.3 in absurd (cc)
    cases (refused w l) k =
        let j = judged (refused w l) k in
        let t = told (refused w l) k in
        let same : no why rest ≡ no w l = h ∙ j in
        let whys : why ≡ w = cc in
        let rests : rest ≡ l = cc in
        let size : e.taken ≡ length t.0 = many ∙ ap (λ (s : List ℕ). length input - length s) rests ∙ front_size input t.0 l t.1 in
        let there : l ≡ drop e.taken input = rest_is input t.0 l e.taken t.1 size in (
          (t.0, l, t.1, size, subst (λ (y : Why). Means y T most t.0 l) (sym whys ∙ sym is) t.3),
          j ∙ ap₂ (λ (y : Why) (s : List ℕ). refused y s) (sym whys ∙ sym is) there,
        )

  short : (b rest : List ℕ) → input ≡ b ++ rest → length b ≤ most
  short b rest e = omega (arith, ap length e, length-append b rest)

  comes : (v : AsnValue) (b rest : List ℕ) → input ≡ b ++ rest → Encodes T v b → read_value T (at input most) ≡ got v (at rest (most - length b))
  comes v b rest e s = ap (λ (l : List ℕ). read_value T (at l most)) e ∙ reads_each T wf v b rest most s (short b rest e)

  pub found_told : (verdict : Verdict) (f : Bool) (q : Place) → verdict.octets ≡ length input - length q.input → verdict.canonical ≡ f → got f q ≡ check_value T (at input most) → Tells T input (Ok verdict)
  found_told verdict f q many flag e = (found verdict f q many flag e).0

  pub found_exact : (verdict : Verdict) (f : Bool) (q : Place) → verdict.octets ≡ length input - length q.input → verdict.canonical ≡ f → got f q ≡ check_value T (at input most) → Answers T input (Ok verdict)
  found_exact verdict f q many flag e = (found verdict f q many flag e).1

  pub found_comes : (verdict : Verdict) (f : Bool) (q : Place) → verdict.octets ≡ length input - length q.input → got f q ≡ check_value T (at input most) → Finds T input (Ok verdict)
  found_comes verdict f q many e v b rest split s =
      let r : Place = at rest (most - length b) in
      let j = judged (got v r) (comes v b rest split s) in
      let places : q ≡ r = got_place f j.1 q r (e ∙ j.3) in
      many ∙ ap (λ (p : Place). length input - length p.input) places ∙ front_size input b rest split

  pub stopped_told : (e : ReadFault) (why : Why) (rest : List ℕ) → e.taken ≡ length input - length rest → e.why ≡ why → refused why rest ≡ check_value T (at input most) → Tells T input (Err e)
  stopped_told e why rest many is h = (stopped e why rest many is h).0

  pub stopped_exact : (e : ReadFault) (why : Why) (rest : List ℕ) → e.taken ≡ length input - length rest → e.why ≡ why → refused why rest ≡ check_value T (at input most) → Answers T input (Err e)
  stopped_exact e why rest many is h = (stopped e why rest many is h).1

  pub stopped_comes : (e : ReadFault) (why : Why) (rest : List ℕ) → refused why rest ≡ check_value T (at input most) → Finds T input (Err e)
  stopped_comes e why rest h v b more split s =
      let r : Place = at more (most - length b) in
      let j = judged (got v r) (comes v b more split s) in
      let same : refused why rest ≡ got j.1 r = h ∙ j.3 in
      absurd (cc)

-- what is known of the encoding that the checker found
pub found_again : (T : AsnType) → KeepsLimits T → DefaultsFit T → (input : List ℕ) → IsOctets input → length input < 2 ^ 64 → (verdict : Verdict) → IsFound T input verdict → Tells T input (Ok verdict) × Finds T input (Ok verdict)
found_again T wf d input octs few verdict (e, within) =
    let q : Place = at (drop verdict.octets input) (most - verdict.octets) in
    let many : verdict.octets ≡ length input - length q.input = omega (arith, length-drop verdict.octets input, within) in
    (found_told T wf d input octs few verdict verdict.canonical q many refl (sym e), found_comes T wf d input octs few verdict verdict.canonical q many (sym e))
