-- What is no message has no line.
use Rattle.std.proofs.Common.{◌≡◌, ◌∙◌, ℕ, ◌-◌, ◌≤◌, ◌<◌, ◌^◌, Bool, true, false, Some, List, [], ◌∷◌, ◌++◌, length, take, leb, cond, refl, sym, ap, subst, arith, append-nil, length-append}
use Rattle.clap.specs.Words.{Text}
use Rattle.oer_units.specs.Octets.{IsOctets}
use Rattle.oer_units.specs.Reader.{Outcome, Place, at, got, refused}
use Rattle.oer_units.specs.declared.fault.Why.{Why}
use Rattle.oer_units.specs.declared.fault.Why.TheVariants.{End, Limit}
use Rattle.oer_model.specs.AsnType.{AsnType}
use Rattle.oer_model.specs.AsnValue.{AsnValue}
use Rattle.oer_model.specs.Checking.{check_value}
use Rattle.oer_model.specs.Constraints.{KeepsLimits}
use Rattle.oer_model.specs.Encoding.{Encodes}
use Rattle.oer_model.specs.Fits.{DefaultsFit}
use Rattle.oer_model.specs.Laws.{IsRightAnswer, Judges, Means}
use Rattle.oer_model.specs.Parts.{Step, find_part}
use Rattle.oer_model.specs.Reading.{read_value}
use Rattle.oer_model.proofs.checking.Judged.{check_tells}
use Rattle.oer_model.proofs.reading.Theorems.{one_reading, reads_encodings}
use Rattle.oer_checker.specs.Check.{most}
use Rattle.oer_cmd.specs.Answer.{check_octets, checked, handed, in_form, part_octets, value_read, value_text, within_limit}
use Rattle.oer_cmd.specs.Expected.{Expected, refusal, stop, unknown, value, ◌>>=◌}
use Rattle.oer_cmd.specs.Run.{verdict_text}
use Rattle.oer_cmd.specs.declared.fault.Fault.TheVariants.{Longer}
use Rattle.oer_cmd.specs.declared.value.Form.{Form}
use Rattle.oer_cmd.specs.declared.value.Form.TheVariants as form
use Rattle.oer_cmd.proofs.Answered.{made_of}
use Rattle.oer_cmd.proofs.Exact.{at_end}
use Rattle.oer_ends_cmd.specs.Telling.{told_answer}
use Rattle.oer_lines_cmd.specs.Stream.{Piece, by_front, by_outcome, by_reason, first_piece, front_before, long, message, piece_answer, reads_first, rejected}
use Rattle.oer_lines_cmd.specs.StreamLaws.{BeginsWithNone}
use Rattle.oer_lines_cmd.specs.Tasks.{long_answer, octets_answer, octets_told}
use Rattle.oer_lines_cmd.specs.declared.task.LineTask.{LineTask}
use Rattle.oer_lines_cmd.specs.declared.task.LineTask.TheVariants.{Canon, Check, Part, Show}
use Rattle.oer_lines_cmd.proofs.Chained.{front_is, message_is}
use Rattle.oer_lines_cmd.proofs.OneStream.{front_octets, message_of}

-- The octets are no encoding.
abbrev IsNone : AsnType → List ℕ → Type 0
IsNone T b = (v : AsnValue) → Encodes T v b → ⊥

means_none : (why : Why) (T : AsnType) (n : ℕ) (t rest : List ℕ) → Means why T n t rest → length t ≤ n → IsNone T t
means_none End T n t rest m le v enc = m.1 v t [] enc (sym (append-nil t))
means_none Limit T n t rest m le v enc = (m v t [] enc le).1 (sym (append-nil t))
means_none _ T n t rest m le v enc = (m v t [] enc).1 (sym (append-nil t))

-- the octets of a piece
abbrev octets_of : Piece → List ℕ
octets_of (message b) = b
octets_of (rejected b) = b
octets_of (long b) = b

of_reason : (why : Why) (b : List ℕ) → octets_of (by_reason why b) ≡ b
of_reason Limit b = refl
of_reason _ b = refl

-- These are octets at the front of xs, and no encoding.
record IsRefused (T : AsnType) (xs b : List ℕ) : Type 0 where
  none : IsNone T b
  octets : IsOctets b
  few : length b ≤ length xs

one_octet : (T : AsnType) → KeepsLimits T → (v : AsnValue) (xs : List ℕ) → IsOctets xs → 1 ≤ length xs → Encodes T v [] → IsRefused T xs (take 1 xs)
one_octet T keeps v [] octs some enc = absurd (omega (arith, some))
one_octet T keeps v (x ∷ xs) octs some enc = record {
  none = λ w other. let none = (one_reading T keeps v w [] (x ∷ []) (x ∷ []) enc other refl).0 in let size = ap length none in omega (arith, size);
  octets = (octs.0, tt);
  few = omega arith;
}

-- Those of a piece that is no message are so.
none_read : (T : AsnType) → KeepsLimits T → (limit : ℕ) (xs : List ℕ) → IsOctets xs → 1 ≤ length xs → BeginsWithNone T limit xs
    → IsRefused T xs (octets_of (first_piece T limit xs))
none_read T keeps limit xs octs some none = by (read_value T (at xs limit)) refl where
  empty : (v : AsnValue) (q : Place) (t : List ℕ) → Encodes T v t → xs ≡ t ++ q.input → length t ≤ limit → IsRefused T xs (octets_of (by_front xs t))
  empty v q [] enc all le = one_octet T keeps v xs octs some enc
  empty v q (y ∷ t) enc all le = absurd (none (y ∷ t) q.input all (v, enc, omega arith, le))

  by : (o : Outcome AsnValue) → read_value T (at xs limit) ≡ o → IsRefused T xs (octets_of (first_piece T limit xs))
  by (refused why rest) e =
      let (t, all, le, means) = subst (IsRightAnswer (λ w u r. Means w T limit u r) T xs limit) e (reads_encodings T keeps xs limit octs) in
      let same : octets_of (first_piece T limit xs) ≡ t =
      ap (λ o. octets_of (by_outcome xs o)) e ∙ of_reason why (front_before xs rest) ∙ front_is xs t rest all in
      let size = ap length all in
      let both = length-append t rest in
      subst (IsRefused T xs) (sym same) (record {
        none = means_none why T limit t rest means le;
        octets = front_octets t rest (subst IsOctets all octs);
        few = omega (arith, size, both);
      })
  by (got v q) e =
      let (t, all, le, enc) = subst (IsRightAnswer (λ w u r. Means w T limit u r) T xs limit) e (reads_encodings T keeps xs limit octs) in
      let same : first_piece T limit xs ≡ by_front xs t = ap (by_outcome xs) e ∙ ap (by_front xs) (front_is xs t q.input all) in
      subst (λ p. IsRefused T xs (octets_of p)) (sym same) (empty v q t enc all le)

-- ---- what has a line is an encoding

module _ (T : AsnType) (keeps : KeepsLimits T) (defaults : DefaultsFit T) (b : List ℕ) (octs : IsOctets b) (few : length b < 2 ^ 64) (none : IsNone T b) where
  not_read : (n : ℕ) (v : AsnValue) (q : Place) → read_value T (at b n) ≡ got v q → q.input ≡ [] → ⊥
  not_read n v q is end =
      let (t, all, le, enc) = subst (IsRightAnswer (λ w u r. Means w T n u r) T b n) is (reads_encodings T keeps b n octs) in
      none v (subst (Encodes T v) (sym (all ∙ ap (λ l. t ++ l) end ∙ append-nil t)) enc)

  no_value : (limit : ℕ) (v : AsnValue) → value_read T limit b ≡ value v → ⊥
  no_value limit v is = let (q, reads, end) = at_end b (read_value T (at b limit)) v is in not_read limit v q reads end

  no_verdict : (f : Bool) → checked T b ≡ value f → ⊥
  no_verdict f is =
      let (q, checks, end) = at_end b (check_value T (at b most)) f is in
      by (read_value T (at b most)) refl (check_tells T keeps defaults b most octs few) q checks end where
        by : (o : Outcome AsnValue) → read_value T (at b most) ≡ o → Judges T b (read_value T (at b most)) (check_value T (at b most))
            → (q : Place) → check_value T (at b most) ≡ got f q → q.input ≡ [] → ⊥
        by (got v p) is judges q checks end =
            let (c, g, all, same, tells) = subst (λ o. Judges T b o (check_value T (at b most))) is judges in
            let one : got g p ≡ got f q = sym same ∙ checks in
            let place : p ≡ q = cc in
            not_read most v p is (ap (λ (r : Place). r.input) place ∙ end)
        by (refused why rest) is judges q checks end =
            let same = subst (λ o. Judges T b o (check_value T (at b most))) is judges in
            let differ : refused why rest ≡ got f q = sym same ∙ checks in cc

  no_text : (f : Form) (limit : ℕ) (y : Text) → value_text f T limit b ≡ value y → ⊥
  no_text f limit y is = let v = made_of (value_read T limit b) (in_form f T) y is in no_value limit v.0 v.1

  no_check : (y : Text) → check_octets T b ≡ value y → ⊥
  no_check y is = let f = made_of (checked T b) (λ canonical. value (verdict_text canonical (length b))) y is in no_verdict f.0 f.1

  no_part : (steps : List Step) (y : Text) → part_octets T steps b ≡ value y → ⊥
  no_part steps y is = let f = made_of (checked T b) (λ canonical. handed (find_part (Some T) b steps)) y is in no_verdict f.0 f.1

  no_limited : {A : Type 0} (limit : ℕ) (next : List ℕ → Expected A) (y : A) → (next b ≡ value y → ⊥) → (within_limit limit b >>= next) ≡ value y → ⊥
  no_limited limit next y never is = by (leb (length b) limit) is where
    by : (t : Bool) → ((cond t (value b) (stop (Longer limit))) >>= next) ≡ value y → ⊥
    by true is = never is
    by false is = let differ : stop (Longer limit) ≡ value y = is in cc

  no_answer : (task : LineTask) (limit : ℕ) (path : Expected (List Step)) (y : Text) → octets_answer task T limit path b ≡ value y → ⊥
  no_answer (Show style) limit path y is = no_text (form.Json style) limit y is
  no_answer Canon limit path y is = no_text form.Octets limit y is
  no_answer Check limit path y is = no_limited limit (check_octets T) y (no_check y) is
  no_answer (Part text) limit unknown y is = let differ : unknown ≡ value y = is in cc
  no_answer (Part text) limit (refusal r) y is = let differ : refusal r ≡ value y = is in cc
  no_answer (Part text) limit (value steps) y is = no_limited limit (part_octets T steps) y (no_part steps y) is

  no_told : (limit : ℕ) (x : Expected Text) (y : Text) → (x ≡ value y → ⊥) → told_answer T limit b x ≡ value y → ⊥
  no_told limit unknown y never is = never is
  no_told limit (value z) y never is = never is
  no_told limit (refusal r) y never is = let differ : told_answer T limit b (refusal r) ≡ value y = is in cc

  pub no_line : (nests : Bool) (task : LineTask) (limit : ℕ) (path : Expected (List Step)) (y : Text) → octets_told nests task T limit path b ≡ value y → ⊥
  no_line false task limit path y is = no_answer task limit path y is
  no_line true task limit path y is = no_told limit (octets_answer task T limit path b) y (no_answer task limit path y) is

no_long : (task : LineTask) (limit : ℕ) (path : Expected (List Step)) (y : Text) → long_answer task limit path ≡ value y → ⊥
no_long (Part text) limit unknown y is = let differ : unknown ≡ value y = is in cc
no_long (Part text) limit (refusal r) y is = let differ : refusal r ≡ value y = is in cc
no_long (Part text) limit (value steps) y is = let differ : stop (Longer limit) ≡ value y = is in cc
no_long _ limit path y is = let differ : stop (Longer limit) ≡ value y = is in cc

pub none_has_line : (T : AsnType) → KeepsLimits T → DefaultsFit T → (nests : Bool) (task : LineTask) (limit : ℕ) (path : Expected (List Step)) (xs : List ℕ)
    → IsOctets xs → length xs < 2 ^ 64 → 1 ≤ length xs → BeginsWithNone T limit xs
    → (line : Text) → piece_answer nests task T limit path (first_piece T limit xs) ≡ value line → ⊥
none_has_line T keeps defaults nests task limit path xs octs few some none line =
    by (first_piece T limit xs) refl (none_read T keeps limit xs octs some none) where
      refuses : (b : List ℕ) → IsRefused T xs b → octets_told nests task T limit path b ≡ value line → ⊥
      refuses b r is = let less = r.few in no_line T keeps defaults b r.octets (omega (arith, few, less)) r.none nests task limit path line is

      by_first : (t : Bool) (b : List ℕ) → IsRefused T xs b → cond t (long_answer task limit path) (octets_told nests task T limit path b) ≡ value line → ⊥
      by_first true b r is = no_long task limit path line is
      by_first false b r is = refuses b r is

      by : (p : Piece) → first_piece T limit xs ≡ p → IsRefused T xs (octets_of p) → piece_answer nests task T limit path p ≡ value line → ⊥
      by (message b) is r = λ e. let m = message_is T keeps limit xs b is in none b m.1.0 m.1.1 (message_of T keeps limit b r.octets m.0)
      by (rejected b) is r = refuses b r
      by (long b) is r = by_first (reads_first nests task) b r
