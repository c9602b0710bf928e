-- The laws.
use Rattle.std.proofs.Common.{◌≡◌, ℕ, ◌-◌, List, [], ◌++◌, length, refl, ap, sym, ◌∙◌, subst, append-nil, arith}
use Rattle.oer_units.specs.Lawful.{Excludes}
use Rattle.oer_units.specs.Reader.{at, named_inside, Outcome, got, refused}
use Rattle.oer_units.specs.declared.fault.Why.{Why}
use Rattle.oer_units.specs.declared.fault.Why.TheVariants.{End, Limit, Window}
use Rattle.oer_units.proofs.Closure.{is_one}
use Rattle.oer_units.proofs.OneSpelling.{octets_split}
use Rattle.oer_units.specs.Octets.{IsOctets}
use Rattle.oer_model.proofs.canonical.CanonicalForms.{encodes_from}
use Rattle.oer_model.proofs.reading.Main.{value_lawful}
use Rattle.oer_model.specs.AsnType.{AsnType}
use Rattle.oer_model.specs.AsnValue.{AsnValue}
use Rattle.oer_model.specs.Constraints.{KeepsLimits}
use Rattle.oer_model.specs.Encoding.{IsSpelling}
use Rattle.oer_model.specs.Laws.{IsDead, IsBeyond, Means, MeansInside, IsRightAnswer, named, ReadsEncodings, ReadsInside, ReadsEach, OneReading}
use Rattle.oer_model.specs.Reading.{read_value}

-- the octets in front of an input of octets
front : (input t rest : List ℕ) → IsOctets input → input ≡ t ++ rest → IsOctets t
front input t rest o e = (octets_split t rest (subst IsOctets e o)).0

means : (why : Why) (T : AsnType) (n : ℕ) (t rest : List ℕ) → Excludes (IsSpelling T) why n t → (why ≡ End → rest ≡ []) → Means why T n t rest
means End T n t rest ex none = (none refl, λ v b c s e. ex v b c [] s.2 (sym e ∙ sym (append-nil t)) refl)
means Limit T n t rest ex none = λ v b c s short. (λ e. ex v b [] c s.2 (append-nil b ∙ e) short, λ e. ex v b c [] s.2 (sym e ∙ sym (append-nil t)) short)
means _ T n t rest ex none = λ v b c s. (λ e. ex v b [] c s.2 (append-nil b ∙ e) tt, λ e. ex v b c [] s.2 (sym e ∙ sym (append-nil t)) tt)

dead_beyond : (T : AsnType) (t : List ℕ) (n : ℕ) → IsDead T t → IsBeyond T t n
dead_beyond T t n dead v b c s short = dead v b c s

means_inside : (why : Why) (T : AsnType) (n : ℕ) (t rest : List ℕ) → Means why T n t rest → MeansInside (named_inside why) T n t rest
means_inside Limit T n t rest m = m
means_inside Window T n t rest m = dead_beyond T t n m
means_inside _ T n t rest m = m

answered : (T : AsnType) → KeepsLimits T → (input : List ℕ) (n : ℕ) → IsOctets input → (o : Outcome AsnValue) → read_value T (at input n) ≡ o → IsRightAnswer (λ why t rest. Means why T n t rest) T input n o
answered T w input n octs (got v q) e =
    let a = (value_lawful T w).sound (at input n) v q e in
    (a.0, a.2, (let i = a.3 in omega arith), encodes_from T w v a.0 (front input a.0 q.input octs a.2) a.1)
answered T w input n octs (refused why rest) e = let a = (value_lawful T w).refusal (at input n) why rest e in (a.0, a.1, a.2, means why T n a.0 rest a.3 a.4)

pub reads_encodings : ReadsEncodings
reads_encodings T w input n octs = answered T w input n octs (read_value T (at input n)) refl

inside : (T : AsnType) (input : List ℕ) (n : ℕ) (o : Outcome AsnValue) → IsRightAnswer (λ why t rest. Means why T n t rest) T input n o → IsRightAnswer (λ why t rest. MeansInside why T n t rest) T input n (named o)
inside T input n (got v q) a = a
inside T input n (refused why rest) (t, e, short, m) = (t, e, short, means_inside why T n t rest m)

pub reads_inside : ReadsInside
reads_inside T w input n octs = inside T input n (read_value T (at input n)) (reads_encodings T w input n octs)

pub reads_each : ReadsEach
reads_each T w v b rest n s l = ap (λ k. read_value T (at (b ++ rest) k)) (omega arith) ∙ (value_lawful T w).complete v b rest (n - length b) s.2

pub one_reading : OneReading
one_reading T w v x b c rest s t e = let one = is_one (value_lawful T w) v x b c rest [] s.2 t.2 (sym e ∙ sym (append-nil c)) in (one.1, one.0)
