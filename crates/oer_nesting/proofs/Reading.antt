-- Octets read as a value that meets no end: read, rewritten and checked alike.
use Rattle.std.proofs.Common.{◌≡◌, ℕ, ◌≤◌, List, [], ◌++◌, length, Bool, true, false, refl, ap, sym, ◌∙◌, subst, append-nil}
use Rattle.std.proofs.lemmas.List.{append_cancel_right}
use Rattle.oer_units.specs.Octets.{IsOctets}
use Rattle.oer_units.specs.Reader.{Outcome, Place, at, bind, give, got, then_read}
use Rattle.oer_model.proofs.canonical.Again.{canonical_encodes}
use Rattle.oer_model.proofs.canonical.Computed.{canon_computed}
use Rattle.oer_model.proofs.canonical.Given.{canon_given}
use Rattle.oer_model.proofs.checking.Judged.{check_tells}
use Rattle.oer_model.proofs.reading.Theorems.{one_reading, reads_each, reads_encodings}
use Rattle.oer_model.specs.AsnType.{AsnType}
use Rattle.oer_model.specs.AsnValue.{AsnValue}
use Rattle.oer_model.specs.Canonical.{canonical_octets}
use Rattle.oer_model.specs.Checking.{check_value}
use Rattle.oer_model.specs.Constraints.{KeepsLimits}
use Rattle.oer_model.specs.Encoding.{Encodes}
use Rattle.oer_model.specs.Laws.{IsRightAnswer, Judges, Means, rewritten}
use Rattle.oer_model.specs.Reading.{read_value}
use Rattle.oer_model.specs.Strict.{IsCanonical}
use Rattle.oer_nesting.proofs.Canonical.{canonical_alike, encodes_alike}
use Rattle.oer_nesting.specs.Laws.{ChecksAlike, ReadsAlike, RewritesAlike}

-- what was read is an encoding in front of what is left
front : (T : AsnType) → KeepsLimits T → (input : List ℕ) (n : ℕ) → IsOctets input → (v : AsnValue) (q : Place)
    → read_value T (at input n) ≡ got v q → (t : List ℕ) × (input ≡ t ++ q.input) × (length t ≤ n) × Encodes T v t
front T w input n octs v q e = subst (IsRightAnswer (λ why t rest. Means why T n t rest) T input n) e (reads_encodings T w input n octs)

-- W reads what T reads, if it encodes it
reads_too : (T W : AsnType) → KeepsLimits T → KeepsLimits W → (input : List ℕ) (n : ℕ) → IsOctets input → (v : AsnValue) (q : Place)
    → ((b : List ℕ) → Encodes T v b → Encodes W v b) → read_value T (at input n) ≡ got v q → read_value W (at input n) ≡ got v q
reads_too T W t w input n octs v q moves e =
    let a = front T t input n octs v q e in
    let one = reads_each T t v a.0 q.input n a.3 a.2 in
    let other = reads_each W w v a.0 q.input n (moves a.0 a.3) a.2 in
    ap (λ i. read_value W (at i n)) a.1 ∙ other ∙ sym one ∙ ap (λ i. read_value T (at i n)) (sym a.1) ∙ e

pub reads_alike : ReadsAlike
reads_alike T U d t u input n octs v q none = (
  λ e. reads_too T U t u input n octs v q (λ b x. (encodes_alike T U d v b none).0 x) e,
  λ e. reads_too U T u t input n octs v q (λ b x. (encodes_alike T U d v b none).1 x) e,
)

-- what is read is rewritten to its canonical octets
rewritten_is : (T : AsnType) (input : List ℕ) (n : ℕ) (v : AsnValue) (q : Place) → read_value T (at input n) ≡ got v q
    → rewritten T (at input n) ≡ got (canonical_octets T v) q
unfolding bind give
rewritten_is T input n v q e = ap (then_read (λ v. give (canonical_octets T v))) e

pub rewrites_alike : RewritesAlike
rewrites_alike T U d has t u input n octs v q none e few =
    let a = front T t input n octs v q e in
    let given = canon_given T t v a.3.1 few in
    let c = canonical_octets T v in
    let same : c ≡ canonical_octets U v = canon_computed U v c ((canonical_alike T U d has v c none).0 given) in
    rewritten_is T input n v q e ∙ ap (λ b. got b q) same ∙ sym (rewritten_is U input n v q ((reads_alike T U d t u input n octs v q none).0 e))

-- canonical octets that are read as v are those of v
of_what_is_read : (T : AsnType) → KeepsLimits T → (v : AsnValue) (b : List ℕ) → Encodes T v b → (w : AsnValue) → IsCanonical T w b → IsCanonical T v b
of_what_is_read T t v b x w c =
    let y = canonical_encodes T w b c in
    let one = one_reading T t y.0 v b b [] y.1 x (sym (append-nil b)) in
    subst (λ z. IsCanonical T z b) one.1 y.2

-- b are canonical octets of a value
abbrev OfSome : AsnType → List ℕ → Type 0
OfSome T b = (w : AsnValue) × IsCanonical T w b

some_too : (T W : AsnType) → KeepsLimits T → (v : AsnValue) (b : List ℕ) → Encodes T v b → (IsCanonical T v b → IsCanonical W v b)
    → OfSome T b → OfSome W b
some_too T W t v b x moves (w, c) = (v, moves (of_what_is_read T t v b x w c))

-- two answers that are true of the same
same_answer : (f g : Bool) → (f ≡ true → g ≡ true) → (g ≡ true → f ≡ true) → f ≡ g
same_answer true g i j = sym (i refl)
same_answer false true i j = j refl
same_answer false false i j = refl

same_judgement : (T U : AsnType) (input b : List ℕ) (v : AsnValue) (q : Place) (o p : Outcome Bool) → input ≡ b ++ q.input
    → (OfSome T b → OfSome U b) → (OfSome U b → OfSome T b) → Judges T input (got v q) o → Judges U input (got v q) p → o ≡ p
same_judgement T U input b v q o p split there back (c, f, is, e, (to, from)) (c', f', is', e', (to', from')) =
    let first : c ≡ b = append_cancel_right c b q.input (sym is ∙ split) in
    let second : c' ≡ b = append_cancel_right c' b q.input (sym is' ∙ split) in
    let i : f ≡ true → f' ≡ true = (λ h. from' (subst (OfSome U) (sym second) (there (subst (OfSome T) first (to h))))) in
    let j : f' ≡ true → f ≡ true = (λ h. from (subst (OfSome T) (sym first) (back (subst (OfSome U) second (to' h))))) in
    e ∙ ap (λ g. got g q) (same_answer f f' i j) ∙ sym e'

pub checks_alike : ChecksAlike
checks_alike T U d has t u dt du input n octs few v q none e =
    let a = front T t input n octs v q e in
    let e' = (reads_alike T U d t u input n octs v q none).0 e in
    let j : Judges T input (got v q) (check_value T (at input n))
    = subst (λ o. Judges T input o (check_value T (at input n))) e (check_tells T t dt input n octs few) in
    let k : Judges U input (got v q) (check_value U (at input n))
    = subst (λ o. Judges U input o (check_value U (at input n))) e' (check_tells U u du input n octs few) in
    let alike = canonical_alike T U d has v a.0 none in
    let x : Encodes U v a.0 = (encodes_alike T U d v a.0 none).0 a.3 in
    same_judgement T U input a.0 v q (check_value T (at input n)) (check_value U (at input n)) a.1
    (some_too T U t v a.0 a.3 alike.0) (some_too U T u v a.0 x alike.1) j k
