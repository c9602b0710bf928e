-- How many sets have a number.
use Rattle.std.proofs.Common.{◌≡◌, ℕ, suc, ◌+◌, ◌≤◌, List, [], ◌∷◌, ◌++◌, Bool, true, false, not, ◌&&◌, ◌||◌, cond, if◌then◌else◌}
use Rattle.std.proofs.Common.{leb, length, refl, sym, ap, ap₂, ◌∙◌, arith}
use Rattle.std.specs.Prelude.{ℤ, ◌<ℤ◌, int_le}
use Rattle.std.proofs.lemmas.Bool.{le-leb, lt-leb, leb-true, leb-false}
use Rattle.std.proofs.lemmas.Int.{ints}
use Rattle.std.proofs.lemmas.List.Sums.{sum_by-cons, sum_by-append, count_by-le-length}
use Rattle.oer_module_bounds.specs.Numbers.{allows, allows_one, allows_each, allowed_by}
use Rattle.oer_module_bounds.specs.Sets.{Each, Set, sets_from}
use Rattle.oer_module_bounds.specs.Steps.{numbers, at, Rises, Gives}
use Rattle.oer_module_bounds.specs.Tally.{one_if, begun_by, ended_by, turns_of, Counts, reached}
use Rattle.oer_module_bounds.specs.declared.ends.Cut.{Cut}
use Rattle.oer_module_bounds.specs.declared.steps.Steps.{Steps}
use Rattle.oer_module_bounds.specs.declared.tally.Tally.{Tally}
use Rattle.oer_module_bounds.specs.declared.tally.Turn.{Turn}
use Rattle.oer_module_bounds.proofs.Cuts.{false_le, le_false, each_weaker, unmoved}

-- ---- the turns of one set

begun_cons : (n : ℤ) (t : Turn) (ts : List Turn) → begun_by n (t ∷ ts) ≡ one_if (t.begins && int_le t.at.number n) + begun_by n ts
begun_cons n t ts = sum_by-cons (λ u. one_if (u.begins && int_le u.at.number n)) t ts

ended_cons : (n : ℤ) (t : Turn) (ts : List Turn) → ended_by n (t ∷ ts) ≡ one_if (not t.begins && int_le t.at.number n) + ended_by n ts
ended_cons n t ts = sum_by-cons (λ u. one_if (not u.begins && int_le u.at.number n)) t ts

and_false : (b : Bool) → one_if (b && false) ≡ 0
and_false true = refl
and_false false = refl

none_begun : (n : ℤ) (b : Bool) (cs : List Cut) → Each (λ c. n <ℤ c) (numbers cs) → begun_by n (turns_of b cs) ≡ 0
none_begun n b [] h = refl
none_begun n b (c ∷ cs) h =
    begun_cons n (record { at = c; begins = not b }) (turns_of (not b) cs)
    ∙ ap₂ (λ x y. x + y) (ap (λ t. one_if (not b && t)) (false_le c.number n h.0) ∙ and_false (not b)) (none_begun n (not b) cs h.1)

none_ended : (n : ℤ) (b : Bool) (cs : List Cut) → Each (λ c. n <ℤ c) (numbers cs) → ended_by n (turns_of b cs) ≡ 0
none_ended n b [] h = refl
none_ended n b (c ∷ cs) h =
    ended_cons n (record { at = c; begins = not b }) (turns_of (not b) cs)
    ∙ ap₂ (λ x y. x + y) (ap (λ t. one_if (not (not b) && t)) (false_le c.number n h.0) ∙ and_false (not (not b))) (none_ended n (not b) cs h.1)

abbrev Counted : Bool → Bool → List Turn → ℤ → Type 0
Counted inside b ts n = one_if inside + ended_by n ts ≡ one_if b + begun_by n ts

counted_past : (n : ℤ) (c : Cut) (cs : List Cut) (b : Bool) → int_le c.number n ≡ true → Counted (at (not b) (numbers cs) n) (not b) (turns_of (not b) cs) n
    → Counted (at (not b) (numbers cs) n) b (turns_of b (c ∷ cs)) n
counted_past n c cs true h k =
    let e : ended_by n (turns_of true (c ∷ cs)) ≡ 1 + ended_by n (turns_of false cs) = ended_cons n (record { at = c; begins = false }) (turns_of false cs) ∙ rw h refl in
    let g : begun_by n (turns_of true (c ∷ cs)) ≡ 0 + begun_by n (turns_of false cs) = begun_cons n (record { at = c; begins = false }) (turns_of false cs) in
    omega arith
counted_past n c cs false h k =
    let e : ended_by n (turns_of false (c ∷ cs)) ≡ 0 + ended_by n (turns_of true cs) = ended_cons n (record { at = c; begins = true }) (turns_of true cs) in
    let g : begun_by n (turns_of false (c ∷ cs)) ≡ 1 + begun_by n (turns_of true cs) = begun_cons n (record { at = c; begins = true }) (turns_of true cs) ∙ rw h refl in
    omega arith

counted_before : (n : ℤ) (c : Cut) (cs : List Cut) (b : Bool) → n <ℤ c.number → Rises (numbers (c ∷ cs)) → Counted (at b (numbers cs) n) b (turns_of b (c ∷ cs)) n
counted_before n c cs b h r =
    let past : Each (λ d. n <ℤ d) (numbers (c ∷ cs)) = (h, each_weaker (λ d. c.number <ℤ d) (λ d. n <ℤ d) (λ d l. omega (arith, ints)) (numbers cs) r.0) in
    ap₂ (λ x y. x + y) (ap one_if (unmoved b (numbers cs) n past.1)) (none_ended n b (c ∷ cs) past ∙ sym (none_begun n b (c ∷ cs) past))

counted_more : (n : ℤ) (c : Cut) (cs : List Cut) (b t : Bool) → int_le c.number n ≡ t → Rises (numbers (c ∷ cs))
    → Counted (at (not b) (numbers cs) n) (not b) (turns_of (not b) cs) n
    → Counted (at (if t then not b else b) (numbers cs) n) b (turns_of b (c ∷ cs)) n
counted_more n c cs b true h r k = counted_past n c cs b h k
counted_more n c cs b false h r k = counted_before n c cs b (le_false c.number n h) r

pub turns_counted : (b : Bool) (cs : List Cut) (n : ℤ) → Rises (numbers cs) → Counted (at b (numbers cs) n) b (turns_of b cs) n
turns_counted b [] n r = refl
turns_counted b (c ∷ cs) n r = counted_more n c cs b (int_le c.number n) refl r (turns_counted (not b) cs n r.1)

-- one more set
pub counts_more : (holding : ℕ) (ts : List Turn) (f : ℤ → ℕ) (s : Steps) (p : ℤ → Bool) (n : ℤ) → f n + ended_by n ts ≡ holding + begun_by n ts → Gives s p
    → (f n + one_if (p n)) + ended_by n (ts ++ turns_of s.lowest s.cuts.items) ≡ (holding + one_if s.lowest) + begun_by n (ts ++ turns_of s.lowest s.cuts.items)
counts_more holding ts f s p n h g =
    let e = sum_by-append (λ u. one_if (not u.begins && int_le u.at.number n)) ts (turns_of s.lowest s.cuts.items) in
    let b = sum_by-append (λ u. one_if (u.begins && int_le u.at.number n)) ts (turns_of s.lowest s.cuts.items) in
    let k = turns_counted s.lowest s.cuts.items n g.rises in
    let q = ap one_if (g.says n) in
    omega arith

-- ---- how many are at least so many

leb_same : (a b c d e : ℕ) → b + c ≡ d + e → leb (a + c) (d + e) ≡ leb a b
leb_same a b c d e h = by (leb a b) refl
  where
    by : (t : Bool) → leb a b ≡ t → leb (a + c) (d + e) ≡ t
    by true k = let l = leb-true a b k in le-leb (a + c) (d + e) (omega arith)
    by false k = let l = leb-false a b k in lt-leb (a + c) (d + e) (omega arith)

pub reached_count : (least : ℕ) (t : Tally) (f : ℤ → ℕ) → Counts t f → (n : ℤ) → reached least t.holding t.turns.items n ≡ leb least (f n)
reached_count least t f c n = leb_same least (f n) (ended_by n t.turns.items) t.holding (begun_by n t.turns.items) (c.is n)

count_cons : (all : Bool) (n : ℤ) (s : Set) (ss : List Set) → allowed_by all (s ∷ ss) n ≡ cond (allows all s n) 1 0 + allowed_by all ss n
count_cons all n s ss = sum_by-cons (λ x. cond (allows all x n) 1 0) s ss

one_more : (t rest : Bool) (count : ℕ) → leb 1 count ≡ rest → leb 1 (cond t 1 0 + count) ≡ (t || rest)
one_more true rest count h = le-leb 1 (1 + count) (omega arith)
one_more false rest count h = ap (leb 1) (omega arith) ∙ h

pub one_is : (all : Bool) (ss : List Set) (n : ℤ) → leb 1 (allowed_by all ss n) ≡ allows_one all (sets_from ss) n
one_is all [] n = refl
one_is all (s ∷ ss) n = ap (leb 1) (count_cons all n s ss) ∙ one_more (allows all s n) (allows_one all (sets_from ss) n) (allowed_by all ss n) (one_is all ss n)

each_more : (t rest : Bool) (k count : ℕ) → count ≤ k → leb k count ≡ rest → leb (suc k) (cond t 1 0 + count) ≡ (t && rest)
each_more true rest k count few h = ap₂ leb (omega arith) (omega arith) ∙ leb_same k count 1 1 count (omega arith) ∙ h
each_more false rest k count few h = lt-leb (suc k) (0 + count) (omega arith)

pub each_is : (all : Bool) (ss : List Set) (n : ℤ) → leb (length ss) (allowed_by all ss n) ≡ allows_each all (sets_from ss) n
each_is all [] n = refl
each_is all (s ∷ ss) n =
    ap (leb (length (s ∷ ss))) (count_cons all n s ss)
    ∙ each_more (allows all s n) (allows_each all (sets_from ss) n) (length ss) (allowed_by all ss n) (count_by-le-length (λ x. allows all x n) ss) (each_is all ss n)
