-- What the sweep over turns in order gives.
use Rattle.std.proofs.Common.{◌≡◌, ℕ, suc, ◌+◌, ◌≤◌, List, [], ◌∷◌, ◌++◌, Bool, true, false, not, ◌&&◌, leb, drop, get_or}
use Rattle.std.proofs.Common.{zero-le, Ordering, Less, Equal, Greater, refl, sym, ap, ap₂, subst, ◌∙◌, arith, append_assoc}
use Rattle.std.specs.Prelude.{ℤ, ◌≤ℤ◌, ◌<ℤ◌, int_le, IsPermutation}
use Rattle.std.specs.List.{All, sum_by}
use Rattle.std.specs.Int.{int_max}
use Rattle.std.specs.List.Sorted.{IsSortedBy, IsSortedByKey}
use Rattle.std.specs.Ordering.{MatchOrdering, int_cmp, is_lt}
use Rattle.std.proofs.lemmas.Cmp.{int_cmp_total, int_ranked}
use Rattle.std.proofs.lemmas.List.{append-nil}
use Rattle.std.proofs.lemmas.List.Elements.{All-head, All-tail}
use Rattle.std.proofs.lemmas.Int.{ints, clamps}
use Rattle.std.proofs.lemmas.List.Sums.{sum_by-cons, sum_by_push}
use Rattle.std.proofs.lemmas.List.Sorted.{sum_by-IsPermutation, sorted_far, ranks_by}
use Rattle.oer_module_bounds.specs.Sets.{Each}
use Rattle.oer_module_bounds.specs.Steps.{at, Rises}
use Rattle.oer_module_bounds.specs.Tally.{one_if, number_at, begun_by, ended_by, reached, Swept, changed, passed, sweep}
use Rattle.oer_module_bounds.specs.declared.tally.Turn.{Turn}
use Rattle.oer_module_bounds.proofs.Cuts.{settled, le_true, true_le, each_weaker, each_append, at_toggled, each_toggled, rises_toggled}

abbrev beginning : List Turn → ℕ
beginning ts = sum_by (λ t. one_if t.begins) ts

abbrev ending : List Turn → ℕ
ending ts = sum_by (λ t. one_if (not t.begins)) ts

-- ---- up to a number that no turn is past

and_true : (b : Bool) → (b && true) ≡ b
and_true true = refl
and_true false = refl

and_false : (b : Bool) → (b && false) ≡ false
and_false true = refl
and_false false = refl

all_begun : (n : ℤ) (ts : List Turn) → Each (λ t. number_at t ≤ℤ n) ts → begun_by n ts ≡ beginning ts
all_begun n [] h = refl
all_begun n (t ∷ ts) h =
    sum_by-cons (λ t. one_if (t.begins && int_le t.at.number n)) t ts
    ∙ ap₂ (λ x y. one_if x + y) (ap (λ b. t.begins && b) (true_le t.at.number n h.0) ∙ and_true t.begins) (all_begun n ts h.1)
    ∙ sym (sum_by-cons (λ t. one_if t.begins) t ts)

all_ended : (n : ℤ) (ts : List Turn) → Each (λ t. number_at t ≤ℤ n) ts → ended_by n ts ≡ ending ts
all_ended n [] h = refl
all_ended n (t ∷ ts) h =
    sum_by-cons (λ t. one_if (not t.begins && int_le t.at.number n)) t ts
    ∙ ap₂ (λ x y. one_if x + y) (ap (λ b. not t.begins && b) (true_le t.at.number n h.0) ∙ and_true (not t.begins)) (all_ended n ts h.1)
    ∙ sym (sum_by-cons (λ t. one_if (not t.begins)) t ts)

-- ---- what was passed, beside where the sweep is

pub record Passed (least holding : ℕ) (ts : List Turn) (s : Swept) : Type 0 where
  pub begun : s.begun ≡ holding + beginning ts
  pub ended : s.ended ≡ ending ts
  pub inside : s.inside ≡ leb (least + s.ended) s.begun
  pub rises : Rises s.cuts
  pub says : (n : ℤ) → at (leb least holding) s.cuts n ≡ reached least holding ts n
  pub low : (n : ℤ) → Each (λ t. number_at t ≤ℤ n) ts → Each (λ c. c ≤ℤ n) s.cuts

at_changed : (b i j : Bool) (cs : List ℤ) (c n : ℤ) → int_le c n ≡ true → at b cs n ≡ i → at b (changed i j cs c) n ≡ j
at_changed b true true cs c n h e = e
at_changed b false false cs c n h e = e
at_changed b true false cs c n h e = at_toggled b cs c n ∙ rw h (ap not e)
at_changed b false true cs c n h e = at_toggled b cs c n ∙ rw h (ap not e)

at_unchanged : (b i j : Bool) (cs : List ℤ) (c n : ℤ) → int_le c n ≡ false → at b (changed i j cs c) n ≡ at b cs n
at_unchanged b true true cs c n h = refl
at_unchanged b false false cs c n h = refl
at_unchanged b true false cs c n h = at_toggled b cs c n ∙ rw h refl
at_unchanged b false true cs c n h = at_toggled b cs c n ∙ rw h refl

rises_changed : (i j : Bool) (cs : List ℤ) (c : ℤ) → Rises cs → Each (λ d. d ≤ℤ c) cs → Rises (changed i j cs c)
rises_changed true true cs c r h = r
rises_changed false false cs c r h = r
rises_changed true false cs c r h = rises_toggled cs c r h
rises_changed false true cs c r h = rises_toggled cs c r h

each_changed : (P : ℤ → Type 0) (i j : Bool) (cs : List ℤ) (c : ℤ) → Each P cs → P c → Each P (changed i j cs c)
each_changed P true true cs c h k = h
each_changed P false false cs c h k = h
each_changed P true false cs c h k = each_toggled P cs c h k
each_changed P false true cs c h k = each_toggled P cs c h k

before_last : (n : ℤ) (ts : List Turn) (t : Turn) → Each (λ u. number_at u ≤ℤ n) (ts ++ t ∷ []) → Each (λ u. number_at u ≤ℤ n) ts × (number_at t ≤ℤ n)
before_last n [] t h = (tt, h.0)
before_last n (u ∷ ts) t h = let w = before_last n ts t h.1 in ((h.0, w.0), w.1)

module _ (least holding : ℕ) (ts : List Turn) (s : Swept) (t : Turn) (p : Passed least holding ts s) (up : Each (λ u. number_at u ≤ℤ number_at t) ts) where
  begun_push : (n : ℤ) → begun_by n (ts ++ t ∷ []) ≡ begun_by n ts + one_if (t.begins && int_le t.at.number n)
  begun_push n = sum_by_push (λ u. one_if (u.begins && int_le u.at.number n)) ts t

  ended_push : (n : ℤ) → ended_by n (ts ++ t ∷ []) ≡ ended_by n ts + one_if (not t.begins && int_le t.at.number n)
  ended_push n = sum_by_push (λ u. one_if (not u.begins && int_le u.at.number n)) ts t

  next : Swept
  next = passed least s t

  -- before the turn nothing changes
  same_before : (n : ℤ) → int_le t.at.number n ≡ false → reached least holding (ts ++ t ∷ []) n ≡ reached least holding ts n
  same_before n h =
      let b : begun_by n (ts ++ t ∷ []) ≡ begun_by n ts = begun_push n ∙ rw h (rw (and_false t.begins) (omega arith)) in
      let e : ended_by n (ts ++ t ∷ []) ≡ ended_by n ts = ended_push n ∙ rw h (rw (and_false (not t.begins)) (omega arith)) in
      ap₂ (λ x y. leb (least + x) (holding + y)) e b

  -- from the turn on all turns are passed
  all_before : (n : ℤ) → int_le t.at.number n ≡ true → Each (λ u. number_at u ≤ℤ n) ts
  all_before n h =
      let k : number_at t ≤ℤ n = le_true (number_at t) n h in
      each_weaker (λ u. number_at u ≤ℤ number_at t) (λ u. number_at u ≤ℤ n) (λ u l. omega (arith, ints)) ts up

  here : (n : ℤ) → int_le t.at.number n ≡ true → at (leb least holding) s.cuts n ≡ s.inside
  here n h =
      let all = all_before n h in
      p.says n ∙ ap₂ (λ x y. leb (least + x) y) (all_ended n ts all ∙ sym p.ended) (ap (λ x. holding + x) (all_begun n ts all) ∙ sym p.begun) ∙ sym p.inside

  there : (n : ℤ) → int_le t.at.number n ≡ true → reached least holding (ts ++ t ∷ []) n ≡ leb (least + (s.ended + one_if (not t.begins))) (s.begun + one_if t.begins)
  there n h =
      let all = all_before n h in
      let b : begun_by n (ts ++ t ∷ []) ≡ beginning ts + one_if t.begins = begun_push n ∙ ap₂ (λ x y. x + one_if y) (all_begun n ts all)
      (ap (λ b. t.begins && b) h ∙ and_true t.begins) in
      let e : ended_by n (ts ++ t ∷ []) ≡ ending ts + one_if (not t.begins) = ended_push n ∙ ap₂ (λ x y. x + one_if y) (all_ended n ts all)
      (ap (λ b. not t.begins && b) h ∙ and_true (not t.begins)) in
      let pb = p.begun in
      let pe = p.ended in
      ap₂ leb (ap (λ x. least + x) (e ∙ ap (λ x. x + one_if (not t.begins)) (sym pe))) (ap (λ x. holding + x) b ∙ sums ∙ ap (λ x. x + one_if t.begins) (sym pb))
    where
      sums : holding + (beginning ts + one_if t.begins) ≡ (holding + beginning ts) + one_if t.begins
      sums = omega arith

  says_next : (n : ℤ) → at (leb least holding) (changed s.inside
      (leb (least + (s.ended + one_if (not t.begins))) (s.begun + one_if t.begins)) s.cuts t.at.number) n ≡ reached least holding (ts ++ t ∷ []) n
  says_next n = by (int_le t.at.number n) refl
    where
      j : Bool
      j = leb (least + (s.ended + one_if (not t.begins))) (s.begun + one_if t.begins)

      by : (b : Bool) → int_le t.at.number n ≡ b → at (leb least holding) (changed s.inside j s.cuts t.at.number) n ≡ reached least holding (ts ++ t ∷ []) n
      by true h = at_changed (leb least holding) s.inside j s.cuts t.at.number n h (here n h) ∙ sym (there n h)
      by false h = at_unchanged (leb least holding) s.inside j s.cuts t.at.number n h ∙ p.says n ∙ sym (same_before n h)

  pub passed_more : Passed least holding (ts ++ t ∷ []) (passed least s t)
  passed_more = record {
    begun = sums ∙ ap (λ x. holding + x) (sym (sum_by_push (λ u. one_if u.begins) ts t));
    ended = ap (λ x. x + one_if (not t.begins)) p.ended ∙ sym (sum_by_push (λ u. one_if (not u.begins)) ts t);
    inside = refl;
    rises = rises_changed s.inside (leb (least + (s.ended + one_if (not t.begins))) (s.begun + one_if t.begins)) s.cuts t.at.number p.rises (p.low (number_at t) up);
    says = says_next;
    low = lower;
  }
    where
      sums : s.begun + one_if t.begins ≡ holding + (beginning ts + one_if t.begins)
      sums = let pb = p.begun in omega arith

      lower : (n : ℤ) → Each (λ u. number_at u ≤ℤ n) (ts ++ t ∷ []) → Each (λ c. c ≤ℤ n) (passed least s t).cuts
      lower n h =
          let w = before_last n ts t h in
          each_changed (λ c. c ≤ℤ n) s.inside (leb (least + (s.ended + one_if (not t.begins))) (s.begun + one_if t.begins)) s.cuts t.at.number (p.low n w.0) w.1

-- ---- the whole sweep

-- each turn is not past those after it
abbrev pub InOrder : List Turn → Type 0
InOrder [] = Unit {0}
InOrder (t ∷ ts) = Each (λ u. number_at t ≤ℤ number_at u) ts × InOrder ts

-- those that were passed are not past those that are left
abbrev pub AllBefore : List Turn → List Turn → Type 0
AllBefore ts us = Each (λ u. Each (λ t. number_at t ≤ℤ number_at u) ts) us

pushed_before : (ts us : List Turn) (u : Turn) → AllBefore ts us → Each (λ v. number_at u ≤ℤ number_at v) us → AllBefore (ts ++ u ∷ []) us
pushed_before ts [] u b o = tt
pushed_before ts (v ∷ us) u b o = (each_append (λ t. number_at t ≤ℤ number_at v) ts (u ∷ []) b.0 (o.0, tt), pushed_before ts us u b.1 o.1)

swept_from : (least holding : ℕ) (ts us : List Turn) (s : Swept) → Passed least holding ts s → InOrder us → AllBefore ts us
    → Passed least holding (ts ++ us) (sweep least s us)
swept_from least holding ts [] s p o b = subst (λ xs. Passed least holding xs s) (sym (append-nil ts)) p
swept_from least holding ts (u ∷ us) s p o b =
    subst (λ xs. Passed least holding xs (sweep least (passed least s u) us)) (append_assoc ts (u ∷ []) us)
    (swept_from least holding (ts ++ u ∷ []) us (passed least s u) (passed_more least holding ts s u p b.0) o.1 (pushed_before ts us u b.1 o.0))

none_before : (us : List Turn) → AllBefore [] us
none_before [] = tt
none_before (u ∷ us) = (tt, none_before us)

-- where a sweep begins
abbrev pub start : ℕ → ℕ → Swept
start least holding = record { begun = holding; ended = 0; inside = leb least holding; cuts = [] }

pub swept : (least holding : ℕ) (ts : List Turn) → InOrder ts → Passed least holding ts (sweep least (start least holding) ts)
swept least holding ts o =
    swept_from least holding [] ts (start least holding)
    (record { begun = omega arith; ended = refl; inside = begun; rises = tt; says = λ n. nothing; low = λ n h. tt }) o (none_before ts)
  where
    begun : leb least holding ≡ leb (least + 0) holding
    begun = ap (λ x. leb x holding) (omega arith)

    nothing : leb least holding ≡ leb (least + 0) (holding + 0)
    nothing = ap₂ leb (omega arith) (omega arith)

-- past the last turn
bound : (n : ℤ) (ts : List Turn) → (m : ℤ) × (n ≤ℤ m) × Each (λ t. number_at t ≤ℤ m) ts
bound n [] = (n, omega (arith, ints), tt)
bound n (t ∷ ts) =
    let w = bound n ts in
    let m : ℤ = int_max t.at.number w.0 in
    let low : n ≤ℤ w.0 = w.1 in (
      m,
      omega (arith, ints, clamps),
      (
        omega (arith, ints, clamps),
        each_weaker (λ u. number_at u ≤ℤ w.0) (λ u. number_at u ≤ℤ m)
            (λ u h. omega (arith, ints, clamps)) ts w.2,
      ),
    )

module _ (least holding : ℕ) (ts : List Turn) (s : Swept) (p : Passed least holding ts s) where
  -- where all turns are passed
  at_end : (n : ℤ) → Each (λ t. number_at t ≤ℤ n) ts → reached least holding ts n ≡ s.inside
  at_end n h = ap₂ (λ x y. leb (least + x) (holding + y)) (all_ended n ts h) (all_begun n ts h) ∙ ap₂ (λ x y. leb (least + x) y)
      (sym p.ended) (sym p.begun) ∙ sym p.inside

  pub past_cuts : (n : ℤ) → Each (λ c. c ≤ℤ n) s.cuts → reached least holding ts n ≡ s.inside
  past_cuts n h =
      let w = bound n ts in
      sym (p.says n) ∙ settled (leb least holding) s.cuts n w.0 h (p.low w.0 w.2) ∙ p.says w.0 ∙ at_end w.0 w.2

-- ---- turns that were sorted

each_of_all : {A : Type 0} (P : A → Type 0) (xs : List A) → All P xs → Each P xs
each_of_all P [] h = tt
each_of_all P (x ∷ xs) h = (All-head P x xs h, each_of_all P xs (All-tail P x xs h))

not_less : (x y : ℤ) (r : Ordering) → MatchOrdering r (x <ℤ y) (x ≡ y) (y <ℤ x) → is_lt r ≡ false → y ≤ℤ x
not_less x y Less h e = absurd (cc)
not_less x y Equal h e = omega (arith, ints)
not_less x y Greater h e = omega (arith, ints)

abbrev before : Turn → Turn → Bool
before t u = is_lt (int_cmp (number_at t) (number_at u))

sorted_rest : (t : Turn) (ts : List Turn) → IsSortedBy before (t ∷ ts) → IsSortedBy before ts
sorted_rest t ts h = λ k d l m. let next : suc k + 1 ≡ suc (k + 1) = omega arith in rw next at (h (suc k) d zero-le (omega arith))

first_least : (t : Turn) (ts : List Turn) → IsSortedBy before (t ∷ ts) → All (λ u. number_at t ≤ℤ number_at u) ts
first_least t ts h = λ k d l.
    let e = sorted_far before (ranks_by int_cmp_total number_at) (t ∷ ts) h 0 (suc k) d zero-le (omega arith) in
    let u = get_or ts k d in
    not_less (number_at u) (number_at t) (int_cmp (number_at u) (number_at t)) (int_ranked (number_at u) (number_at t) (int_cmp (number_at u) (number_at t)) refl) e

pub in_order : (ts : List Turn) → IsSortedByKey number_at int_cmp ts → InOrder ts
in_order [] h = tt
in_order (t ∷ ts) h = (each_of_all (λ u. number_at t ≤ℤ number_at u) ts (first_least t ts h), in_order ts (sorted_rest t ts h))

-- the order of turns doesn't matter to what is reached
pub reached_moved : (least holding : ℕ) (ts us : List Turn) → IsPermutation ts us → (n : ℤ) → reached least holding us n ≡ reached least holding ts n
reached_moved least holding ts us m n =
    ap₂ (λ x y. leb (least + x) (holding + y)) (sum_by-IsPermutation (λ t. one_if (not t.begins && int_le t.at.number n)) ts us m)
    (sum_by-IsPermutation (λ t. one_if (t.begins && int_le t.at.number n)) ts us m)

-- ---- the loop

-- what is left gives the same from here as all did from the start; no more than so many have begun and ended
pub record Turning (least : ℕ) (from now : Swept) (ts : List Turn) (i : ℕ) : Type 0 where
  pub is : sweep least from ts ≡ sweep least now (drop i ts)
  pub begun : now.begun ≤ from.begun + i
  pub ended : now.ended ≤ from.ended + i
