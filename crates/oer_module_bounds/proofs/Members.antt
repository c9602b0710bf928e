-- The members of a union or an intersection, and constraints in a row, one after the other.
use Rattle.std.proofs.Common.{◌≡◌, ℕ, ◌+◌, ◌≤◌, ◌<◌, List, [], ◌∷◌, ◌++◌, Bool, true, false, not, ◌&&◌, cond, if◌then◌else◌, leb}
use Rattle.std.proofs.Common.{length, take, Vec, Global, Box, Result, Ok, Err, get_or, refl, sym, ap, ap₂, subst, ◌∙◌, arith}
use Rattle.std.proofs.Common.{rules}
use Rattle.std.specs.Prelude.{ℤ, map, IfOk}
use Rattle.std.specs.declared.alloc.AllocError.{AllocError}
use Rattle.std.proofs.Common.{add-one}
use Rattle.std.proofs.Math.Seq.{take-suc}
use Rattle.std.proofs.lemmas.List.{append-nil, length-append, length-map, map-append, take_all}
use Rattle.std.proofs.lemmas.List.Sums.{sum_by_push}
use Rattle.oer_module_bounds.specs.Numbers.{allowed_by, allows, bounding}
use Rattle.oer_module_bounds.specs.Sets.{Set, one, range, union, intersection, except, unknown, sets_from, set_of, span_of, constraint_of}
use Rattle.oer_module_bounds.specs.Steps.{Gives}
use Rattle.oer_module_bounds.specs.Tally.{one_if, Counts, reached, begun_by, ended_by, turns_of}
use Rattle.oer_module_bounds.specs.declared.steps.Steps.{Steps}
use Rattle.oer_module_bounds.specs.declared.tally.Tally.{Tally}
use Rattle.oer_module_bounds.specs.declared.tree.Constraint.{Constraint as RawConstraint}
use Rattle.oer_module_bounds.specs.declared.tree.Set as raw
use Rattle.oer_module_bounds.specs.declared.tree.Set.{the_lemmas as of_sets}
use Rattle.oer_module_bounds.specs.declared.ends.Range.{Range}
use Rattle.oer_module_bounds.proofs.Counting.{counts_more, reached_count, one_is, each_is}
use Rattle.oer_module_bounds.proofs.Giving.{gives_opposite, gives_same}

-- ---- a tree, level by level, beside what it stands for

pub set_of-Range : (r : Range) → set_of (raw.Range r) ≡ range (span_of r)
set_of-Range r = search (rules, of_sets)

pub set_of-Union : (ss : Vec raw.Set Global) → set_of (raw.Union ss) ≡ union (sets_from (map set_of ss.items))
set_of-Union ss = search (rules, of_sets)

pub set_of-Intersection : (ss : Vec raw.Set Global) → set_of (raw.Intersection ss) ≡ intersection (sets_from (map set_of ss.items))
set_of-Intersection ss = search (rules, of_sets)

pub set_of-Except : (s t : Box raw.Set Global) → set_of (raw.Except s t) ≡ except (set_of s.value) (set_of t.value)
set_of-Except s t = search (rules, of_sets)

pub set_of-Unknown : set_of raw.Unknown ≡ unknown
set_of-Unknown = search (rules, of_sets)

-- ---- some more sets

pub allowed_push : (all : Bool) (ss : List Set) (s : Set) (n : ℤ) → allowed_by all (ss ++ s ∷ []) n ≡ allowed_by all ss n + one_if (allows all s n)
allowed_push all ss s n = sum_by_push (λ x. cond (allows all x n) 1 0) ss s

-- the tally after so many members
pub record Tallied (t : Tally) (all : Bool) (ss : List raw.Set) (i : ℕ) : Type 0 where
  pub few : t.holding ≤ i
  pub counts : Counts t (allowed_by all (map set_of (take i ss)))

taken : {A : Type 0} (xs : List A) (i : ℕ) (x : A) → i < length xs → x ≡ get_or xs i x → take (i + 1) xs ≡ take i xs ++ x ∷ []
taken xs i x h e = rw add-one (take-suc xs i x h ∙ ap (λ y. take i xs ++ y ∷ []) (sym e))

one_le : (b : Bool) → one_if b ≤ 1
one_le true = omega arith
one_le false = omega arith

-- a set joins a tally
counts_plus : (t u : Tally) (f : ℤ → ℕ) (s : Steps) (p : ℤ → Bool) → Counts t f → Gives s p
    → u.holding ≡ t.holding + one_if s.lowest → u.turns.items ≡ t.turns.items ++ turns_of s.lowest s.cuts.items
    → Counts u (λ n. f n + one_if (p n))
counts_plus t u f s p c g e h = record {
  is = λ n.
      ap (λ ts. (f n + one_if (p n)) + ended_by n ts) h
      ∙ counts_more t.holding t.turns.items f s p n (c.is n) g
      ∙ sym (ap₂ (λ x ts. x + begun_by n ts) e h);
}

counts_added : (t u : Tally) (all : Bool) (ss : List Set) (m : Set) (s : Steps) → Counts t (allowed_by all ss) → Gives s (allows all m)
    → u.holding ≡ t.holding + one_if s.lowest → u.turns.items ≡ t.turns.items ++ turns_of s.lowest s.cuts.items
    → Counts u (allowed_by all (ss ++ m ∷ []))
counts_added t u all ss m s c g e f =
    let k = counts_plus t u (allowed_by all ss) s (allows all m) c g e f in
    record { is = λ n. ap (λ x. x + ended_by n u.turns.items) (allowed_push all ss m n) ∙ k.is n }

pub tallied_more : (t u : Tally) (all : Bool) (ss : List raw.Set) (i : ℕ) (m : raw.Set) (s : Steps) → i < length ss → m ≡ get_or ss i m
    → Tallied t all ss i → Gives s (allows all (set_of m))
    → u.holding ≡ t.holding + one_if s.lowest → u.turns.items ≡ t.turns.items ++ turns_of s.lowest s.cuts.items
    → Tallied u all ss (i + 1)
tallied_more t u all ss i m s h at k g e f = record {
  few = let one = one_le s.lowest in let few = k.few in omega arith;
  counts =
      let same : map set_of (take (i + 1) ss) ≡ map set_of (take i ss) ++ set_of m ∷ [] = ap (map set_of) (taken ss i m h at) ∙ map-append set_of (take i ss) (m ∷ []) in
      subst (λ xs. Counts u (allowed_by all xs)) (sym same) (counts_added t u all (map set_of (take i ss)) (set_of m) s k.counts g e f);
}

-- ---- what a tally gives

pub of_one : (t : Tally) (all : Bool) (ss : List Set) (r : Result Steps AllocError) → Counts t (allowed_by all ss)
    → IfOk r (λ s. Gives s (reached 1 t.holding t.turns.items)) → IfOk r (λ s. Gives s (allows all (union (sets_from ss))))
of_one t all ss (Ok s) c g = gives_same s (reached 1 t.holding t.turns.items) (allows all (union (sets_from ss))) g
    (λ n. reached_count 1 t (allowed_by all ss) c n ∙ one_is all ss n)
of_one t all ss (Err e) c g = g

pub of_each : (t : Tally) (all : Bool) (ss : List Set) (least : ℕ) (r : Result Steps AllocError) → Counts t (allowed_by all ss) → least ≡ length ss
    → IfOk r (λ s. Gives s (reached least t.holding t.turns.items)) → IfOk r (λ s. Gives s (allows all (intersection (sets_from ss))))
of_each t all ss least (Ok s) c e g =
    gives_same s (reached least t.holding t.turns.items) (allows all (intersection (sets_from ss))) g
    (λ n. reached_count least t (allowed_by all ss) c n ∙ ap (λ k. leb k (allowed_by all ss n)) e ∙ each_is all ss n)
of_each t all ss least (Err x) c e g = g

-- ---- two sets

both_counted : (p q : Bool) → leb 2 ((0 + one_if p) + one_if q) ≡ (p && q)
both_counted true true = refl
both_counted true false = refl
both_counted false true = refl
both_counted false false = refl

counts_none : (t : Tally) → t.holding ≡ 0 → t.turns.items ≡ [] → Counts t (λ n. 0)
counts_none t h e = record { is = λ n. ap (λ ts. 0 + ended_by n ts) e ∙ sym (ap₂ (λ x ts. x + begun_by n ts) h e) }

pub of_both : (t u v : Tally) (a b : Steps) (p q : ℤ → Bool) (r : Result Steps AllocError) → t.holding ≡ 0 → t.turns.items ≡ []
    → u.holding ≡ t.holding + one_if a.lowest → u.turns.items ≡ t.turns.items ++ turns_of a.lowest a.cuts.items
    → v.holding ≡ u.holding + one_if b.lowest → v.turns.items ≡ u.turns.items ++ turns_of b.lowest b.cuts.items
    → Gives a p → Gives b q → IfOk r (λ s. Gives s (reached 2 v.holding v.turns.items)) → IfOk r (λ s. Gives s (λ n. p n && q n))
of_both t u v a b p q (Err e) th te uh ut vh vt g h k = k
of_both t u v a b p q (Ok s) th te uh ut vh vt g h k =
    let first = counts_plus t u (λ n. 0) a p (counts_none t th te) g uh ut in
    let both = counts_plus u v (λ n. 0 + one_if (p n)) b q first h vh vt in
    gives_same s (reached 2 v.holding v.turns.items) (λ n. p n && q n) k
    (λ n. reached_count 2 v (λ m. (0 + one_if (p m)) + one_if (q m)) both n ∙ both_counted (p n) (q n))

pub tallied_none : (t : Tally) (all : Bool) (ss : List raw.Set) → t.holding ≡ 0 → t.turns.items ≡ [] → Tallied t all ss 0
tallied_none t all ss h e = record { few = omega arith; counts = record { is = (counts_none t h e).is } }

pub tallied_all : (t : Tally) (all : Bool) (ss : List raw.Set) (i : ℕ) → length ss ≤ i → Tallied t all ss i → Counts t (allowed_by all (map set_of ss))
tallied_all t all ss i h k = subst (λ xs. Counts t (allowed_by all (map set_of xs))) (take_all i ss h) k.counts

-- ---- a node of the tree

module _ (all : Bool) (x : raw.Set) (r : Result Steps AllocError) where
  seen : (y : Set) → set_of x ≡ y → IfOk r (λ s. Gives s (allows all y)) → IfOk r (λ s. Gives s (allows all (set_of x)))
  seen y e h = subst (λ z. IfOk r (λ s. Gives s (allows all z))) (sym e) h

  pub union_ok : (ss : Vec raw.Set Global) (xs : List raw.Set) (t : Tally) → x ≡ raw.Union ss → xs ≡ ss.items → Counts t (allowed_by all (map set_of xs))
      → IfOk r (λ s. Gives s (reached 1 t.holding t.turns.items)) → IfOk r (λ s. Gives s (allows all (set_of x)))
  union_ok ss xs t e f c h =
      seen (union (sets_from (map set_of xs))) (ap set_of e ∙ set_of-Union ss ∙ ap (λ ys. union (sets_from (map set_of ys))) (sym f))
      (of_one t all (map set_of xs) r c h)

  pub intersection_ok : (ss : Vec raw.Set Global) (xs : List raw.Set) (t : Tally) (least : ℕ) → x ≡ raw.Intersection ss → xs ≡ ss.items
      → Counts t (allowed_by all (map set_of xs)) → least ≡ length ss.items
      → IfOk r (λ s. Gives s (reached least t.holding t.turns.items)) → IfOk r (λ s. Gives s (allows all (set_of x)))
  intersection_ok ss xs t least e f c l h =
      seen (intersection (sets_from (map set_of xs))) (ap set_of e ∙ set_of-Intersection ss ∙ ap (λ ys. intersection (sets_from (map set_of ys))) (sym f))
      (of_each t all (map set_of xs) least r c (l ∙ ap length (sym f) ∙ sym (length-map xs set_of)) h)

  pub except_ok : (a b : Box raw.Set Global) (f g h : Steps) → x ≡ raw.Except a b → Gives f (allows all (set_of a.value)) → Gives g (allows (not all) (set_of b.value))
      → h.lowest ≡ not g.lowest → h.highest ≡ not g.highest → h.cuts ≡ g.cuts
      → ((p q : ℤ → Bool) → Gives f p → Gives h q → IfOk r (λ s. Gives s (λ n. p n && q n))) → IfOk r (λ s. Gives s (allows all (set_of x)))
  except_ok a b f g h e k l low high cuts both =
      seen (except (set_of a.value) (set_of b.value)) (ap set_of e ∙ set_of-Except a b)
      (both (allows all (set_of a.value)) (λ n. not (allows (not all) (set_of b.value) n)) k (gives_opposite g h (allows (not all) (set_of b.value)) low high cuts l))

pub unknown_ok : (all : Bool) (x : raw.Set) (s : Steps) → x ≡ raw.Unknown → Gives s (λ n. all) → Gives s (allows all (set_of x))
unknown_ok all x s e g = subst (λ y. Gives s (allows all y)) (sym (ap set_of e ∙ set_of-Unknown)) g

-- ---- constraints

-- the sets of those that have no extension marker
abbrev pub roots : List RawConstraint → List Set
roots [] = []
roots (c ∷ cs) = if c.extensible then roots cs else set_of c.root ∷ roots cs

roots_are : (cs : List RawConstraint) → sets_from (roots cs) ≡ bounding (map constraint_of cs)
roots_are [] = refl
roots_are (c ∷ cs) = by c.extensible (roots_are cs)
  where
    by : (t : Bool) → sets_from (roots cs) ≡ bounding (map constraint_of cs)
        → sets_from (if t then roots cs else set_of c.root ∷ roots cs) ≡
        (if t then bounding (map constraint_of cs) else one (set_of c.root) (bounding (map constraint_of cs)))
    by true e = e
    by false e = ap (one (set_of c.root)) e

roots_more : (t : Bool) (x : Set) (a b d : List Set) → a ≡ b ++ d → (if t then a else x ∷ a) ≡ (if t then b else x ∷ b) ++ d
roots_more true x a b d e = e
roots_more false x a b d e = ap (λ xs. x ∷ xs) e

roots_append : (xs ys : List RawConstraint) → roots (xs ++ ys) ≡ roots xs ++ roots ys
roots_append [] ys = refl
roots_append (x ∷ xs) ys = roots_more x.extensible (set_of x.root) (roots (xs ++ ys)) (roots xs) (roots ys) (roots_append xs ys)

-- the tally after so many constraints
pub record Bounded (t : Tally) (k : ℕ) (cs : List RawConstraint) (i : ℕ) : Type 0 where
  pub few : t.holding ≤ i
  pub below : k ≤ i
  pub count : k ≡ length (roots (take i cs))
  pub counts : Counts t (allowed_by true (roots (take i cs)))

pub bounded_none : (t : Tally) (cs : List RawConstraint) → t.holding ≡ 0 → t.turns.items ≡ [] → Bounded t 0 cs 0
bounded_none t cs h e = record { few = omega arith; below = omega arith; count = refl; counts = record { is = (counts_none t h e).is } }

pub bounded_skips : (t : Tally) (k : ℕ) (cs : List RawConstraint) (i : ℕ) (c : RawConstraint) → i < length cs → c ≡ get_or cs i c → c.extensible ≡ true
    → Bounded t k cs i → Bounded t k cs (i + 1)
bounded_skips t k cs i c h at x b =
    let same : roots (take (i + 1) cs) ≡ roots (take i cs) =
    ap roots (taken cs i c h at) ∙ roots_append (take i cs) (c ∷ []) ∙ ap
    (λ b. roots (take i cs) ++ (if b then [] else set_of c.root ∷ [])) x ∙ append-nil (roots (take i cs)) in
    let few = b.few in let below = b.below in
    record {
      few = omega arith;
      below = omega arith;
      count = b.count ∙ ap length (sym same);
      counts = subst (λ xs. Counts t (allowed_by true xs)) (sym same) b.counts;
    }

pub bounded_more : (t u : Tally) (k : ℕ) (cs : List RawConstraint) (i : ℕ) (c : RawConstraint) (s : Steps) → i < length cs → c ≡ get_or cs i c → c.extensible ≡ false
    → Bounded t k cs i → Gives s (allows true (set_of c.root))
    → u.holding ≡ t.holding + one_if s.lowest → u.turns.items ≡ t.turns.items ++ turns_of s.lowest s.cuts.items
    → Bounded u (k + 1) cs (i + 1)
bounded_more t u k cs i c s h at x b g e f =
    let same : roots (take (i + 1) cs) ≡ roots (take i cs) ++ set_of c.root ∷ [] =
    ap roots (taken cs i c h at) ∙ roots_append (take i cs) (c ∷ []) ∙ ap (λ b. roots (take i cs) ++ (if b then [] else set_of c.root ∷ [])) x in
    let few = b.few in let below = b.below in let one = one_le s.lowest in let so_far = b.count in
    let size : length (roots (take i cs) ++ set_of c.root ∷ []) ≡ length (roots (take i cs)) + 1 = length-append (roots (take i cs)) (set_of c.root ∷ []) in
    record {
      few = omega arith;
      below = omega arith;
      count = ap (λ n. n + 1) so_far ∙ sym size ∙ ap length (sym same);
      counts = subst (λ xs. Counts u (allowed_by true xs)) (sym same) (counts_added t u true (roots (take i cs)) (set_of c.root) s b.counts g e f);
    }

pub bounded_as : (t u : Tally) (j k : ℕ) (cs : List RawConstraint) (i : ℕ) → u ≡ t → k ≡ j → Bounded t j cs i → Bounded u k cs i
bounded_as t u j k cs i e f b = subst (λ x. Bounded x k cs i) (sym e) (subst (λ n. Bounded t n cs i) (sym f) b)

pub bounded_all : (t : Tally) (k : ℕ) (cs : List RawConstraint) (i : ℕ) (s : Steps) → length cs ≤ i → Bounded t k cs i
    → Gives s (reached k t.holding t.turns.items) → Gives s (allows true (intersection (bounding (map constraint_of cs))))
bounded_all t k cs i s h b g =
    let all : take i cs ≡ cs = take_all i cs h in
    let counts = subst (λ xs. Counts t (allowed_by true (roots xs))) all b.counts in
    let count : k ≡ length (roots cs) = b.count ∙ ap (λ xs. length (roots xs)) all in
    let each = of_each t true (roots cs) k (Ok s) counts count g in
    subst (λ ss. Gives s (allows true (intersection ss))) (roots_are cs) each
