-- The least range that has some numbers.
use Rattle.std.proofs.Common.{◌≡◌, ◌⊎◌, inl, inr, List, [], ◌∷◌, Bool, true, false, not, cond, if◌then◌else◌, Option, Some, None}
use Rattle.std.proofs.Common.{refl, sym, ap, ap₂, subst, ◌∙◌, arith}
use Rattle.std.specs.Prelude.{ℤ, pos, ◌+ℤ◌, ◌-ℤ◌, ◌≤ℤ◌, ◌<ℤ◌, int_lt}
use Rattle.std.specs.Int.{int_max, int_min}
use Rattle.std.specs.List.{filter, fold}
use Rattle.std.proofs.lemmas.Int.{ints, clamps, by_lt_z}
use Rattle.std.proofs.lemmas.Bool.{both_ways, cond_both}
use Rattle.oer_module_bounds.specs.Hull.{IsHull, LowEnd, HighEnd, floor, ceiling, least, before_greatest, high_by, hull_by, unless_empty}
use Rattle.oer_module_bounds.specs.Numbers.{IsFrom, IsTo}
use Rattle.oer_module_bounds.specs.Sets.{Each, Span}
use Rattle.oer_module_bounds.specs.Steps.{at, Rises, last_of, high_end, ends_of, before}
use Rattle.oer_module_bounds.proofs.Cuts.{same_number, each_weaker, unmoved, true_le, false_le}

-- ---- there is one

abbrev span : Option ℤ → Option ℤ → Span
span low high = record { low = low; high = high }

beyond : (m n : ℤ) → m <ℤ n → n ≤ℤ m → ⊥
beyond m n h k = omega (arith, ints)

module _ (P : ℤ → Type 0) where
  same_low : (a b : Option ℤ) → ((n : ℤ) → P n → IsFrom a n) → ((n : ℤ) → P n → IsFrom b n) → LowEnd P a → LowEnd P b → a ≡ b
  same_low None None f g p q = refl
  same_low None (Some l) f g p q = let w = p l in absurd (beyond w.0 l w.1 (g w.0 w.2))
  same_low (Some l) None f g p q = let w = q l in absurd (beyond w.0 l w.1 (f w.0 w.2))
  same_low (Some l) (Some m) f g p q = ap Some (same_number l m (f m q) (g l p))

  same_high : (a b : Option ℤ) → ((n : ℤ) → P n → IsTo a n) → ((n : ℤ) → P n → IsTo b n) → HighEnd P a → HighEnd P b → a ≡ b
  same_high None None f g p q = refl
  same_high None (Some h) f g p q = let w = p h in absurd (beyond h w.0 w.1 (g w.0 w.2))
  same_high (Some h) None f g p q = let w = q h in absurd (beyond h w.0 w.1 (f w.0 w.2))
  same_high (Some h) (Some k) f g p q = ap Some (same_number h k (g h p) (f k q))

  some_number : (a : Option ℤ) → LowEnd P a → (n : ℤ) × P n
  some_number None p = let w = p (pos 0) in (w.0, w.2)
  some_number (Some l) p = (l, p)

  pub one_hull : (a b : Option Span) → IsHull P a → IsHull P b → a ≡ b
  one_hull None None h k = refl
  one_hull None (Some r) h k = let w = some_number r.low k.1 in absurd (h w.0 w.1)
  one_hull (Some r) None h k = let w = some_number r.low h.1 in absurd (k w.0 w.1)
  one_hull (Some r) (Some s) h k =
      ap₂ (λ low high. Some (span low high))
      (same_low r.low s.low (λ n p. (h.0 n p).0) (λ n p. (k.0 n p).0) h.1 k.1)
      (same_high r.high s.high (λ n p. (h.0 n p).1) (λ n p. (k.0 n p).1) h.2 k.2)

-- ---- of the same numbers

module _ (P Q : ℤ → Type 0) (f : (n : ℤ) → P n → Q n) (g : (n : ℤ) → Q n → P n) where
  low_same : (a : Option ℤ) → LowEnd P a → LowEnd Q a
  low_same None h = λ m. let w = h m in (w.0, w.1, f w.0 w.2)
  low_same (Some l) h = f l h

  high_same : (a : Option ℤ) → HighEnd P a → HighEnd Q a
  high_same None h = λ m. let w = h m in (w.0, w.1, f w.0 w.2)
  high_same (Some l) h = f l h

  pub hull_same : (r : Option Span) → IsHull P r → IsHull Q r
  hull_same None h = λ n q. h n (g n q)
  hull_same (Some r) h = ((λ n q. h.0 n (g n q)), low_same r.low h.1, high_same r.high h.2)

-- ---- from cuts

top : (m : ℤ) (cs : List ℤ) → (n : ℤ) × (m <ℤ n) × Each (λ c. c ≤ℤ n) cs
top m [] = (m +ℤ pos 1, omega (arith, ints), tt)
top m (c ∷ cs) =
    let w = top m cs in
    let n : ℤ = int_max c w.0 in
    let low : m <ℤ w.0 = w.1 in
    (n, omega (arith, ints, clamps), (omega (arith, ints, clamps), each_weaker (λ x. x ≤ℤ w.0) (λ x. x ≤ℤ n) (λ x h. omega (arith, ints, clamps)) cs w.2))

pub top_of : (m : ℤ) (cs : List ℤ) → (n : ℤ) × (m <ℤ n) × Each (λ c. c ≤ℤ n) cs
top_of m cs = top m cs

last_each : (P : ℤ → Type 0) (cs : List ℤ) (d : ℤ) → Each P cs → last_of cs ≡ Some d → P d
last_each P [] d h e = absurd (cc)
last_each P (c ∷ []) d h e = let same : c ≡ d = (cc) in subst P same h.0
last_each P (c ∷ x ∷ cs) d h e = last_each P (x ∷ cs) d h.1 e

no_last : (P : ℤ → Type 0) (cs : List ℤ) → last_of cs ≡ None → Each P cs
no_last P [] e = tt
no_last P (c ∷ []) e = absurd (cc)
no_last P (c ∷ x ∷ cs) e = absurd (some x cs e)
  where
    some : (x : ℤ) (cs : List ℤ) → last_of (x ∷ cs) ≡ None → ⊥
    some x [] e = cc
    some x (y ∷ cs) e = some y cs e

not_not : (b : Bool) → b ≡ not (not b)
not_not true = refl
not_not false = refl

itself : (d : ℤ) → d ≤ℤ d
itself d = omega (arith, ints)

past : (d : ℤ) → (d -ℤ pos 1) <ℤ d
past d = omega (arith, ints)

up_to : (c d : ℤ) → c <ℤ d → c ≤ℤ (d -ℤ pos 1)
up_to c d h = omega (arith, ints)

last_turn : (b : Bool) (cs : List ℤ) (d : ℤ) → Rises cs → last_of cs ≡ Some d
    → (at b cs (d -ℤ pos 1) ≡ not (at b cs d)) × Each (λ c. c ≤ℤ d) cs
last_turn b [] d r e = absurd (cc)
last_turn b (c ∷ []) d r e =
    let same : c ≡ d = (cc) in
    (rw same (rw (true_le d d (itself d)) (rw (false_le d (d -ℤ pos 1) (past d)) (not_not b))), (subst (λ x. x ≤ℤ d) (sym same) (itself d), tt))
last_turn b (c ∷ x ∷ cs) d r e =
    let h : c <ℤ d = last_each (λ y. c <ℤ y) (x ∷ cs) d r.0 e in
    let low : c ≤ℤ d = omega (arith, ints) in
    let w = last_turn (not b) (x ∷ cs) d r.1 e in
    (rw (true_le c d low) (rw (true_le c (d -ℤ pos 1) (up_to c d h)) w.0), (low, w.1))

-- the numbers that p tells
abbrev pub Told : (ℤ → Bool) → ℤ → Type 0
Told p n = p n ≡ true

-- p tells what the cuts say, and highest past the last of them
pub record Cutting (p : ℤ → Bool) (lowest highest : Bool) (cs : List ℤ) : Type 0 where
  pub rises : Rises cs
  pub says : (n : ℤ) → at lowest cs n ≡ p n
  pub ends : (n : ℤ) → Each (λ c. c ≤ℤ n) cs → p n ≡ highest

module _ (p : ℤ → Bool) where
  below_first : (highest b : Bool) (c : ℤ) (cs : List ℤ) → Cutting p b highest (c ∷ cs) → (n : ℤ) → n <ℤ c → p n ≡ b
  below_first highest b c cs k n h =
      sym (k.says n) ∙ unmoved b (c ∷ cs) n (h, each_weaker (λ x. c <ℤ x) (λ x. n <ℤ x) (λ x l. omega (arith, ints)) cs k.rises.0)

  open_low : (highest : Bool) (cs : List ℤ) → Cutting p true highest cs → LowEnd (Told p) None
  open_low highest [] k = λ m. (m -ℤ pos 1, omega (arith, ints), sym (k.says (m -ℤ pos 1)))
  open_low highest (c ∷ cs) k = λ m.
      (int_min m c -ℤ pos 1, omega (arith, ints, clamps), below_first highest true c cs k (int_min m c -ℤ pos 1) (omega (arith, ints, clamps)))

  first_in : (highest : Bool) (c : ℤ) (cs : List ℤ) → Cutting p false highest (c ∷ cs) → p c ≡ true
  first_in highest c cs k =
      let e : at false (c ∷ cs) c ≡ true = rw (true_le c c (itself c)) (unmoved true cs c k.rises.0) in
      sym (k.says c) ∙ e

  not_below : (highest : Bool) (c : ℤ) (cs : List ℤ) → Cutting p false highest (c ∷ cs) → (n : ℤ) → p n ≡ true → c ≤ℤ n
  not_below highest c cs k n h =
      by_lt_z n c (λ l. absurd (both_ways (p n) (below_first highest false c cs k n l) h)) (λ l. l)

  open_high : (lowest : Bool) (cs : List ℤ) → Cutting p lowest true cs → HighEnd (Told p) None
  open_high lowest cs k = λ m. let w = top m cs in (w.0, w.1, k.ends w.0 w.2)

  last_in : (lowest : Bool) (cs : List ℤ) (d : ℤ) → Cutting p lowest false cs → last_of cs ≡ Some d → p (d -ℤ pos 1) ≡ true
  last_in lowest cs d k e =
      let w = last_turn lowest cs d k.rises e in
      let out : at lowest cs d ≡ false = k.says d ∙ k.ends d w.1 in
      sym (k.says (d -ℤ pos 1)) ∙ w.0 ∙ ap not out

  not_above : (lowest : Bool) (cs : List ℤ) (d : ℤ) → Cutting p lowest false cs → last_of cs ≡ Some d → (n : ℤ) → p n ≡ true → n ≤ℤ (d -ℤ pos 1)
  not_above lowest cs d k e n h =
      let w = last_turn lowest cs d k.rises e in
      by_lt_z n d (λ l. up_to n d l) (λ l. absurd (both_ways (p n) (k.ends n (each_weaker (λ c. c ≤ℤ d) (λ c. c ≤ℤ n) (λ c q. omega (arith, ints)) cs w.1)) h))

  -- the upper end, where some number is told
  high_told : (lowest highest : Bool) (cs : List ℤ) → Cutting p lowest highest cs → (n : ℤ) → p n ≡ true
      → ((m : ℤ) → p m ≡ true → IsTo (high_end highest cs) m) × HighEnd (Told p) (high_end highest cs)
  high_told lowest true cs k n h = ((λ m q. tt), open_high lowest cs k)
  high_told lowest false cs k n h = by (last_of cs) refl
    where
      by : (d : Option ℤ) → last_of cs ≡ d → ((m : ℤ) → p m ≡ true → IsTo (before (last_of cs)) m) × HighEnd (Told p) (before (last_of cs))
      by None e = absurd (both_ways (p n) (k.ends n (no_last (λ c. c ≤ℤ n) cs e)) h)
      by (Some d) e = rw e ((λ m q. not_above lowest cs d k e m q), last_in lowest cs d k e)

  pub cuts_are_hull : (lowest highest : Bool) (cs : List ℤ) → Cutting p lowest highest cs → IsHull (Told p) (ends_of lowest highest cs)
  cuts_are_hull false highest [] k = λ n h. both_ways (p n) (sym (k.says n)) h
  cuts_are_hull false highest (c ∷ cs) k =
      let w = high_told false highest (c ∷ cs) k c (first_in highest c cs k) in
      ((λ n h. (not_below highest c cs k n h, w.0 n h)), first_in highest c cs k, w.1)
  cuts_are_hull true highest cs k =
      let low = open_low highest cs k in
      let n = low (pos 0) in
      let w = high_told true highest cs k n.0 n.2 in
      ((λ n h. (tt, w.0 n h)), low, w.1)

-- ---- from edges

-- p is the same of two numbers if no edge lies between them
pub record Steady (p : ℤ → Bool) (es : List ℤ) : Type 0 where
  pub steady : (n m : ℤ) → n ≤ℤ m → Each (λ e. (e ≤ℤ n) ⊎ (m <ℤ e)) es → p n ≡ p m

-- one of them
abbrev Among : ℤ → List ℤ → Type 0
Among e [] = ⊥
Among e (x ∷ xs) = (e ≡ x) ⊎ Among e xs

each_among : (P : ℤ → Type 0) (e : ℤ) (xs : List ℤ) → Each P xs → Among e xs → P e
each_among P e [] h a = absurd a
each_among P e (x ∷ xs) h (inl same) = subst P (sym same) h.0
each_among P e (x ∷ xs) h (inr a) = each_among P e xs h.1 a

-- the greatest edge up to n, and the least past it
record Below (n : ℤ) (es : List ℤ) : Type 0 where
  edge : ℤ
  low : edge ≤ℤ n
  among : Among edge es
  clear : Each (λ x. (x ≤ℤ edge) ⊎ (n <ℤ x)) es

record Above (n : ℤ) (es : List ℤ) : Type 0 where
  edge : ℤ
  high : n <ℤ edge
  among : Among edge es
  clear : Each (λ x. (x ≤ℤ n) ⊎ (edge ≤ℤ x)) es

below_more : (n x : ℤ) (es : List ℤ) → x ≤ℤ n → Below n es → Below n (x ∷ es)
below_more n x es h b =
    by_lt_z b.edge x
    (λ l. record {
      edge = x;
      low = h;
      among = inl refl;
      clear =
          (inl (itself x), each_weaker (λ y. (y ≤ℤ b.edge) ⊎ (n <ℤ y)) (λ y. (y ≤ℤ x) ⊎ (n <ℤ y)) (λ y k. rise l y k) es b.clear);
    })
    (λ l. record { edge = b.edge; low = b.low; among = inr b.among; clear = (inl l, b.clear) })
  where
    rise : b.edge <ℤ x → (y : ℤ) → (y ≤ℤ b.edge) ⊎ (n <ℤ y) → (y ≤ℤ x) ⊎ (n <ℤ y)
    rise l y (inl k) = inl (omega (arith, ints))
    rise l y (inr k) = inr k

above_more : (n x : ℤ) (es : List ℤ) → n <ℤ x → Above n es → Above n (x ∷ es)
above_more n x es h b =
    by_lt_z x b.edge
    (λ l. record {
      edge = x;
      high = h;
      among = inl refl;
      clear =
          (inr (itself x), each_weaker (λ y. (y ≤ℤ n) ⊎ (b.edge ≤ℤ y)) (λ y. (y ≤ℤ n) ⊎ (x ≤ℤ y)) (λ y k. fall l y k) es b.clear);
    })
    (λ l. record { edge = b.edge; high = b.high; among = inr b.among; clear = (inr l, b.clear) })
  where
    fall : x <ℤ b.edge → (y : ℤ) → (y ≤ℤ n) ⊎ (b.edge ≤ℤ y) → (y ≤ℤ n) ⊎ (x ≤ℤ y)
    fall l y (inl k) = inl k
    fall l y (inr k) = inr (omega (arith, ints))

nearest_below : (n : ℤ) (es : List ℤ) → Each (λ x. n <ℤ x) es ⊎ Below n es
nearest_below n [] = inl tt
nearest_below n (x ∷ es) = by (nearest_below n es)
  where
    by : Each (λ x. n <ℤ x) es ⊎ Below n es → Each (λ x. n <ℤ x) (x ∷ es) ⊎ Below n (x ∷ es)
    by (inl h) =
        by_lt_z n x (λ l. inl (l, h))
        (λ l. inr (record { edge = x; low = l; among = inl refl; clear = (inl (itself x), each_weaker (λ y. n <ℤ y) (λ y. (y ≤ℤ x) ⊎ (n <ℤ y)) (λ y k. inr k) es h) }))
    by (inr b) =
        by_lt_z n x (λ l. inr (record { edge = b.edge; low = b.low; among = inr b.among; clear = (inr l, b.clear) }))
        (λ l. inr (below_more n x es l b))

nearest_above : (n : ℤ) (es : List ℤ) → Each (λ x. x ≤ℤ n) es ⊎ Above n es
nearest_above n [] = inl tt
nearest_above n (x ∷ es) = by (nearest_above n es)
  where
    by : Each (λ x. x ≤ℤ n) es ⊎ Above n es → Each (λ x. x ≤ℤ n) (x ∷ es) ⊎ Above n (x ∷ es)
    by (inl h) =
        by_lt_z n x
        (λ l. inr (record { edge = x; high = l; among = inl refl; clear = (inr (itself x), each_weaker (λ y. y ≤ℤ n) (λ y. (y ≤ℤ n) ⊎ (x ≤ℤ y)) (λ y k. inl k) es h) }))
        (λ l. inl (l, h))
    by (inr b) =
        by_lt_z n x (λ l. inr (above_more n x es l b))
        (λ l. inr (record { edge = b.edge; high = b.high; among = inr b.among; clear = (inl l, b.clear) }))

-- ---- the least and the greatest of some

least_low : (a : ℤ) (es : List ℤ) → (fold int_min a es ≤ℤ a) × Each (λ e. fold int_min a es ≤ℤ e) es
least_low a [] = (itself a, tt)
least_low a (e ∷ es) =
    let h = least_low (int_min a e) es in
    let low : fold int_min (int_min a e) es ≤ℤ int_min a e = h.0 in
    (omega (arith, ints, clamps), (omega (arith, ints, clamps), h.1))

greatest_high : (a : ℤ) (es : List ℤ) → (a ≤ℤ fold int_max a es) × Each (λ e. e ≤ℤ fold int_max a es) es
greatest_high a [] = (itself a, tt)
greatest_high a (e ∷ es) =
    let h = greatest_high (int_max a e) es in
    let high : int_max a e ≤ℤ fold int_max (int_max a e) es = h.0 in
    (omega (arith, ints, clamps), (omega (arith, ints, clamps), h.1))

least_is : (P : ℤ → Type 0) (a : ℤ) (es : List ℤ) → P a → Each P es → P (fold int_min a es)
least_is P a [] h k = h
least_is P a (e ∷ es) h k = least_is P (int_min a e) es (cond_both (int_lt e a) e a P (λ x. k.0) (λ x. h)) k.1

greatest_is : (P : ℤ → Type 0) (a : ℤ) (es : List ℤ) → P a → Each P es → P (fold int_max a es)
greatest_is P a [] h k = h
greatest_is P a (e ∷ es) h k = greatest_is P (int_max a e) es (cond_both (int_lt e a) a e P (λ x. h) (λ x. k.0)) k.1

-- ---- those that pass

passing_more : (q : ℤ → Bool) (e : ℤ) (es : List ℤ) (t : Bool) → q e ≡ t → Each (λ x. q x ≡ true) (filter q es)
    → Each (λ x. q x ≡ true) (cond t (e ∷ filter q es) (filter q es))
passing_more q e es true h k = (h, k)
passing_more q e es false h k = k

passing : (q : ℤ → Bool) (es : List ℤ) → Each (λ e. q e ≡ true) (filter q es)
passing q [] = tt
passing q (e ∷ es) = passing_more q e es (q e) refl (passing q es)

among_more : (q : ℤ → Bool) (e x : ℤ) (es : List ℤ) (t : Bool) → q x ≡ t → q e ≡ true → (e ≡ x) ⊎ Among e (filter q es)
    → Among e (cond t (x ∷ filter q es) (filter q es))
among_more q e x es true k h a = a
among_more q e x es false k h (inl same) = absurd (both_ways (q x) k (ap q (sym same) ∙ h))
among_more q e x es false k h (inr a) = a

among_passing : (q : ℤ → Bool) (e : ℤ) (es : List ℤ) → Among e es → q e ≡ true → Among e (filter q es)
among_passing q e [] a h = a
among_passing q e (x ∷ es) (inl same) h = among_more q e x es (q x) refl h (inl same)
among_passing q e (x ∷ es) (inr a) h = among_more q e x es (q x) refl h (inr (among_passing q e es a h))

-- ---- the hull from edges

module _ (p : ℤ → Bool) (es : List ℤ) (s : Steady p es) where
  low_floor : Each (λ e. floor es <ℤ e) es
  low_floor = each_weaker (λ e. fold int_min (pos 0) es ≤ℤ e) (λ e. floor es <ℤ e) (λ e h. omega (arith, ints)) es (least_low (pos 0) es).1

  -- below all edges
  at_floor : (n : ℤ) → Each (λ x. n <ℤ x) es → p n ≡ p (floor es)
  at_floor n h =
      by_lt_z n (floor es)
      (λ l. s.steady n (floor es) (omega (arith, ints)) (each_weaker (λ e. floor es <ℤ e) (λ e. (e ≤ℤ n) ⊎ (floor es <ℤ e)) (λ e k. inr k) es low_floor))
      (λ l. sym (s.steady (floor es) n l (each_weaker (λ e. n <ℤ e) (λ e. (e ≤ℤ floor es) ⊎ (n <ℤ e)) (λ e k. inr k) es h)))

  -- past all edges
  at_ceiling : (n : ℤ) → Each (λ x. x ≤ℤ n) es → p n ≡ p (ceiling es)
  at_ceiling n h =
      by_lt_z n (ceiling es)
      (λ l. s.steady n (ceiling es) (omega (arith, ints)) (each_weaker (λ e. e ≤ℤ n) (λ e. (e ≤ℤ n) ⊎ (ceiling es <ℤ e)) (λ e k. inl k) es h))
      (λ l. sym (s.steady (ceiling es) n l (each_weaker (λ e. e ≤ℤ ceiling es) (λ e. (e ≤ℤ ceiling es) ⊎ (n <ℤ e)) (λ e k. inl k) es (greatest_high (pos 0) es).1)))

  -- an edge that is told, not above n
  edge_below : (n : ℤ) → p n ≡ true → p (floor es) ≡ false → (e : ℤ) × (e ≤ℤ n) × Among e (filter p es)
  edge_below n h f = by (nearest_below n es)
    where
      by : Each (λ x. n <ℤ x) es ⊎ Below n es → (e : ℤ) × (e ≤ℤ n) × Among e (filter p es)
      by (inl k) = absurd (both_ways (p n) (at_floor n k ∙ f) h)
      by (inr b) = (b.edge, b.low, among_passing p b.edge es b.among (s.steady b.edge n b.low b.clear ∙ h))

  -- an edge past n, before which a number is told
  edge_above : (n : ℤ) → p n ≡ true → p (ceiling es) ≡ false → (e : ℤ) × (n <ℤ e) × Among e (filter (λ e. p (e -ℤ pos 1)) es)
  edge_above n h f = by (nearest_above n es)
    where
      before_it : (b : Above n es) → p (b.edge -ℤ pos 1) ≡ true
      before_it b =
          let high : n <ℤ b.edge = b.high in
          sym (s.steady n (b.edge -ℤ pos 1) (omega (arith, ints))
          (each_weaker (λ x. (x ≤ℤ n) ⊎ (b.edge ≤ℤ x)) (λ x. (x ≤ℤ n) ⊎ ((b.edge -ℤ pos 1) <ℤ x)) (λ x k. apart x k) es b.clear)) ∙ h
        where
          apart : (x : ℤ) → (x ≤ℤ n) ⊎ (b.edge ≤ℤ x) → (x ≤ℤ n) ⊎ ((b.edge -ℤ pos 1) <ℤ x)
          apart x (inl k) = inl k
          apart x (inr k) = inr (omega (arith, ints))

      by : Each (λ x. x ≤ℤ n) es ⊎ Above n es → (e : ℤ) × (n <ℤ e) × Among e (filter (λ e. p (e -ℤ pos 1)) es)
      by (inl k) = absurd (both_ways (p n) (at_ceiling n k ∙ f) h)
      by (inr b) = (b.edge, b.high, among_passing (λ e. p (e -ℤ pos 1)) b.edge es b.among (before_it b))

  high_some : (gs : List ℤ) → filter (λ e. p (e -ℤ pos 1)) es ≡ gs → p (ceiling es) ≡ false → (n : ℤ) → p n ≡ true
      → ((m : ℤ) → p m ≡ true → IsTo (before_greatest gs) m) × HighEnd (Told p) (before_greatest gs)
  high_some [] e f n h = let w = edge_above n h f in absurd (subst (Among w.0) e w.2)
  high_some (g ∷ gs) e f n h =
      let all = subst (Each (λ x. p (x -ℤ pos 1) ≡ true)) e (passing (λ x. p (x -ℤ pos 1)) es) in
      (not_over, greatest_is (λ x. p (x -ℤ pos 1) ≡ true) g gs all.0 all.1)
    where
      not_over : (m : ℤ) → p m ≡ true → m ≤ℤ (fold int_max g gs -ℤ pos 1)
      not_over m q =
          let w = edge_above m q f in
          let over : m <ℤ w.0 = w.1 in
          let top : w.0 ≤ℤ fold int_max g gs = each_among (λ x. x ≤ℤ fold int_max g gs) w.0 (g ∷ gs) (greatest_high g gs) (subst (Among w.0) e w.2) in
          omega (arith, ints)

  high_is : (t : Bool) → p (ceiling es) ≡ t → (n : ℤ) → p n ≡ true
      → ((m : ℤ) → p m ≡ true → IsTo (if t then None else before_greatest (filter (λ e. p (e -ℤ pos 1)) es)) m)
      × HighEnd (Told p) (if t then None else before_greatest (filter (λ e. p (e -ℤ pos 1)) es))
  high_is true f n h = (
    (λ m q. tt),
    (λ m. let w = top_of (int_max m (ceiling es)) es in
        (w.0, (let up : int_max m (ceiling es) <ℤ w.0 = w.1 in omega (arith, ints, clamps)), at_ceiling w.0 w.2 ∙ f)),
  )
  high_is false f n h = high_some (filter (λ e. p (e -ℤ pos 1)) es) refl f n h

  low_open : p (floor es) ≡ true → LowEnd (Told p) None
  low_open f = λ m. (
    int_min m (floor es) -ℤ pos 1,
    omega (arith, ints, clamps),
    at_floor (int_min m (floor es) -ℤ pos 1)
        (each_weaker (λ e. floor es <ℤ e) (λ e. (int_min m (floor es) -ℤ pos 1) <ℤ e) (λ e k. omega (arith, ints, clamps)) es low_floor) ∙ f,
  )

  hull_is : (t : Bool) (fs : List ℤ) → p (floor es) ≡ t → filter p es ≡ fs
      → IsHull (Told p) (unless_empty t fs (record { low = if t then None else least fs; high = high_by p es }))
  hull_is false [] f e = λ n h. let w = edge_below n h f in subst (Among w.0) e w.2
  hull_is false (x ∷ fs) f e =
      let all = subst (Each (λ y. p y ≡ true)) e (passing p es) in
      let in' : p (fold int_min x fs) ≡ true = least_is (λ y. p y ≡ true) x fs all.0 all.1 in
      let high = high_is (p (ceiling es)) refl (fold int_min x fs) in' in
      ((λ n h. (not_under n h, high.0 n h)), in', high.1)
    where
      not_under : (n : ℤ) → p n ≡ true → fold int_min x fs ≤ℤ n
      not_under n q =
          let w = edge_below n q f in
          let low : w.0 ≤ℤ n = w.1 in
          let bottom : fold int_min x fs ≤ℤ w.0 = each_among (λ y. fold int_min x fs ≤ℤ y) w.0 (x ∷ fs) (least_low x fs) (subst (Among w.0) e w.2) in
          omega (arith, ints)
  hull_is true fs f e =
      let low = low_open f in
      let n = low (pos 0) in
      let high = high_is (p (ceiling es)) refl n.0 n.2 in
      ((λ n h. (tt, high.0 n h)), low, high.1)

  pub edges_are_hull : IsHull (Told p) (hull_by p es)
  edges_are_hull = hull_is (p (floor es)) (filter p es) refl refl
