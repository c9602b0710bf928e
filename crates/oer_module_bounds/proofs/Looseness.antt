-- What is allowed lies in the range as PER reads it.
use Rattle.std.proofs.Common.{◌≡◌, ◌⊎◌, inl, inr, List, [], ◌∷◌, Bool, true, false, Option, Some, None, refl, sym, ap, arith}
use Rattle.std.specs.Prelude.{ℤ, ◌≤ℤ◌, ◌<ℤ◌, map}
use Rattle.std.specs.Int.{int_max, int_min}
use Rattle.std.specs.List.{fold}
use Rattle.std.proofs.lemmas.Int.{ints, clamps}
use Rattle.oer_module_bounds.specs.Laws.{IsIn, LooseHasHull, LooseEffectiveHasEffective}
use Rattle.oer_module_bounds.specs.Hull.{IsHull, LowEnd, HighEnd, hull}
use Rattle.oer_module_bounds.specs.Loose.{outer_end, inner_end, join, meet, loose, loose_each}
use Rattle.oer_module_bounds.specs.Numbers.{IsFrom, IsTo, Allows, AllowsOne, AllowsEach, bounding}
use Rattle.oer_module_bounds.specs.Sets.{Span, everything, crossed, filled, Set, range, union, intersection, except, unknown}
use Rattle.oer_module_bounds.specs.Sets.{Sets, no_sets, one, sets_from, set_of}
use Rattle.oer_module_bounds.specs.declared.tree.Set.{Set as RawSet}
use Rattle.oer_module_bounds.proofs.Deciding.{hull_is_least}

in_filled : (r : Span) (n : ℤ) → IsFrom r.low n → IsTo r.high n → IsIn (filled r) n
in_filled r n h k = by r.low r.high h k
  where
    not_crossed : (low high : Option ℤ) → IsFrom low n → IsTo high n → crossed low high ≡ false
    not_crossed None high h k = refl
    not_crossed (Some l) None h k = refl
    not_crossed (Some l) (Some m) h k = sym (omega (arith, ints))

    by : (low high : Option ℤ) → IsFrom low n → IsTo high n → IsIn (filled r) n
    by low high x y = rw (not_crossed r.low r.high h k) (h, k)

outer_from : (a b : Option ℤ) (n : ℤ) → IsFrom a n ⊎ IsFrom b n → IsFrom (outer_end int_min a b) n
outer_from None b n h = tt
outer_from (Some l) None n h = tt
outer_from (Some l) (Some m) n (inl h) = omega (arith, ints, clamps)
outer_from (Some l) (Some m) n (inr h) = omega (arith, ints, clamps)

outer_to : (a b : Option ℤ) (n : ℤ) → IsTo a n ⊎ IsTo b n → IsTo (outer_end int_max a b) n
outer_to None b n h = tt
outer_to (Some l) None n h = tt
outer_to (Some l) (Some m) n (inl h) = omega (arith, ints, clamps)
outer_to (Some l) (Some m) n (inr h) = omega (arith, ints, clamps)

inner_from : (a b : Option ℤ) (n : ℤ) → IsFrom a n → IsFrom b n → IsFrom (inner_end int_max a b) n
inner_from None b n h k = k
inner_from (Some l) None n h k = h
inner_from (Some l) (Some m) n h k = omega (arith, ints, clamps)

inner_to : (a b : Option ℤ) (n : ℤ) → IsTo a n → IsTo b n → IsTo (inner_end int_min a b) n
inner_to None b n h k = k
inner_to (Some l) None n h k = h
inner_to (Some l) (Some m) n h k = omega (arith, ints, clamps)

in_join_first : (a b : Option Span) (n : ℤ) → IsIn a n → IsIn (join a b) n
in_join_first None b n h = absurd h
in_join_first (Some r) None n h = h
in_join_first (Some r) (Some s) n h = (outer_from r.low s.low n (inl h.0), outer_to r.high s.high n (inl h.1))

in_join_second : (a b : Option Span) (n : ℤ) → IsIn b n → IsIn (join a b) n
in_join_second None b n h = h
in_join_second (Some r) None n h = absurd h
in_join_second (Some r) (Some s) n h = (outer_from r.low s.low n (inr h.0), outer_to r.high s.high n (inr h.1))

in_meet : (a b : Option Span) (n : ℤ) → IsIn a n → IsIn b n → IsIn (meet a b) n
in_meet None b n h k = absurd h
in_meet (Some r) None n h k = absurd k
in_meet (Some r) (Some s) n h k =
    in_filled (record { low = inner_end int_max r.low s.low; high = inner_end int_min r.high s.high }) n
    (inner_from r.low s.low n h.0 k.0) (inner_to r.high s.high n h.1 k.1)

-- what is joined already stays
kept : (a : Option Span) (rs : List (Option Span)) (n : ℤ) → IsIn a n → IsIn (fold join a rs) n
kept a [] n h = h
kept a (r ∷ rs) n h = kept (join a r) rs n (in_join_first a r n h)

mutual
  pub in_loose : (all : Bool) (s : Set) (n : ℤ) → Allows all s n → IsIn (loose s) n
  in_loose all (range r) n h = in_filled r n h.0 h.1
  in_loose all (union ss) n h = in_one all ss n None h
  in_loose all (intersection ss) n h = in_each all ss n (Some everything) (tt, tt) h
  in_loose all (except s t) n h = in_loose all s n h.0
  in_loose all unknown n h = (tt, tt)

  in_one : (all : Bool) (ss : Sets) (n : ℤ) (a : Option Span) → AllowsOne all ss n → IsIn (fold join a (loose_each ss)) n
  in_one all no_sets n a h = absurd h
  in_one all (one s ss) n a (inl h) = kept (join a (loose s)) (loose_each ss) n (in_join_second a (loose s) n (in_loose all s n h))
  in_one all (one s ss) n a (inr h) = in_one all ss n (join a (loose s)) h

  in_each : (all : Bool) (ss : Sets) (n : ℤ) (a : Option Span) → IsIn a n → AllowsEach all ss n → IsIn (fold meet a (loose_each ss)) n
  in_each all no_sets n a k h = k
  in_each all (one s ss) n a k h = in_each all ss n (meet a (loose s)) (in_meet a (loose s) n k (in_loose all s n h.0)) h.1

-- ---- what has all numbers has their hull

from_below : (l : Option ℤ) (m n : ℤ) → m ≤ℤ n → IsFrom l m → IsFrom l n
from_below None m n h k = tt
from_below (Some l) m n h k = omega (arith, ints)

to_above : (h : Option ℤ) (m n : ℤ) → n ≤ℤ m → IsTo h m → IsTo h n
to_above None m n h k = tt
to_above (Some l) m n h k = omega (arith, ints)

between : (b : Option Span) (m k n : ℤ) → m ≤ℤ n → n ≤ℤ k → IsIn b m → IsIn b k → IsIn b n
between None m k n h l x y = x
between (Some r) m k n h l x y = (from_below r.low m n h x.0, to_above r.high k n l y.1)

module _ (P : ℤ → Type 0) where
  one_up_to : (l : Option ℤ) (n : ℤ) → LowEnd P l → IsFrom l n → (m : ℤ) × (m ≤ℤ n) × P m
  one_up_to None n h k = let w = h n in let low : w.0 <ℤ n = w.1 in (w.0, omega (arith, ints), w.2)
  one_up_to (Some l) n h k = (l, k, h)

  one_from : (u : Option ℤ) (n : ℤ) → HighEnd P u → IsTo u n → (m : ℤ) × (n ≤ℤ m) × P m
  one_from None n h k = let w = h n in let high : n <ℤ w.0 = w.1 in (w.0, omega (arith, ints), w.2)
  one_from (Some u) n h k = (u, k, h)

  hull_in : (a b : Option Span) → IsHull P a → ((n : ℤ) → P n → IsIn b n) → (n : ℤ) → IsIn a n → IsIn b n
  hull_in None b h f n k = absurd k
  hull_in (Some r) b h f n k =
      let low = one_up_to r.low n h.1 k.0 in
      let high = one_from r.high n h.2 k.1 in
      between b low.0 high.0 n low.1 high.1 (f low.0 low.2) (f high.0 high.2)

pub loose_has_hull : LooseHasHull
loose_has_hull s n h = hull_in (λ m. Allows true s m) (hull s) (loose s) (hull_is_least s) (λ m k. in_loose true s m k) n h

pub loose_effective_has_effective : LooseEffectiveHasEffective
loose_effective_has_effective cs n h = loose_has_hull (intersection (bounding cs)) n h

-- ---- the members that the code reads

pub loose_listed : (ss : List RawSet) → loose_each (sets_from (map set_of ss)) ≡ map (λ s. loose (set_of s)) ss
loose_listed [] = refl
loose_listed (s ∷ ss) = ap (λ rs. loose (set_of s) ∷ rs) (loose_listed ss)
