-- Where nothing is taken away and nothing lies between, the range as PER reads it is the hull.
use Rattle.std.proofs.Common.{◌≡◌, inl, List, [], ◌∷◌, Bool, true, false, if◌then◌else◌, Option, Some, None, length, map, refl, sym, subst, arith}
use Rattle.std.specs.Prelude.{ℤ, pos, ◌-ℤ◌, ◌+ℤ◌}
use Rattle.std.specs.Int.{int_max, int_min}
use Rattle.std.specs.List.{fold}
use Rattle.std.proofs.lemmas.Bool.{and_parts}
use Rattle.std.proofs.lemmas.Int.{ints, clamps}
use Rattle.oer_module_bounds.specs.Laws.{IsIn}
use Rattle.oer_module_bounds.specs.Hull.{IsHull, LowEnd, HighEnd, hull, effective}
use Rattle.oer_module_bounds.specs.Loose.{are_plain, inner_end, is_one_plain, is_plain, join, loose, loose_each, loose_effective, meet}
use Rattle.oer_module_bounds.specs.Numbers.{IsFrom, IsTo, Allows, AllowsOne, AllowsEach, bounding}
use Rattle.oer_module_bounds.specs.Sets.{Span, everything, crossed, filled, Set, range, union, intersection, except, unknown}
use Rattle.oer_module_bounds.specs.Sets.{Sets, no_sets, one, sets_from, Constraint}
use Rattle.oer_module_bounds.proofs.Deciding.{hull_is_least}
use Rattle.oer_module_bounds.proofs.Hulls.{hull_same, one_hull}
use Rattle.oer_module_bounds.proofs.Looseness.{in_loose}
use Rattle.oer_module_bounds.proofs.Members.{set_of-Range, set_of-Union, set_of-Intersection, set_of-Except, set_of-Unknown}

pub ruleset sets = (set_of-Range, set_of-Union, set_of-Intersection, set_of-Except, set_of-Unknown)

-- ---- a range that is read has a number

abbrev IsFilled : Option Span → Type 0
IsFilled None = Unit {0}
IsFilled (Some r) = crossed r.low r.high ≡ false

filled_is : (r : Span) → IsFilled (filled r)
filled_is r = by (crossed r.low r.high) refl where
  by : (b : Bool) → crossed r.low r.high ≡ b → IsFilled (filled r)
  by true e = subst (λ c. IsFilled (if c then None else Some r)) (sym e) tt
  by false e = subst (λ c. IsFilled (if c then None else Some r)) (sym e) e

meet_is : (a b : Option Span) → IsFilled (meet a b)
meet_is None b = tt
meet_is (Some r) None = tt
meet_is (Some r) (Some s) = filled_is (record { low = inner_end int_max r.low s.low; high = inner_end int_min r.high s.high })

all_met : (a : Option Span) (rs : List (Option Span)) → IsFilled a → IsFilled (fold meet a rs)
all_met a [] h = h
all_met a (r ∷ rs) h = all_met (meet a r) rs (meet_is a r)

mutual
  loose_is : (s : Set) → is_plain s ≡ true → IsFilled (loose s)
  loose_is (range r) p = filled_is r
  loose_is (union ss) p = only_is ss p
  loose_is (intersection ss) p = all_met (Some everything) (loose_each ss) refl
  loose_is (except s t) p = absurd (cc)
  loose_is unknown p = refl

  only_is : (ss : Sets) → is_one_plain ss ≡ true → IsFilled (fold join None (loose_each ss))
  only_is no_sets p = absurd (cc)
  only_is (one s no_sets) p = loose_is s p
  only_is (one s (one t ss)) p = absurd (cc)

-- ---- what lies in it is allowed

in_range : (r : Span) (n : ℤ) → IsIn (filled r) n → IsFrom r.low n × IsTo r.high n
in_range r n h = by (crossed r.low r.high) h where
  by : (c : Bool) → IsIn (if c then None else Some r) n → IsFrom r.low n × IsTo r.high n
  by true h = absurd h
  by false h = h

from_inner : (a b : Option ℤ) (n : ℤ) → IsFrom (inner_end int_max a b) n → IsFrom a n × IsFrom b n
from_inner None b n h = (tt, h)
from_inner (Some l) None n h = (h, tt)
from_inner (Some l) (Some m) n h = (omega (arith, ints, clamps), omega (arith, ints, clamps))

to_inner : (a b : Option ℤ) (n : ℤ) → IsTo (inner_end int_min a b) n → IsTo a n × IsTo b n
to_inner None b n h = (tt, h)
to_inner (Some l) None n h = (h, tt)
to_inner (Some l) (Some m) n h = (omega (arith, ints, clamps), omega (arith, ints, clamps))

in_both : (a b : Option Span) (n : ℤ) → IsIn (meet a b) n → IsIn a n × IsIn b n
in_both None b n h = absurd h
in_both (Some r) None n h = absurd h
in_both (Some r) (Some s) n h =
    let w = in_range (record { low = inner_end int_max r.low s.low; high = inner_end int_min r.high s.high }) n h in
    let low = from_inner r.low s.low n w.0 in
    let high = to_inner r.high s.high n w.1 in
    ((low.0, high.0), (low.1, high.1))

mutual
  allowed : (s : Set) (n : ℤ) → is_plain s ≡ true → IsIn (loose s) n → Allows true s n
  allowed (range r) n p h = in_range r n h
  allowed (union ss) n p h = allowed_one ss n p h
  allowed (intersection ss) n p h = (allowed_each ss n (Some everything) p h).1
  allowed (except s t) n p h = absurd (cc)
  allowed unknown n p h = refl

  allowed_one : (ss : Sets) (n : ℤ) → is_one_plain ss ≡ true → IsIn (fold join None (loose_each ss)) n → AllowsOne true ss n
  allowed_one no_sets n p h = absurd (cc)
  allowed_one (one s no_sets) n p h = inl (allowed s n p h)
  allowed_one (one s (one t ss)) n p h = absurd (cc)

  allowed_each : (ss : Sets) (n : ℤ) (a : Option Span) → are_plain ss ≡ true → IsIn (fold meet a (loose_each ss)) n → IsIn a n × AllowsEach true ss n
  allowed_each no_sets n a p h = (h, tt)
  allowed_each (one s ss) n a p h =
      let w = and_parts (is_plain s) (are_plain ss) p in
      let rest = allowed_each ss n (meet a (loose s)) w.1 h in
      let here = in_both a (loose s) n rest.0 in
      (here.0, (allowed s n w.0 here.1, rest.1))

-- ---- a range that has a number is the hull of what lies in it

low_end : (low high : Option ℤ) → crossed low high ≡ false → LowEnd (λ n. IsFrom low n × IsTo high n) low
low_end None None e = λ m. (m -ℤ pos 1, omega (arith, ints), (tt, tt))
low_end None (Some h) e = λ m. (int_min m h -ℤ pos 1, omega (arith, ints, clamps), (tt, omega (arith, ints, clamps)))
low_end (Some l) None e = (omega (arith, ints), tt)
low_end (Some l) (Some h) e = (omega (arith, ints), omega (arith, ints, e))

high_end : (low high : Option ℤ) → crossed low high ≡ false → HighEnd (λ n. IsFrom low n × IsTo high n) high
high_end None None e = λ m. (m +ℤ pos 1, omega (arith, ints), (tt, tt))
high_end (Some l) None e = λ m. (int_max m l +ℤ pos 1, omega (arith, ints, clamps), (omega (arith, ints, clamps), tt))
high_end None (Some h) e = (tt, omega (arith, ints))
high_end (Some l) (Some h) e = (omega (arith, ints, e), omega (arith, ints))

of_what_is_in : (a : Option Span) → IsFilled a → IsHull (λ n. IsIn a n) a
of_what_is_in None e = λ n h. h
of_what_is_in (Some r) e = ((λ n h. h), low_end r.low r.high e, high_end r.low r.high e)

plain_is_hull : (s : Set) → is_plain s ≡ true → loose s ≡ hull s
plain_is_hull s p =
    one_hull (λ n. Allows true s n) (loose s) (hull s)
    (hull_same (λ n. IsIn (loose s) n) (λ n. Allows true s n) (λ n h. allowed s n p h) (λ n h. in_loose true s n h) (loose s)
    (of_what_is_in (loose s) (loose_is s p)))
    (hull_is_least s)

pub plain_is_effective : (cs : List Constraint) → are_plain (bounding cs) ≡ true → loose_effective cs ≡ effective cs
plain_is_effective cs p = plain_is_hull (intersection (bounding cs)) p

-- ---- a list of several is not one

pub no_only : {A : Type 0} (f : A → Set) (xs : List A) → (length xs ≡ 1 → ⊥) → false ≡ is_one_plain (sets_from (map f xs))
no_only f [] h = refl
no_only f (x ∷ []) h = absurd (h refl)
no_only f (x ∷ y ∷ xs) h = refl
