-- Which constraints a type has, and what is given on the way to it: the range of what they allow.
use Rattle.std.proofs.Common.{◌≡◌, ℕ, List, [], ◌∷◌, ◌++◌, Bool, true, false, Option, Some, None, Ok, sym, ap, subst}
use Rattle.oer_module_bounds.proofs.Deciding.{effective_is_least}
use Rattle.oer_module_bounds.specs.Hull.{IsHull, effective}
use Rattle.oer_module_bounds.specs.Loose.{loose_effective}
use Rattle.oer_module_bounds.specs.Numbers.{AllowsInAll}
use Rattle.oer_module_bounds.specs.Sets.{Constraint, Span}
use Rattle.oer_module_lexer.specs.Token.{Spot}
use Rattle.oer_module_limits.specs.Limits.{judged, range_of, same_octets, serially}
use Rattle.oer_module_limits.specs.Sets.{Measure, given_rows, has_size, list_row, measure_of, number, own, own_by, own_rows}
use Rattle.oer_module_limits.specs.Sets.{plain_row, row, rows, set_at, size}
use Rattle.oer_module_names.specs.declared.error.Place.{Place}
use Rattle.oer_module_syntax.specs.Tree.{Module, Tree, any_defined_by, instance_of, list_of, named, plain, selection, structure, tagged}
use Rattle.oer_module_syntax.specs.declared.word.Builtin.{Builtin}
use Rattle.oer_module_syntax.specs.declared.word.Builtin.TheVariants as bi
use Rattle.oer_module_values.specs.Types.{Given, Meaning, TypeIn, type_in}
use Rattle.oer_module_values.specs.Types as values
use Rattle.oer_meant_leaves.specs.Laws.{RangesAreEffective}
use Rattle.oer_meant_leaves.specs.Ranges.{AreGiven, AreOwn, given, none_given, of_integer, of_list, of_sized_list, of_string}
use Rattle.oer_meant_leaves.specs.Sets.{AreRow}
use Rattle.oer_meant_leaves.proofs.Results.{limit_step, same_ok, when_ok}
use Rattle.oer_meant_leaves.proofs.Roots.{row_found}

module _ (ms : List Module) where
  -- ---- a type's own constraints

  -- what is measured is another name for it
  renamed : (m : ℕ) (cs : List Constraint) (a b : Measure × List Spot) → a ≡ b → AreRow ms b.0 m b.1 cs → AreRow ms a.0 m a.1 cs
  renamed m cs a b e r = subst (λ x. AreRow ms x.0 m x.1 cs) (sym e) r

  integer_own : (g : Option TypeIn) (m at : ℕ) (b : Builtin) (items ts : List Spot) (mine : Measure × List Spot) (cs : List Constraint)
      → plain_row (number g) (type_in m (plain at b items ts)) b ts at ≡ Ok mine → AreRow ms mine.0 m mine.1 cs
      → AreOwn ms (number g) (type_in m (plain at b items ts)) cs
  integer_own g m at bi.Integer items ts mine cs h r =
      of_integer g m at items ts cs (renamed m cs (number (Some (type_in m (plain at bi.Integer items ts))), ts) mine (same_ok h) r)
  integer_own g m at b items ts mine cs h r = absurd (cc)

  plain_own : (k : Measure) (m at : ℕ) (b : Builtin) (items ts : List Spot) (mine : Measure × List Spot) (cs : List Constraint)
      → plain_row k (type_in m (plain at b items ts)) b ts at ≡ Ok mine → AreRow ms mine.0 m mine.1 cs
      → AreOwn ms k (type_in m (plain at b items ts)) cs
  plain_own (number g) m at b items ts mine cs h r = integer_own g m at b items ts mine cs h r
  plain_own size m at b items ts mine cs h r =
      let w = when_ok (has_size b) _ _ mine h in
      of_string m at b items ts cs w.0 (renamed m cs (size, ts) mine (same_ok w.1) r)

  list_own : (k : Measure) (m at : ℕ) (b : Builtin) (sized : Bool) (ts : List Spot) (w : Option (List ℕ)) (t : Tree) (mine : Measure × List Spot)
      (cs : List Constraint) → list_row k (type_in m (list_of at b sized ts w t)) sized ts at ≡ Ok mine → AreRow ms mine.0 m mine.1 cs
      → AreOwn ms k (type_in m (list_of at b sized ts w t)) cs
  list_own (number g) m at b sized ts w t mine cs h r = absurd (cc)
  list_own size m at b true ts w t mine cs h r = of_sized_list m at b ts w t cs (renamed m cs (number None, ts) mine (same_ok h) r)
  list_own size m at b false ts w t mine cs h r = of_list m at b ts w t cs (renamed m cs (size, ts) mine (same_ok h) r)

  own_of : (k : Measure) (m : ℕ) (t : Tree) (mine : Measure × List Spot) (cs : List Constraint) → own_by k (type_in m t) t ≡ Ok mine
      → AreRow ms mine.0 m mine.1 cs → AreOwn ms k (type_in m t) cs
  own_of k m (plain at b items ts) mine cs h r = plain_own k m at b items ts mine cs h r
  own_of k m (list_of at b sized ts w t) mine cs h r = list_own k m at b sized ts w t mine cs h r
  own_of k m (named at w steps ps ts) mine cs h r = absurd (cc)
  own_of k m (tagged at ts mode t) mine cs h r = absurd (cc)
  own_of k m (structure at b es ts) mine cs h r = absurd (cc)
  own_of k m (selection at w t) mine cs h r = absurd (cc)
  own_of k m (instance_of at w steps ts) mine cs h r = absurd (cc)
  own_of k m (any_defined_by at w) mine cs h r = absurd (cc)

  own_is : (k : Measure) (t : TypeIn) (cs : List Constraint) → own_rows (set_at ms 255) k t ≡ Ok cs → AreOwn ms k t cs
  unfolding own_rows
  own_is k t cs h =
      let a = limit_step (own k t) _ cs h in
      own_of k t.«module» t.type a.0 cs a.1 (row_found ms 255 a.0.0 t.«module» a.0.1 cs a.2)

  -- ---- what is given

  given_are : (k : Measure) (gs : List Given) (ds : List Constraint) → given_rows (set_at ms 255) k gs ≡ Ok ds → AreGiven ms k gs ds
  given_are k [] ds h = subst (AreGiven ms k []) (same_ok h) none_given
  given_are k (values.constraints m ts ∷ gs) ds h =
      let a = limit_step (row (set_at ms 255) k m ts) _ ds h in
      let b = limit_step (given_rows (set_at ms 255) k gs) _ ds a.2 in
      subst (AreGiven ms k (values.constraints m ts ∷ gs)) (same_ok b.2) (given m ts gs a.0 b.0 (row_found ms 255 k m ts a.0 a.1) (given_are k gs b.0 b.1))
  given_are k (values.set m ts ∷ gs) ds h = absurd (cc)

  -- all of them
  record Rows (k : Measure) (t : TypeIn) (gs : List Given) (cs : List Constraint) : Type 0 where
    first : List Constraint
    later : List Constraint
    are_own : AreOwn ms k t first
    are_given : AreGiven ms (measure_of k t) gs later
    is : first ++ later ≡ cs

  rows_are : (k : Measure) (r : Meaning) (cs : List Constraint) → rows (set_at ms 255) k r ≡ Ok cs → Rows k r.of r.given cs
  unfolding rows
  rows_are k r cs h =
      let a = limit_step (own_rows (set_at ms 255) k r.of) _ cs h in
      let b = limit_step (given_rows (set_at ms 255) (measure_of k r.of) r.given) _ cs a.2 in
      record {
        first = a.0;
        later = b.0;
        are_own = own_is k r.of a.0 a.1;
        are_given = given_are (measure_of k r.of) r.given b.0 b.1;
        is = same_ok b.2;
      }

-- ---- their range

judged_ok : (same : Span → Span → Bool) (p : Place) (o w : Option Span) (r : Span) → judged same p o w ≡ Ok r → o ≡ Some r
judged_ok same p None w r h = absurd (cc)
judged_ok same p (Some s) None r h = absurd (cc)
judged_ok same p (Some s) (Some w) r h = let u = when_ok (same s w) _ _ r h in ap Some (same_ok u.1)

pub effective_range : RangesAreEffective
unfolding range_of
effective_range ms k p m r h =
    let a = limit_step (rows (set_at ms 255) k m) _ r h in
    let q = rows_are ms k m a.0 a.1 in
    let e = judged_ok (same_octets k) p (effective (serially a.0)) (loose_effective a.0) r a.2 in
    let least = subst (λ o. IsHull (λ n. AllowsInAll (serially a.0) n) o) e (effective_is_least (serially a.0)) in
    record {
      own = q.first;
      more = q.later;
      are_own = q.are_own;
      are_given = q.are_given;
      least = subst (λ cs. IsHull (λ n. AllowsInAll (serially cs) n) (Some r)) (sym q.is) least;
    }
