-- A type has one effective range.
use Rattle.std.proofs.Common.{◌≡◌, List, ◌++◌, Option, Some, None, refl, ap₂, subst}
use Rattle.oer_module_bounds.proofs.Hulls.{one_hull}
use Rattle.oer_module_bounds.specs.Hull.{IsHull}
use Rattle.oer_module_bounds.specs.Numbers.{AllowsInAll}
use Rattle.oer_module_bounds.specs.Sets.{Constraint, Span}
use Rattle.oer_module_limits.specs.Limits.{serially}
use Rattle.oer_module_limits.specs.Sets.{Measure, measure_of, number, size}
use Rattle.oer_module_syntax.specs.Tree.{Module, plain}
use Rattle.oer_module_syntax.specs.declared.word.Builtin.TheVariants as bi
use Rattle.oer_module_values.specs.Types.{Given, TypeIn, type_in}
use Rattle.oer_meant_leaves.specs.Laws.{RangesAreSole}
use Rattle.oer_meant_leaves.specs.Ranges.{AreGiven, AreOwn, given, none_given, of_integer, of_list, of_sized_list, of_string}
use Rattle.oer_meant_leaves.proofs.SoleSets.{row_sole}

module _ (ms : List Module) where
  own_sole : (k : Measure) (t : TypeIn) (cs ds : List Constraint) → AreOwn ms k t cs → AreOwn ms k t ds → cs ≡ ds
  own_sole _ _ _ _ (of_integer g m at items ts cs h) (of_integer _ _ _ _ _ ds j) =
      row_sole ms (number (Some (type_in m (plain at bi.Integer items ts)))) m ts cs ds h j
  own_sole _ _ _ _ (of_string m at b items ts cs e h) (of_string _ _ _ _ _ ds f j) = row_sole ms size m ts cs ds h j
  own_sole _ _ _ _ (of_list m at b ts w t cs h) (of_list _ _ _ _ _ _ ds j) = row_sole ms size m ts cs ds h j
  own_sole _ _ _ _ (of_sized_list m at b ts w t cs h) (of_sized_list _ _ _ _ _ _ ds j) = row_sole ms (number None) m ts cs ds h j

  given_sole : (k : Measure) (gs : List Given) (cs ds : List Constraint) → AreGiven ms k gs cs → AreGiven ms k gs ds → cs ≡ ds
  given_sole k _ _ _ none_given none_given = refl
  given_sole k _ _ _ (given m ts gs bs cs h i) (given _ _ _ ds es j l) =
      ap₂ (λ x y. x ++ y) (row_sole ms k m ts bs ds h j) (given_sole k gs cs es i l)

some_same : (r s : Span) → ◌≡◌ {A = Option Span} (Some r) (Some s) → r ≡ s
some_same r s h = cc

pub range_sole : RangesAreSole
range_sole ms k t gs r s h j =
    let all : h.own ++ h.more ≡ j.own ++ j.more =
    ap₂ (λ x y. x ++ y) (own_sole ms k t h.own j.own h.are_own j.are_own) (given_sole ms (measure_of k t) gs h.more j.more h.are_given j.are_given) in
    let least = subst (λ cs. IsHull (λ n. AllowsInAll (serially cs) n) (Some r)) all h.least in
    some_same r s (one_hull (λ n. AllowsInAll (serially (j.own ++ j.more)) n) (Some r) (Some s) least j.least)
