-- Tokens are one row of constraints, and each is one set.
use Rattle.std.proofs.Common.{◌≡◌, ℕ, ℤ, pos, ◌+ℤ◌, ◌-ℤ◌, List, ◌∷◌, Bool, Option, Some, None, refl, sym, ap, ap₂, subst, ◌∙◌}
use Rattle.oer_module_bounds.specs.Sets.{Constraint, Set, Sets, everything, one, range}
use Rattle.oer_module_bounds.specs.Sets as allowed
use Rattle.oer_module_lexer.specs.Token.{Spot}
use Rattle.oer_module_limits.specs.Marks.{is_extensible}
use Rattle.oer_module_limits.specs.Sets.{Measure, number}
use Rattle.oer_module_syntax.specs.Tree.{Module}
use Rattle.oer_module_terms.specs.Trees.{Amount, Elements, Value}
use Rattle.oer_module_terms.specs.Trees as terms
use Rattle.oer_module_values.proofs.Denoted.{denoted_sole, one_number}
use Rattle.oer_module_values.specs.Numbers.{bare}
use Rattle.oer_module_values.specs.Types.{TypeIn}
use Rattle.oer_meant_leaves.specs.Sets.{AreConstraints, AreRow, AreSets, IsHigh, IsLow, IsNumber, IsRoot, IsSet, above, another, another_set}
use Rattle.oer_meant_leaves.specs.Sets.{below, by_all_except, by_elements, by_except, by_intersection, by_range, by_size, by_union, by_value}
use Rattle.oer_meant_leaves.specs.Sets.{from, governed, max, min, no_constraints, no_more_sets, of_alphabet, of_narrowing, of_others, of_values}
use Rattle.oer_meant_leaves.specs.Sets.{to, ungoverned}
use Rattle.oer_meant_leaves.proofs.Results.{first_same}

module _ (ms : List Module) where
  -- ---- numbers and ends

  number_sole : (g : Option TypeIn) (m : ℕ) (a : Amount) (n k : ℤ) → IsNumber ms g m a n → IsNumber ms g m a k → n ≡ k
  number_sole _ _ _ _ _ (ungoverned m a n d) (ungoverned _ _ k e) = denoted_sole ms m (bare m) a n k d e
  number_sole _ _ _ _ _ (governed t g m a n p d) (governed _ h _ _ k q e) = one_number ms t.«module» m t.type g h a n k p q d e

  module _ (g : Option TypeIn) (m : ℕ) where
    low_sole : (v : Option Value) (b : Bool) (o p : Option ℤ) → IsLow ms g m v b o → IsLow ms g m v b p → o ≡ p
    low_sole _ _ _ _ min min = refl
    low_sole _ _ _ _ (from at a n d) (from _ _ k e) = ap Some (number_sole g m a n k d e)
    low_sole _ _ _ _ (above at a n d) (above _ _ k e) = ap (λ z. Some (z +ℤ pos 1)) (number_sole g m a n k d e)

    high_sole : (v : Option Value) (b : Bool) (o p : Option ℤ) → IsHigh ms g m v b o → IsHigh ms g m v b p → o ≡ p
    high_sole _ _ _ _ max max = refl
    high_sole _ _ _ _ (to at a n d) (to _ _ k e) = ap Some (number_sole g m a n k d e)
    high_sole _ _ _ _ (below at a n d) (below _ _ k e) = ap (λ z. Some (z -ℤ pos 1)) (number_sole g m a n k d e)

  -- ---- sets

  mutual
    set_sole : (k : Measure) (m : ℕ) (e : Elements) (s r : Set) → IsSet ms k m e s → IsSet ms k m e r → s ≡ r
    set_sole _ _ _ _ _ (by_union k m es ss h) (by_union _ _ _ rs j) = ap allowed.union (sets_sole k m es ss rs h j)
    set_sole _ _ _ _ _ (by_intersection k m es ss h) (by_intersection _ _ _ rs j) = ap allowed.intersection (sets_sole k m es ss rs h j)
    set_sole _ _ _ _ _ (by_except k m e x s t h i) (by_except _ _ _ _ r u j l) =
        ap₂ allowed.except (set_sole k m e s r h j) (set_sole k m x t u i l)
    set_sole _ _ _ _ _ (by_all_except k m x s h) (by_all_except _ _ _ r j) =
        ap (allowed.except (range everything)) (set_sole k m x s r h j)
    set_sole _ _ _ _ _ (by_size m at c s h) (by_size _ _ _ r j) = root_sole (number None) m c s r h j
    set_sole _ _ _ _ _ (by_value g m at a n h) (by_value _ _ _ _ k j) =
        ap (λ z. range (record { low = Some z; high = Some z })) (number_sole g m a n k h j)
    set_sole _ _ _ _ _ (by_range g m at low high l u h i) (by_range _ _ _ _ _ k v j q) =
        ap₂ (λ x y. range (record { low = x; high = y })) (low_sole g m low.limit low.excluded l k h j)
        (high_sole g m high.limit high.excluded u v i q)
    set_sole _ _ _ _ _ (of_values m v) (of_values _ _) = refl
    set_sole _ _ _ _ _ (of_alphabet m at c) (of_alphabet _ _ _) = refl
    set_sole _ _ _ _ _ (of_narrowing m at kind ts) (of_narrowing _ _ _ _) = refl

    sets_sole : (k : Measure) (m : ℕ) (es : terms.Sets) (ss rs : Sets) → AreSets ms k m es ss → AreSets ms k m es rs → ss ≡ rs
    sets_sole _ _ _ _ _ (no_more_sets k m) (no_more_sets _ _) = refl
    sets_sole _ _ _ _ _ (another_set k m e es s ss h i) (another_set _ _ _ _ r rs j l) =
        ap₂ one (set_sole k m e s r h j) (sets_sole k m es ss rs i l)

    root_sole : (k : Measure) (m : ℕ) (c : terms.Constraint) (s r : Set) → IsRoot ms k m c s → IsRoot ms k m c r → s ≡ r
    root_sole _ _ _ _ _ (by_elements k m at root more exception s h) (by_elements _ _ _ _ _ _ r j) = set_sole k m root s r h j
    root_sole _ _ _ _ _ (of_others k m at kind ts) (of_others _ _ _ _ _) = refl

  -- ---- constraints in a row

  constraints_sole : (k : Measure) (m : ℕ) (cs : List terms.Constraint) (ds es : List Constraint) → AreConstraints ms k m cs ds
      → AreConstraints ms k m cs es → ds ≡ es
  constraints_sole k m _ _ _ no_constraints no_constraints = refl
  constraints_sole k m _ _ _ (another c s cs ds h i) (another _ r _ es j l) =
      ap₂ (λ x more. record { root = x; extensible = is_extensible c } ∷ more) (root_sole k m c s r h j) (constraints_sole k m cs ds es i l)

  pub row_sole : (k : Measure) (m : ℕ) (ts : List Spot) (ds es : List Constraint) → AreRow ms k m ts ds → AreRow ms k m ts es → ds ≡ es
  row_sole k m ts ds es h j =
      let e = first_same h.read j.read h.rest j.rest (sym h.is ∙ j.is) in
      constraints_sole k m j.read ds es (subst (λ cs. AreConstraints ms k m cs ds) e h.are) j.are
