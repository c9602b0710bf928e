-- The effective range of the numbers, or the sizes, of a type (X.680, 50.8, 51; X.696, 8.2).
use Rattle.std.specs.Prelude.{◌≡◌, ℕ, List, [], ◌∷◌, ◌++◌, true, false, Option, Some, None}
use Rattle.oer_module_bounds.specs.Hull.{IsHull}
use Rattle.oer_module_bounds.specs.Numbers.{AllowsInAll}
use Rattle.oer_module_bounds.specs.Sets.{Constraint, Span}
use Rattle.oer_module_lexer.specs.Token.{Spot}
use Rattle.oer_module_limits.specs.Limits.{serially}
use Rattle.oer_module_limits.specs.Sets.{Measure, number, size, has_size, measure_of}
use Rattle.oer_module_syntax.specs.Tree.{Module, Tree, plain, list_of}
use Rattle.oer_module_syntax.specs.declared.word.Builtin.{Builtin}
use Rattle.oer_module_syntax.specs.declared.word.Builtin.TheVariants as bi
use Rattle.oer_module_values.specs.Types.{Given, TypeIn, type_in}
use Rattle.oer_module_values.specs.Types as values
use Rattle.oer_meant_leaves.specs.Sets.{AreRow}

module _ (ms : List Module) where
  -- The constraints that a type has itself: of an INTEGER, whose numbers it governs; of a string; or of a list, where SIZE may stand
  -- before the first constraint, without parentheses, so that this is one of numbers.
  pub data AreOwn : Measure → TypeIn → List Constraint → Type 0 where
    of_integer : (g : Option TypeIn) (m at : ℕ) (items ts : List Spot) (cs : List Constraint)
        → AreRow ms (number (Some (type_in m (plain at bi.Integer items ts)))) m ts cs
        → AreOwn (number g) (type_in m (plain at bi.Integer items ts)) cs
    of_string : (m at : ℕ) (b : Builtin) (items ts : List Spot) (cs : List Constraint) → has_size b ≡ true → AreRow ms size m ts cs
        → AreOwn size (type_in m (plain at b items ts)) cs
    of_list : (m at : ℕ) (b : Builtin) (ts : List Spot) (w : Option (List ℕ)) (t : Tree) (cs : List Constraint) → AreRow ms size m ts cs
        → AreOwn size (type_in m (list_of at b false ts w t)) cs
    of_sized_list : (m at : ℕ) (b : Builtin) (ts : List Spot) (w : Option (List ℕ)) (t : Tree) (cs : List Constraint)
        → AreRow ms (number None) m ts cs → AreOwn size (type_in m (list_of at b true ts w t)) cs

  -- those given where references stand, in that order
  pub data AreGiven (k : Measure) : List Given → List Constraint → Type 0 where
    none_given : AreGiven k [] []
    given : (m : ℕ) (ts : List Spot) (gs : List Given) (cs ds : List Constraint) → AreRow ms k m ts cs → AreGiven k gs ds
        → AreGiven k (values.constraints m ts ∷ gs) (cs ++ ds)

  -- The range of numbers, or of sizes, of a type and what is given on the way to it: the least that has all whole numbers that each
  -- constraint allows. One with an extension marker bounds nothing if it is the last; one that another follows has lost its marker.
  pub record IsRange (k : Measure) (t : TypeIn) (gs : List Given) (r : Span) : Type 0 where
    pub own : List Constraint
    pub more : List Constraint
    pub are_own : AreOwn k t own
    pub are_given : AreGiven (measure_of k t) gs more
    pub least : IsHull (λ n. AllowsInAll (serially (own ++ more)) n) (Some r)
