-- Which set of whole numbers a constraint is: of the numbers of an INTEGER, or of sizes (X.680, 50 and 51).
use Rattle.std.specs.Prelude.{◌≡◌, ℕ, ℤ, pos, ◌+ℤ◌, ◌-ℤ◌, List, [], ◌∷◌, Bool, true, false, Option, Some, None, Ok}
use Rattle.oer_module_bounds.specs.Sets.{Set, Sets, Constraint, everything, range, no_sets, one, unknown}
use Rattle.oer_module_bounds.specs.Sets as allowed
use Rattle.oer_module_lexer.specs.Token.{Spot}
use Rattle.oer_module_limits.specs.Marks.{is_extensible}
use Rattle.oer_module_limits.specs.Sets.{Measure, number, size}
use Rattle.oer_module_syntax.specs.State.{State}
use Rattle.oer_module_syntax.specs.Tree.{Module}
use Rattle.oer_module_terms.specs.Constraints.{constraints_at}
use Rattle.oer_module_terms.specs.Trees.{Amount, atom, amount, Value, Extension, Elements, simple, value, narrowing, alphabet, all_except}
use Rattle.oer_module_terms.specs.Trees as terms
use Rattle.oer_module_terms.specs.declared.tree.General.{General}
use Rattle.oer_module_terms.specs.declared.tree.Narrowing.{Narrowing}
use Rattle.oer_module_values.specs.Kept.{kept}
use Rattle.oer_module_values.specs.Numbers.{Denotes, Governor, Governs, bare}
use Rattle.oer_module_values.specs.Types.{TypeIn}

module _ (ms : List Module) where
  -- An amount in a module is this number, under the type that governs it, or where none does.
  pub data IsNumber : Option TypeIn → ℕ → Amount → ℤ → Type 0 where
    ungoverned : (m : ℕ) (a : Amount) (n : ℤ) → Denotes ms m (bare m) a n → IsNumber None m a n
    governed : (t : TypeIn) (g : Governor) (m : ℕ) (a : Amount) (n : ℤ) → Governs ms t.«module» t.type g → Denotes ms m g a n
        → IsNumber (Some t) m a n

  -- The lower end of a range in a module, and whether `<` leaves its number out; none is MIN (51.4).
  pub data IsLow (g : Option TypeIn) (m : ℕ) : Option Value → Bool → Option ℤ → Type 0 where
    min : IsLow g m None false None
    from : (at : ℕ) (a : Amount) (n : ℤ) → IsNumber g m a n → IsLow g m (Some (atom at (amount a))) false (Some n)
    above : (at : ℕ) (a : Amount) (n : ℤ) → IsNumber g m a n → IsLow g m (Some (atom at (amount a))) true (Some (n +ℤ pos 1))

  -- The upper end; none is MAX.
  pub data IsHigh (g : Option TypeIn) (m : ℕ) : Option Value → Bool → Option ℤ → Type 0 where
    max : IsHigh g m None false None
    to : (at : ℕ) (a : Amount) (n : ℤ) → IsNumber g m a n → IsHigh g m (Some (atom at (amount a))) false (Some n)
    below : (at : ℕ) (a : Amount) (n : ℤ) → IsNumber g m a n → IsHigh g m (Some (atom at (amount a))) true (Some (n -ℤ pos 1))

  mutual
    -- What elements in a module allow of numbers or sizes, as a set. Single values, FROM and narrowings say nothing of sizes that is
    -- known here.
    pub data IsSet : Measure → ℕ → Elements → Set → Type 0 where
      by_union : (k : Measure) (m : ℕ) (es : terms.Sets) (ss : Sets) → AreSets k m es ss → IsSet k m (terms.union es) (allowed.union ss)
      by_intersection : (k : Measure) (m : ℕ) (es : terms.Sets) (ss : Sets) → AreSets k m es ss
          → IsSet k m (terms.intersection es) (allowed.intersection ss)
      by_except : (k : Measure) (m : ℕ) (e x : Elements) (s r : Set) → IsSet k m e s → IsSet k m x r
          → IsSet k m (terms.except e x) (allowed.except s r)
      by_all_except : (k : Measure) (m : ℕ) (x : Elements) (r : Set) → IsSet k m x r
          → IsSet k m (all_except x) (allowed.except (range everything) r)
      by_size : (m at : ℕ) (c : terms.Constraint) (s : Set) → IsRoot (number None) m c s → IsSet size m (terms.size at c) s
      by_value : (g : Option TypeIn) (m at : ℕ) (a : Amount) (n : ℤ) → IsNumber g m a n
          → IsSet (number g) m (simple (value (atom at (amount a)))) (range (record { low = Some n; high = Some n }))
      by_range : (g : Option TypeIn) (m at : ℕ) (low high : terms.Bound) (l h : Option ℤ) → IsLow g m low.limit low.excluded l
          → IsHigh g m high.limit high.excluded h
          → IsSet (number g) m (simple (terms.range at low high)) (range (record { low = l; high = h }))
      of_values : (m : ℕ) (v : Value) → IsSet size m (simple (value v)) unknown
      of_alphabet : (m at : ℕ) (c : terms.Constraint) → IsSet size m (alphabet at c) unknown
      of_narrowing : (m at : ℕ) (kind : Narrowing) (ts : List Spot) → IsSet size m (simple (narrowing at kind ts)) unknown

    pub data AreSets : Measure → ℕ → terms.Sets → Sets → Type 0 where
      no_more_sets : (k : Measure) (m : ℕ) → AreSets k m terms.no_sets no_sets
      another_set : (k : Measure) (m : ℕ) (e : Elements) (es : terms.Sets) (s : Set) (ss : Sets) → IsSet k m e s → AreSets k m es ss
          → AreSets k m (terms.set e es) (one s ss)

    -- What the root of a constraint allows. Of CONSTRAINED BY, table constraints and contents isn't known what they do.
    pub data IsRoot : Measure → ℕ → terms.Constraint → Set → Type 0 where
      by_elements : (k : Measure) (m at : ℕ) (root : Elements) (more : Extension) (exception : List Spot) (s : Set) → IsSet k m root s
          → IsRoot k m (terms.subtype at root more exception) s
      of_others : (k : Measure) (m at : ℕ) (kind : General) (ts : List Spot) → IsRoot k m (terms.general at kind ts) unknown

  -- each constraint of a row has such a root, and is extensible where it, or SIZE in it, has a marker
  pub data AreConstraints (k : Measure) (m : ℕ) : List terms.Constraint → List Constraint → Type 0 where
    no_constraints : AreConstraints k m [] []
    another : (c : terms.Constraint) (s : Set) (cs : List terms.Constraint) (ds : List Constraint) → IsRoot k m c s
        → AreConstraints k m cs ds → AreConstraints k m (c ∷ cs) (record { root = s; extensible = is_extensible c } ∷ ds)

  -- tokens in a module are these constraints
  pub record AreRow (k : Measure) (m : ℕ) (ts : List Spot) (ds : List Constraint) : Type 0 where
    pub read : List terms.Constraint
    pub rest : State
    pub is : constraints_at 64 (kept ts) ≡ Ok (read, rest)
    pub are : AreConstraints k m read ds
