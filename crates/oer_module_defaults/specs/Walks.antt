-- From tokens to the value for which they stand: a name stands for the value of its assignment (X.680, 14.1 and 16).
use Rattle.std.specs.Prelude.{ℕ, zero, suc, List, Option, Some, None, Ok, if◌then◌else◌}
use Rattle.oer_module_lexer.specs.Token.{Spot}
use Rattle.oer_module_names.specs.declared.error.Place.{Place}
use Rattle.oer_module_syntax.specs.Modules.{none_left}
use Rattle.oer_module_syntax.specs.Tree.{Module, Body, type_body, set_body, value_body, class_body}
use Rattle.oer_module_terms.specs.Trees.{named, Atom, amount, Value}
use Rattle.oer_module_text.specs.Errors.{Read, error, not_taken, unresolved, told_by, ◌>>=◌}
use Rattle.oer_module_text.specs.declared.error.Part.TheVariants as part
use Rattle.oer_module_values.specs.Errors.{circular, not_a_value}
use Rattle.oer_module_values.specs.Looks.{Path, path_of}
use Rattle.oer_module_values.specs.Numbers.{place_of_first}
use Rattle.oer_module_values.specs.Types.{Referent, referred, type_in}
use Rattle.oer_module_defaults.specs.Atoms.{single}
use Rattle.oer_module_defaults.specs.Governors.{Governor, governor_at, of_kind}
use Rattle.oer_module_defaults.specs.Items.{is_own}
use Rattle.oer_module_defaults.specs.Values.{value_in}
use Rattle.oer_module_defaults.specs.declared.governor.Kind.{Kind}

-- the tokens of a value, what governs it, and the module that the tokens stand in
pub record Source : Type 0 where
  pub «module» : ℕ
  pub governor : Governor
  pub spots : List Spot

-- a value, where it stands, and what governs it there
pub record Literal : Type 0 where
  pub place : Place
  pub governor : Governor
  pub value : Value

pub data Outcome : Type 0 where
  reached : Value → Outcome
  goes : Source → Outcome

pub record Name : Type 0 where
  pub name : List ℕ
  pub path : Path

abbrev pub source_place : Source → Place
source_place s = place_of_first s.«module» s.spots

-- the name that a value is
abbrev pub name_of : Option Atom → Option Name
name_of (Some (amount (named w steps))) = Some (record { name = w; path = path_of steps })
name_of _ = None

abbrev pub name_in : Value → Option Name
name_in v = name_of (single v)

abbrev pub outcome_by : Value → Option Source → Outcome
outcome_by v None = reached v
outcome_by v (Some u) = goes u

abbrev pub after : (Source → Read Literal) → Source → Outcome → Read Literal
after more s (reached v) = Ok (record { place = source_place s; governor = s.governor; value = v })
after more s (goes u) = more u

module _ (ms : List Module) where
  abbrev pub defined_by : Place → Kind → ℕ → Body → Read Source
  defined_by p k m (value_body t ts) =
      governor_at ms p (type_in m t) >>= of_kind p k >>= λ g. Ok (record { «module» = m; governor = g; spots = ts })
  defined_by p k m (type_body t) = error p (unresolved not_a_value)
  defined_by p k m (class_body _ _) = error p (unresolved not_a_value)
  defined_by p k m (set_body _ _) = error p (unresolved not_a_value)

  -- the value of an assignment without parameters, of a kind
  abbrev pub defined : Place → Kind → Referent → Read Source
  defined p k r =
      if none_left r.assignment.parameters then defined_by p k r.«module» r.assignment.body else error p (not_taken part.Parameters)

  abbrev pub valued_by : Place → Kind → Option Referent → Read Source
  valued_by p k None = error p (not_taken part.Field)
  valued_by p k (Some r) = defined p k r

  unfoldable pub valued : Place → Kind → List ℕ → Path → Read Source
  valued p k w path = told_by (referred ms p w path) >>= valued_by p k

  abbrev pub reference_by : Place → Governor → Option Name → Read (Option Source)
  reference_by p g None = Ok None
  reference_by p g (Some n) =
      is_own g n.name n.path >>= λ b. if b then Ok None else (valued p g.kind n.name n.path >>= λ s. Ok (Some s))

  -- the value for which another stands, if that is the name of one
  abbrev pub reference_at : Place → Governor → Value → Read (Option Source)
  reference_at p g v = reference_by p g (name_in v)

  unfoldable pub step : Source → Read Outcome
  step s = do
    v ← value_in s.«module» s.spots
    o ← reference_at (source_place s) s.governor v
    Ok (outcome_by v o)

  -- the value to which tokens come, in so many steps
  unfoldable pub walk : ℕ → Source → Read Literal
  walk zero s = error (source_place s) (unresolved circular)
  walk (suc steps) s = step s >>= after (walk steps) s
