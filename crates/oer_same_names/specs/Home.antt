-- One module, whose assignments say definitions of the notation; and what is given on the way to a type of it.
use Rattle.std.specs.Prelude.{◌≡◌, ℕ, List, [], ◌∷◌, ◌++◌}
use Rattle.oer_module_syntax.specs.Tree.{Module}
use Rattle.oer_module_values.specs.Types.{Given, constraints, set}
use Rattle.oer_notation.specs.Reading.{Known}
use Rattle.oer_same_trees.specs.Defining.{AssignmentsSay, IsPlain}

-- The modules are one, with a plain header, and its assignments say these definitions.
pub record IsHome (ms : List Module) (ks : List Known) : Type 0 where
  pub name : List ℕ
  pub home : Module
  pub alone : ms ≡ home ∷ []
  pub plain : IsPlain name home
  pub says : AssignmentsSay [] ks home.assignments

-- the definitions begin with those known
abbrev pub IsFront : List Known → List Known → Type 0
IsFront known ks = (rest : List Known) × (ks ≡ known ++ rest)

-- On the way nothing was given but empty constraints.
abbrev pub IsBare : List Given → Type 0
IsBare [] = Unit {0}
IsBare (constraints m cs ∷ gs) = (cs ≡ []) × IsBare gs
IsBare (set m ts ∷ gs) = ⊥
