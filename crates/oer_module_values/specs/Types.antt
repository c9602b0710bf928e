-- What a type stands for: a reference stands for what its definition does (X.680, 3.8, 14.1, 16 and 17.3).
use Rattle.std.specs.Prelude.{◌≡◌, ℕ, zero, suc, List, [], ◌∷◌, ◌++◌, Option, Some, None, slice_get, Result, Ok, Err, if◌then◌else◌}
use Rattle.oer_module_lexer.specs.Token.{Spot}
use Rattle.oer_module_names.specs.Finding.{Fault as NameFault, find, find_in}
use Rattle.oer_module_names.specs.Standing.{StandsFor, StandsForIn}
use Rattle.oer_module_names.specs.Tables.{assignments_in}
use Rattle.oer_module_names.specs.declared.error.Found.{Found}
use Rattle.oer_module_names.specs.declared.error.Place.{Place}
use Rattle.oer_module_names.specs.declared.error.Why.TheVariants.{Missing}
use Rattle.oer_module_syntax.specs.Modules.{none_left}
use Rattle.oer_module_syntax.specs.Tree.{Module, Assignment, Body, type_body, set_body, value_body, class_body}
use Rattle.oer_module_syntax.specs.Tree.{Tree, named, tagged}
use Rattle.oer_module_syntax.specs.declared.tree.Mode.{Mode}
use Rattle.oer_module_values.specs.Errors.{Error, error, place_in, unnamed, circular, not_a_type, unsettled, ◌>>=◌}
use Rattle.oer_module_values.specs.Looks.{Path, own, within, fields, path_of, place_of}

-- a type in a module, and an assignment in one
pub record TypeIn : Type 0 where
  pub «module» : ℕ
  pub type : Tree

pub record Referent : Type 0 where
  pub «module» : ℕ
  pub assignment : Assignment

-- What is given where a reference stands, and the module: constraints behind it, in parentheses, or the set that it
-- stands for, in braces.
pub data Given : Type 0 where
  constraints set : ℕ → List Spot → Given

-- the type that is no reference, and what is given on the way to it, the nearest last
pub record Meaning : Type 0 where
  pub of : TypeIn
  pub given : List Given

abbrev pub type_in : ℕ → Tree → TypeIn
type_in m t = record { «module» = m; type = t }

-- ---- the relation

-- no tag, and no name of a type: one with actual parameters or of a field is none
abbrev pub IsFinal : Tree → Type 0
IsFinal (tagged at ts mode t) = ⊥
IsFinal (named at w steps [] cs) = path_of steps ≡ fields
IsFinal _ = Unit {0}

module _ (ms : List Module) where
  -- what a name in a module and the path behind it name
  abbrev pub Names : ℕ → List ℕ → Path → Found → Type 0
  Names m w own f = StandsFor ms w f m
  Names m w (within v) f = StandsForIn ms w v f m
  Names m w fields f = ⊥

  -- they name an assignment without parameters, of which this is the body
  pub record Refers (m : ℕ) (w : List ℕ) (steps : List Spot) (there : ℕ) (b : Body) : Type 0 where
    pub found : Found
    pub assignment : Assignment
    pub names : Names m w (path_of steps) found
    pub is : slice_get (assignments_in ms found.«module») found.assignment ≡ Some assignment
    pub without : assignment.parameters ≡ []
    pub module_is : found.«module» ≡ there
    pub body_is : assignment.body ≡ b

  -- What a type in a module stands for: a type in a module, and what is given on the way to it.
  pub data Means : ℕ → Tree → TypeIn → List Given → Type 0 where
    itself : (m : ℕ) (t : Tree) → IsFinal t → Means m t (type_in m t) []
    tag : (m at : ℕ) (ts : List Spot) (mode : Mode) (t : Tree) (u : TypeIn) (gs : List Given) → Means m t u gs
        → Means m (tagged at ts mode t) u gs
    type : (m at : ℕ) (w : List ℕ) (steps cs : List Spot) (n : ℕ) (t : Tree) (u : TypeIn) (gs : List Given)
        → Refers m w steps n (type_body t) → Means n t u gs → Means m (named at w steps [] cs) u (gs ++ constraints m cs ∷ [])
    values : (m at : ℕ) (w : List ℕ) (steps cs ts : List Spot) (n : ℕ) (t : Tree) (u : TypeIn) (gs : List Given)
        → Refers m w steps n (set_body t ts) → Means n t u gs
        → Means m (named at w steps [] cs) u (gs ++ set n ts ∷ constraints m cs ∷ [])

-- ---- as the code has it

-- an assignment that was found for a name; there always is one
abbrev pub held : Place → List ℕ → ℕ → Option Assignment → Result (Option Referent) Error
held p w m None = error p (unnamed (record { why = Missing; name = w; place = None }))
held p w m (Some a) = Ok (Some (record { «module» = m; assignment = a }))

-- on to a type, and what is given by then; none where there is no way on
abbrev pub Step : Type 0
Step = Option TypeIn × List Given

abbrev pub entered_by : Place → List Spot → ℕ → Body → List Given → Result Step Error
entered_by p cs n (type_body t) gs = Ok (Some (type_in n t), constraints p.«module» cs ∷ gs)
entered_by p cs n (set_body t ts) gs = Ok (Some (type_in n t), set n ts ∷ constraints p.«module» cs ∷ gs)
entered_by p cs n (class_body _ _) gs = error p not_a_type
entered_by p cs n (value_body _ _) gs = error p not_a_type

abbrev pub entered : Place → List Spot → Referent → List Given → Result Step Error
entered p cs r gs = entered_by p cs r.«module» r.assignment.body gs

abbrev pub followed : Place → List Spot → List Given → Option Referent → Result Step Error
followed p cs gs None = Ok (None, gs)
followed p cs gs (Some r) = if none_left r.assignment.parameters then entered p cs r gs else error p unsettled

abbrev pub after : (TypeIn → List Given → Result Meaning Error) → TypeIn → Step → Result Meaning Error
after more t (None, gs) = Ok (record { of = t; given = gs })
after more t (Some u, gs) = more u gs

module _ (ms : List Module) where
  abbrev pub answered : Place → List ℕ → Result Found NameFault → Result (Option Referent) Error
  answered p w (Ok f) = held p w f.«module» (slice_get (assignments_in ms f.«module») f.assignment)
  answered p w (Err e) = error p (unnamed e)

  -- the assignment that a name and the path behind it name, if that isn't a field
  abbrev pub referred : Place → List ℕ → Path → Result (Option Referent) Error
  referred p w own = answered p w (find ms p.«module» w)
  referred p w (within v) = answered p v (find_in ms p.«module» w v)
  referred p w fields = Ok None

  unfoldable pub follow : Place → List ℕ → Path → List Spot → List Given → Result Step Error
  follow p w path cs gs = referred p w path >>= followed p cs gs

  abbrev pub step_by : ℕ → Tree → List Given → Result Step Error
  step_by m (tagged at ts mode t) gs = Ok (Some (type_in m t), gs)
  step_by m (named at w steps ps cs) gs = if none_left ps then follow (place_in m at) w (path_of steps) cs gs else Ok (None, gs)
  step_by m _ gs = Ok (None, gs)

  unfoldable pub step : TypeIn → List Given → Result Step Error
  step t gs = step_by t.«module» t.type gs

  -- the way in so many steps
  unfoldable pub walk : ℕ → TypeIn → List Given → Result Meaning Error
  walk zero t gs = error (place_in t.«module» (place_of t.type)) circular
  walk (suc steps) t gs = step t gs >>= after (walk steps) t

  -- what a type stands for
  abbrev pub meaning : TypeIn → Result Meaning Error
  meaning t = walk 255 t []
