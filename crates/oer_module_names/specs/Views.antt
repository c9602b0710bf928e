-- What the types of the code stand for.
use Rattle.std.specs.Prelude.{◌<◌, ℕ, List, length, map, Result, Ok, Err}
use Rattle.oer_module_syntax.specs.Tree.{Module, module_of}
use Rattle.oer_module_names.specs.Finding.{Fault}
use Rattle.oer_module_names.specs.Tables.{assignments_in}
use Rattle.oer_module_names.specs.declared.error.Found.{Found}
use Rattle.oer_module_names.specs.declared.error.NameError.{NameError}
use Rattle.oer_module_names.specs.declared.index.Sole.{Sole}
use Rattle.oer_module_names.specs.declared.index.Sole.TheVariants.{Nothing, One, Two}
use Rattle.oer_module_names.specs.declared.names.Names.{Names}
use Rattle.oer_module_names.specs.declared.way.Step.{Step}
use Rattle.oer_module_names.specs.declared.way.Step.TheVariants.{Here, On}

-- the modules whose Names these are
unfoldable pub modules_in : Names → List Module
modules_in n = map module_of n.modules.now

abbrev pub fault_of : NameError → Fault
fault_of e = record { why = e.why; name = e.name.now; place = e.place }

abbrev pub answer_of : {A : Type 0} → Result A NameError → Result A Fault
answer_of (Ok x) = Ok x
answer_of (Err e) = Err (fault_of e)

-- an assignment of one of the modules
pub record IsWithin (ms : List Module) (x : Found) : Type 0 where
  pub «module» : x.«module» < length ms
  pub assignment : x.assignment < length (assignments_in ms x.«module»)

-- the same of a step: its assignment, or the module that it leads to
abbrev pub IsStepWithin : List Module → Step → Type 0
IsStepWithin ms (Here x) = IsWithin ms x
IsStepWithin ms (On way) = way.«module» < length ms

abbrev pub IsSoleBelow : ℕ → Sole → Type 0
IsSoleBelow n Nothing = Unit {0}
IsSoleBelow n (One a) = a < n
IsSoleBelow n (Two a b) = (a < n) × (b < n)
