-- What one step finds, and paths of steps.
use Rattle.std.specs.Prelude.{◌≡◌, ◌≤◌, ℕ, ◌-◌, List, [], ◌∷◌, ◌++◌, length, map, Option, Some, None, option_map, Result, Ok, Err}
use Rattle.oer_units.specs.Reader.{Outcome, Place, got, refused}
use Rattle.oer_model.specs.AsnType.{AsnType}
use Rattle.oer_model.specs.AsnValue.{AsnValue}
use Rattle.oer_model.specs.Constraints.{KeepsLimits}
use Rattle.oer_model.specs.Encoding.{IsSpelling}
use Rattle.oer_model.specs.Fits.{DefaultsFit}
use Rattle.oer_model.specs.Parts as plain
use Rattle.oer_model.specs.Parts.{Answer, absent_part, find_part, found, lookup, no_such_step, to_addition, to_chosen, to_component, to_item}
use Rattle.oer_values.specs.ShapeView.{type_of}
use Rattle.oer_parts.specs.declared.step.Step.{Step}
use Rattle.oer_parts.specs.declared.step.Step.TheVariants.{Component, Addition, Item, Chosen}
use Rattle.oer_parts.specs.declared.fault.PartFault.{PartFault}
use Rattle.oer_parts.specs.declared.fault.PartFault.TheVariants.{Read, NoSuchStep, Absent}
use Rattle.oer_parts.specs.declared.walk.Piece.{Piece}
use Rattle.oer_parts.specs.Offsets.{StandsAt}

abbrev pub step_of : Step → plain.Step
step_of (Component i) = to_component i
step_of (Addition i) = to_addition i
step_of (Item i) = to_item i
step_of Chosen = to_chosen

abbrev pub path_of : List Step → List plain.Step
path_of path = map step_of path

-- the type of a part, if it is known
abbrev pub type_in : Piece → Option AsnType
type_in p = option_map (λ s. type_of s.now) p.shape

-- what was found, or else the answer given
abbrev pub found_or : Answer → Option Piece → Answer
found_or otherwise None = otherwise
found_or otherwise (Some p) = found (type_in p) p.octets.now

-- what the step leads to among the parts
abbrev pub LooksUp : List plain.Part → plain.Step → Option Piece → Type 0
LooksUp parts step p = (otherwise : Answer) → found_or otherwise p ≡ lookup otherwise step parts

-- what was read, if it was
abbrev pub read_in : {A : Type 0} → Outcome A → Option A
read_in (got x q) = Some x
read_in (refused why rest) = None

-- something was read
abbrev pub IsGot : {A : Type 0} → Outcome A → Type 0
IsGot {A = A} o = (x : A) × (q : Place) × (got x q ≡ o)

-- octets in which a step finds what is there
abbrev pub CanSplit : Option AsnType → List ℕ → Type 0
CanSplit None b = Unit {0}
CanSplit (Some T) b = (KeepsLimits T × DefaultsFit T) × ((v : AsnValue) × IsSpelling T v b)

-- What is found by one step, where the part that is entered has the octets b, of type V where that is known.
abbrev pub Enters : Option AsnType → List ℕ → plain.Step → Result Piece PartFault → Type 0
Enters V b step (Ok p) = (find_part V b (step ∷ []) ≡ found (type_in p) p.octets.now) × CanSplit (type_in p) p.octets.now
Enters V b step (Err (Read e)) = ⊥
Enters V b step (Err NoSuchStep) = find_part V b (step ∷ []) ≡ no_such_step
Enters V b step (Err Absent) = find_part V b (step ∷ []) ≡ absent_part

-- At p octets a stand and then s, where F holds of a and of how many s are; from those of s on there are so many.
abbrev pub IsAfter : (ℕ → List ℕ → Type 0) → Place → List ℕ → ℕ → Type 0
IsAfter F p s rest = (a : List ℕ) × (d : List ℕ) × (p.input ≡ a ++ (s ++ d)) × (rest ≡ length (s ++ d)) × F (length s) a

-- the same of what was found, if it was
abbrev pub Stands : (ℕ → List ℕ → Type 0) → Place → Option Piece → Type 0
Stands F p None = Unit {0}
Stands F p (Some x) = IsAfter F p x.octets.now x.rest

-- where that stands to which the step leads
abbrev pub StandsBy : Option AsnType → List ℕ → plain.Step → Piece → Type 0
StandsBy V b step p = StandsAt V b (step ∷ []) (type_in p) p.octets.now (length b - p.rest) × (length p.octets.now ≤ p.rest)
    × (p.rest ≤ length b)

-- The path leads to s in the octets b, before which n of them stand.
abbrev pub IsWithin : Option AsnType → List ℕ → List plain.Step → List ℕ → ℕ → Type 0
IsWithin T b path s n = (U : Option AsnType) × StandsAt T b path U s n
