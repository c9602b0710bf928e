-- What hops find in an encoding.
use Rattle.std.specs.Prelude.{◌≡◌, ℕ, List, [], ◌∷◌, length, take, Bool, true, false, Option, Result, Ok, Err, ⊤}
use Rattle.oer_units.specs.Reader.{Outcome, at, got, refused}
use Rattle.oer_units.specs.Reading.{tag}
use Rattle.oer_units.specs.declared.tagging.Tag.{Tag}
use Rattle.oer_model.specs.AsnType.{AsnType}
use Rattle.oer_model.specs.Constraints.{same_tag}
use Rattle.oer_model.specs.Parts as plain
use Rattle.oer_model.specs.Parts.{Answer, absent_part, find_part, found, go_on, no_such_step, to_chosen}
use Rattle.oer_parts.specs.Encoding.{octets_in}
use Rattle.oer_parts.specs.Walk.{step_of}
use Rattle.oer_parts.specs.declared.encoding.Encoding.{Encoding}
use Rattle.oer_at.specs.declared.hop.Hop.{Hop}
use Rattle.oer_at.specs.declared.hop.Hop.TheVariants.{Part, Alternative}
use Rattle.oer_at.specs.declared.part.AtFault.{AtFault}
use Rattle.oer_at.specs.declared.part.AtFault.TheVariants.{Memory, NoSuchStep, Absent}

-- a tag was read, and it is t
abbrev pub is_tag : Tag → Outcome Tag → Bool
is_tag t (got u q) = same_tag t u
is_tag t (refused why rest) = false

-- the octets begin with the tag t
unfoldable pub is_chosen : Tag → List ℕ → Bool
is_chosen t b = is_tag t (tag (at b (length b)))

-- what one step finds in octets of a type, if that is known
abbrev pub take_step : plain.Step → Option AsnType → List ℕ → Answer
take_step step T b = find_part T b (step ∷ [])

abbrev pub if_chosen : Bool → Answer → Answer
if_chosen true answer = answer
if_chosen false answer = absent_part

-- what one hop finds: of a CHOICE the alternative, if it is the one chosen
abbrev pub take_hop : Hop → Option AsnType → List ℕ → Answer
take_hop (Part step) T b = take_step (step_of step) T b
take_hop (Alternative t) T b = if_chosen (is_chosen t b) (take_step to_chosen T b)

-- what hops find, one after another
abbrev pub find_at : Option AsnType → List ℕ → List Hop → Answer
find_at T b [] = found T b
find_at T b (hop ∷ hops) = go_on (take_hop hop T b) (λ V c. find_at V c hops)

-- the octets of an encoding
abbrev pub octets_at_front : Encoding → List ℕ
octets_at_front e = take e.verdict.octets (octets_in e)

-- the fault of that answer, unless memory was refused
abbrev pub Fails : Answer → AtFault → Type 0
Fails answer Memory = ⊤
Fails answer NoSuchStep = answer ≡ no_such_step
Fails answer Absent = answer ≡ absent_part

-- What was found, seen by f, is that of the answer; or the fault is its.
abbrev pub Finds : {A : Type 0} → (A → List ℕ) → Answer → Result A AtFault → Type 0
Finds f answer (Ok x) = (U : Option AsnType) × (answer ≡ found U (f x))
Finds f answer (Err fault) = Fails answer fault
