-- What the caller of `part` learns, in the words of encodings and paths.
use Rattle.std.specs.Prelude.{◌≡◌, ℕ, ◌-◌, Bool, true, false, List, ◌++◌, length, drop, take, Option, Some, Result, Ok, Err}
use Rattle.oer_units.specs.Reader.{Outcome, at, got, refused}
use Rattle.oer_model.specs.AsnType.{AsnType}
use Rattle.oer_model.specs.AsnValue.{AsnValue}
use Rattle.oer_model.specs.Checking.{check_value}
use Rattle.oer_model.specs.Encoding.{Encodes}
use Rattle.oer_model.specs.Parts as plain
use Rattle.oer_model.specs.Parts.{Answer, StopsAt, Within, absent_part, find_part, found, no_such_step}
use Rattle.oer_checker.specs.Check.{IsOfOctets, Tells, most}
use Rattle.oer_parts.specs.declared.fault.PartFault.{PartFault}
use Rattle.oer_parts.specs.declared.fault.PartFault.TheVariants.{Read, NoSuchStep, Absent}

-- An encoding b is at the front of the octets, and P holds of it.
abbrev pub Begins : AsnType → List ℕ → (List ℕ → Type 0) → Type 0
Begins T octets P = (b : List ℕ) × (rest : List ℕ) × (octets ≡ b ++ rest) × ((v : AsnValue) × Encodes T v b) × P b

-- What is handed out, seen by f, is what the path leads to in the encoding at the front. Where the path leads nowhere,
-- the fault is Absent if the first step that does so names a root component or a known addition, else NoSuchStep. Read
-- is a refusal of `check`.
abbrev pub Hands : {A : Type 0} → (A → List ℕ) → AsnType → List ℕ → List plain.Step → Result A PartFault → Type 0
Hands f T octets path (Ok s) = Begins T octets (λ b. (U : Option AsnType) × Within (Some T) b path U (f s))
Hands f T octets path (Err (Read e)) = Tells T octets (Err e)
Hands f T octets path (Err NoSuchStep) = Begins T octets (λ b. StopsAt (Some T) b path false)
Hands f T octets path (Err Absent) = Begins T octets (λ b. StopsAt (Some T) b path true)

abbrev pub IsHanded : {A : Type 0} → (A → List ℕ) → List ℕ → Result A PartFault → Type 0
IsHanded f s (Ok r) = f r ≡ s
IsHanded f s (Err e) = ⊥

-- the fault of a path that leads nowhere
abbrev pub fault_of : Bool → PartFault
fault_of true = Absent
fault_of false = NoSuchStep

abbrev pub IsMissed : {A : Type 0} → Bool → Result A PartFault → Type 0
IsMissed known (Ok r) = ⊥
IsMissed known (Err e) = e ≡ fault_of known

-- Where an encoding b is at the front, that to which the path leads in b is handed out; and where it leads nowhere, no
-- refusal of `check` is answered.
abbrev pub Follows : {A : Type 0} → (A → List ℕ) → AsnType → List ℕ → List plain.Step → Result A PartFault → Type 0
Follows f T octets path result = (v : AsnValue) (b rest : List ℕ) → octets ≡ b ++ rest → Encodes T v b
    → ((U : Option AsnType) (s : List ℕ) → Within (Some T) b path U s → IsHanded f s result)
    × ((known : Bool) → StopsAt (Some T) b path known → IsMissed known result)

-- the answer of the plain function
abbrev pub Agrees : {A : Type 0} → (A → List ℕ) → Result A PartFault → Answer → Type 0
Agrees f (Ok s) answer = (U : Option AsnType) × (answer ≡ found U (f s))
Agrees f (Err (Read e)) answer = ⊥
Agrees f (Err NoSuchStep) answer = answer ≡ no_such_step
Agrees f (Err Absent) answer = answer ≡ absent_part

abbrev pub AgreesWith : {A : Type 0} → (A → List ℕ) → List ℕ → List plain.Step → AsnType → Outcome Bool → Result A PartFault → Type 0
AgreesWith f octets path T (got canonical q) result =
    Agrees f result (find_part (Some T) (take (length octets - length q.input) octets) path)
AgreesWith f octets path T (refused why rest) (Err (Read e)) = (e.why ≡ why) × (rest ≡ drop e.taken octets)
AgreesWith f octets path T (refused why rest) _ = ⊥

-- It answers as the checker on lists does, and of what that takes as the plain function of paths.
abbrev pub AnswersPart : {A : Type 0} → (A → List ℕ) → AsnType → List ℕ → List plain.Step → Result A PartFault → Type 0
AnswersPart f T octets path result = AgreesWith f octets path T (check_value T (at octets most)) result

-- Memory and the device are never the reason.
abbrev pub IsOfPath : {A : Type 0} → Result A PartFault → Type 0
IsOfPath (Err (Read e)) = IsOfOctets (Err e)
IsOfPath _ = Unit {0}
