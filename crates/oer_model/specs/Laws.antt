-- The laws, in the standard's terms. Each is the contract of a public function of `laws`.
use Rattle.std.specs.Prelude.{◌≡◌, ◌↔◌, ◌⊎◌, Option, Some, None, ℕ, ◌-◌, ◌+◌, ◌*◌, ◌^◌, ◌<◌, ◌≤◌, max, List, [], ◌++◌, length, Bool, true}
use Rattle.oer_units.specs.Octets.{IsOctets}
use Rattle.oer_units.specs.Reader.{Outcome, Place, Reader, at, bind, give, got, named_inside, refused}
use Rattle.oer_units.specs.declared.fault.Why.{Why}
use Rattle.oer_units.specs.declared.fault.Why.TheVariants.{End, Limit, Window}
use Rattle.oer_model.specs.AsnType.{Additions, Alternatives, AsnType, Fields, addition, alternative, choice, extensible_sequence, later, no_additions, no_alternatives}
use Rattle.oer_model.specs.AsnValue.{AsnValue}
use Rattle.oer_model.specs.Canonical.{canonical_octets}
use Rattle.oer_model.specs.Checking.{check_value}
use Rattle.oer_model.specs.Constraints.{KeepsLimits}
use Rattle.oer_model.specs.Encoding.{Encodes}
use Rattle.oer_model.specs.FaultTest.{first_fault}
use Rattle.oer_model.specs.Filling.{filled}
use Rattle.oer_model.specs.Fits.{DefaultsFit, Fits}
use Rattle.oer_model.specs.Nodes.{nodes, payload, type_nodes}
use Rattle.oer_model.specs.Parts.{EntersDefault, StopsAt, Step, Within, find_part, found, nothing_at}
use Rattle.oer_model.specs.Reading.{read_value}
use Rattle.oer_model.specs.Strict.{IsCanonical}
use Rattle.oer_model.specs.WellFormed.{HasFault, IsFirstFault, IsWellFormed}
use Rattle.oer_model.specs.Widths.{AreLater, HasWidths}
use Rattle.oer_model.specs.declared.fault.SchemaFault.{SchemaFault}

-- No encoding begins with t, and none is a front of t.
abbrev pub IsDead : AsnType → List ℕ → Type 0
IsDead T t = (v : AsnValue) (b c : List ℕ) → Encodes T v b → (b ≡ t ++ c → ⊥) × (t ≡ b ++ c → ⊥)

-- the same of the encodings of at most n octets
abbrev pub IsBeyond : AsnType → List ℕ → ℕ → Type 0
IsBeyond T t n = (v : AsnValue) (b c : List ℕ) → Encodes T v b → length b ≤ n → (b ≡ t ++ c → ⊥) × (t ≡ b ++ c → ⊥)

-- No front of t is an encoding.
abbrev pub HasNone : AsnType → List ℕ → Type 0
HasNone T t = (v : AsnValue) (b c : List ℕ) → Encodes T v b → t ≡ b ++ c → ⊥

-- what a refusal means that took t of an input of which n octets were allowed, and left rest
abbrev pub Means : Why → AsnType → ℕ → List ℕ → List ℕ → Type 0
Means End T n t rest = (rest ≡ []) × HasNone T t
Means Limit T n t rest = IsBeyond T t n
Means why T n t rest = IsDead T t

-- the same in an open type of n octets
abbrev pub MeansInside : Why → AsnType → ℕ → List ℕ → List ℕ → Type 0
MeansInside Window T n t rest = IsBeyond T t n
MeansInside End T n t rest = (rest ≡ []) × HasNone T t
MeansInside why T n t rest = IsDead T t

-- what an answer says, t being the octets that were taken; Refusal: what a refusal means
abbrev pub IsRightAnswer : (Why → List ℕ → List ℕ → Type 0) → AsnType → List ℕ → ℕ → Outcome AsnValue → Type 0
IsRightAnswer Refusal T input n (got v q) = (t : List ℕ) × (input ≡ t ++ q.input) × (length t ≤ n) × Encodes T v t
IsRightAnswer Refusal T input n (refused why rest) = (t : List ℕ) × (input ≡ t ++ rest) × (length t ≤ n) × Refusal why t rest

-- an answer by the name that its reason has in an open type
abbrev pub named : Outcome AsnValue → Outcome AsnValue
named (got v q) = got v q
named (refused why rest) = refused (named_inside why) rest

-- What is read from an input within a limit is an encoding at its front; a refusal says that there is none.
abbrev pub ReadsEncodings : Type 0
ReadsEncodings = (T : AsnType) → KeepsLimits T → (input : List ℕ) (n : ℕ) → IsOctets input
    → IsRightAnswer (λ why t rest. Means why T n t rest) T input n (read_value T (at input n))

-- The same in an open type of n octets.
abbrev pub ReadsInside : Type 0
ReadsInside = (T : AsnType) → KeepsLimits T → (input : List ℕ) (n : ℕ) → IsOctets input
    → IsRightAnswer (λ why t rest. MeansInside why T n t rest) T input n (named (read_value T (at input n)))

-- An encoding at the front, within the limit, is read, whatever follows it.
abbrev pub ReadsEach : Type 0
ReadsEach = (T : AsnType) → KeepsLimits T → (v : AsnValue) (b rest : List ℕ) (n : ℕ) → Encodes T v b → length b ≤ n
    → read_value T (at (b ++ rest) n) ≡ got v (at rest (n - length b))

-- No encoding begins another, and an encoding has one value.
abbrev pub OneReading : Type 0
OneReading = (T : AsnType) → KeepsLimits T → (v w : AsnValue) (b c rest : List ℕ) → Encodes T v b → Encodes T w c → c ≡ b ++ rest
    → (b ≡ c) × (v ≡ w)

-- A value has one list of canonical octets.
abbrev pub OneCanonical : Type 0
OneCanonical = (T : AsnType) (v : AsnValue) (b c : List ℕ) → IsCanonical T v b → IsCanonical T v c → b ≡ c

-- Values that fit share canonical octets exactly where they are equal after filling.
abbrev pub CanonicalTellsFilled : Type 0
CanonicalTellsFilled = (T : AsnType) → KeepsLimits T → (v w : AsnValue) (b : List ℕ) → Fits T v → Fits T w → IsCanonical T v b
    → (IsCanonical T w b ↔ (filled T v ≡ filled T w))

-- Canonical octets are an encoding, of a value that is equal after filling, and that value's canonical octets.
abbrev pub CanonicalEncodes : Type 0
CanonicalEncodes = (T : AsnType) (v : AsnValue) (b : List ℕ) → IsCanonical T v b
    → (w : AsnValue) × Encodes T w b × IsCanonical T w b × (filled T w ≡ filled T v)

-- No fault is found exactly where none holds.
abbrev pub NoFaultFound : Type 0
NoFaultFound = (T : AsnType) → (first_fault T ≡ None) ↔ ((fault : SchemaFault) → HasFault T fault → ⊥)

-- The fault that is found is the first one.
abbrev pub FirstFaultFound : Type 0
FirstFaultFound = (T : AsnType) (fault : SchemaFault) → (first_fault T ≡ Some fault) ↔ IsFirstFault T fault

-- There is one first fault.
abbrev pub OneFirstFault : Type 0
OneFirstFault = (T : AsnType) (one other : SchemaFault) → IsFirstFault T one → IsFirstFault T other → one ≡ other

-- A type whose numbers have their widths is well-formed exactly where no fault is found.
abbrev pub FaultlessIsWellFormed : Type 0
FaultlessIsWellFormed = (T : AsnType) → HasWidths T → (first_fault T ≡ None) ↔ IsWellFormed T

-- The defaults in a well-formed type fit their components' types.
abbrev pub WellFormedDefaults : Type 0
WellFormedDefaults = (T : AsnType) → IsWellFormed T → DefaultsFit T

-- What is filled fits.
abbrev pub FilledFits : Type 0
FilledFits = (T : AsnType) → DefaultsFit T → (v : AsnValue) → Fits T v → Fits T (filled T v)

-- Filling twice is filling once.
abbrev pub FilledTwice : Type 0
FilledTwice = (T : AsnType) (v : AsnValue) → filled T (filled T v) ≡ filled T v

-- A value has at most as many parts as its type, for each octet of its encoding, and holds no more octets than its encoding.
abbrev pub PartsBounded : Type 0
PartsBounded = (T : AsnType) → KeepsLimits T → (v : AsnValue) (b : List ℕ) → Encodes T v b
    → (nodes v ≤ type_nodes T * max 1 (length b)) × (payload v ≤ length b)

-- The computed octets of a value that fits are its canonical octets, where they are fewer than 2 ^ 64.
abbrev pub CanonicalGiven : Type 0
CanonicalGiven = (T : AsnType) → KeepsLimits T → (v : AsnValue) → Fits T v → length (canonical_octets T v) < 2 ^ 64
    → IsCanonical T v (canonical_octets T v)

-- Canonical octets are the computed ones.
abbrev pub CanonicalComputed : Type 0
CanonicalComputed = (T : AsnType) (v : AsnValue) (b : List ℕ) → IsCanonical T v b → b ≡ canonical_octets T v

-- Values that fit have the same computed octets exactly where they are equal after filling.
abbrev pub EqualOctets : Type 0
EqualOctets = (T : AsnType) → KeepsLimits T → (v w : AsnValue) → Fits T v → Fits T w → length (canonical_octets T v) < 2 ^ 64
    → (canonical_octets T v ≡ canonical_octets T w) ↔ (filled T v ≡ filled T w)

-- the canonical octets of the value at the front of the input
abbrev pub rewritten : AsnType → Reader (List ℕ)
rewritten T = bind (read_value T) (λ v. give (canonical_octets T v))

-- What canonical octets are rewritten to is themselves, whatever follows them.
abbrev pub CanonicalStays : Type 0
CanonicalStays = (T : AsnType) → KeepsLimits T → (v : AsnValue) (b rest : List ℕ) (m : ℕ) → IsCanonical T v b
    → rewritten T (at (b ++ rest) (length b + m)) ≡ got b (at rest m)

-- Rewriting twice is rewriting once.
abbrev pub RewriteTwice : Type 0
RewriteTwice = (T : AsnType) → KeepsLimits T → (input : List ℕ) (n : ℕ) (c : List ℕ) (q : Place) → IsOctets input
    → rewritten T (at input n) ≡ got c q → length c < 2 ^ 64
    → (rest : List ℕ) (m : ℕ) → rewritten T (at (c ++ rest) (length c + m)) ≡ got c (at rest m)

-- what the checker answers where the reader answers so: the same place and refusal, and whether the octets taken are canonical
abbrev pub Judges : AsnType → List ℕ → Outcome AsnValue → Outcome Bool → Type 0
Judges T input (refused why rest) o = o ≡ refused why rest
Judges T input (got v q) o = (b : List ℕ) × (f : Bool) × (input ≡ b ++ q.input) × (o ≡ got f q)
    × (f ≡ true ↔ ((w : AsnValue) × IsCanonical T w b))

-- The checker answers as the reader does, and tells whether the octets are canonical.
abbrev pub CheckTells : Type 0
CheckTells = (T : AsnType) → KeepsLimits T → DefaultsFit T → (input : List ℕ) (n : ℕ) → IsOctets input → length input < 2 ^ 64
    → Judges T input (read_value T (at input n)) (check_value T (at input n))

-- further additions at the end
abbrev pub with_additions : Additions → Additions → Additions
with_additions no_additions extra = extra
with_additions (addition name T more) extra = addition name T (with_additions more extra)

-- further alternatives at the end
abbrev pub with_alternatives : Alternatives → Alternatives → Alternatives
with_alternatives no_alternatives extra = extra
with_alternatives (alternative name t T more) extra = alternative name t T (with_alternatives more extra)
with_alternatives (later name t T more) extra = later name t T (with_alternatives more extra)

-- What U encodes is an encoding of the older type T too.
abbrev pub IsOlder : AsnType → AsnType → Type 0
IsOlder T U = KeepsLimits T → (v : AsnValue) (b : List ℕ) → Encodes U v b → (w : AsnValue) × Encodes T w b

-- What the older type T relays is read by the newer type U as the sender's value, filled.
abbrev pub Relays : AsnType → AsnType → Type 0
Relays T U = KeepsLimits T → KeepsLimits U → (v w : AsnValue) (b c : List ℕ) → Encodes U v b → Encodes T w b → IsCanonical T w c
    → (x : AsnValue) × Encodes U x c × (filled U x ≡ filled U v)

-- of a SEQUENCE and the same with further additions at its end
abbrev pub OlderSequence : Type 0
OlderSequence = (fs : Fields) (more extra : Additions)
    → IsOlder (extensible_sequence fs more) (extensible_sequence fs (with_additions more extra))

-- of a CHOICE and the same with further alternatives after the marker, at its end
abbrev pub OlderChoice : Type 0
OlderChoice = (more extra : Alternatives) → AreLater extra → IsOlder (choice true more) (choice true (with_alternatives more extra))

abbrev pub RelayedSequence : Type 0
RelayedSequence = (fs : Fields) (more extra : Additions)
    → Relays (extensible_sequence fs more) (extensible_sequence fs (with_additions more extra))

abbrev pub RelayedChoice : Type 0
RelayedChoice = (more extra : Alternatives) → AreLater extra → Relays (choice true more) (choice true (with_alternatives more extra))

-- What is found in an encoding by a path is just what the path leads to.
abbrev pub FindsParts : Type 0
FindsParts = (T : AsnType) → KeepsLimits T → DefaultsFit T → (v : AsnValue) (b : List ℕ) → Encodes T v b
    → (path : List Step) (U : Option AsnType) (s : List ℕ) → find_part (Some T) b path ≡ found U s ↔ Within (Some T) b path U s

-- Otherwise the first step that leads nowhere decides: the part is absent where it names a root component or a known
-- addition, else there is no such step.
abbrev pub MissesParts : Type 0
MissesParts = (T : AsnType) → KeepsLimits T → DefaultsFit T → (v : AsnValue) (b : List ℕ) → Encodes T v b
    → (path : List Step) (known : Bool) → find_part (Some T) b path ≡ nothing_at known ↔ StopsAt (Some T) b path known

-- A path to an unknown part of the canonical octets leads to the same octets in what was read; and the other way round,
-- unless it enters a DEFAULT component that equals its default.
abbrev pub KeepsUnknown : Type 0
KeepsUnknown = (T : AsnType) → KeepsLimits T → DefaultsFit T → (v : AsnValue) (b c : List ℕ) → Encodes T v b → IsCanonical T v c
    → (path : List Step) (s : List ℕ)
    → (Within (Some T) c path None s → Within (Some T) b path None s)
    × (Within (Some T) b path None s → Within (Some T) c path None s ⊎ EntersDefault T b path)
