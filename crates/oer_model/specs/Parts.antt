-- Parts of an encoding: the lists into which it splits, those to which a path leads, and how they are found.
use Rattle.std.specs.Prelude.{◌≡◌, ◌⊎◌, ℕ, zero, suc, ◌-◌, List, [], ◌∷◌, ◌++◌, length, take, drop, Bool, true, false, ltb, eqb, if◌then◌else◌, Option, Some, None}
use Rattle.oer_units.specs.Numbers.{unsigned}
use Rattle.oer_units.specs.Reader.{Outcome, Place, Reader, at, bind, choose, give, got, refuse, refused}
use Rattle.oer_units.specs.Reading.{counted_octets, open_type, tag}
use Rattle.oer_units.specs.Spelling.{IsCounted, IsTag, StandsFor}
use Rattle.oer_units.specs.declared.fault.Why.TheVariants.{UnknownAlternative}
use Rattle.oer_units.specs.declared.tagging.Tag.{Tag}
use Rattle.oer_model.specs.AsnType.{Additions, Alternatives, AsnType, Fields, Need, addition, alternative, choice, default, extensible_sequence, field, later, leaf, may, must, no_additions, no_alternatives, no_fields, sequence, sequence_of}
use Rattle.oer_model.specs.AsnValue.{AsnValue}
use Rattle.oer_model.specs.Bits.{IsPreamble, first_bit, later_bits}
use Rattle.oer_model.specs.Checking.{check_value}
use Rattle.oer_model.specs.Constraints.{addition_count, has_tag, optional, same_tag, size_fits}
use Rattle.oer_model.specs.Encoding.{IsItself, IsSpelling, SpellsBitmap}
use Rattle.oer_model.specs.Filling.{filled}
use Rattle.oer_model.specs.Reading.{bitmap, preamble, quantity}

-- A step from an encoding to a part of it: a root component, an addition or an element, counted from 0, or the alternative chosen.
pub data Step : Type 0 where
  to_component to_addition to_item : ℕ → Step
  to_chosen : Step

abbrev pub same_step : Step → Step → Bool
same_step (to_component i) (to_component j) = eqb i j
same_step (to_addition i) (to_addition j) = eqb i j
same_step (to_item i) (to_item j) = eqb i j
same_step to_chosen to_chosen = true
same_step _ _ = false

-- a part: the step that leads to it, its type, if that is known, and its octets
pub data Part : Type 0 where
  part : Step → Option AsnType → List ℕ → Part

-- The octets b, which are c, are an encoding by T.
abbrev pub Holds : AsnType → List ℕ → List ℕ → Type 0
Holds T c b = (c ≡ b) × ((v : AsnValue) × IsSpelling T v b)

-- the first part is there, its octets spelt by S; Rest: the others
abbrev pub Starts : Step → Option AsnType → (List ℕ → List ℕ → Type 0) → (List Part → List ℕ → Type 0) → List Part → List ℕ → Type 0
Starts step V S Rest parts b = (c : List ℕ) × (rest : List Part) × (b1 : List ℕ) × (b2 : List ℕ) × (parts ≡ part step V c ∷ rest)
    × (b ≡ b1 ++ b2) × S c b1 × Rest rest b2

-- there exactly if the bit is set
abbrev pub StartsByBit : Bool → Step → Option AsnType → (List ℕ → List ℕ → Type 0) → (List Part → List ℕ → Type 0) → List Part
    → List ℕ → Type 0
StartsByBit true step V S Rest parts b = Starts step V S Rest parts b
StartsByBit false step V S Rest parts b = Rest parts b

abbrev pub StartsByNeed : Need → Step → Option AsnType → (List ℕ → List ℕ → Type 0) → (List Bool → List Part → List ℕ → Type 0)
    → List Bool → List Part → List ℕ → Type 0
StartsByNeed must step V S Rest s parts b = Starts step V S (Rest s) parts b
StartsByNeed may step V S Rest s parts b = StartsByBit (first_bit s) step V S (Rest (later_bits s)) parts b
StartsByNeed (default d) step V S Rest s parts b = StartsByBit (first_bit s) step V S (Rest (later_bits s)) parts b

-- root components from the one with the number i on, by their presence bits
abbrev pub SplitsFields : Fields → ℕ → List Bool → List Part → List ℕ → Type 0
SplitsFields no_fields i s parts b = (parts ≡ []) × (b ≡ [])
SplitsFields (field name need T fs) i s parts b = StartsByNeed need (to_component i) (Some T) (Holds T) (SplitsFields fs (suc i)) s parts b

-- known additions from the one with the number i on: of each the content of its open type
abbrev pub SplitsAdditions : Additions → ℕ → List Bool → List Part → List ℕ → Type 0
SplitsAdditions no_additions i s parts b = (parts ≡ []) × (b ≡ [])
SplitsAdditions (addition name T more) i s parts b =
    StartsByBit (first_bit s) (to_addition i) (Some T) (IsCounted (Holds T)) (SplitsAdditions more (suc i) (later_bits s)) parts b

-- unknown additions from the place i on
abbrev pub SplitsUnknown : ℕ → List Bool → List Part → List ℕ → Type 0
SplitsUnknown i [] parts b = (parts ≡ []) × (b ≡ [])
SplitsUnknown i (true ∷ s) parts b = Starts (to_addition i) None (IsCounted IsItself) (SplitsUnknown (suc i) s) parts b
SplitsUnknown i (false ∷ s) parts b = SplitsUnknown (suc i) s parts b

abbrev pub SplitsExtension : Bool → Additions → List Part → List ℕ → Type 0
SplitsExtension false more parts e = (parts ≡ []) × (e ≡ [])
SplitsExtension true more parts e = (s : List Bool) × (m : List ℕ) × (p : List Part) × (q : List Part) × (a : List ℕ)
    × (u : List ℕ) × (parts ≡ p ++ q) × (e ≡ m ++ (a ++ u))
    × SpellsBitmap s m × SplitsAdditions more 0 s p a × SplitsUnknown (addition_count more) (drop (addition_count more) s) q u

-- n elements from the one with the number i on
abbrev pub SplitsItems : AsnType → ℕ → ℕ → List Part → List ℕ → Type 0
SplitsItems T i zero parts b = (parts ≡ []) × (b ≡ [])
SplitsItems T i (suc n) parts b = Starts (to_item i) (Some T) (Holds T) (SplitsItems T (suc i) n) parts b

-- the alternative, spelt by S
abbrev pub IsAlone : Option AsnType → (List ℕ → List ℕ → Type 0) → List Part → List ℕ → Type 0
IsAlone V S parts b = (c : List ℕ) × (parts ≡ part to_chosen V c ∷ []) × S c b

abbrev pub AloneByTag : Bool → (List Part → List ℕ → Type 0) → (List Part → List ℕ → Type 0) → List Part → List ℕ → Type 0
AloneByTag true S Rest parts b = S parts b
AloneByTag false S Rest parts b = Rest parts b

abbrev pub SplitsAlternative : Alternatives → Tag → List Part → List ℕ → Type 0
SplitsAlternative no_alternatives t parts b = ⊥
SplitsAlternative (alternative name u T more) t parts b =
    AloneByTag (same_tag u t) (IsAlone (Some T) (Holds T)) (SplitsAlternative more t) parts b
SplitsAlternative (later name u T more) t parts b =
    AloneByTag (same_tag u t) (IsAlone (Some T) (IsCounted (Holds T))) (SplitsAlternative more t) parts b

-- An encoding b of T splits into these parts, by the case of the type (X.696, 16, 17 and 20). A type without parts has none.
abbrev pub IsSplit : AsnType → List Part → List ℕ → Type 0
IsSplit (sequence fs) parts b = (s : List Bool) × (p : List ℕ) × (r : List ℕ) × (b ≡ p ++ r) × (length s ≡ optional fs)
    × IsPreamble s p × SplitsFields fs 0 s parts r
IsSplit (extensible_sequence fs more) parts b = (x : Bool) × (s : List Bool) × (p : List ℕ) × (r : List ℕ) × (e : List ℕ)
    × (root : List Part) × (added : List Part)
    × (parts ≡ root ++ added) × (b ≡ p ++ (r ++ e)) × (length s ≡ optional fs) × IsPreamble (x ∷ s) p × SplitsFields fs 0 s root r
    × SplitsExtension x more added e
IsSplit (sequence_of size T) parts b = (n : ℕ) × (q : List ℕ) × (es : List ℕ) × (b ≡ q ++ es) × IsCounted (StandsFor unsigned) n q
    × (size_fits size n ≡ true) × SplitsItems T 0 n parts es
IsSplit (choice extensible more) parts b = (t : Tag) × (p : List ℕ) × (c : List ℕ) × (b ≡ p ++ c) × IsTag t p
    × (SplitsAlternative more t parts c ⊎ ((has_tag t more ≡ false) × IsAlone None (IsCounted IsItself) parts c))
IsSplit (leaf kind) parts b = parts ≡ []

-- what is found at the end of a path: octets of a type, if that is known; or why there are none
pub data Answer : Type 0 where
  found : Option AsnType → List ℕ → Answer
  absent_part no_such_step : Answer

-- the part to which the step leads, or else the answer given
abbrev pub lookup : Answer → Step → List Part → Answer
lookup otherwise step [] = otherwise
lookup otherwise step (part other V c ∷ rest) = if same_step other step then found V c else lookup otherwise step rest

-- In the split of b by T the step leads to the octets c, of type V where that is known.
abbrev pub LeadsTo : AsnType → List ℕ → Step → Option AsnType → List ℕ → Type 0
LeadsTo T b step V c = (parts : List Part) × IsSplit T parts b × (lookup no_such_step step parts ≡ found V c)

-- The path leads from the octets b, of type T where that is known, to s, of type U where that is known. From a part
-- whose type isn't known no step leads.
abbrev pub Within : Option AsnType → List ℕ → List Step → Option AsnType → List ℕ → Type 0
Within T b [] U s = (U ≡ T) × (s ≡ b)
Within None b (step ∷ path) U s = ⊥
Within (Some T) b (step ∷ path) U s = (V : Option AsnType) × (c : List ℕ) × LeadsTo T b step V c × Within V c path U s

-- How parts are found.

abbrev pub taken_from : {A : Type 0} → Place → Outcome A → Outcome (List ℕ)
taken_from p (got x q) = got (take (length p.input - length q.input) p.input) q
taken_from p (refused why rest) = refused why rest

-- the octets that r takes
unfoldable pub octets_of : {A : Type 0} → Reader A → Reader (List ℕ)
octets_of r p = taken_from p (r p)

-- a part, whose octets r reads, and the others
unfoldable pub read_first : Step → Option AsnType → Reader (List ℕ) → Reader (List Part) → Reader (List Part)
read_first step V r rest = bind r (λ c. bind rest (λ parts. give (part step V c ∷ parts)))

abbrev pub first_by_bit : Bool → Step → Option AsnType → Reader (List ℕ) → Reader (List Part) → Reader (List Part)
first_by_bit true step V r rest = read_first step V r rest
first_by_bit false step V r rest = rest

abbrev pub first_by_need : Need → Step → Option AsnType → Reader (List ℕ) → (List Bool → Reader (List Part)) → List Bool
    → Reader (List Part)
first_by_need must step V r rest s = read_first step V r (rest s)
first_by_need may step V r rest s = first_by_bit (first_bit s) step V r (rest (later_bits s))
first_by_need (default d) step V r rest s = first_by_bit (first_bit s) step V r (rest (later_bits s))

abbrev pub field_parts : Fields → ℕ → List Bool → Reader (List Part)
field_parts no_fields i s = give []
field_parts (field name need T fs) i s = first_by_need need (to_component i) (Some T) (octets_of (check_value T)) (field_parts fs (suc i)) s

abbrev pub addition_parts : Additions → ℕ → List Bool → Reader (List Part)
addition_parts no_additions i s = give []
addition_parts (addition name T more) i s =
    first_by_bit (first_bit s) (to_addition i) (Some T) (open_type (octets_of (check_value T))) (addition_parts more (suc i) (later_bits s))

abbrev pub unknown_parts : ℕ → List Bool → Reader (List Part)
unknown_parts i [] = give []
unknown_parts i (true ∷ s) = read_first (to_addition i) None counted_octets (unknown_parts (suc i) s)
unknown_parts i (false ∷ s) = unknown_parts (suc i) s

-- those that r reads, and those of q
unfoldable pub join_parts : Reader (List Part) → Reader (List Part) → Reader (List Part)
join_parts r q = bind r (λ p. bind q (λ parts. give (p ++ parts)))

abbrev pub extension_parts : Bool → Additions → Reader (List Part)
extension_parts false more = give []
extension_parts true more =
    bind bitmap (λ s. join_parts (addition_parts more 0 s) (unknown_parts (addition_count more) (drop (addition_count more) s)))

abbrev pub item_parts : AsnType → ℕ → ℕ → Reader (List Part)
item_parts T i zero = give []
item_parts T i (suc n) = read_first (to_item i) (Some T) (octets_of (check_value T)) (item_parts T (suc i) n)

unfoldable pub read_alone : Option AsnType → Reader (List ℕ) → Reader (List Part)
read_alone V r = bind r (λ c. give (part to_chosen V c ∷ []))

abbrev pub alone_by_tag : Bool → Reader (List Part) → Reader (List Part) → Reader (List Part)
alone_by_tag true r rest = r
alone_by_tag false r rest = rest

abbrev pub alternative_parts : Alternatives → Tag → Reader (List Part)
alternative_parts no_alternatives t = refuse UnknownAlternative
alternative_parts (alternative name u T more) t =
    alone_by_tag (same_tag u t) (read_alone (Some T) (octets_of (check_value T))) (alternative_parts more t)
alternative_parts (later name u T more) t =
    alone_by_tag (same_tag u t) (read_alone (Some T) (open_type (octets_of (check_value T)))) (alternative_parts more t)

-- the parts of an encoding
abbrev pub read_parts : AsnType → Reader (List Part)
read_parts (sequence fs) = bind (preamble (optional fs)) (field_parts fs 0)
read_parts (extensible_sequence fs more) =
    bind (preamble (suc (optional fs))) (λ s. join_parts (field_parts fs 0 (later_bits s)) (extension_parts (first_bit s) more))
read_parts (sequence_of size T) = bind quantity (item_parts T 0)
read_parts (choice extensible more) = bind tag (λ t. choose (has_tag t more) (alternative_parts more t) (read_alone None counted_octets))
read_parts (leaf kind) = give []

abbrev pub parts_in : Outcome (List Part) → List Part
parts_in (got parts q) = parts
parts_in (refused why rest) = []

abbrev pub field_count : Fields → ℕ
field_count no_fields = 0
field_count (field name need T fs) = suc (field_count fs)

-- the step names a root component or an addition that the type knows
abbrev pub knows : AsnType → Step → Bool
knows (sequence fs) (to_component i) = ltb i (field_count fs)
knows (extensible_sequence fs more) (to_component i) = ltb i (field_count fs)
knows (extensible_sequence fs more) (to_addition i) = ltb i (addition_count more)
knows _ _ = false

abbrev pub nothing_at : Bool → Answer
nothing_at true = absent_part
nothing_at false = no_such_step

abbrev pub go_on : Answer → (Option AsnType → List ℕ → Answer) → Answer
go_on (found V c) k = k V c
go_on absent_part k = absent_part
go_on no_such_step k = no_such_step

-- what is found in the octets b of type T by the path
abbrev pub find_part : Option AsnType → List ℕ → List Step → Answer
find_part T b [] = found T b
find_part None b (step ∷ path) = no_such_step
find_part (Some T) b (step ∷ path) =
    go_on (lookup (nothing_at (knows T step)) step (parts_in (read_parts T (at b (length b))))) (λ V c. find_part V c path)

-- the same of a part whose type may be unknown
abbrev pub knows_in : Option AsnType → Step → Bool
knows_in None step = false
knows_in (Some T) step = knows T step

-- The path leads to the octets c, of type W where that is known, from which its next step leads nowhere; known: that
-- step names a root component or a known addition.
abbrev pub StopsAt : Option AsnType → List ℕ → List Step → Bool → Type 0
StopsAt T b path known = (W : Option AsnType) × (c : List ℕ) × (step : Step) × (front : List Step) × (rest : List Step)
    × (path ≡ front ++ (step ∷ rest)) × Within T b front W c
    × ((U : Option AsnType) (s : List ℕ) → Within W c (step ∷ []) U s → ⊥) × (knows_in W step ≡ known)

-- whether a component may be absent; must where the step is to no root component
abbrev pub need_of : Fields → ℕ → Need
need_of no_fields i = must
need_of (field name need T fs) zero = need
need_of (field name need T fs) (suc i) = need_of fs i

abbrev pub need_at : AsnType → Step → Need
need_at (sequence fs) (to_component i) = need_of fs i
need_at (extensible_sequence fs more) (to_component i) = need_of fs i
need_at _ _ = must

-- The octets c, of type U, to which the step leads are those of a DEFAULT component, of a value that equals its default after filling.
abbrev pub IsItsDefault : AsnType → Step → AsnType → List ℕ → Type 0
IsItsDefault T step U c = (d : AsnValue) × (v : AsnValue) × (need_at T step ≡ default d) × IsSpelling U v c × (filled U v ≡ filled U d)

-- The path enters a DEFAULT component that equals its default after filling.
abbrev pub EntersDefault : AsnType → List ℕ → List Step → Type 0
EntersDefault T b [] = ⊥
EntersDefault T b (step ∷ path) = (U : AsnType) × (c : List ℕ) × LeadsTo T b step (Some U) c
    × (IsItsDefault T step U c ⊎ EntersDefault U c path)
