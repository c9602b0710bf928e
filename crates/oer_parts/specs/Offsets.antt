-- Where the parts of an encoding stand in it.
use Rattle.std.specs.Prelude.{◌≡◌, ℕ, zero, suc, ◌+◌, List, [], ◌∷◌, ◌++◌, length, take, drop, Bool, true, false, Option, Some, None}
use Rattle.oer_units.specs.Numbers.{unsigned}
use Rattle.oer_units.specs.Spelling.{IsCounted, IsJoined, IsLength, IsTag, StandsFor}
use Rattle.oer_units.specs.declared.tagging.Tag.{Tag}
use Rattle.oer_model.specs.AsnType.{Additions, Alternatives, AsnType, Fields, addition, alternative, choice, extensible_sequence, field, later, no_additions, no_alternatives, no_fields, sequence, sequence_of}
use Rattle.oer_model.specs.AsnValue.{AsnValue, Places, Unknown}
use Rattle.oer_model.specs.Bits.{IsPreamble}
use Rattle.oer_model.specs.Constraints.{addition_count, optional, same_tag}
use Rattle.oer_model.specs.Encoding.{IsItself, IsSpelling, SpellsAdditions, SpellsBitmap, SpellsFields, SpellsUnknown}
use Rattle.oer_model.specs.Parts.{LeadsTo, Step, to_addition, to_chosen, to_component, to_item}

-- the components before the one with the number i, and the additions before it
abbrev pub fields_to : ℕ → Fields → Fields
fields_to zero fs = no_fields
fields_to (suc i) no_fields = no_fields
fields_to (suc i) (field name need T fs) = field name need T (fields_to i fs)

abbrev pub additions_to : ℕ → Additions → Additions
additions_to zero more = no_additions
additions_to (suc i) no_additions = no_additions
additions_to (suc i) (addition name T more) = addition name T (additions_to i more)

-- Which octets a stand before a part of n octets.

-- between the preamble of a SEQUENCE and its component with the number i: the components before it, by their presence bits
abbrev pub AreFields : Fields → ℕ → List Bool → List ℕ → Type 0
AreFields fs i s a = (root : Places) × SpellsFields (fields_to i fs) s root a

-- between the known additions and the content of the addition with the number i: the unknown ones before it, and its own length
abbrev pub AreUnknown : ℕ → ℕ → List Bool → ℕ → List ℕ → Type 0
AreUnknown known i s n a = (us : List Unknown) × (u : List ℕ) × (l : List ℕ) × (a ≡ u ++ l)
    × SpellsUnknown (IsCounted IsItself) known (drop known (take i s)) us u × IsLength n l

-- between the bitmap and that content: the known additions before it as well
abbrev pub AreAdditions : Additions → ℕ → List Bool → ℕ → List ℕ → Type 0
AreAdditions more i s n a = (added : Places) × (k : List ℕ) × (u : List ℕ) × (a ≡ k ++ u) × SpellsAdditions (additions_to i more) s added k
    × AreUnknown (addition_count more) i s n u

abbrev pub IsByTag : Bool → Type 0 → Type 0 → Type 0
IsByTag true P Q = P
IsByTag false P Q = Q

-- between the tag of a CHOICE and the alternative: nothing, or the length of an open type (X.696, 30) after the extension marker
abbrev pub IsOpening : Alternatives → Tag → ℕ → List ℕ → Type 0
IsOpening no_alternatives t n l = IsLength n l
IsOpening (alternative name u T more) t n l = IsByTag (same_tag u t) (l ≡ []) (IsOpening more t n l)
IsOpening (later name u T more) t n l = IsByTag (same_tag u t) (IsLength n l) (IsOpening more t n l)

-- The octets a stand in an encoding by T before the part of n octets to which the step leads (X.696, 16, 17 and 20).
abbrev pub IsBefore : AsnType → Step → ℕ → List ℕ → Type 0
IsBefore (sequence fs) (to_component i) n a = (s : List Bool) × (p : List ℕ) × (r : List ℕ) × (a ≡ p ++ r) × (length s ≡ optional fs)
    × IsPreamble s p × AreFields fs i s r
IsBefore (extensible_sequence fs more) (to_component i) n a = (x : Bool) × (s : List Bool) × (p : List ℕ) × (r : List ℕ) × (a ≡ p ++ r)
    × (length s ≡ optional fs) × IsPreamble (x ∷ s) p × AreFields fs i s r
IsBefore (extensible_sequence fs more) (to_addition i) n a = (s : List Bool) × (marks : List Bool) × (root : Places) × (p : List ℕ)
    × (r : List ℕ) × (m : List ℕ) × (e : List ℕ) × (a ≡ p ++ (r ++ (m ++ e))) × (length s ≡ optional fs) × IsPreamble (true ∷ s) p
    × SpellsFields fs s root r × SpellsBitmap marks m × AreAdditions more i marks n e
IsBefore (sequence_of size T) (to_item i) n a = (k : ℕ) × (vs : List AsnValue) × (q : List ℕ) × (es : List ℕ) × (a ≡ q ++ es)
    × IsCounted (StandsFor unsigned) k q × (length vs ≡ i) × IsJoined (IsSpelling T) vs es
IsBefore (choice extensible more) to_chosen n a = (t : Tag) × (p : List ℕ) × (l : List ℕ) × (a ≡ p ++ l) × IsTag t p × IsOpening more t n l
IsBefore T step n a = ⊥

-- The path leads from the octets b, of type T where that is known, to s, of type U where that is known, before which n octets of b stand.
abbrev pub StandsAt : Option AsnType → List ℕ → List Step → Option AsnType → List ℕ → ℕ → Type 0
StandsAt T b [] U s n = (U ≡ T) × (s ≡ b) × (n ≡ 0)
StandsAt None b (step ∷ path) U s n = ⊥
StandsAt (Some T) b (step ∷ path) U s n = (V : Option AsnType) × (a : List ℕ) × (c : List ℕ) × (d : List ℕ) × (k : ℕ)
    × (b ≡ a ++ (c ++ d)) × LeadsTo T b step V c × IsBefore T step (length c) a × (n ≡ length a + k) × StandsAt V c path U s k
