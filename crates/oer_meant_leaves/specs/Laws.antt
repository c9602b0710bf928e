-- What is found for a type that holds no other is what it means by X.680, and it means nothing else.
use Rattle.std.specs.Prelude.{◌≡◌, ℕ, List, map, Bool, is_some, Ok}
use Rattle.oer_model.specs.AsnType.{AsnType, NamedNumber}
use Rattle.oer_module_bounds.specs.Sets.{Span}
use Rattle.oer_module_leaves.specs.Leaves.{leaf_at}
use Rattle.oer_module_leaves.specs.Numbered.{Numbered, numbered_at}
use Rattle.oer_module_lexer.specs.Token.{Spot}
use Rattle.oer_module_limits.specs.Limits.{range_of}
use Rattle.oer_module_limits.specs.Sets.{Measure}
use Rattle.oer_module_names.specs.declared.error.Place.{Place}
use Rattle.oer_module_syntax.specs.Tree.{Module}
use Rattle.oer_module_text.specs.Room.{Room}
use Rattle.oer_module_values.specs.Types.{Given, Meaning, TypeIn}
use Rattle.oer_meant_leaves.specs.Leaves.{AreItems, IsLeaf}
use Rattle.oer_meant_leaves.specs.Ranges.{IsRange}

-- The range that is found of what a type stands for is the effective one.
abbrev pub RangesAreEffective : Type 0
RangesAreEffective = (ms : List Module) (k : Measure) (p : Place) (m : Meaning) (r : Span) → range_of ms k p m ≡ Ok r
    → IsRange ms k m.of m.given r

-- The items that are found for the braces of an ENUMERATED at a place are those that stand there, with the numbers that they have.
abbrev pub EnumerationsAreSound : Type 0
EnumerationsAreSound = (ms : List Module) (p : Place) (ts : List Spot) (e : Numbered) → numbered_at ms p ts ≡ Ok e
    → AreItems ms p.«module» p.at ts (map (λ i. record { name = i.name; number = i.number }) e.items) (is_some e.marker)

-- The type that is found is the one that it is.
abbrev pub LeavesAreSound : Type 0
LeavesAreSound = (ms : List Module) (p : Place) (m : Meaning) (r s : Room) (T : AsnType) → leaf_at ms p m r ≡ Ok (T, s)
    → IsLeaf ms m.of m.given T

-- A type has one effective range.
abbrev pub RangesAreSole : Type 0
RangesAreSole = (ms : List Module) (k : Measure) (t : TypeIn) (gs : List Given) (r s : Span)
    → IsRange ms k t gs r → IsRange ms k t gs s → r ≡ s

-- Tokens in the braces of an ENUMERATED are one list of items, with one number each, and have a marker or not.
abbrev pub EnumerationsAreSole : Type 0
EnumerationsAreSole = (ms : List Module) (m at : ℕ) (ts : List Spot) (is js : List NamedNumber) (a b : Bool)
    → AreItems ms m at ts is a → AreItems ms m at ts js b → (is ≡ js) × (a ≡ b)

-- A type that holds no other is one of our types.
abbrev pub LeavesAreSole : Type 0
LeavesAreSole = (ms : List Module) (u : TypeIn) (gs : List Given) (T U : AsnType) → IsLeaf ms u gs T → IsLeaf ms u gs U → T ≡ U
