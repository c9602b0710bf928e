-- What names mean, in the words of types and encodings.
use Rattle.std.specs.Prelude.{◌≡◌, ◌⊎◌, ◌<◌, ◌^◌, ℕ, zero, suc, List, [], ◌∷◌, ◌++◌, Option, Some, None, true}
use Rattle.std.specs.Fmt.{decimal}
use Rattle.oer_units.specs.Spelling.{IsTag}
use Rattle.oer_units.specs.declared.tagging.Tag.{Tag}
use Rattle.oer_model.specs.AsnType.{Additions, Alternatives, AsnType, Fields, addition, alternative, choice, extensible_sequence, field, later, no_additions, no_alternatives, no_fields, sequence, sequence_of}
use Rattle.oer_model.specs.Constraints.{same_tag}
use Rattle.oer_model.specs.Parts.{LeadsTo, Step, to_chosen}
use Rattle.oer_parts.specs.Walk.{step_of}
use Rattle.oer_parts.specs.declared.step.Step.TheVariants.{Addition, Component, Item}
use Rattle.oer_at.specs.declared.hop.Hop.{Hop}
use Rattle.oer_at.specs.declared.hop.Hop.TheVariants.{Alternative, Part}

-- the root component with that number: its name and type
abbrev pub component_at : Fields → ℕ → Option (List ℕ × AsnType)
component_at no_fields i = None
component_at (field name need T fs) zero = Some (name, T)
component_at (field name need T fs) (suc i) = component_at fs i

-- the addition with that number
abbrev pub addition_at : Additions → ℕ → Option (List ℕ × AsnType)
addition_at no_additions i = None
addition_at (addition name T more) zero = Some (name, T)
addition_at (addition name T more) (suc i) = addition_at more i

-- an alternative has that name, that tag and that type
abbrev pub HasAlternative : Alternatives → List ℕ → Tag → AsnType → Type 0
HasAlternative no_alternatives name t U = ⊥
HasAlternative (alternative n u T more) name t U = ((n ≡ name) × (u ≡ t) × (T ≡ U)) ⊎ HasAlternative more name t U
HasAlternative (later n u T more) name t U = ((n ≡ name) × (u ≡ t) × (T ≡ U)) ⊎ HasAlternative more name t U

-- In the type the name calls what the hop leads to, which is of type U: a component or an addition by its identifier, an element by its
-- number, an alternative by its identifier.
abbrev pub IsCalled : AsnType → List ℕ → Hop → AsnType → Type 0
IsCalled (sequence fs) name (Part (Component i)) U = component_at fs i ≡ Some (name, U)
IsCalled (extensible_sequence fs more) name (Part (Component i)) U = component_at fs i ≡ Some (name, U)
IsCalled (extensible_sequence fs more) name (Part (Addition i)) U = addition_at more i ≡ Some (name, U)
IsCalled (sequence_of size T) name (Part (Item i)) U = (name ≡ decimal i) × (i < 2 ^ 64) × (T ≡ U)
IsCalled (choice extensible more) name (Alternative t) U = HasAlternative more name t U
IsCalled T name hop U = ⊥

-- The names mean those hops, to a part of type U.
abbrev pub Means : AsnType → List (List ℕ) → List Hop → AsnType → Type 0
Means T [] [] U = T ≡ U
Means T (name ∷ names) (hop ∷ hops) U = (V : AsnType) × IsCalled T name hop V × Means V names hops U
Means T names hops U = ⊥

-- The octets begin with the tag: that of the alternative chosen (X.696, 20).
abbrev pub BeginsWith : Tag → List ℕ → Type 0
BeginsWith t b = (u : Tag) × (p : List ℕ) × (c : List ℕ) × (same_tag t u ≡ true) × (b ≡ p ++ c) × IsTag u p

-- From the octets b, of type T, the hop leads to c, of type V where that is known: to an alternative if it is the one chosen.
abbrev pub Hops : AsnType → List ℕ → Hop → Option AsnType → List ℕ → Type 0
Hops T b (Part step) V c = LeadsTo T b (step_of step) V c
Hops T b (Alternative t) V c = BeginsWith t b × LeadsTo T b to_chosen V c

-- From the octets b, of type T where that is known, the hops lead to s, of type U where that is known, one after another. From a part whose
-- type isn't known none leads.
abbrev pub Reaches : Option AsnType → List ℕ → List Hop → Option AsnType → List ℕ → Type 0
Reaches T b [] U s = (U ≡ T) × (s ≡ b)
Reaches None b (hop ∷ hops) U s = ⊥
Reaches (Some T) b (hop ∷ hops) U s = (V : Option AsnType) × (c : List ℕ) × Hops T b hop V c × Reaches V c hops U s

-- the step for which a hop stands
abbrev pub step_behind : Hop → Step
step_behind (Part step) = step_of step
step_behind (Alternative t) = to_chosen
