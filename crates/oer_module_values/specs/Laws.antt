-- What holds of types and numbers.
use Rattle.std.specs.Prelude.{◌≡◌, ℕ, ℤ, List, [], Ok}
use Rattle.oer_module_names.specs.declared.error.Place.{Place}
use Rattle.oer_module_syntax.specs.Tree.{Module, Tree}
use Rattle.oer_module_terms.specs.Trees.{Amount}
use Rattle.oer_module_values.specs.Numbers.{Governor, bare, Governs, Denotes, integer_at, number_at}
use Rattle.oer_module_values.specs.Types.{TypeIn, type_in, Given, Means, meaning, walk}

-- What is found for a type is what it means.
abbrev pub TypesAreSound : Type 0
TypesAreSound = (ms : List Module) (m : ℕ) (t : Tree) (u : TypeIn) (gs : List Given)
    → meaning ms (type_in m t) ≡ Ok (record { of = u; given = gs }) → Means ms m t u gs

-- What a type means is found in a number of steps.
abbrev pub TypesAreComplete : Type 0
TypesAreComplete = (ms : List Module) (m : ℕ) (t : Tree) (u : TypeIn) (gs : List Given)
    → Means ms m t u gs → (steps : ℕ) × (walk ms steps (type_in m t) [] ≡ Ok (record { of = u; given = gs }))

-- A type means one type.
abbrev pub TypesAreSole : Type 0
TypesAreSole = (ms : List Module) (m : ℕ) (t : Tree) (u v : TypeIn) (gs hs : List Given)
    → Means ms m t u gs → Means ms m t v hs → (u ≡ v) × (gs ≡ hs)

-- A number that is found for an amount is one that it denotes where no type governs it.
abbrev pub IntegersAreSound : Type 0
IntegersAreSound = (ms : List Module) (p : Place) (a : Amount) (z : ℤ)
    → integer_at ms p a ≡ Ok z → Denotes ms p.«module» (bare p.«module») a z

-- A number that is found for an amount is one that it denotes under what its type governs.
abbrev pub NumbersAreSound : Type 0
NumbersAreSound = (ms : List Module) (m : ℕ) (t : Tree) (p : Place) (a : Amount) (z : ℤ)
    → number_at ms (type_in m t) p a ≡ Ok z → (g : Governor) × Governs ms m t g × Denotes ms p.«module» g a z

-- A type governs by one governor, and an amount denotes one number under it.
abbrev pub NumbersAreSole : Type 0
NumbersAreSole = (ms : List Module) (m n : ℕ) (t : Tree) (g h : Governor) (a : Amount) (y z : ℤ)
    → Governs ms m t g → Governs ms m t h → Denotes ms n g a y → Denotes ms n h a z → y ≡ z
