-- The texts of paths.
use Rattle.std.specs.Prelude.{◌≡◌, ℕ, ◌<◌, ◌^◌, List, [], ◌∷◌, ◌++◌, codes}
use Rattle.std.specs.Fmt.{decimal}
use Rattle.oer_model.specs.Parts.{Step, to_component, to_addition, to_item, to_chosen}

-- a letter, and the number in decimal digits
abbrev pub IsNumbered : List ℕ → List ℕ → ℕ → Type 0
IsNumbered text letter n = (text ≡ letter ++ decimal n) × (n < 2 ^ 64)

abbrev pub SpellsStep : List ℕ → Step → Type 0
SpellsStep text (to_component i) = IsNumbered text (codes "c") i
SpellsStep text (to_addition i) = IsNumbered text (codes "a") i
SpellsStep text (to_item i) = IsNumbered text (codes "i") i
SpellsStep text to_chosen = text ≡ codes "v"

-- the text is that of the steps, one or more, with a point (46) between each and the next
abbrev pub SpellsPath : List ℕ → List Step → Type 0
SpellsPath text [] = ⊥
SpellsPath text (step ∷ []) = SpellsStep text step
SpellsPath text (step ∷ next ∷ path) = (front : List ℕ) × (rest : List ℕ) × (text ≡ front ++ 46 ∷ rest) × SpellsStep front step
    × SpellsPath rest (next ∷ path)

abbrev pub OnePath : Type 0
OnePath = (text : List ℕ) (p q : List Step) → SpellsPath text p → SpellsPath text q → p ≡ q
