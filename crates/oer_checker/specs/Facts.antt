-- Shapes and their parts.
use Rattle.std.specs.Prelude.{◌≡◌, ◌<◌, ℕ, List, Option, Some, Vec, get_or, length}
use Rattle.std.specs.declared.alloc.Global.{Global}
use Rattle.oer_model.specs.AsnType.{AsnType, leaf}
use Rattle.oer_values.specs.declared.shape.Addition.{Addition}
use Rattle.oer_values.specs.declared.shape.Alt.{Alt}
use Rattle.oer_values.specs.declared.shape.Field.{Field}
use Rattle.oer_values.specs.declared.shape.Shape.{Shape}
use Rattle.oer_values.specs.declared.shape.Shape.TheVariants.{Choice, Sequence}

-- x is one of them
abbrev pub IsOne : {A : Type 0} → List A → A → Type 0
IsOne xs x = (i : ℕ) × (i < length xs) × (x ≡ get_or xs i x)

-- a SEQUENCE with an extension marker, of these components and additions
abbrev pub IsExtensible : Shape → List Field → List Addition → Type 0
IsExtensible shape fs xs = (root : Vec Field Global) × (more : Vec Addition Global) × (shape ≡ Sequence root (Some more))
    × (fs ≡ root.items) × (xs ≡ more.items)

-- a CHOICE of these alternatives, and of those after its extension marker if it has one
abbrev pub IsChoice : Shape → List Alt → Option (Vec Alt Global) → Type 0
IsChoice shape xs more = (root : Vec Alt Global) × (shape ≡ Choice root more) × (xs ≡ root.items)

-- a type without parts
abbrev pub IsLeaf : AsnType → Type 0
IsLeaf (leaf kind) = Unit {0}
IsLeaf T = ⊥
