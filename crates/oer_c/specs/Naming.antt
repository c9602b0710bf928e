-- Types by their Names.
use Rattle.std.specs.Prelude.{ℕ, List, Option, None, Some}
use Rattle.std.specs.Str.{IsUtf8}
use Rattle.oer_model.specs.AsnType.{AsnType}
use Rattle.oer_notation.specs.Reading.{find}
use Rattle.oer_notation.specs.Views.{knowns}
use Rattle.oer_notation.specs.declared.types.Types.{Types}

-- P of the type that was found, or else Q
abbrev pub IfFound : Option AsnType → (AsnType → Type 0) → Type 0 → Type 0
IfFound None P Q = Q
IfFound (Some T) P Q = P T

-- P of the type that the Name has; or Q of the status: 2 where there are no types, 3 where no definition has the Name or it is not UTF-8.
abbrev pub ByName : Option Types → List ℕ → (AsnType → Type 0) → (ℕ → Type 0) → Type 0
ByName None name P Q = Q 2
ByName (Some t) name P Q = (IsUtf8 name → IfFound (find (knowns t) name) P (Q 3)) × ((IsUtf8 name → ⊥) → Q 3)
