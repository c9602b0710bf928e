-- What the flag says.
use Rattle.std.proofs.Common.{◌≡◌, Option, None, Some, refl}
use Rattle.oer_c.specs.declared.shared.Shared.{Shared}
use Rattle.oer_c.specs.Held.{flag}

-- where the flag is not 0 there are types
pub one_held : (o : Option Shared) → (flag o ≡ 0 → ⊥) → (t : Shared) × (o ≡ Some t)
one_held None f = absurd (f refl)
one_held (Some t) f = (t, refl)
