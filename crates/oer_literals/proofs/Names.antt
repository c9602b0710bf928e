-- Looking for an item by its name, from the front.
use Rattle.std.proofs.Common.{◌≡◌, ℕ, List, ◌∷◌, true, false, Some, refl}
use Rattle.std.specs.Str.{bytes_eq}
use Rattle.oer_model.specs.AsnType.{NamedNumber}
use Rattle.oer_literals.specs.Items.{number_named}

pub number_here : (i : NamedNumber) (ks : List NamedNumber) (w : List ℕ) → bytes_eq i.name w ≡ true → number_named (i ∷ ks) w ≡ Some i.number
number_here i ks w h = rw h refl

pub number_past : (i : NamedNumber) (ks : List NamedNumber) (w : List ℕ) → bytes_eq i.name w ≡ false → number_named (i ∷ ks) w ≡ number_named ks w
number_past i ks w h = rw h refl
