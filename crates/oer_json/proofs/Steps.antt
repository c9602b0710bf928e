-- Looking for a key, from the front.
use Rattle.std.proofs.Common.{◌≡◌, ℕ, List, ◌∷◌, true, false, refl}
use Rattle.std.specs.Str.{bytes_eq}
use Rattle.oer_json.specs.Keys.{is_among}

pub among_here : (n : List ℕ) (ns : List (List ℕ)) (w : List ℕ) → bytes_eq n w ≡ true → is_among (n ∷ ns) w ≡ true
among_here n ns w h = rw h refl

pub among_past : (n : List ℕ) (ns : List (List ℕ)) (w : List ℕ) → bytes_eq n w ≡ false → is_among (n ∷ ns) w ≡ is_among ns w
among_past n ns w h = rw h refl
