-- What the input may have left.
use Rattle.std.proofs.Common.{List, ℕ, [], Option, Some, None, refl}
use Rattle.std.specs.Io.KnownBytes.{Keeps}
use Rattle.oer_input_cmd.specs.Input.{MayBeLeft}

-- what holds of all octets holds of some that may be left
pub for_any : (told : Option (List ℕ)) {P : List ℕ → Type 0} → ((xs : List ℕ) → P xs) → (xs : List ℕ) × MayBeLeft told xs × P xs
for_any None f = ([], tt, f [])
for_any (Some ys) f = (ys, refl, f ys)

-- nothing was written
pub kept : (a : Option (List ℕ)) → Keeps a a
kept None = tt
kept (Some x) = refl
