-- What octets say, read at a cursor.
use Rattle.std.proofs.Common.{◌≡◌, ℕ, List, Result, ap, ◌∙◌}
use Rattle.oer_units.specs.Reader.{Reader, at}
use Rattle.oer_parts.specs.Walk.{read_in}
use Rattle.oer_checker.specs.Check.{most}
use Rattle.oer_checker.specs.Places.{outcome, place_of}
use Rattle.oer_checker.specs.declared.cursor.Cursor.{Cursor}
use Rattle.oer_checker.specs.declared.stop.Stop.{Stop}

pub read_is : {A B : Type 0} (f : A → B) (r : Reader B) (b : List ℕ) (p q : Cursor) (answer : Result A Stop) → place_of p ≡ at b most → outcome f answer q ≡ r (place_of p)
    → read_in (outcome f answer q) ≡ read_in (r (at b most))
read_is f r b p q answer place is = ap read_in is ∙ ap (λ x. read_in (r x)) place
