-- What stands last in an encoding.
use Rattle.std.specs.Prelude.{◌≡◌, List, [], Bool, true, not, ◌&&◌}
use Rattle.oer_units.specs.Reader.{Outcome, at, got}
use Rattle.oer_model.specs.AsnType.{Fields, field, no_fields}
use Rattle.oer_model.specs.SharedSteps.{bits_left, is_there}

-- something was read, and nothing is left
abbrev pub TakesAll : {A : Type 0} → Outcome A → Type 0
TakesAll {A = A} o = (x : A) × (got x (at [] 0) ≡ o)

-- no component is there, by the presence bits
abbrev pub none_there : Fields → List Bool → Bool
none_there no_fields s = true
none_there (field name need T fs) s = not (is_there need s) && none_there fs (bits_left need s)
