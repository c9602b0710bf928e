-- Numbers of an INTEGER in their least form.
use Rattle.std.specs.Prelude.{ℕ, ℤ, List, Bool, true}
use Rattle.oer_model.specs.Canonical.{integer_octets}
use Rattle.oer_model.specs.Checking.{is_least}
use Rattle.oer_model.specs.Constraints.{Form, signed_counted, signed_fixed, unsigned_counted, unsigned_fixed}

-- whether b is as short as z can be in its form
abbrev pub least_in : Form → ℤ → List ℕ → Bool
least_in (unsigned_fixed n) z b = true
least_in (signed_fixed n) z b = true
least_in unsigned_counted z b = is_least (integer_octets unsigned_counted) z b
least_in signed_counted z b = is_least (integer_octets signed_counted) z b
