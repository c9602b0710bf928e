-- How numbers of fixed size are read from a list (X.696, 10.2 to 10.4).
use Rattle.std.specs.Prelude.{ℕ, List, ℤ}
use Rattle.oer_units.specs.Reader.{Reader, give, bind, group}
use Rattle.oer_units.specs.Numbers.{unsigned, signed}
use Rattle.oer_units.specs.Width.{octets_of_width}
use Rattle.oer_units.specs.declared.width.Width.{Width}

-- a group of n octets, as what f makes of them
abbrev pub group_as : {A : Type 0} → ℕ → (List ℕ → A) → Reader A
group_as n f = bind (group n) (λ w. give (f w))

unfoldable pub unsigned_fixed_at : Width → Reader ℕ
unsigned_fixed_at width = group_as (octets_of_width width) unsigned

unfoldable pub signed_fixed_at : Width → Reader ℤ
signed_fixed_at width = group_as (octets_of_width width) signed
