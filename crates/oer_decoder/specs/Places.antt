-- Components that may be absent, one after another.
use Rattle.std.specs.Prelude.{ℕ, suc, Bool, true, false, List, [], ◌∷◌, Option, Some, None}
use Rattle.oer_units.specs.Reader.{Reader, bind, give, guard, within}
use Rattle.oer_units.specs.declared.fault.Why.TheVariants as reason
use Rattle.oer_model.specs.AsnType.{Additions, Fields}
use Rattle.oer_model.specs.AsnValue.{AsnValue, Places, absent, present, seq}
use Rattle.oer_model.specs.Bits.{first_bit, later_bits}
use Rattle.oer_model.specs.Constraints.{optional, size_fits}
use Rattle.oer_model.specs.Reading.{preamble, quantity, read_additions, read_extension, read_fields}
use Rattle.oer_model.specs.declared.size.Size.{Size}

-- a component by r, if it is there
abbrev pub place_by : Bool → Reader AsnValue → Reader (Option AsnValue)
place_by true r = bind r (λ v. give (Some v))
place_by false r = give None

abbrev pub put : Option AsnValue → Places → Places
put (Some v) ps = present v ps
put None ps = absent ps

abbrev pub put_all : List (Option AsnValue) → Places → Places
put_all [] ps = ps
put_all (o ∷ os) ps = put o (put_all os ps)

-- the number of elements
abbrev pub count_at : Size → Reader ℕ
count_at s = bind quantity (λ n. within n (guard (size_fits s n) reason.Size (give n)))

-- the root of a sequence with an extension marker, and the extension bit
pub record Started : Type 0 where
  pub extended : Bool
  pub root : Places

abbrev pub started : List Bool → Places → Started
started s root = record { extended = first_bit s; root = root }

abbrev pub root_at : Fields → Reader Started
root_at fs = bind (preamble (suc (optional fs))) (λ s. bind (read_fields fs (later_bits s)) (λ root. give (started s root)))

-- what follows it: the additions
abbrev pub rest_at : Additions → Started → Reader AsnValue
rest_at more x = bind (read_extension x.extended more (read_additions more)) (λ added. give (seq x.root added.0 added.1))
