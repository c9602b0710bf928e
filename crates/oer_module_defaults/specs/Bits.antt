-- Values of BIT STRING by the names of their bits (X.680, 22).
use Rattle.std.specs.Prelude.{ℕ, zero, suc, ℤ, pos, negsuc, List, [], ◌∷◌, map, nat_lt, nat_le, nat_eq, Bool, Option, Some, None}
use Rattle.std.specs.Prelude.{Ok, codes, if◌then◌else◌}
use Rattle.std.specs.List.{list_any}
use Rattle.std.specs.Ordering.{int_eq}
use Rattle.oer_literals.specs.Bits.{bit_digit}
use Rattle.oer_model.specs.AsnValue.{AsnValue, bit_list}
use Rattle.oer_module_bounds.specs.Sets.{Span}
use Rattle.oer_module_limits.specs.Limits.{size_limits}
use Rattle.oer_module_names.specs.declared.error.Place.{Place}
use Rattle.oer_module_syntax.specs.Modules.{none_left}
use Rattle.oer_module_syntax.specs.Tree.{Module}
use Rattle.oer_module_terms.specs.Trees.{Amount, Parts, no_parts, part, Members, no_members, member, Item}
use Rattle.oer_module_text.specs.Errors.{Read, error, limited_by, not_taken, place_in, told_by, too_long, unresolved, ◌>>=◌}
use Rattle.oer_module_text.specs.Room.{Room, put}
use Rattle.oer_module_text.specs.declared.error.Part.TheVariants as parts
use Rattle.oer_module_values.specs.Errors.{unnumbered}
use Rattle.oer_module_values.specs.Looks.{Path, own, within, fields}
use Rattle.oer_module_values.specs.Numbers.{integer_at, item_named}
use Rattle.oer_module_values.specs.Types.{TypeIn}
use Rattle.oer_module_defaults.specs.Atoms.{no_text, none_such}
use Rattle.oer_module_defaults.specs.Governors.{Governor}
use Rattle.oer_module_defaults.specs.Items.{bits_of}
use Rattle.oer_module_defaults.specs.Walks.{Name, name_in}

-- a number of 16 bits
abbrev pub short : ℤ → Option ℕ
short (pos n) = if nat_lt n 65536 then Some n else None
short (negsuc n) = None

-- 4,096 at the most
abbrev pub fitting : Place → Option ℕ → Read ℕ
fitting p None = error p too_long
fitting p (Some n) = if nat_le n 4096 then Ok n else error p too_long

abbrev pub one_size : Place → Option ℤ → Option ℤ → Read ℕ
one_size p (Some low) (Some high) = if int_eq low high then fitting p (short high) else error p (not_taken parts.NamedBits)
one_size p _ _ = error p (not_taken parts.NamedBits)

-- how many bits each value has
abbrev pub fixed_size : Place → Span → Read ℕ
fixed_size p s = one_size p s.low s.high

-- a member of braces that is a name alone
abbrev pub own_by : List ℕ → Path → Option (List ℕ)
own_by w own = Some w
own_by w (within v) = None
own_by w fields = None

abbrev pub own_name : Option Name → Option (List ℕ)
own_name None = None
own_name (Some n) = own_by n.name n.path

abbrev pub bit_name : Parts → Option (List ℕ)
bit_name no_parts = None
bit_name (part v no_parts) = own_name (name_in v)
bit_name (part v (part w vs)) = None

-- in a value of so many bits
abbrev pub bit_within : Place → ℕ → Option ℕ → Read ℕ
bit_within p size None = none_such p
bit_within p size (Some n) = if nat_lt n size then Ok n else none_such p

-- whether these numbers name the bit at i
abbrev pub is_named : List ℕ → ℕ → Bool
is_named ns i = list_any (λ n. nat_eq n i) ns

-- bits from i on, so many
abbrev pub bits_from : List ℕ → ℕ → ℕ → List Bool
bits_from ns i zero = []
bits_from ns i (suc k) = is_named ns i ∷ bits_from ns (suc i) k

-- a digit for each, in quotes
abbrev pub quoted : List Bool → Room → Room
quoted bs r = put (codes "'B") (put (map bit_digit bs) (put (codes "'") r))

-- bits and their text
abbrev pub written : List Bool → Room → AsnValue × Room
written bs r = (bit_list bs, quoted bs r)

module _ (ms : List Module) where
  abbrev pub amount_bit : Place → ℕ → Place → Option Amount → Read ℕ
  amount_bit p size at None = error at (unresolved unnumbered)
  amount_bit p size at (Some a) = told_by (integer_at ms at a) >>= λ z. bit_within p size (short z)

  -- the number of a named bit in a module
  abbrev pub numbered_bit : Place → ℕ → ℕ → Item → Read ℕ
  numbered_bit p m size i = amount_bit p size (place_in m i.at) i.number

  abbrev pub item_bit : Place → ℕ → ℕ → Option Item → Read ℕ
  item_bit p m size None = none_such p
  item_bit p m size (Some i) = numbered_bit p m size i

  abbrev pub name_bit : Place → ℕ → ℕ → List Item → Option (List ℕ) → Read ℕ
  name_bit p m size is None = none_such p
  name_bit p m size is (Some w) = item_bit p m size (item_named w is)

  -- the number of the bit that a member names
  unfoldable pub bit_named : Place → ℕ → ℕ → List Item → Parts → Read ℕ
  bit_named p m size is vs = name_bit p m size is (bit_name vs)

  abbrev pub bit_numbers : Place → ℕ → ℕ → List Item → Members → Read (List ℕ)
  bit_numbers p m size is no_members = Ok []
  bit_numbers p m size is (member vs more) =
      bit_named p m size is vs >>= λ n. bit_numbers p m size is more >>= λ ns. Ok (n ∷ ns)

  -- so many bits: 1 where members name them
  abbrev pub these_bits : Place → ℕ → ℕ → List Item → Members → Room → Read (AsnValue × Room)
  these_bits p m size is members r = bit_numbers p m size is members >>= λ ns. Ok (written (bits_from ns 0 size) r)

  -- the value of a type with one size in which the bits that members name are 1
  abbrev pub some_bits : TypeIn → Place → Governor → Members → Room → Read (AsnValue × Room)
  some_bits t p g members r = do
    is ← bits_of g
    sizes ← limited_by (size_limits ms t)
    size ← fixed_size p sizes
    these_bits p g.«module» size is members r

  -- where the type has named bits
  unfoldable pub named_bits : TypeIn → Place → Governor → Members → Room → Read (AsnValue × Room)
  named_bits t p g members r = if none_left g.items then no_text p else some_bits t p g members r
