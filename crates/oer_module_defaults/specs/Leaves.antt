-- Values that hold no others, and are told by the types that govern them.
use Rattle.std.specs.Prelude.{List, Option, Some, Ok}
use Rattle.oer_model.specs.AsnValue.{AsnValue, int, enum}
use Rattle.oer_module_names.specs.declared.error.Place.{Place}
use Rattle.oer_module_syntax.specs.Tree.{Module}
use Rattle.oer_module_terms.specs.Trees.{named, Atom, amount, Value, braces}
use Rattle.oer_module_text.specs.Errors.{Read, told_by, ◌>>=◌}
use Rattle.oer_module_text.specs.Room.{Room, put, put_number}
use Rattle.oer_module_values.specs.Numbers.{number_at}
use Rattle.oer_module_values.specs.Types.{TypeIn}
use Rattle.oer_module_defaults.specs.Atoms.{bit_token_at, none_such, single}
use Rattle.oer_module_defaults.specs.Bits.{named_bits}
use Rattle.oer_module_defaults.specs.Governors.{Governor}
use Rattle.oer_module_defaults.specs.Items.{number_in_both}

module _ (ms : List Module) where
  -- INTEGER (19.9)
  abbrev pub integer_at : TypeIn → Place → Option Atom → Room → Read (AsnValue × Room)
  integer_at t p (Some (amount a)) r = told_by (number_at ms t p a) >>= λ z. Ok (int z, put_number z r)
  integer_at t p _ r = none_such p

  -- ENUMERATED (20): the second type governs the value, which is of the first
  abbrev pub enumerated_at : Governor → Governor → Place → Option Atom → Room → Read (AsnValue × Room)
  enumerated_at g h p (Some (amount (named w steps))) r = number_in_both ms g h p w >>= λ z. Ok (enum z, put w r)
  enumerated_at g h p _ r = none_such p

  -- BIT STRING (22)
  abbrev pub bit_string_at : TypeIn → Place → Governor → Value → Room → Read (AsnValue × Room)
  bit_string_at t p g (braces at members) r = named_bits ms t p g members r
  bit_string_at t p g v r = bit_token_at p (single v) r
