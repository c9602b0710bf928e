-- The text of a type as it grows, and how many parts the type may still have.
use Rattle.std.specs.Prelude.{ℕ, zero, suc, ℤ, ◌-◌, ◌==◌, nat_lt, List, [], ◌++◌, length, Ok, string_bytes, if◌then◌else◌}
use Rattle.std.specs.Fmt.{signed_decimal}
use Rattle.oer_module_names.specs.declared.error.Place.{Place}
use Rattle.oer_module_text.specs.Errors.{Read, error, too_many_parts, too_long}
use Rattle.oer_module_text.specs.declared.room.Room.{Room as RawRoom}

pub record Room : Type 0 where
  pub text : List ℕ
  pub parts : ℕ

abbrev pub room_of : RawRoom → Room
room_of r = record { text = string_bytes r.text; parts = r.parts }

-- no text, and all parts
abbrev pub new : Room
new = record { text = []; parts = 4096 }

abbrev pub put : List ℕ → Room → Room
put w r = record { text = r.text ++ w; parts = r.parts }

-- a number in decimal digits
abbrev pub put_number : ℤ → Room → Room
put_number z r = put (signed_decimal z) r

-- one part less, if there is one left and the text isn't too long by then
unfoldable pub take_part : Place → Room → Read Room
take_part p r =
    if r.parts == 0 then error p too_many_parts
    else if nat_lt 1048576 (length r.text) then error p too_long
    else Ok (record { text = r.text; parts = r.parts - 1 })
