-- How many parts the reader of modules takes for a type, and why it may still reject one for which it has room.
use Rattle.std.specs.Prelude.{◌≡◌, ℕ, ◌+◌, Bool, false, Ok, Err}
use Rattle.oer_model.specs.AsnType.{AsnType}
use Rattle.oer_module_text.specs.Errors.{Read, Why, tag_number, too_deep, too_long, too_many_parts}
use Rattle.oer_module_text.specs.Room.{Room}

-- Another reason than that types nest too deep, that there are too many parts, or that the number of a tag has more than 32 bits; and
-- of short definitions than that the text is too long.
abbrev pub IsOther : Bool → Why → Type 0
IsOther short too_deep = ⊥
IsOther short too_many_parts = ⊥
IsOther short tag_number = ⊥
IsOther short too_long = short ≡ false
IsOther short why = Unit {0}

-- What is read takes so many of the parts that are left; or it is rejected for another reason.
abbrev pub Takes : Bool → ℕ → Room → Read (AsnType × Room) → Type 0
Takes short n r (Ok x) = x.1.parts + n ≡ r.parts
Takes short n r (Err e) = IsOther short e.why
