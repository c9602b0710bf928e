-- Values that are one token: which values they are, and the text with the words that our notation has for them.
use Rattle.std.specs.Prelude.{ℕ, List, [], ◌∷◌, map, nat_lt, Bool, true, false, ◌||◌, Option, Some, None, Ok}
use Rattle.std.specs.Prelude.{codes, if◌then◌else◌}
use Rattle.oer_literals.specs.Bits.{is_one}
use Rattle.oer_model.specs.AsnValue.{AsnValue, bool, nothing, bit_list, octets, text as string}
use Rattle.oer_module_names.specs.declared.error.Place.{Place}
use Rattle.oer_module_terms.specs.Trees.{Atom, fixed, bits, digits, text, Value, atom}
use Rattle.oer_module_terms.specs.declared.tree.Fixed.TheVariants.{True, False, Null}
use Rattle.oer_module_text.specs.Errors.{Read, error, not_taken, no_such_value}
use Rattle.oer_module_text.specs.Room.{Room, put}
use Rattle.oer_module_text.specs.declared.error.Part.TheVariants as part
use Rattle.oer_value_notation.specs.Values.{digit_bits, inside, octets_in, text_in}

-- a value that holds no other
abbrev pub single : Value → Option Atom
single (atom at a) = Some a
single _ = None

-- an octet of the text is below this one
abbrev pub has_below : ℕ → List ℕ → Bool
has_below least [] = false
has_below least (c ∷ cs) = nat_lt c least || has_below least cs

abbrev pub none_such : {A : Type 0} → Place → Read A
none_such p = error p no_such_value

abbrev pub or_none_such : {A : Type 0} → Place → Option A → Read A
or_none_such p None = none_such p
or_none_such p (Some x) = Ok x

abbrev pub no_text : {A : Type 0} → Place → Read A
no_text p = error p (not_taken part.Value)

-- BOOLEAN (18.3)
abbrev pub boolean_at : Place → Option Atom → Room → Read (AsnValue × Room)
boolean_at p (Some (fixed True)) r = Ok (bool true, put (codes "TRUE") r)
boolean_at p (Some (fixed False)) r = Ok (bool false, put (codes "FALSE") r)
boolean_at p _ r = none_such p

-- NULL (24.3)
abbrev pub null_at : Place → Option Atom → Room → Read (AsnValue × Room)
null_at p (Some (fixed Null)) r = Ok (nothing, put (codes "NULL") r)
null_at p _ r = none_such p

-- hexadecimal digits, where they stand for something; white space stands for nothing
abbrev pub digits_at : {A : Type 0} → (A → AsnValue) → Place → List ℕ → Option A → Room → Read (AsnValue × Room)
digits_at make p w None r = no_text p
digits_at make p w (Some x) r = Ok (make x, put w r)

-- OCTET STRING (23): two digits for each octet
abbrev pub octet_string_at : Place → Option Atom → Room → Read (AsnValue × Room)
octet_string_at p (Some (digits w)) r = digits_at octets p w (octets_in (inside w)) r
octet_string_at p (Some (bits w)) r = no_text p
octet_string_at p _ r = none_such p

-- digits 0 and 1, without white space
abbrev pub zeros_and_ones_at : Place → List ℕ → Room → Read (AsnValue × Room)
zeros_and_ones_at p w r = if has_below 33 w then no_text p else Ok (bit_list (map is_one (inside w)), put w r)

-- BIT STRING (22): bits, or digits for four of them
abbrev pub bit_token_at : Place → Option Atom → Room → Read (AsnValue × Room)
bit_token_at p (Some (bits w)) r = zeros_and_ones_at p w r
bit_token_at p (Some (digits w)) r = digits_at bit_list p w (digit_bits (inside w)) r
bit_token_at p _ r = none_such p

-- a text on one line (12.14)
abbrev pub line_at : Place → List ℕ → Room → Read (AsnValue × Room)
line_at p w r = if has_below 32 w then no_text p else Ok (string (text_in w), put w r)

abbrev pub text_at : Place → Option Atom → Room → Read (AsnValue × Room)
text_at p (Some (text w)) r = line_at p w r
text_at p _ r = none_such p
