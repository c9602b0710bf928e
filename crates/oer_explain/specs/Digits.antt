-- What is added to the error of hexadecimal digits.
use Rattle.std.specs.Prelude.{ℕ, ◌+◌, ◌%◌, List, [], ◌∷◌, length, Bool, eqb, ◌&&◌, codes, if◌then◌else◌}
use Rattle.oer_places.specs.Looks.{is_digit}
use Rattle.oer_explain.specs.Place.{notes_at}

-- how many digits a text begins with
abbrev pub digits_before : List ℕ → ℕ
digits_before [] = 0
digits_before (c ∷ cs) = if is_digit c then digits_before cs + 1 else 0

-- what is wrong behind the digits, at the text's end or before
abbrev pub digits_sentence : Bool → List ℕ
digits_sentence is_end = if is_end then codes "the last digit is alone, and two spell an octet" else codes "a hexadecimal digit has to be here"

-- the place behind the digits that the text begins with, unless it is an even number of digits
abbrev pub digits_notes : List ℕ → List ℕ
digits_notes text =
    let at : ℕ = digits_before text in
    let is_end : Bool = eqb at (length text) in
    if is_end && eqb (at % 2) 0 then [] else notes_at text at (digits_sentence is_end) []
