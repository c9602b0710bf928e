-- A text of JSON in ASCII.
use Rattle.std.specs.Prelude.{ℕ, ◌<◌, List, [], ◌∷◌, ◌++◌, codes, ltb, if◌then◌else◌}
use Rattle.std.specs.Char.Escape.{encode_utf16, hex_digit_at}
use Rattle.std.specs.List.{AllByRecursion}
use Rattle.std.specs.Str.{chars}
use Rattle.clap.specs.Words.{Text}

-- a unit of 16 bits, in four hexadecimal digits
abbrev pub unit_escape : ℕ → Text
unit_escape u = codes "\\u" ++ hex_digit_at 4096 u ∷ hex_digit_at 256 u ∷ hex_digit_at 16 u ∷ hex_digit_at 1 u ∷ []

abbrev pub unit_escapes : List ℕ → Text
unit_escapes [] = []
unit_escapes (u ∷ us) = unit_escape u ++ unit_escapes us

-- A character up to U+007E stands for itself. Of any other the units in UTF-16 are escaped.
abbrev pub ascii_char : ℕ → Text
ascii_char c = if ltb c 127 then c ∷ [] else unit_escapes (encode_utf16 c)

abbrev pub ascii_chars : List ℕ → Text
ascii_chars [] = []
ascii_chars (c ∷ cs) = ascii_char c ++ ascii_chars cs

-- the text with these in place of its characters
abbrev pub ascii_text : Text → Text
ascii_text text = ascii_chars (chars text)

-- no octet of the text is above 7e
abbrev pub IsPlain : Text → Type 0
IsPlain text = AllByRecursion (λ b. b < 127) text
