-- Some of the characters of a text.
use Rattle.std.specs.Prelude.{ℕ, List, length, take, drop}
use Rattle.std.specs.Str.{chars, encode_utf8_all}

-- how many characters a text has
abbrev pub count_of : List ℕ → ℕ
count_of text = length (chars text)

-- the first characters of a text
abbrev pub first_of : ℕ → List ℕ → List ℕ
first_of n text = encode_utf8_all (take n (chars text))

-- the characters of a text without the first, so many
abbrev pub last_of : ℕ → List ℕ → List ℕ
last_of n text = encode_utf8_all (drop n (chars text))
