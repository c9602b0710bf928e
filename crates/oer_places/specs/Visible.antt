-- Text as it is printed: characters that a terminal would take for more than a sign are spelt out.
use Rattle.std.specs.Prelude.{ℕ, ◌+◌, ◌/◌, ◌%◌, List, ◌∷◌, [], Bool, cond, nat_lt, flat_map, ◌&&◌, ◌||◌}
use Rattle.std.specs.Char.{digit_char, encode_utf8}
use Rattle.std.specs.Str.{chars}

-- from the first to the last
abbrev pub is_among : ℕ → ℕ → ℕ → Bool
is_among first last c = nat_lt c (last + 1) && nat_lt first (c + 1)

-- control characters (U+0000 to U+001F, U+007F to U+009F), those that change direction (U+061C, U+200E, U+200F, U+202A to U+202E,
-- U+2066 to U+2069), and those that end a line or a paragraph (U+2028, U+2029)
abbrev pub is_hidden : ℕ → Bool
is_hidden c = is_among 0x00 0x1f c || is_among 0x7f 0x9f c || is_among 0x061c 0x061c c || is_among 0x200e 0x200f c || is_among 0x2028 0x202e c
    || is_among 0x2066 0x2069 c

-- \u and four hexadecimal digits
abbrev pub spelt_out : ℕ → List ℕ
spelt_out c = 92 ∷ 117 ∷ digit_char (c / 4096 % 16) ∷ digit_char (c / 256 % 16) ∷ digit_char (c / 16 % 16) ∷ digit_char (c % 16) ∷ []

abbrev pub visible_character : ℕ → List ℕ
visible_character c = cond (is_hidden c) (spelt_out c) (encode_utf8 c)

abbrev pub visible : List ℕ → List ℕ
visible text = flat_map visible_character (chars text)
