-- The characters of the notation, by their codes.
use Rattle.std.specs.Prelude.{ℕ, List, [], ◌∷◌, ◌==◌, Bool, false, not, ◌&&◌, ◌||◌}
use Rattle.std.specs.Char.{is_ascii_alphabetic, is_ascii_digit}

-- space, tab, line feed and carriage return
abbrev pub is_space : ℕ → Bool
is_space c = c == 32 || c == 9 || c == 10 || c == 13

-- line feed and carriage return
abbrev pub is_line_end : ℕ → Bool
is_line_end c = c == 10 || c == 13

abbrev pub is_letter_or_digit : ℕ → Bool
is_letter_or_digit c = is_ascii_alphabetic c || is_ascii_digit c

-- a digit 1 to 9
abbrev pub is_first_digit : ℕ → Bool
is_first_digit c = is_ascii_digit c && not (c == 48)

-- 0 or 1
abbrev pub is_bit : ℕ → Bool
is_bit c = c == 48 || c == 49

-- the text begins with a character for which p holds
abbrev pub starts : (ℕ → Bool) → List ℕ → Bool
starts p [] = false
starts p (c ∷ cs) = p c

-- the text begins with this character
abbrev pub starts_with : ℕ → List ℕ → Bool
starts_with x bs = starts (λ c. c == x) bs

-- the text begins with these two
abbrev pub starts_with_two : ℕ → ℕ → List ℕ → Bool
starts_with_two x y [] = false
starts_with_two x y (c ∷ cs) = c == x && starts_with y cs

abbrev pub hyphen : ℕ
hyphen = 45

abbrev pub quote : ℕ
quote = 39

abbrev pub double_quote : ℕ
double_quote = 34

abbrev pub star : ℕ
star = 42

abbrev pub slash : ℕ
slash = 47
