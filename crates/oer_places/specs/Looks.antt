-- What a text looks like.
use Rattle.std.specs.Prelude.{ℕ, ◌+◌, ◌==◌, List, [], ◌∷◌, length, drop, Bool, true, false, not, ◌||◌, ◌&&◌, Option, Some, None, leb, codes, if◌then◌else◌}
use Rattle.std.specs.List.{starts_with, ends_with}

abbrev pub begins : List ℕ → List ℕ → Bool
begins text front = starts_with (λ a b. a == b) text front

abbrev pub ends : List ℕ → List ℕ → Bool
ends text rest = ends_with (λ a b. a == b) text rest

-- space, tab, line feed or carriage return
abbrev pub is_white : ℕ → Bool
is_white c = c == 32 || c == 9 || c == 10 || c == 13

abbrev pub has_white : List ℕ → Bool
has_white [] = false
has_white (c ∷ cs) = is_white c || has_white cs

abbrev pub has_slash : List ℕ → Bool
has_slash [] = false
has_slash (c ∷ cs) = c == 47 || has_slash cs

abbrev pub is_digit : ℕ → Bool
is_digit c = (leb 48 c && leb c 57) || (leb 65 c && leb c 70) || (leb 97 c && leb c 102)

-- only hexadecimal digits and white space
abbrev pub are_digits : List ℕ → Bool
are_digits [] = true
are_digits (c ∷ cs) = if not (is_digit c) && not (is_white c) then false else are_digits cs

-- two digits, and then only digits and white space
abbrev pub seems_digits : List ℕ → Bool
seems_digits (a ∷ b ∷ rest) = is_digit a && is_digit b && are_digits rest
seems_digits _ = false

-- no white space, and a `/` or the end of a name of a file of text
abbrev pub is_file_name : List ℕ → Bool
is_file_name text = not (has_white text) && (has_slash text || ends text (codes ".asn") || ends text (codes ".asn1") || ends text (codes ".txt"))

-- the word stands somewhere in the text
abbrev pub occurs : List ℕ → List ℕ → Bool
occurs word [] = false
occurs word (c ∷ cs) = begins (c ∷ cs) word || occurs word cs

-- a letter, a digit or a hyphen
abbrev pub is_of_words : ℕ → Bool
is_of_words c = (leb 97 c && leb c 122) || (leb 65 c && leb c 90) || (leb 48 c && leb c 57) || c == 45

-- how many of these a text begins with
abbrev pub word_length : List ℕ → ℕ
word_length [] = 0
word_length (c ∷ cs) = if is_of_words c then word_length cs + 1 else 0

abbrev pub past_white : List ℕ → List ℕ
past_white [] = []
past_white (c ∷ cs) = if is_white c then past_white cs else c ∷ cs

-- the text begins with the name, and `::=` follows, with white space between them or none
abbrev pub defines : List ℕ → List ℕ → Bool
defines name text = begins text name && begins (past_white (drop (length name) text)) (codes "::=")

-- count: how many octets are before this rest; inside: whether they end in a word
abbrev pub definition_from : List ℕ → Bool → ℕ → List ℕ → Option ℕ
definition_from name inside count [] = None
definition_from name inside count (c ∷ cs) =
    if not inside && defines name (c ∷ cs) then Some count else definition_from name (is_of_words c) (count + 1) cs

-- how many octets of a text are before the first definition of the name, which doesn't begin inside a word
abbrev pub definition_behind : List ℕ → List ℕ → Option ℕ
definition_behind name text = definition_from name false 0 text
