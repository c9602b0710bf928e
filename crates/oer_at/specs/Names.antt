-- The names of a text, and the numbers of elements.
use Rattle.std.specs.Prelude.{ℕ, List, [], ◌∷◌, Bool, true, false, eqb, ◌||◌, ◌&&◌, Option, None, if◌then◌else◌}
use Rattle.std.specs.Borrow.{Bor}
use Rattle.oer_model.specs.WellFormed.{is_alphanumeric}
use Rattle.oer_literals.specs.Numbers.{size_of}

abbrev pub text_behind : Bor (List ℕ) → List ℕ
text_behind t = t.now

-- the character belongs to the first of these names
abbrev pub onto_first : ℕ → List (List ℕ) → List (List ℕ)
onto_first c [] = (c ∷ []) ∷ []
onto_first c (name ∷ names) = (c ∷ name) ∷ names

-- what stands between the points (46) of a text
abbrev pub names_in : List ℕ → List (List ℕ)
names_in [] = [] ∷ []
names_in (c ∷ cs) = if eqb c 46 then [] ∷ names_in cs else onto_first c (names_in cs)

-- letters, digits and hyphens (45)
abbrev pub are_of_words : List ℕ → Bool
are_of_words [] = true
are_of_words (c ∷ cs) = (is_alphanumeric c || eqb c 45) && are_of_words cs

-- these only, and one at least
abbrev pub is_word : List ℕ → Bool
is_word [] = false
is_word (c ∷ cs) = are_of_words (c ∷ cs)

-- a plus (43) is first, or a zero (48) before other digits
abbrev pub is_led : List ℕ → Bool
is_led [] = false
is_led (c ∷ []) = eqb c 43
is_led (c ∷ d ∷ ds) = eqb c 43 || eqb c 48

-- the number of an element, below 2^64, that the name is in decimal digits without leading zeros
abbrev pub element_of : List ℕ → Option ℕ
element_of name = if is_led name then None else size_of name
