-- Laws of texts that spell octets.
use Rattle.std.specs.Prelude.{◌≡◌, ℕ, List, [], ◌∷◌, Option, Some, None}
use Rattle.oer_input.specs.Base64.{SpellsBase64, sextet_of, without_space}

abbrev pub before : Option ℕ → List ℕ → List ℕ
before (Some n) ns = n ∷ ns
before None ns = ns

-- the numbers that the characters of a text in base64 stand for, whatever the alphabet; white space and `=` stand for none
abbrev pub sextets_in : List ℕ → List ℕ
sextets_in [] = []
sextets_in (c ∷ cs) = before (sextet_of c) (sextets_in cs)

-- Octets have one spelling in base64, but for white space, padding and the two alphabets.
abbrev pub OneSpelling : Type 0
OneSpelling = (t u os : List ℕ) → SpellsBase64 (without_space t) os → SpellsBase64 (without_space u) os → sextets_in t ≡ sextets_in u
