-- The words that stand for themselves, ids and Names.
use Rattle.std.specs.Prelude.{ℕ, List, [], ◌∷◌, ◌++◌, Bool, false, not, ◌&&◌, Option, Some, option_map, codes, if◌then◌else◌}
use Rattle.std.specs.Char.{is_ascii_lowercase, is_ascii_uppercase}
use Rattle.std.specs.List.{list_any}
use Rattle.std.specs.Str.{bytes_eq}
use Rattle.oer_lexer.specs.LeafWords.{leaf_word, leaves, words_among}
use Rattle.oer_value_notation.specs.declared.word.TypeWord.{TypeWord}
use Rattle.oer_value_notation.specs.declared.word.TypeWord.TheVariants as tw

-- the first character is one for which p holds
abbrev pub begins : (ℕ → Bool) → List ℕ → Bool
begins p [] = false
begins p (c ∷ cs) = p c

-- a word that begins with a small letter
abbrev pub is_id : List ℕ → Bool
is_id w = begins is_ascii_lowercase w

-- words that are no Names, beside those of the types that hold no other
abbrev pub other_words : List (List ℕ)
other_words =
    codes "SEQUENCE" ∷ codes "OF" ∷ codes "CHOICE" ∷ codes "OPTIONAL" ∷ codes "DEFAULT" ∷ codes "SIZE" ∷ codes "MIN" ∷ codes "MAX"
    ∷ codes "TRUE" ∷ codes "FALSE" ∷ codes "UNIVERSAL" ∷ codes "APPLICATION" ∷ codes "PRIVATE" ∷ codes "REAL" ∷ codes "SET" ∷ []

-- the words that are no Names
abbrev pub reserved : List (List ℕ)
reserved = words_among leaves ++ other_words

unfoldable pub is_reserved : List ℕ → Bool
is_reserved w = list_any (bytes_eq w) reserved

-- a word that begins with a capital and is no reserved one
abbrev pub is_name : List ℕ → Bool
is_name w = begins is_ascii_uppercase w && not (is_reserved w)

-- the type that begins with this word
unfoldable pub type_word : List ℕ → Option TypeWord
type_word w =
    if bytes_eq w (codes "SEQUENCE") then Some tw.Sequence
    else if bytes_eq w (codes "CHOICE") then Some tw.Choice
    else option_map (λ k. tw.Leaf k) (leaf_word w)
