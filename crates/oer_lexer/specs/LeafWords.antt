-- The words of the types that hold no other.
use Rattle.std.specs.Prelude.{ℕ, List, [], ◌∷◌, ◌++◌, Bool, false, ◌||◌, Option, Some, None, option_map, codes, if◌then◌else◌}
use Rattle.std.specs.List.{list_any}
use Rattle.std.specs.Str.{bytes_eq}
use Rattle.oer_lexer.specs.Token.{Token, word}
use Rattle.oer_lexer.specs.declared.leaf.LeafWord.{LeafWord}
use Rattle.oer_lexer.specs.declared.leaf.LeafWord.TheVariants as leaf
use Rattle.oer_lexer.specs.declared.leaf.Words.{Words}

-- the word with which a type begins, and the one behind it, if there is one
abbrev pub words_of : LeafWord → List ℕ × Option (List ℕ)
words_of leaf.Boolean = (codes "BOOLEAN", None)
words_of leaf.Null = (codes "NULL", None)
words_of leaf.Integer = (codes "INTEGER", None)
words_of leaf.Enumerated = (codes "ENUMERATED", None)
words_of leaf.BitString = (codes "BIT", Some (codes "STRING"))
words_of leaf.OctetString = (codes "OCTET", Some (codes "STRING"))
words_of leaf.ObjectIdentifier = (codes "OBJECT", Some (codes "IDENTIFIER"))
words_of leaf.Ia5String = (codes "IA5String", None)
words_of leaf.VisibleString = (codes "VisibleString", None)
words_of leaf.NumericString = (codes "NumericString", None)
words_of leaf.PrintableString = (codes "PrintableString", None)
words_of leaf.Utf8String = (codes "UTF8String", None)

-- all of the types
abbrev pub leaves : List LeafWord
leaves =
    leaf.Boolean ∷ leaf.Null ∷ leaf.Integer ∷ leaf.Enumerated ∷ leaf.BitString ∷ leaf.OctetString ∷ leaf.ObjectIdentifier
    ∷ leaf.Ia5String ∷ leaf.VisibleString ∷ leaf.NumericString ∷ leaf.PrintableString ∷ leaf.Utf8String ∷ []

abbrev pub seen_words : Words → List ℕ × Option (List ℕ)
seen_words w = (w.first.now, option_map (λ s. s.now) w.second)

-- the tokens of a type: its words, and what stands behind them
abbrev pub behind_second : Option (List ℕ) → List Token → List Token
behind_second None ts = ts
behind_second (Some w) ts = word w ∷ ts

abbrev pub with_words : LeafWord → List Token → List Token
with_words k ts = word (words_of k).0 ∷ behind_second (words_of k).1 ts

-- ---- words that are looked up

-- the first of the types that begins with this word
abbrev pub leaf_among : List ℕ → List LeafWord → Option LeafWord
leaf_among w [] = None
leaf_among w (k ∷ ks) = if bytes_eq w (words_of k).0 then Some k else leaf_among w ks

-- the type that begins with this word
unfoldable pub leaf_word : List ℕ → Option LeafWord
leaf_word w = leaf_among w leaves

abbrev pub is_second : List ℕ → Option (List ℕ) → Bool
is_second w None = false
is_second w (Some v) = bytes_eq w v

abbrev pub is_word_of : List ℕ → LeafWord → Bool
is_word_of w k = bytes_eq w (words_of k).0 || is_second w (words_of k).1

-- whether it is one of the words of these types
unfoldable pub is_leaf_word : List ℕ → Bool
is_leaf_word w = list_any (is_word_of w) leaves

abbrev pub second_words : Option (List ℕ) → List (List ℕ)
second_words None = []
second_words (Some w) = w ∷ []

-- the words of types
abbrev pub words_among : List LeafWord → List (List ℕ)
words_among [] = []
words_among (k ∷ ks) = (words_of k).0 ∷ (second_words (words_of k).1 ++ words_among ks)
