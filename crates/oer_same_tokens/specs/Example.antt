-- Texts of the notation as the lexer of modules reads them, computed.
use Rattle.std.specs.Prelude.{List, ℕ, ◌∷◌, ◌++◌, codes}
use Rattle.oer_lexer.specs.Lexing as own
use Rattle.oer_lexer.specs.Token.{tokens}
use Rattle.oer_module_lexer.specs.Lexing as modules
use Rattle.oer_same_tokens.specs.Same.{AreSame}

-- the lexer of modules reads the tokens that the notation's reads
abbrev pub IsReadAlike : List ℕ → Type 0
IsReadAlike bs = AreSame (modules.lex bs).spots (tokens (own.lex bs).spots)

-- a definition with a number below 0, and a comment
abbrev pub a_definition : List ℕ
a_definition = codes "A ::= INTEGER (-5..7) -- below 8"

-- a word behind a vertical tabulation in a comment
abbrev pub odd_space : List ℕ
odd_space = codes "--" ++ 11 ∷ codes "A"

-- two brackets
abbrev pub pair : List ℕ
pair = codes "[["

-- The definition is read alike. A text with a vertical tabulation isn't, nor is one in which a bracket stands behind one of its kind.
pub record ReadsExamples : Type 0 where
  pub definition : IsReadAlike a_definition
  pub space : ¬ IsReadAlike odd_space
  pub brackets : ¬ IsReadAlike pair
