-- Brackets that match.
use Rattle.std.specs.Prelude.{◌≡◌, List, [], ◌∷◌, ◌++◌, Ok, true}
use Rattle.oer_module_lexer.specs.Token.{Token, sign, Spot}
use Rattle.oer_module_lexer.specs.declared.token.Sign.{Sign}
use Rattle.oer_module_lexer.specs.declared.token.Sign.TheVariants.{OpenBrace, CloseBrace, OpenParenthesis, CloseParenthesis}
use Rattle.oer_module_lexer.specs.declared.token.Sign.TheVariants.{OpenBracket, CloseBracket, OpenGroup, CloseGroup}
use Rattle.oer_module_syntax.specs.Ranges.{group_at}
use Rattle.oer_module_syntax.specs.State.{State, at_sign}

-- the brackets that a token is: `[[` and `]]` are two
abbrev pub brackets_in : Token → List Sign
brackets_in (sign OpenBrace) = OpenBrace ∷ []
brackets_in (sign OpenParenthesis) = OpenParenthesis ∷ []
brackets_in (sign OpenBracket) = OpenBracket ∷ []
brackets_in (sign OpenGroup) = OpenBracket ∷ OpenBracket ∷ []
brackets_in (sign CloseBrace) = CloseBrace ∷ []
brackets_in (sign CloseParenthesis) = CloseParenthesis ∷ []
brackets_in (sign CloseBracket) = CloseBracket ∷ []
brackets_in (sign CloseGroup) = CloseBracket ∷ CloseBracket ∷ []
brackets_in _ = []

-- the brackets among tokens
abbrev pub brackets : List Spot → List Sign
brackets [] = []
brackets (t ∷ ts) = brackets_in t.token ++ brackets ts

pub data Closes : Sign → Sign → Type 0 where
  brace : Closes OpenBrace CloseBrace
  parenthesis : Closes OpenParenthesis CloseParenthesis
  bracket : Closes OpenBracket CloseBracket

-- each bracket that opens is closed by one of its kind, and what stands between them matches, too
pub data Matched : List Sign → Type 0 where
  none : Matched []
  pair : {o c : Sign} {inner rest : List Sign} → Closes o c → Matched inner → Matched rest → Matched (o ∷ (inner ++ (c ∷ rest)))

-- Of the brackets in what is taken from a bracket on the last closes the first, and those between match.
abbrev pub GroupsMatch : Type 0
GroupsMatch =
    (o c : Sign) (s r : State) (ts : List Spot) → Closes o c → at_sign o s ≡ true → group_at o s ≡ Ok (ts, r)
    → (inner : List Sign) × (brackets ts ≡ o ∷ (inner ++ (c ∷ []))) × Matched inner
