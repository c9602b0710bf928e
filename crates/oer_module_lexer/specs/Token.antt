-- Tokens, and the words that stand for them.
use Rattle.std.specs.Prelude.{ℕ, List, map}
use Rattle.oer_module_lexer.specs.declared.token.Kind.{Kind}
use Rattle.oer_module_lexer.specs.declared.token.Kind.TheVariants.{Word, Field, Number, Real, Bits, Digits, Text}
use Rattle.oer_module_lexer.specs.declared.token.Sign.{Sign}
use Rattle.oer_module_lexer.specs.declared.token.Token.{Token as RawToken}
use Rattle.oer_module_lexer.specs.declared.token.Token.TheVariants as raw
use Rattle.oer_module_lexer.specs.declared.token.Spot.{Spot as RawSpot}

-- all but a sign hold the text that they are, quotes included
pub data Token : Type 0 where
  word field number real bits digits text : List ℕ → Token
  sign : Sign → Token

-- a token and the byte at which it begins
pub record Spot : Type 0 where
  pub at : ℕ
  pub token : Token

abbrev pub token_of : RawToken → Token
token_of (raw.Word s) = word s.now
token_of (raw.Field s) = field s.now
token_of (raw.Number s) = number s.now
token_of (raw.Real s) = real s.now
token_of (raw.Bits s) = bits s.now
token_of (raw.Digits s) = digits s.now
token_of (raw.Text s) = text s.now
token_of (raw.Sign s) = sign s

abbrev pub spot_of : RawSpot → Spot
spot_of s = record { at = s.at; token = token_of s.token }

abbrev pub spots_of : List RawSpot → List Spot
spots_of ss = map spot_of ss

-- the token of a kind that this text is
abbrev pub token_by : Kind → List ℕ → Token
token_by Word w = word w
token_by Field w = field w
token_by Number w = number w
token_by Real w = real w
token_by Bits w = bits w
token_by Digits w = digits w
token_by Text w = text w
