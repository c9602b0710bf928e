-- How a text falls into tokens: the longest that fits is taken; white space and comments separate tokens.
use Rattle.std.specs.Prelude.{◌≡◌, ℕ, ◌≤◌, List, [], ◌∷◌, ◌++◌, length, Bool, true, false, ◌&&◌, codes}
use Rattle.std.specs.Char.{is_ascii_alphabetic, is_ascii_digit, is_ascii_hexdigit}
use Rattle.oer_lexer.specs.Characters.{is_space, is_line_end, is_letter_or_digit, is_first_digit, is_bit, starts, starts_with_two, hyphen, quote, double_quote, star, slash}
use Rattle.oer_lexer.specs.Token.{Token, word, number, bits, digits, text, sign}
use Rattle.oer_lexer.specs.declared.token.Sign.{Sign}
use Rattle.oer_lexer.specs.declared.token.Sign.TheVariants.{OpenBrace, CloseBrace, OpenParenthesis, CloseParenthesis, OpenBracket, CloseBracket, Comma, Range, Ellipsis, Assign}

-- letters, digits and hyphens; no hyphen last, no two together
pub data IsTail : List ℕ → Type 0 where
  tail_end : IsTail []
  tail_char : {c : ℕ} {cs : List ℕ} → is_letter_or_digit c ≡ true → IsTail cs → IsTail (c ∷ cs)
  tail_hyphen : {c : ℕ} {cs : List ℕ} → is_letter_or_digit c ≡ true → IsTail cs → IsTail (hyphen ∷ c ∷ cs)

-- a letter, then such a tail
pub data IsWord : List ℕ → Type 0 where
  a_word : {c : ℕ} {cs : List ℕ} → is_ascii_alphabetic c ≡ true → IsTail cs → IsWord (c ∷ cs)

-- any number of characters for which p holds
pub data IsRun (p : ℕ → Bool) : List ℕ → Type 0 where
  run_end : IsRun p []
  run_char : {c : ℕ} {cs : List ℕ} → p c ≡ true → IsRun p cs → IsRun p (c ∷ cs)

-- 0, or a digit 1 to 9 and digits, which may have a hyphen in front
pub data IsNumeral : List ℕ → Type 0 where
  nought : IsNumeral (48 ∷ [])
  positive : {c : ℕ} {cs : List ℕ} → is_first_digit c ≡ true → IsRun is_ascii_digit cs → IsNumeral (c ∷ cs)
  negative : {c : ℕ} {cs : List ℕ} → is_first_digit c ≡ true → IsRun is_ascii_digit cs → IsNumeral (hyphen ∷ c ∷ cs)

-- what follows the opening quote of a text, up to the closing one: characters of U+0020 and above, each quote twice
pub data IsQuoted : List ℕ → Type 0 where
  quote_end : IsQuoted (double_quote ∷ [])
  quote_char : {c : ℕ} {cs : List ℕ} → 32 ≤ c → (c ≡ double_quote → ⊥) → IsQuoted cs → IsQuoted (c ∷ cs)
  quote_twice : {cs : List ℕ} → IsQuoted cs → IsQuoted (double_quote ∷ double_quote ∷ cs)

abbrev pub sign_text : Sign → List ℕ
sign_text OpenBrace = codes "{"
sign_text CloseBrace = codes "}"
sign_text OpenParenthesis = codes "("
sign_text CloseParenthesis = codes ")"
sign_text OpenBracket = codes "["
sign_text CloseBracket = codes "]"
sign_text Comma = codes ","
sign_text Range = codes ".."
sign_text Ellipsis = codes "..."
sign_text Assign = codes "::="

-- the text is this token
pub data IsToken : Token → List ℕ → Type 0 where
  word_token : {w : List ℕ} → IsWord w → IsToken (word w) w
  number_token : {w : List ℕ} → IsNumeral w → IsToken (number w) w
  bits_token : {w : List ℕ} → IsRun is_bit w → IsToken (bits (quote ∷ (w ++ codes "'B"))) (quote ∷ (w ++ codes "'B"))
  digits_token : {w : List ℕ} → IsRun is_ascii_hexdigit w → IsToken (digits (quote ∷ (w ++ codes "'H"))) (quote ∷ (w ++ codes "'H"))
  text_token : {w : List ℕ} → IsQuoted w → IsToken (text (double_quote ∷ w)) (double_quote ∷ w)
  sign_token : (s : Sign) → IsToken (sign s) (sign_text s)

-- what follows the two hyphens of a comment that goes on to the text's end or up to a line's end or two hyphens; the
-- second list is what follows it
pub data IsLine : List ℕ → List ℕ → Type 0 where
  text_ends : IsLine [] []
  line_ends : {c : ℕ} {rest : List ℕ} → is_line_end c ≡ true → IsLine (c ∷ []) rest
  hyphens_end : {rest : List ℕ} → IsLine (hyphen ∷ hyphen ∷ []) rest
  line_char : {c : ℕ} {cs rest : List ℕ} → is_line_end c ≡ false → starts_with_two hyphen hyphen (c ∷ (cs ++ rest)) ≡ false
      → IsLine cs rest → IsLine (c ∷ cs) rest

-- what follows the opening of a comment between slashes and stars, with its end; such comments nest
pub data IsBlock : List ℕ → Type 0 where
  block_end : IsBlock (star ∷ slash ∷ [])
  block_char : {c : ℕ} {cs : List ℕ} → starts_with_two star slash (c ∷ cs) ≡ false → starts_with_two slash star (c ∷ cs) ≡ false
      → IsBlock cs → IsBlock (c ∷ cs)
  block_inside : {inner outer : List ℕ} → IsBlock inner → IsBlock outer → IsBlock (slash ∷ star ∷ (inner ++ outer))

-- no longer front of the text is a token
abbrev pub IsLongest : List ℕ → List ℕ → Type 0
IsLongest w rest = (t : Token) (v more : List ℕ) → IsToken t v → w ++ rest ≡ v ++ more → length v ≤ length w

abbrev pub is_number : Token → Bool
is_number (word w) = false
is_number (number w) = true
is_number (bits w) = false
is_number (digits w) = false
is_number (text w) = false
is_number (sign s) = false

-- the text falls into these tokens
pub data FallsInto : List ℕ → List Token → Type 0 where
  nothing_left : FallsInto [] []
  space : {c : ℕ} {cs : List ℕ} {ts : List Token} → is_space c ≡ true → FallsInto cs ts → FallsInto (c ∷ cs) ts
  line_comment : {w rest : List ℕ} {ts : List Token} → IsLine w rest → FallsInto rest ts → FallsInto (hyphen ∷ hyphen ∷ (w ++ rest)) ts
  block_comment : {w rest : List ℕ} {ts : List Token} → IsBlock w → FallsInto rest ts → FallsInto (slash ∷ star ∷ (w ++ rest)) ts
  -- a number isn't followed at once by a letter or digit
  token : {t : Token} {w rest : List ℕ} {ts : List Token} → IsToken t w → IsLongest w rest
      → is_number t && starts is_letter_or_digit rest ≡ false → FallsInto rest ts → FallsInto (w ++ rest) (t ∷ ts)
