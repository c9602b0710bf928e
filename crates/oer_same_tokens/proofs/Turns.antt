-- A turn of the lexer of modules, where that of the notation takes a step.
use Rattle.std.proofs.Common.{◌≡◌, ℕ, zero, suc, ◌+◌, ◌≤◌, ◌<◌, List, [], ◌∷◌, ◌++◌, length, take, drop, map, Bool, true, false, cond, ◌&&◌, ◌==◌, Option, Some, refl, sym, ap, ◌∙◌, arith, add-zero, length-drop}
use Rattle.std.specs.Prelude.{nat_lt}
use Rattle.std.specs.Char.{is_ascii_alphabetic, is_ascii_digit}
use Rattle.std.proofs.lemmas.Bool.Decides.{nat_tests}
use Rattle.oer_lexer.specs.Characters.{is_letter_or_digit, is_first_digit, starts, starts_with, starts_with_two, hyphen, quote, double_quote, star, slash}
use Rattle.oer_lexer.specs.Characters as own_characters
use Rattle.oer_lexer.specs.FallsInto.{sign_text}
use Rattle.oer_lexer.specs.Lexing as own
use Rattle.oer_lexer.specs.Token as own_tokens
use Rattle.oer_lexer.specs.declared.lengths.Digit.TheVariants.{Decimal}
use Rattle.oer_lexer.specs.declared.token.Sign.{Sign}
use Rattle.oer_lexer.specs.declared.token.Sign.TheVariants.{OpenBrace, CloseBrace, OpenParenthesis, CloseParenthesis, OpenBracket, CloseBracket, Comma, Range, Ellipsis, Assign}
use Rattle.oer_lexer.proofs.Chars.{digit_no_hyphen, digit_no_slash, digit_no_letter, letter_no_hyphen, letter_no_slash}
use Rattle.oer_module_lexer.specs.Lexing as modules
use Rattle.oer_module_lexer.specs.Token.{Token, number, sign, token_by}
use Rattle.oer_module_lexer.specs.declared.lexing.Step.TheVariants as module_step
use Rattle.oer_module_lexer.specs.declared.token.Kind.TheVariants as kind
use Rattle.oer_module_lexer.specs.declared.token.Sign.TheVariants as signs
use Rattle.oer_same_tokens.specs.Same.{same_sign, has_odd_space}
use Rattle.oer_same_tokens.proofs.Lengths.{decimal_run, line_same, space_same, NoPoint, no_tail}

-- ---- what the lexer of modules reads

-- it reads these tokens of the bytes, from any place on and with fuel enough
abbrev pub IsLexed : List ℕ → List Token → Type 0
IsLexed bs ms = (n at : ℕ) → length bs ≤ n → (map (λ s. s.token) (modules.lex_from n at bs).spots ≡ ms) × ((modules.lex_from n at bs).complete ≡ true)

pub over_lexed : IsLexed [] []
unfolding modules.lex_from modules.front_at modules.step_at
over_lexed zero at h = (refl, refl)
over_lexed (suc n) at h = (refl, refl)

-- what is cut off is some of it
pub record IsSome (k : ℕ) (bs : List ℕ) : Type 0 where
  pub some : 0 < k
  pub within : k ≤ length bs

pub skipped : (k : ℕ) (bs : List ℕ) (ms : List Token) → IsSome k bs → modules.step_at bs ≡ module_step.Skip k → IsLexed (drop k bs) ms → IsLexed bs ms
unfolding modules.lex_from modules.front_at
skipped k bs ms c e more zero at h = let some = c.some in let within = c.within in absurd (omega arith)
skipped k bs ms c e more (suc n) at h =
    let some = c.some in
    let size = length-drop k bs in
    rw e (more n (at + k) (omega arith))

pub signed : (s : _) (bs : List ℕ) (ms : List Token) → IsSome (modules.sign_len s) bs → modules.step_at bs ≡ module_step.Sign s
    → IsLexed (drop (modules.sign_len s) bs) ms → IsLexed bs (sign s ∷ ms)
unfolding modules.lex_from modules.front_at
signed s bs ms c e more zero at h = let some = c.some in let within = c.within in absurd (omega arith)
signed s bs ms c e more (suc n) at h =
    let some = c.some in
    let size = length-drop (modules.sign_len s) bs in
    let r = more n (at + modules.sign_len s) (omega arith) in
    rw e (ap (λ l. sign s ∷ l) r.0, r.1)

pub took : (d : _) (k : ℕ) (bs : List ℕ) (ms : List Token) → IsSome k bs → modules.step_at bs ≡ module_step.Take d k → IsLexed (drop k bs) ms
    → IsLexed bs (token_by d (take k bs) ∷ ms)
unfolding modules.lex_from modules.front_at
took d k bs ms c e more zero at h = let some = c.some in let within = c.within in absurd (omega arith)
took d k bs ms c e more (suc n) at h =
    let some = c.some in
    let size = length-drop k bs in
    let r = more n (at + k) (omega arith) in
    rw e (ap (λ l. token_by d (take k bs) ∷ l) r.0, r.1)

-- ---- what follows a token

-- a longer sign of modules would be read, if this follows the token
abbrev pub longer : own_tokens.Token → List ℕ → Bool
longer (own_tokens.sign OpenBracket) rest = starts_with 91 rest
longer (own_tokens.sign CloseBracket) rest = starts_with 93 rest
longer t rest = false

-- what may follow a token
pub record Follows (t : own_tokens.Token) (rest : List ℕ) : Type 0 where
  pub alone : NoPoint rest
  pub short : longer t rest ≡ false

-- ---- numbers

abbrev pub Leads : ℕ → List ℕ → Type 0
Leads n bs = nat_lt 1 n && starts_with 48 bs ≡ false

number_step_is : (n : ℕ) (bs : List ℕ) → starts is_letter_or_digit (drop n bs) ≡ false → NoPoint (drop n bs) → Leads n bs
    → modules.number_step n bs ≡ module_step.Take kind.Number n
number_step_is n bs clear alone lead = rw (no_tail (drop n bs) clear alone, add-zero n, clear, lead) refl

digit_no_space : (c : ℕ) → is_ascii_digit c ≡ true → modules.is_space c ≡ false
digit_no_space c h = grind (arith, nat_tests)

digit_no_octet : (c : ℕ) → is_ascii_digit c ≡ true → c == 194 ≡ false
digit_no_octet c h = grind (arith, nat_tests)

digit_at : (c : ℕ) (cs : List ℕ) → is_ascii_digit c ≡ true → modules.step_at (c ∷ cs) ≡ modules.number_step (suc (own.digits_len Decimal cs)) (c ∷ cs)
unfolding modules.step_at modules.token_step modules.run_len
digit_at c cs h = rw (digit_no_space c h, digit_no_octet c h, digit_no_hyphen c h, digit_no_slash c h, digit_no_letter c h, h, decimal_run cs) refl

pub number_lexed : (c : ℕ) (cs : List ℕ) (n : ℕ) (ms : List Token) → is_ascii_digit c ≡ true → n ≡ suc (own.digits_len Decimal cs) → n ≤ length (c ∷ cs)
    → starts is_letter_or_digit (drop n (c ∷ cs)) ≡ false → NoPoint (drop n (c ∷ cs)) → Leads n (c ∷ cs)
    → IsLexed (drop n (c ∷ cs)) ms → IsLexed (c ∷ cs) (number (take n (c ∷ cs)) ∷ ms)
number_lexed c cs n ms h e fits clear alone lead more =
    took kind.Number n (c ∷ cs) ms (record { some = omega arith; within = fits })
    (digit_at c cs h ∙ ap (λ k. modules.number_step k (c ∷ cs)) (sym e) ∙ number_step_is n (c ∷ cs) clear alone lead) more

pub hyphen_at : (d : ℕ) (ds : List ℕ) → is_ascii_digit d ≡ true → modules.step_at (hyphen ∷ d ∷ ds) ≡ module_step.Sign signs.Hyphen
unfolding modules.step_at modules.token_step modules.single
hyphen_at d ds h = rw (digit_no_hyphen d h) refl

-- ---- what stands at the front

letter_no_octet : (c : ℕ) → is_ascii_alphabetic c ≡ true → c == 194 ≡ false
letter_no_octet c h = grind (arith, nat_tests)

letter_no_space : (c : ℕ) → is_ascii_alphabetic c ≡ true → modules.is_space c ≡ false
letter_no_space c h = grind (arith, nat_tests)

pub space_at : (c : ℕ) (cs : List ℕ) → own_characters.is_space c ≡ true → modules.step_at (c ∷ cs) ≡ module_step.Skip 1
unfolding modules.step_at
space_at c cs h = rw (space_same c h) refl

pub line_at : (cs : List ℕ) → has_odd_space cs ≡ false → modules.step_at (hyphen ∷ hyphen ∷ cs) ≡ module_step.Skip (2 + own.line_len cs)
unfolding modules.step_at
line_at cs h = rw (line_same cs h) refl

pub block_at : (cs : List ℕ) → modules.step_at (slash ∷ star ∷ cs) ≡ modules.block_step (own.block_len cs 0)
unfolding modules.step_at
block_at cs = refl

pub word_at : (c : ℕ) (cs : List ℕ) → is_ascii_alphabetic c ≡ true → modules.step_at (c ∷ cs) ≡ module_step.Take kind.Word (1 + own.word_len cs)
unfolding modules.step_at modules.token_step
word_at c cs h = rw (letter_no_space c h, letter_no_octet c h, letter_no_hyphen c h, letter_no_slash c h, h) refl

pub quote_at : (cs : List ℕ) → modules.step_at (quote ∷ cs) ≡ modules.quote_step cs
unfolding modules.step_at modules.token_step
quote_at cs = refl

pub text_at : (cs : List ℕ) → modules.step_at (double_quote ∷ cs) ≡ modules.text_step (modules.text_len cs)
unfolding modules.step_at modules.token_step
text_at cs = refl

range_by : (rest : List ℕ) (b : Bool) → starts_with 46 rest ≡ b → ◌≡◌ {A = Option Sign} (cond b (Some Ellipsis) (Some Range)) (Some Range) → b ≡ false
range_by rest true e h = absurd (cc)
range_by rest false e h = refl

pub sign_steps : (s : Sign) (rest : List ℕ) → own.sign_at (sign_text s ++ rest) ≡ Some s → longer (own_tokens.sign s) rest ≡ false
    → modules.step_at (sign_text s ++ rest) ≡ module_step.Sign (same_sign s)
unfolding modules.step_at modules.token_step modules.single own.sign_at
sign_steps OpenBrace rest h e = refl
sign_steps CloseBrace rest h e = refl
sign_steps OpenParenthesis rest h e = refl
sign_steps CloseParenthesis rest h e = refl
sign_steps OpenBracket rest h e = rw e refl
sign_steps CloseBracket rest h e = rw e refl
sign_steps Comma rest h e = refl
sign_steps Range rest h e = rw (range_by rest (starts_with 46 rest) refl h) refl
sign_steps Ellipsis rest h e = refl
sign_steps Assign rest h e = refl

pub size_same : (s : Sign) → modules.sign_len (same_sign s) ≡ own.sign_len s
size_same OpenBrace = refl
size_same CloseBrace = refl
size_same OpenParenthesis = refl
size_same CloseParenthesis = refl
size_same OpenBracket = refl
size_same CloseBracket = refl
size_same Comma = refl
size_same Range = refl
size_same Ellipsis = refl
size_same Assign = refl
