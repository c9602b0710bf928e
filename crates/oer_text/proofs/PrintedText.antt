-- The spaced text of tokens falls into just these tokens.
use Rattle.std.proofs.Common.{◌≡◌, ℕ, ◌≤◌, List, [], ◌∷◌, ◌++◌, length, Bool, true, false, cond, ◌==◌, ◌&&◌, ◌||◌, ◌⊎◌, inl, inr, ⊎_elim, refl, sym, ap, subst, ◌∙◌, append_assoc, length-append, arith}
use Rattle.std.specs.Char.{is_ascii_alphabetic, is_ascii_digit, is_ascii_hexdigit}
use Rattle.std.proofs.lemmas.Bool.{eqb-true, and_parts}
use Rattle.oer_lexer.specs.Characters.{is_letter_or_digit, is_first_digit, is_bit, starts, hyphen, quote, double_quote}
use Rattle.oer_lexer.specs.FallsInto.{FallsInto, nothing_left, space, token, IsToken, word_token, number_token, bits_token, digits_token, text_token, sign_token, IsTail, tail_end, tail_char, tail_hyphen, IsWord, a_word, IsRun, run_end, run_char, IsNumeral, nought, positive, negative, IsQuoted, quote_end, quote_char, quote_twice, sign_text, is_number}
use Rattle.oer_lexer.specs.Token.{Token, word, number, bits, digits, text, sign}
use Rattle.oer_lexer.specs.declared.token.Sign.{Sign}
use Rattle.oer_lexer.specs.declared.token.Sign.TheVariants.{OpenBrace, CloseBrace, OpenParenthesis, CloseParenthesis, OpenBracket, CloseBracket, Comma, Range, Ellipsis, Assign}
use Rattle.oer_printer.specs.Printing.{is_apart, is_plain, space_if, spaced, behind, token_text}

-- a sign that nothing behind it makes longer
abbrev pub is_single : Sign → Bool
is_single OpenBrace = true
is_single CloseBrace = true
is_single OpenParenthesis = true
is_single CloseParenthesis = true
is_single OpenBracket = true
is_single CloseBracket = true
is_single Comma = true
is_single Range = false
is_single Ellipsis = true
is_single Assign = false

-- each token is spelt by its text, and behind each range sign stands a word or number
pub data AreTokens : List Token → Type 0 where
  no_tokens : AreTokens []
  plain : {t : Token} {ts : List Token} → is_plain t ≡ true → IsToken t (token_text t) → AreTokens ts → AreTokens (t ∷ ts)
  single : {s : Sign} {ts : List Token} → is_single s ≡ true → AreTokens ts → AreTokens (sign s ∷ ts)
  ranged : {u : Token} {ts : List Token} → is_plain u ≡ true → AreTokens (u ∷ ts) → AreTokens (sign Range ∷ u ∷ ts)

pub both : {xs ys : List Token} → AreTokens xs → AreTokens ys → AreTokens (xs ++ ys)
both no_tokens b = b
both (plain p i a) b = plain p i (both a b)
both (single s a) b = single s (both a b)
both (ranged p a) b = ranged p (both a b)

-- ---- characters

-- may stand in a word or number
abbrev goes_on : ℕ → Bool
goes_on c = is_letter_or_digit c || c == hyphen

-- would make a word, number or text longer
abbrev lengthens : ℕ → Bool
lengthens c = goes_on c || c == double_quote

letter_goes : (c : ℕ) → is_ascii_alphabetic c ≡ true → goes_on c ≡ true
letter_goes c h = rw h refl

some_goes : (c : ℕ) → is_letter_or_digit c ≡ true → goes_on c ≡ true
some_goes c h = rw h refl

digit_goes : (c : ℕ) → is_ascii_digit c ≡ true → goes_on c ≡ true
digit_goes c h = by_letter (is_ascii_alphabetic c) refl
  where
    by_letter : (b : Bool) → is_ascii_alphabetic c ≡ b → goes_on c ≡ true
    by_letter true e = rw e refl
    by_letter false e = rw (e, h) refl

first_digit : (c : ℕ) → is_first_digit c ≡ true → is_ascii_digit c ≡ true
first_digit c h = (and_parts (is_ascii_digit c) _ h).0

digits_go : {w : List ℕ} → IsRun is_ascii_digit w → IsRun goes_on w
digits_go run_end = run_end
digits_go (run_char {c} {cs} h r) = run_char (digit_goes c h) (digits_go r)

tail_goes : {w : List ℕ} → IsTail w → IsRun goes_on w
tail_goes tail_end = run_end
tail_goes (tail_char {c} {cs} h r) = run_char (some_goes c h) (tail_goes r)
tail_goes (tail_hyphen {c} {cs} h r) = run_char refl (run_char (some_goes c h) (tail_goes r))

word_goes : {w : List ℕ} → IsWord w → IsRun goes_on w
word_goes (a_word {c} {cs} h r) = run_char (letter_goes c h) (tail_goes r)

numeral_goes : {w : List ℕ} → IsNumeral w → IsRun goes_on w
numeral_goes nought = run_char refl run_end
numeral_goes (positive {c} {cs} h r) = run_char (digit_goes c (first_digit c h)) (digits_go r)
numeral_goes (negative {c} {cs} h r) = run_char refl (run_char (digit_goes c (first_digit c h)) (digits_go r))

-- ---- the kind of a token, by its first character

abbrev kind_by : ℕ → ℕ
kind_by c = cond (goes_on c) 0 (cond (c == quote) 1 (cond (c == double_quote) 2 3))

abbrev kind_of : List ℕ → ℕ
kind_of [] = 4
kind_of (c ∷ cs) = kind_by c

abbrev token_kind : Token → ℕ
token_kind (word w) = 0
token_kind (number w) = 0
token_kind (bits w) = 1
token_kind (digits w) = 1
token_kind (text w) = 2
token_kind (sign s) = 3

sign_kind : (s : Sign) (more : List ℕ) → kind_of (sign_text s ++ more) ≡ 3
sign_kind OpenBrace more = refl
sign_kind CloseBrace more = refl
sign_kind OpenParenthesis more = refl
sign_kind CloseParenthesis more = refl
sign_kind OpenBracket more = refl
sign_kind CloseBracket more = refl
sign_kind Comma more = refl
sign_kind Range more = refl
sign_kind Ellipsis more = refl
sign_kind Assign more = refl

kind_is : {t : Token} {w : List ℕ} → IsToken t w → (more : List ℕ) → kind_of (w ++ more) ≡ token_kind t
kind_is (word_token (a_word {c} {cs} h r)) more = rw (letter_goes c h) refl
kind_is (number_token nought) more = refl
kind_is (number_token (positive {c} {cs} h r)) more = rw (digit_goes c (first_digit c h)) refl
kind_is (number_token (negative {c} {cs} h r)) more = refl
kind_is (bits_token r) more = refl
kind_is (digits_token r) more = refl
kind_is (text_token q) more = refl
kind_is (sign_token s) more = sign_kind s more

same_kind : {t u : Token} {v w : List ℕ} (rest more : List ℕ) → IsToken t w → IsToken u v → w ++ rest ≡ v ++ more → token_kind t ≡ token_kind u
same_kind rest more i j e = sym (kind_is i rest) ∙ ap kind_of e ∙ kind_is j more

-- ---- no token is longer

head_is : {x y : ℕ} {xs ys : List ℕ} → x ∷ xs ≡ y ∷ ys → x ≡ y
head_is e = cc

tail_is : {x y : ℕ} {xs ys : List ℕ} → x ∷ xs ≡ y ∷ ys → xs ≡ ys
tail_is e = cc

starts_same : (p : ℕ → Bool) {xs ys : List ℕ} → xs ≡ ys → starts p xs ≡ starts p ys
starts_same p e = ap (starts p) e

run_longest : (w rest : List ℕ) {v : List ℕ} (more : List ℕ) → starts goes_on rest ≡ false → IsRun goes_on v → w ++ rest ≡ v ++ more → length v ≤ length w
run_longest w rest more s run_end e = omega arith
run_longest [] rest more s (run_char {c} {cs} h r) e = let k = starts_same goes_on e in absurd (cc)
run_longest (x ∷ w) rest more s (run_char {c} {cs} h r) e = let l = run_longest w rest more s r (tail_is e) in omega arith

-- runs up to a quote are the same
quote_longest : {p q : ℕ → Bool} {w v : List ℕ} (rest more : List ℕ) → p quote ≡ false → q quote ≡ false → IsRun p w → IsRun q v → w ++ quote ∷ rest ≡ v ++ quote ∷ more → length v ≤ length w
quote_longest rest more np nq r run_end e = omega arith
quote_longest {q = q} rest more np nq run_end (run_char {c} h r) e = let k : q quote ≡ true = subst (λ x. q x ≡ true) (sym (head_is e)) h in absurd (cc)
quote_longest rest more np nq (run_char g r) (run_char h s) e = let l = quote_longest rest more np nq r s (tail_is e) in omega arith

-- what follows the opening quote of a text
text_longest : {w v : List ℕ} (rest more : List ℕ) → starts lengthens rest ≡ false → IsQuoted w → IsQuoted v → w ++ rest ≡ v ++ more → length v ≤ length w
text_longest rest more s quote_end quote_end e = omega arith
text_longest rest more s quote_end (quote_char g n q) e = absurd (n (sym (head_is e)))
text_longest rest more s quote_end (quote_twice q) e = let k = starts_same lengthens (tail_is e) in absurd (cc)
text_longest rest more s (quote_char g n q) quote_end e = absurd (n (head_is e))
text_longest rest more s (quote_char g n q) (quote_char h m r) e = let l = text_longest rest more s q r (tail_is e) in omega arith
text_longest rest more s (quote_char g n q) (quote_twice r) e = absurd (n (head_is e))
text_longest rest more s (quote_twice q) quote_end e = omega arith
text_longest rest more s (quote_twice q) (quote_char h m r) e = absurd (m (sym (head_is e)))
text_longest rest more s (quote_twice q) (quote_twice r) e = let l = text_longest rest more s q r (tail_is (tail_is e)) in omega arith

-- behind a quoted token
quoted_longest : {p q : ℕ → Bool} (w v : List ℕ) (x y : ℕ) (rest more : List ℕ) → p quote ≡ false → q quote ≡ false → IsRun p w → IsRun q v
    → (quote ∷ (w ++ quote ∷ x ∷ [])) ++ rest ≡ (quote ∷ (v ++ quote ∷ y ∷ [])) ++ more → length (quote ∷ (v ++ quote ∷ y ∷ [])) ≤ length (quote ∷ (w ++ quote ∷ x ∷ []))
quoted_longest w v x y rest more np nq r s e =
    let a = append_assoc w (quote ∷ x ∷ []) rest in
    let b = append_assoc v (quote ∷ y ∷ []) more in
    let l = quote_longest (x ∷ rest) (y ∷ more) np nq r s (sym a ∙ tail_is e ∙ b) in
    let m = length-append w (quote ∷ x ∷ []) in
    let n = length-append v (quote ∷ y ∷ []) in
    omega arith

goes_not : (rest : List ℕ) → starts lengthens rest ≡ false → starts goes_on rest ≡ false
goes_not [] s = refl
goes_not (c ∷ cs) s = by_test (goes_on c) refl
  where
    by_test : (b : Bool) → goes_on c ≡ b → goes_on c ≡ false
    by_test true e = absurd (let k : lengthens c ≡ true = rw e refl in cc)
    by_test false e = e

other_kind : {A : Type 0} {t u : Token} {v w : List ℕ} (rest more : List ℕ) → IsToken t w → IsToken u v → w ++ rest ≡ v ++ more → (token_kind t ≡ token_kind u → ⊥) → A
other_kind rest more i j e n = absurd (n (same_kind rest more i j e))

plain_longest : {t u : Token} {w v : List ℕ} (rest more : List ℕ) → is_plain t ≡ true → starts lengthens rest ≡ false → IsToken t w → IsToken u v → w ++ rest ≡ v ++ more → length v ≤ length w
plain_longest rest more p s (word_token {w} i) (word_token j) e = run_longest w rest more (goes_not rest s) (word_goes j) e
plain_longest rest more p s (word_token {w} i) (number_token j) e = run_longest w rest more (goes_not rest s) (numeral_goes j) e
plain_longest rest more p s (word_token i) (bits_token j) e = other_kind rest more (word_token i) (bits_token j) e (λ k. absurd (cc))
plain_longest rest more p s (word_token i) (digits_token j) e = other_kind rest more (word_token i) (digits_token j) e (λ k. absurd (cc))
plain_longest rest more p s (word_token i) (text_token j) e = other_kind rest more (word_token i) (text_token j) e (λ k. absurd (cc))
plain_longest rest more p s (word_token i) (sign_token j) e = other_kind rest more (word_token i) (sign_token j) e (λ k. absurd (cc))
plain_longest rest more p s (number_token {w} i) (word_token j) e = run_longest w rest more (goes_not rest s) (word_goes j) e
plain_longest rest more p s (number_token {w} i) (number_token j) e = run_longest w rest more (goes_not rest s) (numeral_goes j) e
plain_longest rest more p s (number_token i) (bits_token j) e = other_kind rest more (number_token i) (bits_token j) e (λ k. absurd (cc))
plain_longest rest more p s (number_token i) (digits_token j) e = other_kind rest more (number_token i) (digits_token j) e (λ k. absurd (cc))
plain_longest rest more p s (number_token i) (text_token j) e = other_kind rest more (number_token i) (text_token j) e (λ k. absurd (cc))
plain_longest rest more p s (number_token i) (sign_token j) e = other_kind rest more (number_token i) (sign_token j) e (λ k. absurd (cc))
plain_longest rest more p s (bits_token i) (word_token j) e = other_kind rest more (bits_token i) (word_token j) e (λ k. absurd (cc))
plain_longest rest more p s (bits_token i) (number_token j) e = other_kind rest more (bits_token i) (number_token j) e (λ k. absurd (cc))
plain_longest rest more p s (bits_token {w = w} i) (bits_token {w = v} j) e = quoted_longest {p = is_bit} {q = is_bit} w v 66 66 rest more refl refl i j e
plain_longest rest more p s (bits_token {w = w} i) (digits_token {w = v} j) e = quoted_longest {p = is_bit} {q = is_ascii_hexdigit} w v 66 72 rest more refl refl i j e
plain_longest rest more p s (bits_token i) (text_token j) e = other_kind rest more (bits_token i) (text_token j) e (λ k. absurd (cc))
plain_longest rest more p s (bits_token i) (sign_token j) e = other_kind rest more (bits_token i) (sign_token j) e (λ k. absurd (cc))
plain_longest rest more p s (digits_token i) (word_token j) e = other_kind rest more (digits_token i) (word_token j) e (λ k. absurd (cc))
plain_longest rest more p s (digits_token i) (number_token j) e = other_kind rest more (digits_token i) (number_token j) e (λ k. absurd (cc))
plain_longest rest more p s (digits_token {w = w} i) (bits_token {w = v} j) e = quoted_longest {p = is_ascii_hexdigit} {q = is_bit} w v 72 66 rest more refl refl i j e
plain_longest rest more p s (digits_token {w = w} i) (digits_token {w = v} j) e = quoted_longest {p = is_ascii_hexdigit} {q = is_ascii_hexdigit} w v 72 72 rest more refl refl i j e
plain_longest rest more p s (digits_token i) (text_token j) e = other_kind rest more (digits_token i) (text_token j) e (λ k. absurd (cc))
plain_longest rest more p s (digits_token i) (sign_token j) e = other_kind rest more (digits_token i) (sign_token j) e (λ k. absurd (cc))
plain_longest rest more p s (text_token i) (word_token j) e = other_kind rest more (text_token i) (word_token j) e (λ k. absurd (cc))
plain_longest rest more p s (text_token i) (number_token j) e = other_kind rest more (text_token i) (number_token j) e (λ k. absurd (cc))
plain_longest rest more p s (text_token i) (bits_token j) e = other_kind rest more (text_token i) (bits_token j) e (λ k. absurd (cc))
plain_longest rest more p s (text_token i) (digits_token j) e = other_kind rest more (text_token i) (digits_token j) e (λ k. absurd (cc))
plain_longest rest more p s (text_token i) (text_token j) e = let l = text_longest rest more s i j (tail_is e) in omega arith
plain_longest rest more p s (text_token i) (sign_token j) e = other_kind rest more (text_token i) (sign_token j) e (λ k. absurd (cc))
plain_longest rest more p s (sign_token i) j e = absurd (cc)

-- ---- signs

at_most_three : (s : Sign) → length (sign_text s) ≤ 3
at_most_three OpenBrace = omega arith
at_most_three CloseBrace = omega arith
at_most_three OpenParenthesis = omega arith
at_most_three CloseParenthesis = omega arith
at_most_three OpenBracket = omega arith
at_most_three CloseBracket = omega arith
at_most_three Comma = omega arith
at_most_three Range = omega arith
at_most_three Ellipsis = omega arith
at_most_three Assign = omega arith

abbrev is_dot : ℕ → Bool
is_dot c = c == 46

abbrev is_long : ℕ → Bool
is_long c = c == 46 || c == 58

one_or_long : (s : Sign) (more : List ℕ) → (length (sign_text s) ≤ 1) ⊎ (starts is_long (sign_text s ++ more) ≡ true)
one_or_long OpenBrace more = inl (omega arith)
one_or_long CloseBrace more = inl (omega arith)
one_or_long OpenParenthesis more = inl (omega arith)
one_or_long CloseParenthesis more = inl (omega arith)
one_or_long OpenBracket more = inl (omega arith)
one_or_long CloseBracket more = inl (omega arith)
one_or_long Comma more = inl (omega arith)
one_or_long Range more = inr refl
one_or_long Ellipsis more = inr refl
one_or_long Assign more = inr refl

by_first : (s : Sign) {w : List ℕ} (more : List ℕ) (c : ℕ) → is_long c ≡ false → c ∷ w ≡ sign_text s ++ more → length (sign_text s) ≤ 1
by_first s more c n e = ⊎_elim (λ l. l) (λ h. let k = starts_same is_long e in absurd (cc)) (one_or_long s more)

single_longest : (t s : Sign) (rest more : List ℕ) → is_single t ≡ true → sign_text t ++ rest ≡ sign_text s ++ more → length (sign_text s) ≤ length (sign_text t)
single_longest OpenBrace s rest more i e = by_first s more 123 refl e
single_longest CloseBrace s rest more i e = by_first s more 125 refl e
single_longest OpenParenthesis s rest more i e = by_first s more 40 refl e
single_longest CloseParenthesis s rest more i e = by_first s more 41 refl e
single_longest OpenBracket s rest more i e = by_first s more 91 refl e
single_longest CloseBracket s rest more i e = by_first s more 93 refl e
single_longest Comma s rest more i e = by_first s more 44 refl e
single_longest Range s rest more i e = absurd (cc)
single_longest Ellipsis s rest more i e = at_most_three s
single_longest Assign s rest more i e = absurd (cc)

range_longest : (s : Sign) (rest more : List ℕ) → starts is_dot rest ≡ false → sign_text Range ++ rest ≡ sign_text s ++ more → length (sign_text s) ≤ 2
range_longest OpenBrace rest more n e = omega arith
range_longest CloseBrace rest more n e = omega arith
range_longest OpenParenthesis rest more n e = omega arith
range_longest CloseParenthesis rest more n e = omega arith
range_longest OpenBracket rest more n e = omega arith
range_longest CloseBracket rest more n e = omega arith
range_longest Comma rest more n e = omega arith
range_longest Range rest more n e = omega arith
range_longest Ellipsis rest more n e = let k = starts_same is_dot (tail_is (tail_is e)) in absurd (cc)
range_longest Assign rest more n e = let k = starts_same is_dot e in absurd (cc)

sign_longest : (t : Sign) {u : Token} {v : List ℕ} (rest more : List ℕ) → ((s : Sign) → sign_text t ++ rest ≡ sign_text s ++ more → length (sign_text s) ≤ length (sign_text t)) → IsToken u v → sign_text t ++ rest ≡ v ++ more → length v ≤ length (sign_text t)
sign_longest t rest more f (word_token j) e = other_kind rest more (sign_token t) (word_token j) e (λ k. absurd (cc))
sign_longest t rest more f (number_token j) e = other_kind rest more (sign_token t) (number_token j) e (λ k. absurd (cc))
sign_longest t rest more f (bits_token j) e = other_kind rest more (sign_token t) (bits_token j) e (λ k. absurd (cc))
sign_longest t rest more f (digits_token j) e = other_kind rest more (sign_token t) (digits_token j) e (λ k. absurd (cc))
sign_longest t rest more f (text_token j) e = other_kind rest more (sign_token t) (text_token j) e (λ k. absurd (cc))
sign_longest t rest more f (sign_token s) e = f s e

-- ---- what stands behind a token

behind_sign : (b : Bool) (s : Sign) (more : List ℕ) → starts lengthens (space_if b ++ (sign_text s ++ more)) ≡ false
behind_sign true s more = refl
behind_sign false OpenBrace more = refl
behind_sign false CloseBrace more = refl
behind_sign false OpenParenthesis more = refl
behind_sign false CloseParenthesis more = refl
behind_sign false OpenBracket more = refl
behind_sign false CloseBracket more = refl
behind_sign false Comma more = refl
behind_sign false Range more = refl
behind_sign false Ellipsis more = refl
behind_sign false Assign more = refl

behind_any : (u : Token) (b : Bool) (more : List ℕ) → (is_plain u ≡ true → b ≡ true) → starts lengthens (space_if b ++ (token_text u ++ more)) ≡ false
behind_any (word w) b more h = rw (h refl) refl
behind_any (number w) b more h = rw (h refl) refl
behind_any (bits w) b more h = rw (h refl) refl
behind_any (digits w) b more h = rw (h refl) refl
behind_any (text w) b more h = rw (h refl) refl
behind_any (sign s) b more h = behind_sign b s more

plain_apart : (t u : Token) → is_plain t ≡ true → is_plain u ≡ true → is_apart t u ≡ true
unfolding is_apart
plain_apart (word w) u p q = rw q refl
plain_apart (number w) u p q = rw q refl
plain_apart (bits w) u p q = rw q refl
plain_apart (digits w) u p q = rw q refl
plain_apart (text w) u p q = rw q refl
plain_apart (sign s) u p q = absurd (cc)

stops : (t : Token) (ts : List Token) → is_plain t ≡ true → starts lengthens (behind t ts) ≡ false
stops t [] p = refl
stops t (u ∷ us) p = behind_any u (is_apart t u) (behind u us) (plain_apart t u p)

letter_not : (rest : List ℕ) → starts lengthens rest ≡ false → starts is_letter_or_digit rest ≡ false
letter_not [] s = refl
letter_not (c ∷ cs) s = by_test (is_letter_or_digit c) refl
  where
    by_test : (b : Bool) → is_letter_or_digit c ≡ b → is_letter_or_digit c ≡ false
    by_test true e = absurd (let k : lengthens c ≡ true = rw e refl in cc)
    by_test false e = e

number_stops : (t : Token) (rest : List ℕ) → starts is_letter_or_digit rest ≡ false → is_number t && starts is_letter_or_digit rest ≡ false
number_stops (word w) rest s = refl
number_stops (number w) rest s = s
number_stops (bits w) rest s = refl
number_stops (digits w) rest s = refl
number_stops (text w) rest s = refl
number_stops (sign w) rest s = refl

no_dot : (t : Token) (more : List ℕ) → is_plain t ≡ true → IsToken t (token_text t) → starts is_dot (token_text t ++ more) ≡ false
no_dot t more p i = by_kind t (token_text t ++ more) p (kind_is i more)
  where
    dot_kind : (c : ℕ) (b : Bool) → is_dot c ≡ b → (kind_by c ≡ 3 → ⊥) → is_dot c ≡ false
    dot_kind c true e n = absurd (n (ap kind_by (eqb-true c 46 e)))
    dot_kind c false e n = e

    by_first_kind : (w : List ℕ) → (kind_of w ≡ 3 → ⊥) → starts is_dot w ≡ false
    by_first_kind [] n = refl
    by_first_kind (c ∷ cs) n = dot_kind c (is_dot c) refl n

    by_kind : (t : Token) (w : List ℕ) → is_plain t ≡ true → kind_of w ≡ token_kind t → starts is_dot w ≡ false
    by_kind (word v) w p e = by_first_kind w (λ k. absurd (cc))
    by_kind (number v) w p e = by_first_kind w (λ k. absurd (cc))
    by_kind (bits v) w p e = by_first_kind w (λ k. absurd (cc))
    by_kind (digits v) w p e = by_first_kind w (λ k. absurd (cc))
    by_kind (text v) w p e = by_first_kind w (λ k. absurd (cc))
    by_kind (sign s) w p e = absurd (cc)

-- ---- the whole

first_is : {u : Token} {us : List Token} → is_plain u ≡ true → AreTokens (u ∷ us) → IsToken u (token_text u)
first_is p (plain q i a) = i
first_is p (single s a) = absurd (cc)
first_is p (ranged q a) = absurd (cc)

range_apart : (u : Token) → is_apart (sign Range) u ≡ false
unfolding is_apart
range_apart u = refl

next : (b : Bool) {w : List ℕ} {ts : List Token} → FallsInto w ts → FallsInto (space_if b ++ w) ts
next true f = space refl f
next false f = f

behind_falls : (t : Token) (ts : List Token) → FallsInto (spaced ts) ts → FallsInto (behind t ts) ts
behind_falls t [] f = nothing_left
behind_falls t (u ∷ us) f = next (is_apart t u) f

pub falls_into : {ts : List Token} → AreTokens ts → FallsInto (spaced ts) ts
falls_into no_tokens = nothing_left
falls_into (plain {t} {ts} p i a) =
    let s = stops t ts p in
    token i (λ u v more j e. plain_longest (behind t ts) more p s i j e) (number_stops t (behind t ts) (letter_not (behind t ts) s)) (behind_falls t ts (falls_into a))
falls_into (single {s} {ts} k a) = token (sign_token s) (λ u v more j e. sign_longest s (behind (sign s) ts) more (λ z f. single_longest s z (behind (sign s) ts) more k f) j e) refl (behind_falls (sign s) ts (falls_into a))
falls_into (ranged {u} {ts = us} p a) =
    let rest = behind (sign Range) (u ∷ us) in
    let n : starts is_dot (behind (sign Range) (u ∷ us)) ≡ false = rw (range_apart u) (no_dot u (behind u us) p (first_is p a)) in
    token (sign_token Range) (λ t v more j e. sign_longest Range rest more (λ z f. range_longest z rest more n f) j e) refl (behind_falls (sign Range) (u ∷ us) (falls_into a))
