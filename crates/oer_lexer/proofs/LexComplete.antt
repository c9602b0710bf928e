-- What falls into tokens is read as these.
use Rattle.std.proofs.Common.{◌≡◌, ℕ, zero, suc, ◌+◌, ◌≤◌, ◌<◌, List, [], ◌∷◌, ◌++◌, length, take, drop, Bool, true, false, not, cond, ◌&&◌, ◌==◌, Option, Some, None, refl, sym, ap, subst, ◌∙◌, arith, length-take-le, take-append-drop, length-append, append_assoc}
use Rattle.std.specs.Prelude.{codes}
use Rattle.std.proofs.lemmas.Bool.{eqb-true, and_parts, or_parts, not-true}
use Rattle.std.proofs.lemmas.Bool.Decides.{nat_tests}
use Rattle.std.specs.Char.{is_ascii_alphabetic, is_ascii_digit, is_ascii_hexdigit}
use Rattle.oer_lexer.specs.Characters.{is_space, is_line_end, is_letter_or_digit, is_bit, starts, starts_with, starts_with_two, hyphen, quote, double_quote, star, slash}
use Rattle.oer_lexer.specs.FallsInto.{IsTail, tail_end, tail_char, tail_hyphen, IsWord, a_word, IsRun, run_end, run_char, IsNumeral, nought, positive, negative, IsQuoted, quote_end, quote_char, quote_twice, sign_text, IsToken, word_token, number_token, bits_token, digits_token, text_token, sign_token, IsLine, text_ends, line_ends as line_ended, hyphens_end, line_char, IsBlock, block_end, block_char, block_inside, IsLongest, is_number, FallsInto, nothing_left, space, line_comment, block_comment, token}
use Rattle.oer_lexer.specs.Laws.{LexComplete}
use Rattle.oer_lexer.specs.Lexing.{plus, word_goes_on, word_len, is_digit, digits_len, line_len, block_len, text_len, number_len, sign_at, sign_len, number_step, quote_step, block_step, text_step, step_at, front_by, front_at, Lexed, go, lex_from}
use Rattle.oer_lexer.specs.Token.{Token, word, number, bits, digits, text, sign, tokens}
use Rattle.oer_lexer.specs.declared.lengths.Digit.{Digit}
use Rattle.oer_lexer.specs.declared.lengths.Digit.TheVariants.{Decimal, Hexadecimal, Binary}
use Rattle.oer_lexer.specs.declared.token.Kind.TheVariants.{Word, Number, Bits, Digits, Text}
use Rattle.oer_lexer.specs.declared.lexing.Step.{Step}
use Rattle.oer_lexer.specs.declared.lexing.Step.TheVariants as step
use Rattle.oer_lexer.specs.declared.token.Sign.{Sign}
use Rattle.oer_lexer.specs.declared.token.Sign.TheVariants.{OpenBrace, CloseBrace, OpenParenthesis, CloseParenthesis, OpenBracket, CloseBracket, Comma, Range, Ellipsis, Assign}
use Rattle.oer_lexer.proofs.ByteSteps.{plus_plus}
use Rattle.oer_lexer.proofs.Chars.{letter_no_space, letter_no_hyphen, letter_no_slash, digit_no_space, digit_no_hyphen, digit_no_slash, digit_no_letter, digit_no_quote, digit_no_double_quote, bit_is_hexadecimal, high_enough, no_quote}

-- ---- words

pub tail_len : {cs : List ℕ} → IsTail cs → (rest : List ℕ) → length cs ≤ word_len (cs ++ rest)
unfolding word_len
tail_len tail_end rest = omega arith
tail_len (tail_char {c} {cs} h d) rest = let e = tail_len d rest in rw h (omega arith)
tail_len (tail_hyphen {c} {cs} h d) rest = let e = tail_len d rest in rw (h) (omega arith)

pub word_step : {w : List ℕ} → IsWord w → (rest : List ℕ) → (n : ℕ) × (step_at (w ++ rest) ≡ step.Take Word n) × (length w ≤ n)
unfolding step_at
word_step (a_word {c} {cs} h d) rest = (
  1 + word_len (cs ++ rest),
  rw (letter_no_space c h, letter_no_hyphen c h, letter_no_slash c h, h) refl,
  let e = tail_len d rest in omega arith,
)

take_one : (c : ℕ) (a b : Bool) → is_letter_or_digit c ≡ a → c == hyphen ≡ b → IsTail (take (word_len (c ∷ [])) (c ∷ []))
unfolding word_len
take_one c true b h e = rw h (tail_char h tail_end)
take_one c false true h e = rw (h, e) tail_end
take_one c false false h e = rw (h, e) tail_end

take_two : (c d : ℕ) (ds : List ℕ) (a g : Bool) → is_letter_or_digit c ≡ a → c == hyphen && is_letter_or_digit d ≡ g → IsTail (take (word_len (d ∷ ds)) (d ∷ ds)) → IsTail (take (word_len ds) ds)
    → IsTail (take (word_len (c ∷ d ∷ ds)) (c ∷ d ∷ ds))
unfolding word_len
take_two c d ds true g ha hg one two = rw ha (tail_char ha one)
take_two c d ds false false ha hg one two = rw (ha, hg) tail_end
take_two c d ds false true ha hg one two =
    let p = and_parts (c == hyphen) (is_letter_or_digit d) hg in
    let is : c ≡ hyphen = eqb-true c hyphen p.0 in
    rw (ha, hg, p.1, is) (tail_hyphen p.1 two)

-- the front of a text that goes on as a word is the rest of one
pub word_take : (bs : List ℕ) → IsTail (take (word_len bs) bs)
unfolding word_len
word_take [] = tail_end
word_take (c ∷ []) = take_one c _ _ refl refl
word_take (c ∷ d ∷ ds) = take_two c d ds _ _ refl refl (word_take (d ∷ ds)) (word_take ds)

pub word_len_le : (bs : List ℕ) → word_len bs ≤ length bs
unfolding word_len
word_len_le [] = omega arith
word_len_le (c ∷ cs) = let e = word_len_le cs in elim (word_goes_on (c ∷ cs)) as (λ b. cond b (suc (word_len cs)) 0 ≤ length (c ∷ cs)) [ true ↦ omega arith | false ↦ omega arith ]

pub past : (w rest : List ℕ) → drop (length w) (w ++ rest) ≡ rest
past [] rest = refl
past (c ∷ w) rest = past w rest

pub front_is : (w rest : List ℕ) → take (length w) (w ++ rest) ≡ w
front_is [] rest = refl
front_is (c ∷ w) rest = ap (λ l. c ∷ l) (front_is w rest)

pub one_more : (n : ℕ) → 1 + n ≡ suc n
one_more n = omega arith

pub two_more : (k : ℕ) → 2 + k ≡ suc (suc k)
two_more k = omega arith

word_front : {w : List ℕ} → IsWord w → (rest : List ℕ) → IsLongest w rest → front_at (w ++ rest) ≡ Some (Some (word w), length w)
unfolding front_at step_at
word_front (a_word {c} {cs} h d) rest longest =
    let n = word_len (cs ++ rest) in
    let least = tail_len d rest in
    let most = longest (word (c ∷ take n (cs ++ rest))) (c ∷ take n (cs ++ rest)) (drop n (cs ++ rest)) (word_token (a_word h (word_take (cs ++ rest)))) (ap (λ l. c ∷ l) (sym (take-append-drop n (cs ++ rest)))) in
    let size = length-take-le n (cs ++ rest) (word_len_le (cs ++ rest)) in
    let same : n ≡ length cs = omega arith in
    rw (letter_no_space c h, letter_no_hyphen c h, letter_no_slash c h, h, same, one_more (length cs), front_is cs rest) refl

-- ---- digits

pub run_all : (d : Digit) (p : ℕ → Bool) → ((c : ℕ) → p c ≡ true → is_digit d c ≡ true) → {cs : List ℕ} → IsRun p cs → (rest : List ℕ) → digits_len d rest ≡ 0 → digits_len d (cs ++ rest) ≡ length cs
unfolding digits_len
run_all d p each run_end rest h = h
run_all d p each (run_char {c} {cs} e r) rest h = rw (each c e, run_all d p each r rest h) refl

no_digit_after : (rest : List ℕ) → starts is_letter_or_digit rest ≡ false → digits_len Decimal rest ≡ 0
unfolding digits_len
no_digit_after [] h = refl
no_digit_after (c ∷ cs) h = let p = or_parts (is_ascii_alphabetic c) (is_ascii_digit c) h in rw p.1 refl

quote_ends : (d : Digit) (rest : List ℕ) → digits_len d (quote ∷ rest) ≡ 0
unfolding digits_len
quote_ends Decimal rest = refl
quote_ends Hexadecimal rest = refl
quote_ends Binary rest = refl

pub suc_no_zero : (m : ℕ) → suc m == 0 ≡ false
suc_no_zero m = grind (arith, nat_tests)

number_step_suc : (m : ℕ) (bs rest : List ℕ) → drop (suc m) bs ≡ rest → starts is_letter_or_digit rest ≡ false → number_step (suc m) bs ≡ step.Take Number (suc m)
number_step_suc m bs rest e h = rw (suc_no_zero m, e, h) refl

pub numeral_step : {w : List ℕ} → IsNumeral w → (rest : List ℕ) → starts is_letter_or_digit rest ≡ false → step_at (w ++ rest) ≡ step.Take Number (length w)
unfolding step_at number_len digits_len
numeral_step nought rest h = rw h refl
numeral_step (positive {c} {cs} h d) rest clear =
    let p = and_parts (is_ascii_digit c) (not (c == 48)) h in
    let e = run_all Decimal is_ascii_digit (λ c h. h) d rest (no_digit_after rest clear) in
    rw (digit_no_space c p.0, digit_no_hyphen c p.0, digit_no_slash c p.0, digit_no_letter c p.0, digit_no_quote c p.0, digit_no_double_quote c p.0, not-true (c == 48) p.1, p.0, e) (number_step_suc (length cs) (c ∷ (cs ++ rest)) rest (past cs rest) clear)
numeral_step (negative {c} {cs} h d) rest clear =
    let p = and_parts (is_ascii_digit c) (not (c == 48)) h in
    let e = run_all Decimal is_ascii_digit (λ c h. h) d rest (no_digit_after rest clear) in
    rw (digit_no_hyphen c p.0, not-true (c == 48) p.1, p.0, e) (number_step_suc (suc (length cs)) (hyphen ∷ c ∷ (cs ++ rest)) rest (past cs rest) clear)

-- ---- digits and bits in quotes

quote_at : (c : ℕ) (rest : List ℕ) → step_at (quote ∷ rest) ≡ quote_step rest
unfolding step_at
quote_at c rest = refl

past_assoc : (w more rest : List ℕ) → drop (length w) ((w ++ more) ++ rest) ≡ more ++ rest
past_assoc w more rest = rw append_assoc (past w (more ++ rest))

pub hexadecimal_len : {w : List ℕ} → IsRun is_ascii_hexdigit w → (c : ℕ) (rest : List ℕ) → digits_len Hexadecimal ((w ++ quote ∷ c ∷ []) ++ rest) ≡ length w
hexadecimal_len {w} r c rest = rw append_assoc (run_all Hexadecimal is_ascii_hexdigit (λ c h. h) r (quote ∷ c ∷ rest) (quote_ends Hexadecimal (c ∷ rest)))

pub binary_len : {w : List ℕ} → IsRun is_bit w → (c : ℕ) (rest : List ℕ) → digits_len Binary ((w ++ quote ∷ c ∷ []) ++ rest) ≡ length w
binary_len {w} r c rest = rw append_assoc (run_all Binary is_bit (λ c h. h) r (quote ∷ c ∷ rest) (quote_ends Binary (c ∷ rest)))

bits_are_digits : {w : List ℕ} → IsRun is_bit w → IsRun is_ascii_hexdigit w
bits_are_digits run_end = run_end
bits_are_digits (run_char {c} e r) = run_char (bit_is_hexadecimal c e) (bits_are_digits r)

pub digits_step : {w : List ℕ} → IsRun is_ascii_hexdigit w → (rest : List ℕ) → step_at ((quote ∷ (w ++ codes "'H")) ++ rest) ≡ step.Take Digits (3 + length w)
digits_step {w} r rest =
    let n = hexadecimal_len r 72 rest in
    let after = past_assoc w (codes "'H") rest in
    quote_at 0 ((w ++ codes "'H") ++ rest) ∙ rw (n, after) refl

pub bits_step : {w : List ℕ} → IsRun is_bit w → (rest : List ℕ) → step_at ((quote ∷ (w ++ codes "'B")) ++ rest) ≡ step.Take Bits (3 + length w)
bits_step {w} r rest =
    let n = hexadecimal_len (bits_are_digits r) 66 rest in
    let m = binary_len r 66 rest in
    let after = past_assoc w (codes "'B") rest in
    quote_at 0 ((w ++ codes "'B") ++ rest) ∙ rw (n, after, m, after) refl

-- ---- texts in quotes

after_quote : (d : ℕ) (ds : List ℕ) (b : Bool) → d == double_quote ≡ b → (n : ℕ) × (text_len (double_quote ∷ d ∷ ds) ≡ plus n (cond b (text_len ds) (Some 0))) × (1 ≤ n)
unfolding text_len
after_quote d ds true h = (2, rw h refl, omega arith)
after_quote d ds false h = (1, rw h refl, omega arith)

first_by : (c : ℕ) (cs rest : List ℕ) → 32 ≤ c → (c ≡ double_quote → ⊥) → 0 < length cs → text_len (c ∷ (cs ++ rest)) ≡ plus 1 (text_len (cs ++ rest))
unfolding text_len
first_by c [] rest high other some = absurd (omega arith)
first_by c (d ∷ ds) rest high other some = rw (no_quote c other, high_enough c high) refl

quoted_some : {w : List ℕ} → IsQuoted w → 0 < length w
quoted_some quote_end = omega arith
quoted_some (quote_char high other q) = omega arith
quoted_some (quote_twice q) = omega arith

-- unless a second quote follows, the text ends at its closing one
pub quoted_len : {w : List ℕ} → IsQuoted w → (rest : List ℕ) → starts_with double_quote rest ≡ false → text_len (w ++ rest) ≡ Some (length w)
unfolding text_len
quoted_len quote_end [] clear = refl
quoted_len quote_end (d ∷ ds) clear = rw clear refl
quoted_len (quote_char {c} {cs} high other q) rest clear = first_by c cs rest high other (quoted_some q) ∙ ap (plus 1) (quoted_len q rest clear) ∙ ap Some (one_more (length cs))
quoted_len (quote_twice {cs} q) rest clear = ap (plus 2) (quoted_len q rest clear) ∙ ap Some (two_more (length cs))

pub plus_some : (k n : ℕ) (o : Option ℕ) → plus k o ≡ Some n → (m : ℕ) × (o ≡ Some m) × (n ≡ k + m)
plus_some k n None h = absurd (cc)
plus_some k n (Some m) h = (m, refl, cc)

end_least : (more : List ℕ) (n : ℕ) → text_len (double_quote ∷ more) ≡ Some n → 1 ≤ n
unfolding text_len
end_least [] n h = let e : 1 ≡ n = cc in omega arith
end_least (d ∷ ds) n h = let a = after_quote d ds (d == double_quote) refl in let p = plus_some a.0 n _ (sym a.1 ∙ h) in let e = p.2 in let some = a.2 in omega arith

-- a text that begins with one is taken as far at least, if it is one
pub quoted_least : {w : List ℕ} → IsQuoted w → (rest : List ℕ) (n : ℕ) → text_len (w ++ rest) ≡ Some n → length w ≤ n
unfolding text_len
quoted_least quote_end rest n h = end_least rest n h
quoted_least (quote_char {c} {cs} high other q) rest n h =
    let p = plus_some 1 n _ (sym (first_by c cs rest high other (quoted_some q)) ∙ h) in
    let e = quoted_least q rest p.0 p.1 in
    let f = p.2 in
    omega arith
quoted_least (quote_twice {cs} q) rest n h =
    let p = plus_some 2 n (text_len (cs ++ rest)) h in
    let e = quoted_least q rest p.0 p.1 in
    let f = p.2 in
    omega arith

-- two texts that follow one another at once are one
quoted_append : {v w : List ℕ} → IsQuoted v → IsQuoted w → IsQuoted (v ++ (double_quote ∷ w))
quoted_append quote_end r = quote_twice r
quoted_append (quote_char high other q) r = quote_char high other (quoted_append q r)
quoted_append (quote_twice q) r = quote_twice (quoted_append q r)

pub quote_at_text : (cs : List ℕ) → step_at (double_quote ∷ cs) ≡ text_step (text_len cs)
unfolding step_at
quote_at_text cs = refl

-- ---- signs

range_end : (rest : List ℕ) (b : Bool) → starts_with 46 rest ≡ b → IsLongest (46 ∷ 46 ∷ []) rest → b ≡ false
range_end rest false e h = refl
range_end [] true e h = sym e
range_end (c ∷ cs) true e h =
    let is : c ≡ 46 = eqb-true c 46 e in
    absurd (let le = h (sign Ellipsis) (46 ∷ 46 ∷ 46 ∷ []) cs (sign_token Ellipsis) (ap (λ x. 46 ∷ 46 ∷ x ∷ cs) is) in omega arith)

pub sign_steps : (s : Sign) (rest : List ℕ) → IsLongest (sign_text s) rest → step_at (sign_text s ++ rest) ≡ step.Sign s
unfolding step_at number_len sign_at
sign_steps OpenBrace rest h = refl
sign_steps CloseBrace rest h = refl
sign_steps OpenParenthesis rest h = refl
sign_steps CloseParenthesis rest h = refl
sign_steps OpenBracket rest h = refl
sign_steps CloseBracket rest h = refl
sign_steps Comma rest h = refl
sign_steps Range rest h = rw (range_end rest _ refl h) refl
sign_steps Ellipsis rest h = refl
sign_steps Assign rest h = refl

pub sign_size : (s : Sign) → length (sign_text s) ≡ sign_len s
sign_size OpenBrace = refl
sign_size CloseBrace = refl
sign_size OpenParenthesis = refl
sign_size CloseParenthesis = refl
sign_size OpenBracket = refl
sign_size CloseBracket = refl
sign_size Comma = refl
sign_size Range = refl
sign_size Ellipsis = refl
sign_size Assign = refl

-- ---- comments

line_end_no_hyphen : (c : ℕ) → is_line_end c ≡ true → c == hyphen ≡ false
line_end_no_hyphen c h = grind (arith, nat_tests)

line_all : {w rest : List ℕ} → IsLine w rest → line_len (w ++ rest) ≡ length w
unfolding line_len
line_all text_ends = refl
line_all (line_ended {c} e) = rw (e, line_end_no_hyphen c e) refl
line_all hyphens_end = refl
line_all (line_char e f l) = rw (e, f) (ap suc (line_all l))

block_some : {w : List ℕ} → IsBlock w → 0 < length w
block_some block_end = omega arith
block_some (block_char e f b) = omega arith
block_some (block_inside a b) = omega arith

after_block : List ℕ → ℕ → Option ℕ
after_block rest zero = Some 0
after_block rest (suc d) = block_len rest d

end_closes : (rest : List ℕ) (d : ℕ) → block_len (star ∷ slash ∷ rest) d ≡ plus 2 (after_block rest d)
unfolding block_len after_block
end_closes rest zero = refl
end_closes rest (suc d) = refl

char_counts : (c : ℕ) (cs rest : List ℕ) (d : ℕ) → starts_with_two star slash (c ∷ cs) ≡ false → starts_with_two slash star (c ∷ cs) ≡ false → 0 < length cs → block_len (c ∷ (cs ++ rest)) d ≡ plus 1 (block_len (cs ++ rest) d)
unfolding block_len
char_counts c [] rest d e f some = absurd (omega arith)
char_counts c (x ∷ cs) rest d e f some = rw (e, f) refl

inside_opens : (bs : List ℕ) (d : ℕ) → block_len (slash ∷ star ∷ bs) d ≡ plus 2 (block_len bs (suc d))
unfolding block_len
inside_opens bs d = refl

after_deep : (rest : List ℕ) (d : ℕ) → after_block rest (suc d) ≡ block_len rest d
unfolding after_block
after_deep rest d = refl

block_all : {w : List ℕ} → IsBlock w → (rest : List ℕ) (d : ℕ) → block_len (w ++ rest) d ≡ plus (length w) (after_block rest d)
block_all block_end rest d = end_closes rest d
block_all (block_char {c} {cs} e f b) rest d =
    char_counts c cs rest d e f (block_some b) ∙ ap (plus 1) (block_all b rest d) ∙ plus_plus 1 (length cs) (after_block rest d) ∙ ap (λ n. plus n (after_block rest d)) (one_more (length cs))
block_all (block_inside {inner} {outer} a b) rest d =
    let size : 2 + (length inner + length outer) ≡ suc (suc (length (inner ++ outer))) = simp length-append (omega arith) in
    ap (λ l. block_len (slash ∷ star ∷ l) d) (append_assoc inner outer rest)
    ∙ inside_opens (inner ++ (outer ++ rest)) d
    ∙ ap (plus 2) (block_all a (outer ++ rest) (suc d) ∙ ap (plus (length inner)) (after_deep (outer ++ rest) d ∙ block_all b rest d) ∙ plus_plus (length inner) (length outer) (after_block rest d))
    ∙ plus_plus 2 (length inner + length outer) (after_block rest d)
    ∙ ap (λ n. plus n (after_block rest d)) size

block_closed : {w : List ℕ} → IsBlock w → (rest : List ℕ) → block_len (w ++ rest) 0 ≡ Some (length w)
unfolding after_block
block_closed {w} b rest = let e : length w + 0 ≡ length w = omega arith in block_all b rest 0 ∙ ap Some e

-- ---- what stands at the front

pub is_text : Token → Bool
is_text (word w) = false
is_text (number w) = false
is_text (bits w) = false
is_text (digits w) = false
is_text (text w) = true
is_text (sign s) = false

pub three_more : (w : List ℕ) (c : ℕ) → 3 + length w ≡ suc (length (w ++ quote ∷ c ∷ []))
three_more w c = simp length-append (omega arith)

taken : (w rest : List ℕ) (k : ℕ) → k ≡ length w → take k (w ++ rest) ≡ w
taken w rest k e = ap (λ n. take n (w ++ rest)) e ∙ front_is w rest

took_digits : (w rest : List ℕ) (k : ℕ) → k ≡ length w → front_by (step.Take Digits k) (w ++ rest) ≡ Some (Some (digits w), length w)
took_digits w rest k e = rw (taken w rest k e) (ap (λ n. Some (Some (digits w), n)) e)

took_bits : (w rest : List ℕ) (k : ℕ) → k ≡ length w → front_by (step.Take Bits k) (w ++ rest) ≡ Some (Some (bits w), length w)
took_bits w rest k e = rw (taken w rest k e) (ap (λ n. Some (Some (bits w), n)) e)

took_text : (w rest : List ℕ) (k : ℕ) → k ≡ length w → front_by (step.Take Text k) (w ++ rest) ≡ Some (Some (text w), length w)
took_text w rest k e = rw (taken w rest k e) (ap (λ n. Some (Some (text w), n)) e)

took_number : (w rest : List ℕ) → front_by (step.Take Number (length w)) (w ++ rest) ≡ Some (Some (number w), length w)
took_number w rest = rw (front_is w rest) refl

sign_front : (s : Sign) (bs : List ℕ) → step_at bs ≡ step.Sign s → front_at bs ≡ Some (Some (sign s), length (sign_text s))
unfolding front_at
sign_front s bs e = rw (e, sign_size s) refl

front_from : (bs : List ℕ) (s : Step) → step_at bs ≡ s → front_at bs ≡ front_by s bs
unfolding front_at
front_from bs s e = ap (λ s. front_by s bs) e

pub front_complete : {t : Token} {w : List ℕ} → IsToken t w → (rest : List ℕ) → IsLongest w rest → is_number t && starts is_letter_or_digit rest ≡ false → is_text t && starts_with double_quote rest ≡ false → front_at (w ++ rest) ≡ Some (Some t, length w)
unfolding is_text
front_complete (word_token d) rest longest clear closed = word_front d rest longest
front_complete (number_token {w} d) rest longest clear closed = front_from (w ++ rest) _ (numeral_step d rest clear) ∙ took_number w rest
front_complete (bits_token {w} r) rest longest clear closed = front_from ((quote ∷ (w ++ codes "'B")) ++ rest) _ (bits_step r rest) ∙ took_bits (quote ∷ (w ++ codes "'B")) rest (3 + length w) (three_more w 66)
front_complete (digits_token {w} r) rest longest clear closed = front_from ((quote ∷ (w ++ codes "'H")) ++ rest) _ (digits_step r rest) ∙ took_digits (quote ∷ (w ++ codes "'H")) rest (3 + length w) (three_more w 72)
front_complete (text_token {w} q) rest longest clear closed =
    front_from ((double_quote ∷ w) ++ rest) _ (quote_at_text (w ++ rest) ∙ ap text_step (quoted_len q rest closed)) ∙ took_text (double_quote ∷ w) rest (1 + length w) (one_more (length w))
front_complete (sign_token s) rest longest clear closed = sign_front s (sign_text s ++ rest) (sign_steps s rest longest)

nonempty : {t : Token} {w : List ℕ} → IsToken t w → 0 < length w
nonempty (word_token (a_word h d)) = omega arith
nonempty (number_token nought) = omega arith
nonempty (number_token (positive h d)) = omega arith
nonempty (number_token (negative h d)) = omega arith
nonempty (bits_token r) = omega arith
nonempty (digits_token r) = omega arith
nonempty (text_token q) = omega arith
nonempty (sign_token OpenBrace) = omega arith
nonempty (sign_token CloseBrace) = omega arith
nonempty (sign_token OpenParenthesis) = omega arith
nonempty (sign_token CloseParenthesis) = omega arith
nonempty (sign_token OpenBracket) = omega arith
nonempty (sign_token CloseBracket) = omega arith
nonempty (sign_token Comma) = omega arith
nonempty (sign_token Range) = omega arith
nonempty (sign_token Ellipsis) = omega arith
nonempty (sign_token Assign) = omega arith

-- ---- no text follows a text at once

first_is : (c x : ℕ) (cs more : List ℕ) → c ∷ cs ≡ x ∷ more → c ≡ x
first_is c x cs more h = cc

rest_is : (c x : ℕ) (cs more : List ℕ) → c ∷ cs ≡ x ∷ more → cs ≡ more
rest_is c x cs more h = cc

-- a token that begins with a double quote is a text
token_quoted : {t : Token} {w : List ℕ} → IsToken t w → (rest more : List ℕ) → w ++ rest ≡ double_quote ∷ more → (q : List ℕ) × IsQuoted q × (more ≡ q ++ rest)
token_quoted (word_token (a_word {c} {cs} h d)) rest more e = let is = first_is c double_quote (cs ++ rest) more e in absurd (let no : is_ascii_alphabetic 34 ≡ true = rw is at h in cc)
token_quoted (number_token nought) rest more e = absurd (let is = first_is 48 double_quote rest more e in omega arith)
token_quoted (number_token (positive {c} {cs} h d)) rest more e = let is = first_is c double_quote (cs ++ rest) more e in absurd (let no : is_ascii_digit 34 && not (34 == 48) ≡ true = rw is at h in cc)
token_quoted (number_token (negative {c} {cs} h d)) rest more e = absurd (let is = first_is hyphen double_quote (c ∷ (cs ++ rest)) more e in omega arith)
token_quoted (bits_token {w} r) rest more e = absurd (let is = first_is quote double_quote ((w ++ codes "'B") ++ rest) more e in omega arith)
token_quoted (digits_token {w} r) rest more e = absurd (let is = first_is quote double_quote ((w ++ codes "'H") ++ rest) more e in omega arith)
token_quoted (text_token {w} q) rest more e = (w, q, sym (rest_is double_quote double_quote (w ++ rest) more e))
token_quoted (sign_token OpenBrace) rest more e = absurd (let is = first_is 123 double_quote rest more e in omega arith)
token_quoted (sign_token CloseBrace) rest more e = absurd (let is = first_is 125 double_quote rest more e in omega arith)
token_quoted (sign_token OpenParenthesis) rest more e = absurd (let is = first_is 40 double_quote rest more e in omega arith)
token_quoted (sign_token CloseParenthesis) rest more e = absurd (let is = first_is 41 double_quote rest more e in omega arith)
token_quoted (sign_token OpenBracket) rest more e = absurd (let is = first_is 91 double_quote rest more e in omega arith)
token_quoted (sign_token CloseBracket) rest more e = absurd (let is = first_is 93 double_quote rest more e in omega arith)
token_quoted (sign_token Comma) rest more e = absurd (let is = first_is 44 double_quote rest more e in omega arith)
token_quoted (sign_token Range) rest more e = absurd (let is = first_is 46 double_quote (46 ∷ rest) more e in omega arith)
token_quoted (sign_token Ellipsis) rest more e = absurd (let is = first_is 46 double_quote (46 ∷ 46 ∷ rest) more e in omega arith)
token_quoted (sign_token Assign) rest more e = absurd (let is = first_is 58 double_quote (58 ∷ 61 ∷ rest) more e in omega arith)

abbrev Quoted : List ℕ → Type 0
Quoted more = (q : List ℕ) × (rest : List ℕ) × IsQuoted q × (more ≡ q ++ rest)

falls_quoted : {bs : List ℕ} {ts : List Token} → FallsInto bs ts → (more : List ℕ) → bs ≡ double_quote ∷ more → Quoted more
falls_quoted nothing_left more e = absurd (cc)
falls_quoted (space {c} {cs} h d) more e = let is = first_is c double_quote cs more e in absurd (let no : is_space 34 ≡ true = rw is at h in cc)
falls_quoted (line_comment {w} {rest} l d) more e = absurd (let is = first_is hyphen double_quote (hyphen ∷ (w ++ rest)) more e in omega arith)
falls_quoted (block_comment {w} {rest} b d) more e = absurd (let is = first_is slash double_quote (star ∷ (w ++ rest)) more e in omega arith)
falls_quoted (token {t} {w} {rest} k l c d) more e = let q = token_quoted k rest more e in (q.0, rest, q.1, q.2)

no_text_follows : {w rest : List ℕ} {ts : List Token} → IsQuoted w → IsLongest (double_quote ∷ w) rest → FallsInto rest ts → (b : Bool) → starts_with double_quote rest ≡ b → b ≡ false
no_text_follows q longest d false e = refl
no_text_follows {rest = []} q longest d true e = sym e
no_text_follows {w = w} {rest = c ∷ cs} q longest d true e =
    let is : c ≡ double_quote = eqb-true c double_quote e in
    let f = falls_quoted d cs (ap (λ x. x ∷ cs) is) in
    let whole : (double_quote ∷ w) ++ (c ∷ cs) ≡ (double_quote ∷ (w ++ (double_quote ∷ f.0))) ++ f.1 = ap (λ x. (double_quote ∷ w) ++ (x ∷ cs)) is ∙ ap (λ x. (double_quote ∷ w) ++ (double_quote ∷ x)) f.3 ∙ sym (append_assoc (double_quote ∷ w) (double_quote ∷ f.0) f.1) in
    let most = longest (text (double_quote ∷ (w ++ (double_quote ∷ f.0)))) (double_quote ∷ (w ++ (double_quote ∷ f.0))) f.1 (text_token (quoted_append q f.2)) whole in
    let size = length-append w (double_quote ∷ f.0) in
    absurd (omega arith)

text_closed : {t : Token} {w : List ℕ} → IsToken t w → (rest : List ℕ) (ts : List Token) → IsLongest w rest → FallsInto rest ts → is_text t && starts_with double_quote rest ≡ false
unfolding is_text
text_closed (word_token d) rest ts l f = refl
text_closed (number_token d) rest ts l f = refl
text_closed (bits_token d) rest ts l f = refl
text_closed (digits_token d) rest ts l f = refl
text_closed (text_token q) rest ts l f = no_text_follows q l f (starts_with double_quote rest) refl
text_closed (sign_token s) rest ts l f = refl

-- ---- the whole text

pub space_front : (c : ℕ) (cs : List ℕ) → is_space c ≡ true → front_at (c ∷ cs) ≡ Some (None, 1)
unfolding front_at step_at
space_front c cs h = rw h refl

pub line_front : (cs : List ℕ) → front_at (hyphen ∷ hyphen ∷ cs) ≡ Some (None, suc (suc (line_len cs)))
unfolding front_at step_at
line_front cs = ap (λ k. Some (None, k)) (two_more (line_len cs))

pub block_front : (cs : List ℕ) → front_at (slash ∷ star ∷ cs) ≡ front_by (block_step (block_len cs 0)) (slash ∷ star ∷ cs)
unfolding front_at step_at
block_front cs = refl

no_front : (n at : ℕ) → (tokens (lex_from (suc n) at []).spots ≡ []) × ((lex_from (suc n) at []).complete ≡ true)
unfolding lex_from front_at step_at
no_front n at = (refl, refl)

-- what is read of the bytes, from any place on and with fuel enough
abbrev IsLexed : List ℕ → List Token → Type 0
IsLexed bs ts = (n at : ℕ) → length bs ≤ n → (tokens (lex_from n at bs).spots ≡ ts) × ((lex_from n at bs).complete ≡ true)

token_from : (t : Token) (w rest : List ℕ) (ts : List Token) → IsToken t w → front_at (w ++ rest) ≡ Some (Some t, length w) → IsLexed rest ts → IsLexed (w ++ rest) (t ∷ ts)
unfolding lex_from
token_from t w rest ts k e ih zero at h = let size = length-append w rest in let some = nonempty k in absurd (omega arith)
token_from t w rest ts k e ih (suc n) at h =
    let size = length-append w rest in
    let some = nonempty k in
    let r = ih n (at + length w) (omega arith) in
    rw (e, past w rest) (ap (λ l. t ∷ l) r.0, r.1)

abbrev Gives : List Token → Lexed → Type 0
Gives ts l = (tokens l.spots ≡ ts) × (l.complete ≡ true)

skip_from : (v rest : List ℕ) (k : ℕ) (ts : List Token) → drop k v ≡ rest → length rest < length v → front_at v ≡ Some (None, k) → IsLexed rest ts → IsLexed v ts
unfolding lex_from
skip_from v rest k ts d size e ih zero at h = absurd (omega arith)
skip_from v rest k ts d size e ih (suc n) at h = subst (λ o. Gives ts (go (lex_from n) at v o)) (sym e) (subst (λ r. Gives ts (lex_from n (at + k) r)) (sym d) (ih n (at + k) (omega arith)))

falls_from : {bs : List ℕ} {ts : List Token} → FallsInto bs ts → IsLexed bs ts
unfolding lex_from
falls_from nothing_left zero at h = (refl, refl)
falls_from nothing_left (suc n) at h = no_front n at
falls_from (space {c} {cs} {ts} e d) n at h = skip_from (c ∷ cs) cs 1 ts refl (omega arith) (space_front c cs e) (falls_from d) n at h
falls_from (line_comment {w} {rest} {ts} l d) n at h =
    skip_from (hyphen ∷ hyphen ∷ (w ++ rest)) rest (suc (suc (length w))) ts (past w rest) (simp length-append (omega arith)) (line_front (w ++ rest) ∙ ap (λ k. Some (None, suc (suc k))) (line_all l)) (falls_from d) n at h
falls_from (block_comment {w} {rest} {ts} b d) n at h =
    skip_from (slash ∷ star ∷ (w ++ rest)) rest (suc (suc (length w))) ts (past w rest) (simp length-append (omega arith))
    (block_front (w ++ rest) ∙ rw (block_closed b rest) (ap (λ k. Some (None, k)) (two_more (length w)))) (falls_from d) n at h
falls_from (token {t} {w} {rest} {ts} k l c d) n at h = token_from t w rest ts k (front_complete k rest l c (text_closed k rest ts l d)) (falls_from d) n at h

pub falls_lexed : LexComplete
falls_lexed bs ts h = falls_from h (length bs) 0 (omega arith)
