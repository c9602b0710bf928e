-- A text behind another, on the next line, falls into the tokens of both.
use Rattle.std.proofs.Common.{◌≡◌, ℕ, ◌==◌, List, [], ◌∷◌, ◌++◌, Bool, true, false, ◌&&◌, ◌||◌, ◌⊎◌, inl, inr, true≢false, refl, sym, ap, subst, ◌∙◌, append_assoc, append-nil, eqb-true, arith}
use Rattle.std.specs.Prelude.{codes}
use Rattle.std.specs.Char.{is_ascii_alphabetic, is_ascii_digit, is_ascii_hexdigit}
use Rattle.std.specs.List.{list_any}
use Rattle.std.proofs.lemmas.List.Folds.{list_any-append}
use Rattle.oer_lexer.specs.Characters.{hyphen, is_bit, is_first_digit, is_letter_or_digit, slash, star, starts, starts_with}
use Rattle.oer_lexer.specs.FallsInto.{FallsInto, nothing_left, space, line_comment, block_comment, token, IsLine, text_ends, line_ends, hyphens_end, line_char, IsLongest, IsNumeral, nought, positive, negative, IsQuoted, quote_end, quote_char, quote_twice, IsRun, run_end, run_char, IsTail, tail_end, tail_char, tail_hyphen, IsToken, word_token, number_token, bits_token, digits_token, text_token, sign_token, IsWord, a_word, is_number, sign_text}
use Rattle.oer_lexer.specs.Token.{Token}
use Rattle.oer_lexer.specs.declared.token.Sign.{Sign}
use Rattle.oer_lexer.specs.declared.token.Sign.TheVariants as sg
use Rattle.oer_same_trees.proofs.Words.{both_false}

-- ---- no token has the end of a line in it

abbrev has_line_end : List ℕ → Bool
has_line_end bs = list_any (λ c. c == 10) bs

other_than : (p : ℕ → Bool) (c : ℕ) → p c ≡ true → p 10 ≡ false → (c == 10) ≡ false
other_than p c h g = by (c == 10) refl
  where
    by : (b : Bool) → (c == 10) ≡ b → b ≡ false
    by true e = absurd (true≢false (sym h ∙ ap p (eqb-true c 10 e) ∙ g))
    by false e = refl

run_free : (p : ℕ → Bool) → p 10 ≡ false → {cs : List ℕ} → IsRun p cs → has_line_end cs ≡ false
run_free p g run_end = refl
run_free p g (run_char {c} {cs} h r) = both_false (c == 10) (has_line_end cs) (other_than p c h g) (run_free p g r)

tail_free : {cs : List ℕ} → IsTail cs → has_line_end cs ≡ false
tail_free tail_end = refl
tail_free (tail_char {c} {cs} h t) = both_false (c == 10) (has_line_end cs) (other_than is_letter_or_digit c h refl) (tail_free t)
tail_free (tail_hyphen {c} {cs} h t) = both_false (c == 10) (has_line_end cs) (other_than is_letter_or_digit c h refl) (tail_free t)

word_free : {w : List ℕ} → IsWord w → has_line_end w ≡ false
word_free (a_word {c} {cs} h t) = both_false (c == 10) (has_line_end cs) (other_than is_ascii_alphabetic c h refl) (tail_free t)

numeral_free : {w : List ℕ} → IsNumeral w → has_line_end w ≡ false
numeral_free nought = refl
numeral_free (positive {c} {cs} h r) = both_false (c == 10) (has_line_end cs) (other_than is_first_digit c h refl) (run_free is_ascii_digit refl r)
numeral_free (negative {c} {cs} h r) = both_false (c == 10) (has_line_end cs) (other_than is_first_digit c h refl) (run_free is_ascii_digit refl r)

quoted_free : {w : List ℕ} → IsQuoted w → has_line_end w ≡ false
quoted_free quote_end = refl
quoted_free (quote_char {c} {cs} l n q) = both_false (c == 10) (has_line_end cs) (by (c == 10) refl) (quoted_free q)
  where
    by : (b : Bool) → (c == 10) ≡ b → b ≡ false
    by true e = absurd (let same = eqb-true c 10 e in omega arith)
    by false e = refl
quoted_free (quote_twice q) = quoted_free q

sign_free : (s : Sign) → has_line_end (sign_text s) ≡ false
sign_free sg.OpenBrace = refl
sign_free sg.CloseBrace = refl
sign_free sg.OpenParenthesis = refl
sign_free sg.CloseParenthesis = refl
sign_free sg.OpenBracket = refl
sign_free sg.CloseBracket = refl
sign_free sg.Comma = refl
sign_free sg.Range = refl
sign_free sg.Ellipsis = refl
sign_free sg.Assign = refl

token_free : {t : Token} {w : List ℕ} → IsToken t w → has_line_end w ≡ false
token_free (word_token h) = word_free h
token_free (number_token h) = numeral_free h
token_free (bits_token {w} r) = list_any-append (λ c. c == 10) w (codes "'B") ∙ both_false (has_line_end w) (has_line_end (codes "'B")) (run_free is_bit refl r) refl
token_free (digits_token {w} r) = list_any-append (λ c. c == 10) w (codes "'H") ∙ both_false (has_line_end w) (has_line_end (codes "'H")) (run_free is_ascii_hexdigit refl r) refl
token_free (text_token q) = quoted_free q
token_free (sign_token s) = sign_free s

-- each has a character
token_some : {t : Token} {w : List ℕ} → IsToken t w → w ≡ [] → ⊥
token_some (word_token (a_word h t)) e = absurd (cc)
token_some (number_token nought) e = absurd (cc)
token_some (number_token (positive h r)) e = absurd (cc)
token_some (number_token (negative h r)) e = absurd (cc)
token_some (bits_token r) e = absurd (cc)
token_some (digits_token r) e = absurd (cc)
token_some (text_token q) e = absurd (cc)
token_some (sign_token sg.OpenBrace) e = absurd (cc)
token_some (sign_token sg.CloseBrace) e = absurd (cc)
token_some (sign_token sg.OpenParenthesis) e = absurd (cc)
token_some (sign_token sg.CloseParenthesis) e = absurd (cc)
token_some (sign_token sg.OpenBracket) e = absurd (cc)
token_some (sign_token sg.CloseBracket) e = absurd (cc)
token_some (sign_token sg.Comma) e = absurd (cc)
token_some (sign_token sg.Range) e = absurd (cc)
token_some (sign_token sg.Ellipsis) e = absurd (cc)
token_some (sign_token sg.Assign) e = absurd (cc)

-- ---- the front of a text, where a line ends behind it

cut : (x us v more : List ℕ) → x ++ 10 ∷ us ≡ v ++ more → has_line_end v ≡ false → (m : List ℕ) × (x ≡ v ++ m)
cut x us [] more e f = (x, refl)
cut [] us (c ∷ v) more e f = let same : 10 ≡ c = cc in absurd (true≢false (ap (λ c. (c == 10) || has_line_end v) same ∙ f))
cut (a ∷ x) us (c ∷ v) more e f =
    let same : a ≡ c = cc in
    let rest : x ++ 10 ∷ us ≡ v ++ more = cc in
    let m = cut x us v more rest (either (c == 10) (has_line_end v) f) in
    (m.0, cc)
  where
    either : (b d : Bool) → b || d ≡ false → d ≡ false
    either true d h = absurd (cc)
    either false d h = h

longest_behind : (w rest us : List ℕ) → IsLongest w rest → IsLongest w (rest ++ 10 ∷ us)
longest_behind w rest us l = λ t v more k e. let m = cut (w ++ rest) us v more (append_assoc w rest (10 ∷ us) ∙ e) (token_free k) in l t v m.0 k m.1

starts_behind : (p : ℕ → Bool) (x us : List ℕ) → p 10 ≡ false → starts p (x ++ 10 ∷ us) ≡ starts p x
starts_behind p [] us h = h
starts_behind p (c ∷ x) us h = refl

-- a comment up to the text's end goes on to the line's
line_behind : {w rest : List ℕ} → IsLine w rest → (us : List ℕ) → IsLine w (rest ++ 10 ∷ us) ⊎ ((rest ≡ []) × IsLine (w ++ 10 ∷ []) us)
line_behind text_ends us = inr (refl, line_ends refl)
line_behind (line_ends h) us = inl (line_ends h)
line_behind hyphens_end us = inl hyphens_end
line_behind (line_char {c} {cs} {rest} n s l) us = elim (line_behind l us) [
  | inl m ↦ inl (line_char n (ap (λ b. c == hyphen && b) (ap (starts_with hyphen) (sym (append_assoc cs rest (10 ∷ us))) ∙ starts_behind
      (λ c. c == hyphen) (cs ++ rest) us refl) ∙ s) m)
  | inr m ↦ inr (
    m.0,
    line_char n (ap (λ b. c == hyphen && b) (ap (starts_with hyphen) (append_assoc cs (10 ∷ []) us) ∙ starts_behind (λ c. c == hyphen) cs us refl
        ∙ ap (starts_with hyphen) (sym (append-nil cs) ∙ ap (λ l. cs ++ l) (sym m.0))) ∙ s) m.1,
  )
]

-- ---- two texts

none_fall : {bs : List ℕ} {ts : List Token} → FallsInto bs ts → bs ≡ [] → ts ≡ []
none_fall nothing_left e = refl
none_fall (space h f) e = absurd (cc)
none_fall (line_comment l f) e = absurd (cc)
none_fall (block_comment b f) e = absurd (cc)
none_fall (token {w} {rest} k l n f) e = absurd (token_some k (front w rest e))
  where
    front : (a b : List ℕ) → a ++ b ≡ [] → a ≡ []
    front [] b h = refl
    front (x ∷ a) b h = absurd (cc)

comment_behind : (w rest cs : List ℕ) (ts us : List Token) → FallsInto rest ts → FallsInto cs us → FallsInto (rest ++ 10 ∷ cs) (ts ++ us)
    → IsLine w (rest ++ 10 ∷ cs) ⊎ ((rest ≡ []) × IsLine (w ++ 10 ∷ []) cs) → FallsInto (hyphen ∷ hyphen ∷ ((w ++ rest) ++ 10 ∷ cs)) (ts ++ us)
comment_behind w rest cs ts us f g more (inl l) = subst (λ l. FallsInto (hyphen ∷ hyphen ∷ l) (ts ++ us)) (sym (append_assoc w rest (10 ∷ cs))) (line_comment l more)
comment_behind w rest cs ts us f g more (inr l) =
    let same : (w ++ 10 ∷ []) ++ cs ≡ (w ++ rest) ++ 10 ∷ cs =
    append_assoc w (10 ∷ []) cs ∙ ap (λ l. l ++ 10 ∷ cs) (sym (append-nil w) ∙ ap (λ l. w ++ l) (sym l.0)) in
    subst (λ l. FallsInto (hyphen ∷ hyphen ∷ l) (ts ++ us)) same (line_comment l.1 (subst (λ l. FallsInto cs (l ++ us)) (sym (none_fall f l.0)) g))

pub falls_behind : {bs : List ℕ} {ts : List Token} → FallsInto bs ts → (cs : List ℕ) (us : List Token) → FallsInto cs us → FallsInto (bs ++ 10 ∷ cs) (ts ++ us)
falls_behind nothing_left cs us g = space refl g
falls_behind (space h f) cs us g = space h (falls_behind f cs us g)
falls_behind (line_comment {w} {rest} {ts} l f) cs us g = comment_behind w rest cs ts us f g (falls_behind f cs us g) (line_behind l cs)
falls_behind (block_comment {w} {rest} {ts} b f) cs us g =
    subst (λ l. FallsInto (slash ∷ star ∷ l) (ts ++ us)) (sym (append_assoc w rest (10 ∷ cs))) (block_comment b (falls_behind f cs us g))
falls_behind (token {t} {w} {rest} {ts} k l n f) cs us g =
    subst (λ l. FallsInto l (t ∷ (ts ++ us))) (sym (append_assoc w rest (10 ∷ cs)))
    (token k (longest_behind w rest cs l) (ap (λ b. is_number t && b) (starts_behind is_letter_or_digit rest cs refl) ∙ n) (falls_behind f cs us g))
