-- What is read falls so.
use Rattle.std.proofs.Common.{◌≡◌, ℕ, zero, suc, ◌+◌, ◌≤◌, List, [], ◌∷◌, ◌++◌, length, take, drop, Bool, true, false, not, cond, ◌&&◌, ◌||◌, ◌==◌, ◌⊎◌, inl, inr, Option, Some, None, refl, sym, ap, subst, ◌∙◌, arith, take-append-drop, length-append, length-take, append_assoc}
use Rattle.std.specs.Prelude.{codes, nat_lt}
use Rattle.std.proofs.lemmas.Bool.{eqb-true, and_parts, or_parts, not-true}
use Rattle.std.proofs.lemmas.Bool.Decides.{nat_tests}
use Rattle.std.specs.Char.{is_ascii_alphabetic, is_ascii_digit}
use Rattle.oer_lexer.specs.Characters.{is_space, is_line_end, is_letter_or_digit, is_first_digit, starts, starts_with, starts_with_two, hyphen, quote, double_quote, star, slash}
use Rattle.oer_lexer.specs.FallsInto.{a_word, IsRun, run_end, run_char, IsNumeral, nought, positive, negative, IsQuoted, quote_end, quote_char, quote_twice, sign_text, IsToken, word_token, number_token, bits_token, digits_token, text_token, sign_token, IsLine, text_ends, line_ends as line_ended, hyphens_end, line_char, IsBlock, block_end, block_char, block_inside, IsLongest, is_number, FallsInto, nothing_left, space, line_comment, block_comment, token}
use Rattle.oer_lexer.specs.Laws.{LexSound}
use Rattle.oer_lexer.specs.Lexing.{word_len, is_digit, digits_len, line_ends, line_len, close, block_len, text_len, number_len, dots, colons, sign_at, sign_len, sign_step, number_step, quote_step, block_step, text_step, step_at, front_by, front_at, go, lex_from}
use Rattle.oer_lexer.specs.Token.{Token, word, text, sign, tokens, token_by}
use Rattle.oer_lexer.specs.declared.lengths.Digit.{Digit}
use Rattle.oer_lexer.specs.declared.lengths.Digit.TheVariants.{Decimal, Hexadecimal, Binary}
use Rattle.oer_lexer.specs.declared.token.Kind.{Kind}
use Rattle.oer_lexer.specs.declared.token.Kind.TheVariants.{Word, Number, Bits, Digits, Text}
use Rattle.oer_lexer.specs.declared.lexing.Step.{Step}
use Rattle.oer_lexer.specs.declared.lexing.Step.TheVariants as step
use Rattle.oer_lexer.specs.declared.token.Sign.{Sign}
use Rattle.oer_lexer.specs.declared.token.Sign.TheVariants.{OpenBrace, CloseBrace, OpenParenthesis, CloseParenthesis, OpenBracket, CloseBracket, Comma, Range, Ellipsis, Assign}
use Rattle.oer_lexer.proofs.Chars.{digit_no_space, digit_no_hyphen, digit_no_slash, digit_no_letter, digit_no_quote, digit_no_double_quote, not_low, is_no_quote}
use Rattle.oer_lexer.proofs.LexComplete.{word_step, word_take, suc_no_zero, two_more, one_more, digits_step, bits_step, quote_at_text, quoted_least, plus_some, three_more}

pub chosen : {A : Type 0} (b : Bool) (x y z : A) → cond b x y ≡ z → ((b ≡ true) × (x ≡ z)) ⊎ ((b ≡ false) × (y ≡ z))
chosen true x y z h = inl (refl, h)
chosen false x y z h = inr (refl, h)

-- ---- no front of the text that is a token is longer than what is taken

run_more : {cs : List ℕ} → IsRun is_ascii_digit cs → (rest : List ℕ) → length cs ≤ digits_len Decimal (cs ++ rest)
unfolding digits_len
run_more run_end rest = omega arith
run_more (run_char {c} {cs} e d) rest = let ih = run_more d rest in rw e (omega arith)

-- a number of some length or nothing is taken
numeral_max : {w : List ℕ} → IsNumeral w → (more : List ℕ) → (m : ℕ) × (step_at (w ++ more) ≡ number_step (suc m) (w ++ more)) × (length w ≤ suc m)
unfolding step_at number_len digits_len
numeral_max nought more = (0, refl, omega arith)
numeral_max (positive {c} {cs} h d) more =
    let p = and_parts (is_ascii_digit c) (not (c == 48)) h in
    let e = run_more d more in
    (digits_len Decimal (cs ++ more), rw (digit_no_space c p.0, digit_no_hyphen c p.0, digit_no_slash c p.0, digit_no_letter c p.0, digit_no_quote c p.0, digit_no_double_quote c p.0, not-true (c == 48) p.1, p.0) refl, omega arith)
numeral_max (negative {c} {cs} h d) more =
    let p = and_parts (is_ascii_digit c) (not (c == 48)) h in
    let e = run_more d more in
    (suc (digits_len Decimal (cs ++ more)), rw (digit_no_hyphen c p.0, not-true (c == 48) p.1, p.0) refl, omega arith)

abbrev Taken : Type 0
Taken = Option (Option Token × ℕ)

count : Taken → ℕ
count None = 0
count (Some p) = p.1

number_or_bad : (b : Bool) (m : ℕ) (bs : List ℕ) (t : Token) (k : ℕ) → ◌≡◌ {A = Taken} (front_by (cond b step.Bad (step.Take Number (suc m))) bs) (Some (Some t, k)) → k ≡ suc m
unfolding count
number_or_bad true m bs t k h = absurd (cc)
number_or_bad false m bs t k h = sym (ap count h)

number_taken : (m : ℕ) (bs : List ℕ) (t : Token) (k : ℕ) → ◌≡◌ {A = Taken} (front_by (number_step (suc m) bs) bs) (Some (Some t, k)) → k ≡ suc m
number_taken m bs t k h = number_or_bad (starts is_letter_or_digit (drop (suc m) bs)) m bs t k (rw (suc_no_zero m) at h)

dots_max : (b : Bool) (more : List ℕ) (t : Token) (k : ℕ) → ◌≡◌ {A = Taken} (front_by (sign_step (cond b (Some Ellipsis) (Some Range))) (46 ∷ 46 ∷ more)) (Some (Some t, k)) → 2 ≤ k
unfolding count
dots_max true more t k h = let e : 3 ≡ k = ap count h in omega arith
dots_max false more t k h = let e : 2 ≡ k = ap count h in omega arith

took : (kind : Kind) (n : ℕ) (bs : List ℕ) (t : Token) (k : ℕ) → ◌≡◌ {A = Taken} (front_by (step.Take kind n) bs) (Some (Some t, k)) → k ≡ n
unfolding count
took kind n bs t k h = sym (ap count h)

text_max : (o : Option ℕ) (n : ℕ) (bs : List ℕ) (t : Token) (k : ℕ) → ((m : ℕ) → o ≡ Some m → n ≤ m) → ◌≡◌ {A = Taken} (front_by (text_step o) bs) (Some (Some t, k)) → suc n ≤ k
text_max None n bs t k least h = absurd (cc)
text_max (Some m) n bs t k least h = let e = took Text (1 + m) bs t k h in let f = least m refl in omega arith

sign_max : (s : Sign) (more : List ℕ) (t : Token) (k : ℕ) → front_at (sign_text s ++ more) ≡ Some (Some t, k) → length (sign_text s) ≤ k
unfolding front_at step_at number_len sign_at count
sign_max OpenBrace more t k h = let e : 1 ≡ k = ap count h in omega arith
sign_max CloseBrace more t k h = let e : 1 ≡ k = ap count h in omega arith
sign_max OpenParenthesis more t k h = let e : 1 ≡ k = ap count h in omega arith
sign_max CloseParenthesis more t k h = let e : 1 ≡ k = ap count h in omega arith
sign_max OpenBracket more t k h = let e : 1 ≡ k = ap count h in omega arith
sign_max CloseBracket more t k h = let e : 1 ≡ k = ap count h in omega arith
sign_max Comma more t k h = let e : 1 ≡ k = ap count h in omega arith
sign_max Range more t k h = dots_max (starts_with 46 more) more t k h
sign_max Ellipsis more t k h = let e : 3 ≡ k = ap count h in omega arith
sign_max Assign more t k h = let e : 3 ≡ k = ap count h in omega arith

-- no token that a text begins with is longer than the one that is taken
pub front_max : {u : Token} {v : List ℕ} → IsToken u v → (more : List ℕ) (t : Token) (k : ℕ) → front_at (v ++ more) ≡ Some (Some t, k) → length v ≤ k
unfolding front_at
front_max (word_token d) more t k h = let s = word_step d more in let e : k ≡ s.0 = took Word s.0 _ t k (rw s.1 at h) in omega (arith, s.2)
front_max (number_token {w} d) more t k h = let s = numeral_max d more in let e = number_taken s.0 (w ++ more) t k (rw s.1 at h) in omega (arith, s.2)
front_max (bits_token {w} r) more t k h = let e = took Bits (3 + length w) ((quote ∷ (w ++ codes "'B")) ++ more) t k (rw (bits_step r more) at h) in let f = three_more w 66 in omega arith
front_max (digits_token {w} r) more t k h = let e = took Digits (3 + length w) ((quote ∷ (w ++ codes "'H")) ++ more) t k (rw (digits_step r more) at h) in let f = three_more w 72 in omega arith
front_max (text_token {w} q) more t k h = text_max (text_len (w ++ more)) (length w) ((double_quote ∷ w) ++ more) t k (λ m e. quoted_least q more m e) (rw (quote_at_text (w ++ more)) at h)
front_max (sign_token s) more t k h = sign_max s more t k h

-- ---- what is taken is a token

run_by : (d : Digit) (c : ℕ) (cs : List ℕ) (b : Bool) → is_digit d c ≡ b → IsRun (is_digit d) (take (digits_len d cs) cs) → IsRun (is_digit d) (take (digits_len d (c ∷ cs)) (c ∷ cs))
unfolding digits_len
run_by d c cs true e ih = rw e (run_char e ih)
run_by d c cs false e ih = rw e run_end

run_take : (d : Digit) (bs : List ℕ) → IsRun (is_digit d) (take (digits_len d bs) bs)
unfolding digits_len
run_take d [] = run_end
run_take d (c ∷ cs) = run_by d c cs (is_digit d c) refl (run_take d cs)

same_some : {A : Type 0} {x y : A} → ◌≡◌ {A = Option A} (Some x) (Some y) → x ≡ y
same_some h = cc

negative_take : (c : ℕ) (cs : List ℕ) → c == hyphen && starts is_first_digit cs ≡ true → IsNumeral (take (suc (digits_len Decimal cs)) (c ∷ cs))
unfolding digits_len
negative_take c [] h = absurd (let p = and_parts (c == hyphen) false h in cc)
negative_take c (d ∷ ds) h =
    let p = and_parts (c == hyphen) (is_first_digit d) h in
    let q = and_parts (is_ascii_digit d) (not (d == 48)) p.1 in
    let c_is : c ≡ hyphen = eqb-true c hyphen p.0 in
    rw (q.0, c_is) (negative p.1 (run_take Decimal ds))

numeral_take : (bs : List ℕ) (n : ℕ) → number_len bs ≡ n → n == 0 ≡ false → IsNumeral (take n bs)
unfolding number_len
numeral_take [] n h some = absurd (let e : n == 0 ≡ true = ap (λ x. x == 0) (sym h) in cc)
numeral_take (c ∷ cs) n h some = elim (chosen (c == 48) _ _ _ h) [
  | inl p ↦ subst (λ x. IsNumeral (take x (c ∷ cs))) p.1 (subst (λ x. IsNumeral (x ∷ [])) (sym (eqb-true c 48 p.0)) nought)
  | inr p ↦ (elim (chosen (is_ascii_digit c) _ _ _ p.1) [
    | inl q ↦ subst (λ x. IsNumeral (take x (c ∷ cs))) q.1 (positive (rw (q.0, p.0) refl) (run_take Decimal cs))
    | inr q ↦ (elim (chosen (c == hyphen && starts is_first_digit cs) _ _ _ q.1) [
      | inl r ↦ subst (λ x. IsNumeral (take x (c ∷ cs))) r.1 (negative_take c cs r.0)
      | inr r ↦ absurd (let e : n == 0 ≡ true = ap (λ x. x == 0) (sym r.1) in cc)
    ])
  ])
]

-- ---- quotes

-- digits, a quote and a letter
pub quoted_front : (n : ℕ) (cs : List ℕ) (x : ℕ) → starts_with_two quote x (drop n cs) ≡ true → take (suc (suc n)) cs ≡ take n cs ++ quote ∷ x ∷ []
quoted_front zero [] x h = absurd (cc)
quoted_front zero (c ∷ []) x h = absurd (let p = and_parts (c == quote) false h in cc)
quoted_front zero (c ∷ d ∷ ds) x h = let p = and_parts (c == quote) (d == x) h in rw (eqb-true c quote p.0, eqb-true d x p.1) refl
quoted_front (suc n) [] x h = absurd (cc)
quoted_front (suc n) (c ∷ cs) x h = ap (λ l. c ∷ l) (quoted_front n cs x h)

three_is : (n : ℕ) → 3 + n ≡ suc (suc (suc n))
three_is n = omega arith

quoted_take : (n : ℕ) (cs : List ℕ) (x : ℕ) → starts_with_two quote x (drop n cs) ≡ true → take (3 + n) (quote ∷ cs) ≡ quote ∷ (take n cs ++ quote ∷ x ∷ [])
quoted_take n cs x h = rw (three_is n) (ap (λ l. quote ∷ l) (quoted_front n cs x h))

-- ---- texts

text_take : (bs : List ℕ) (n : ℕ) → text_len bs ≡ Some n → IsQuoted (take n bs)
unfolding text_len
text_take [] n h = absurd (cc)
text_take (c ∷ []) n h = elim (chosen (c == double_quote) _ _ _ h) [
  | inl p ↦ subst (λ k. IsQuoted (take k (c ∷ []))) (same_some p.1) (subst (λ x. IsQuoted (x ∷ [])) (sym (eqb-true c double_quote p.0)) quote_end)
  | inr p ↦ absurd (let e = p.1 in cc)
]
text_take (c ∷ d ∷ ds) n h = elim (chosen (c == double_quote) _ _ _ h) [
  | inl p ↦ (elim (chosen (d == double_quote) _ _ _ p.1) [
    | inl q ↦ (
        let m = plus_some 2 n (text_len ds) q.1 in
        let all : IsQuoted (c ∷ d ∷ take m.0 ds) = rw (eqb-true c double_quote p.0, eqb-true d double_quote q.0) (quote_twice (text_take ds m.0 m.1)) in
        subst (λ k. IsQuoted (take k (c ∷ d ∷ ds))) (sym (m.2 ∙ two_more m.0)) all)
    | inr q ↦ subst (λ k. IsQuoted (take k (c ∷ d ∷ ds))) (same_some q.1) (subst (λ x. IsQuoted (x ∷ [])) (sym (eqb-true c double_quote p.0)) quote_end)
  ])
  | inr p ↦ (elim (chosen (nat_lt c 32) _ _ _ p.1) [
    | inl q ↦ absurd (let e = q.1 in cc)
    | inr q ↦ (
        let m = plus_some 1 n (text_len (d ∷ ds)) q.1 in
        subst (λ k. IsQuoted (take k (c ∷ d ∷ ds))) (sym (m.2 ∙ one_more m.0)) (quote_char (not_low c q.0) (is_no_quote c p.0) (text_take (d ∷ ds) m.0 m.1)))
  ])
]

-- ---- comments

line_only : (c : ℕ) (b : Bool) → c == hyphen ≡ false → is_line_end c || (c == hyphen && b) ≡ true → is_line_end c ≡ true
line_only c true e h = grind (arith, nat_tests)
line_only c false e h = grind (arith, nat_tests)

line_take_end : (c : ℕ) (cs : List ℕ) (b : Bool) → c == hyphen ≡ b → line_ends (c ∷ cs) ≡ true → IsLine (take (cond b 2 1) (c ∷ cs)) (drop (cond b 2 1) (c ∷ cs))
line_take_end c [] true e h = absurd (let is : c ≡ hyphen = eqb-true c hyphen e in let no : line_ends (hyphen ∷ []) ≡ true = rw is at h in cc)
line_take_end c (d ∷ ds) true e h =
    let is : c ≡ hyphen = eqb-true c hyphen e in
    let two : d == hyphen ≡ true = rw is at h in
    rw (is, eqb-true d hyphen two) hyphens_end
line_take_end c cs false e h = line_ended (line_only c (starts_with hyphen cs) e h)

line_by : (c : ℕ) (cs : List ℕ) (b : Bool) → line_ends (c ∷ cs) ≡ b → IsLine (take (line_len cs) cs) (drop (line_len cs) cs) → IsLine (take (line_len (c ∷ cs)) (c ∷ cs)) (drop (line_len (c ∷ cs)) (c ∷ cs))
unfolding line_len
line_by c cs true e ih = rw e (line_take_end c cs (c == hyphen) refl e)
line_by c cs false e ih =
    let p = or_parts (is_line_end c) (c == hyphen && starts_with hyphen cs) e in
    let same : take (line_len cs) cs ++ drop (line_len cs) cs ≡ cs = take-append-drop (line_len cs) cs in
    rw e (line_char {c = c} {cs = take (line_len cs) cs} {rest = drop (line_len cs) cs} p.0 (rw same p.1) ih)

line_take : (cs : List ℕ) → IsLine (take (line_len cs) cs) (drop (line_len cs) cs)
unfolding line_len
line_take [] = text_ends
line_take (c ∷ cs) = line_by c cs (line_ends (c ∷ cs)) refl (line_take cs)

-- the ends of one comment and of so many around it
abbrev Closings : ℕ → List ℕ → Type 0
Closings zero w = IsBlock w
Closings (suc d) w = (inner : List ℕ) × (outer : List ℕ) × (w ≡ inner ++ outer) × IsBlock inner × Closings d outer

closed_here : (d : ℕ) (w : List ℕ) → Closings d w → Closings (suc d) (star ∷ slash ∷ w)
closed_here d w h = (star ∷ slash ∷ [], w, refl, block_end, h)

opened_here : (d : ℕ) (w : List ℕ) → Closings (suc d) w → Closings d (slash ∷ star ∷ w)
opened_here zero w h = subst (λ x. IsBlock (slash ∷ star ∷ x)) (sym h.2) (block_inside h.3 h.4)
opened_here (suc d) w h =
    let g = h.4 in
    (slash ∷ star ∷ (h.0 ++ g.0), g.1, ap (λ x. slash ∷ star ∷ x) (h.2 ∙ ap (λ x. h.0 ++ x) g.2 ∙ sym (append_assoc h.0 g.0 g.1)), block_inside h.3 g.3, g.4)

cut_two : (x y c : ℕ) (a b : List ℕ) → starts_with_two x y (c ∷ (a ++ b)) ≡ false → starts_with_two x y (c ∷ a) ≡ false
cut_two x y c [] b h = elim (c == x) as (λ t. t && false ≡ false) [ true ↦ refl | false ↦ refl ]
cut_two x y c (d ∷ a) b h = h

char_here : (d c : ℕ) (w : List ℕ) → starts_with_two star slash (c ∷ w) ≡ false → starts_with_two slash star (c ∷ w) ≡ false → Closings d w → Closings d (c ∷ w)
char_here zero c w e f h = block_char e f h
char_here (suc d) c w e f h =
    let n = subst (λ x. starts_with_two star slash (c ∷ x) ≡ false) h.2 e in
    let m = subst (λ x. starts_with_two slash star (c ∷ x) ≡ false) h.2 f in
    (c ∷ h.0, h.1, ap (λ x. c ∷ x) h.2, block_char (cut_two star slash c h.0 h.1 n) (cut_two slash star c h.0 h.1 m) h.3, h.4)

take_two_by : (x y c e : ℕ) (es : List ℕ) (m : ℕ) → c == x && e == y ≡ false → starts_with_two x y (c ∷ take m (e ∷ es)) ≡ false
take_two_by x y c e es zero h = elim (c == x) as (λ t. t && false ≡ false) [ true ↦ refl | false ↦ refl ]
take_two_by x y c e es (suc m) h = h

close_take : (d n c e : ℕ) (es : List ℕ) → ((k m : ℕ) → block_len es k ≡ Some m → Closings k (take m es)) → c ≡ star → e ≡ slash → close (block_len es) d ≡ Some n → Closings d (take n (c ∷ e ∷ es))
close_take zero n c e es ih x y h = subst (λ k. IsBlock (take k (c ∷ e ∷ es))) (same_some h) (rw (x, y) block_end)
close_take (suc d) n c e es ih x y h =
    let m = plus_some 2 n (block_len es d) h in
    rw (m.2, two_more m.0, x, y) (closed_here d (take m.0 es) (ih d m.0 m.1))

pub block_take : (bs : List ℕ) (d n : ℕ) → block_len bs d ≡ Some n → Closings d (take n bs)
unfolding block_len
block_take [] d n h = absurd (cc)
block_take (c ∷ []) d n h = absurd (cc)
block_take (c ∷ e ∷ es) d n h = elim (chosen (c == star && e == slash) _ _ _ h) [
  | inl p ↦ (let q = and_parts (c == star) (e == slash) p.0 in close_take d n c e es (block_take es) (eqb-true c star q.0) (eqb-true e slash q.1) p.1)
  | inr p ↦ (elim (chosen (c == slash && e == star) _ _ _ p.1) [
    | inl q ↦ (
        let r = and_parts (c == slash) (e == star) q.0 in
        let m = plus_some 2 n (block_len es (suc d)) q.1 in
        rw (m.2, two_more m.0, eqb-true c slash r.0, eqb-true e star r.1) (opened_here d (take m.0 es) (block_take es (suc d) m.0 m.1)))
    | inr q ↦ (
        let m = plus_some 1 n (block_len (e ∷ es) d) q.1 in
        rw (m.2, one_more m.0) (char_here d c (take m.0 (e ∷ es)) (take_two_by star slash c e es m.0 p.0) (take_two_by slash star c e es m.0 q.0) (block_take (e ∷ es) d m.0 m.1)))
  ])
]

-- ---- signs

abbrev Stands : List ℕ → Sign → Type 0
Stands bs s = take (sign_len s) bs ≡ sign_text s

dots_inv : (c : ℕ) (cs : List ℕ) (s : Sign) → c == 46 ≡ true → dots cs ≡ Some s → Stands (c ∷ cs) s
dots_inv c [] s h e = absurd (cc)
dots_inv c (d ∷ []) s h e = elim (chosen (d == 46) _ _ _ e) [
  | inl p ↦ subst (Stands (c ∷ d ∷ [])) (same_some p.1) (rw (eqb-true c 46 h, eqb-true d 46 p.0) refl)
  | inr p ↦ absurd (let e = p.1 in cc)
]
dots_inv c (d ∷ f ∷ fs) s h e = elim (chosen (d == 46) _ _ _ e) [
  | inl p ↦ (elim (chosen (f == 46) _ _ _ p.1) [
    | inl q ↦ subst (Stands (c ∷ d ∷ f ∷ fs)) (same_some q.1) (rw (eqb-true c 46 h, eqb-true d 46 p.0, eqb-true f 46 q.0) refl)
    | inr q ↦ subst (Stands (c ∷ d ∷ f ∷ fs)) (same_some q.1) (rw (eqb-true c 46 h, eqb-true d 46 p.0) refl)
  ])
  | inr p ↦ absurd (let e = p.1 in cc)
]

colons_inv : (c : ℕ) (cs : List ℕ) (s : Sign) → c == 58 ≡ true → colons cs ≡ Some s → Stands (c ∷ cs) s
colons_inv c [] s h e = absurd (cc)
colons_inv c (d ∷ []) s h e = elim (chosen (d == 58 && false) _ _ _ e) [
  | inl p ↦ absurd (let q = and_parts (d == 58) false p.0 in cc)
  | inr p ↦ absurd (let e = p.1 in cc)
]
colons_inv c (d ∷ f ∷ fs) s h e = elim (chosen (d == 58 && f == 61) _ _ _ e) [
  | inl p ↦ (let q = and_parts (d == 58) (f == 61) p.0 in subst (Stands (c ∷ d ∷ f ∷ fs)) (same_some p.1) (rw (eqb-true c 58 h, eqb-true d 58 q.0, eqb-true f 61 q.1) refl))
  | inr p ↦ absurd (let e = p.1 in cc)
]

pub sign_inv : (bs : List ℕ) (s : Sign) → sign_at bs ≡ Some s → Stands bs s
unfolding sign_at
sign_inv [] s h = absurd (cc)
sign_inv (c ∷ cs) s h = elim (chosen (c == 123) _ _ _ h) [
  | inl p ↦ subst (Stands (c ∷ cs)) (same_some p.1) (ap (λ x. x ∷ []) (eqb-true c 123 p.0))
  | inr a ↦ (elim (chosen (c == 125) _ _ _ a.1) [
    | inl p ↦ subst (Stands (c ∷ cs)) (same_some p.1) (ap (λ x. x ∷ []) (eqb-true c 125 p.0))
    | inr b ↦ (elim (chosen (c == 40) _ _ _ b.1) [
      | inl p ↦ subst (Stands (c ∷ cs)) (same_some p.1) (ap (λ x. x ∷ []) (eqb-true c 40 p.0))
      | inr d ↦ (elim (chosen (c == 41) _ _ _ d.1) [
        | inl p ↦ subst (Stands (c ∷ cs)) (same_some p.1) (ap (λ x. x ∷ []) (eqb-true c 41 p.0))
        | inr e ↦ (elim (chosen (c == 91) _ _ _ e.1) [
          | inl p ↦ subst (Stands (c ∷ cs)) (same_some p.1) (ap (λ x. x ∷ []) (eqb-true c 91 p.0))
          | inr f ↦ (elim (chosen (c == 93) _ _ _ f.1) [
            | inl p ↦ subst (Stands (c ∷ cs)) (same_some p.1) (ap (λ x. x ∷ []) (eqb-true c 93 p.0))
            | inr g ↦ (elim (chosen (c == 44) _ _ _ g.1) [
              | inl p ↦ subst (Stands (c ∷ cs)) (same_some p.1) (ap (λ x. x ∷ []) (eqb-true c 44 p.0))
              | inr i ↦ (elim (chosen (c == 46) _ _ _ i.1) [
                | inl p ↦ dots_inv c cs s p.0 p.1
                | inr j ↦ (elim (chosen (c == 58) _ _ _ j.1) [
                  | inl p ↦ colons_inv c cs s p.0 p.1
                  | inr k ↦ absurd (let e = k.1 in cc)
                ])
              ])
            ])
          ])
        ])
      ])
    ])
  ])
]

-- ---- steps

-- a step's token, of the bytes that it takes
pub record IsTaken (kind : Kind) (k : ℕ) (bs : List ℕ) : Type 0 where
  pub is : IsToken (token_by kind (take k bs)) (take k bs)
  pub clear : is_number (token_by kind (take k bs)) && starts is_letter_or_digit (drop k bs) ≡ false

-- what is said of a step
abbrev Inv : Step → List ℕ → Type 0
Inv (step.Skip k) bs = (ts : List Token) → FallsInto (drop k bs) ts → FallsInto bs ts
Inv (step.Take kind k) bs = IsTaken kind k bs
Inv (step.Sign s) bs = take (sign_len s) bs ≡ sign_text s
Inv step.Bad bs = Unit {0}

line_inv : (c : ℕ) (cs : List ℕ) → c == hyphen && starts_with hyphen cs ≡ true → (ts : List Token) → FallsInto (drop (2 + line_len (drop 1 cs)) (c ∷ cs)) ts → FallsInto (c ∷ cs) ts
line_inv c [] h ts d = absurd (let p = and_parts (c == hyphen) false h in cc)
line_inv c (e ∷ es) h ts d =
    let p = and_parts (c == hyphen) (e == hyphen) h in
    let inner : FallsInto (drop (line_len es) es) ts = rw (two_more (line_len es)) at d in
    let all = line_comment (line_take es) inner in
    rw (eqb-true c hyphen p.0, eqb-true e hyphen p.1) (subst (λ x. FallsInto (hyphen ∷ hyphen ∷ x) ts) (take-append-drop (line_len es) es) all)

block_skip : (es : List ℕ) (n : ℕ) → block_len es 0 ≡ Some n → (ts : List Token) → FallsInto (drop (2 + n) (slash ∷ star ∷ es)) ts → FallsInto (slash ∷ star ∷ es) ts
block_skip es n h ts d =
    let inner : FallsInto (drop n es) ts = rw (two_more n) at d in
    subst (λ x. FallsInto (slash ∷ star ∷ x) ts) (take-append-drop n es) (block_comment (block_take es 0 n h) inner)

block_inv_by : (es : List ℕ) (o : Option ℕ) → block_len es 0 ≡ o → Inv (block_step o) (slash ∷ star ∷ es)
block_inv_by es None h = tt
block_inv_by es (Some n) h = block_skip es n h

block_inv : (c : ℕ) (cs : List ℕ) → c == slash && starts_with star cs ≡ true → Inv (block_step (block_len (drop 1 cs) 0)) (c ∷ cs)
block_inv c [] h = absurd (let p = and_parts (c == slash) false h in cc)
block_inv c (e ∷ es) h =
    let p = and_parts (c == slash) (e == star) h in
    rw (eqb-true c slash p.0, eqb-true e star p.1) (block_inv_by es (block_len es 0) refl)

text_inv : (cs : List ℕ) (o : Option ℕ) → text_len cs ≡ o → Inv (text_step o) (double_quote ∷ cs)
text_inv cs None h = tt
text_inv cs (Some n) h = let all : IsToken (text (double_quote ∷ take n cs)) (double_quote ∷ take n cs) = text_token (text_take cs n h) in record { is = rw (one_more n) all; clear = refl }

quote_inv : (cs : List ℕ) (s : Step) → quote_step cs ≡ s → Inv s (quote ∷ cs)
quote_inv cs s h = elim (chosen (starts_with_two quote 72 (drop (digits_len Hexadecimal cs) cs)) _ _ _ h) [
  | inl p ↦ (
      let w = take (digits_len Hexadecimal cs) cs in
      let e = quoted_take (digits_len Hexadecimal cs) cs 72 p.0 in
      subst (λ x. Inv x (quote ∷ cs)) p.1 (record { is = rw e (digits_token (run_take Hexadecimal cs)); clear = refl }))
  | inr p ↦ (elim (chosen (starts_with_two quote 66 (drop (digits_len Binary cs) cs)) _ _ _ p.1) [
    | inl q ↦ (
        let e = quoted_take (digits_len Binary cs) cs 66 q.0 in
        subst (λ x. Inv x (quote ∷ cs)) q.1 (record { is = rw e (bits_token (run_take Binary cs)); clear = refl }))
    | inr q ↦ subst (λ x. Inv x (quote ∷ cs)) q.1 tt
  ])
]

by_sign : (o : Option Sign) (bs : List ℕ) → sign_at bs ≡ o → Inv (sign_step o) bs
by_sign None bs h = tt
by_sign (Some s) bs h = sign_inv bs s h

number_inv : (bs : List ℕ) (n : ℕ) (s : Step) → number_len bs ≡ n → number_step n bs ≡ s → Inv s bs
number_inv bs n s e h = elim (chosen (n == 0) _ _ _ h) [
  | inl p ↦ subst (λ x. Inv x bs) p.1 (by_sign (sign_at bs) bs refl)
  | inr p ↦ (elim (chosen (starts is_letter_or_digit (drop n bs)) _ _ _ p.1) [
    | inl q ↦ subst (λ x. Inv x bs) q.1 tt
    | inr q ↦ subst (λ x. Inv x bs) q.1 (record { is = number_token (numeral_take bs n e p.0); clear = q.0 })
  ])
]

word_inv : (c : ℕ) (cs : List ℕ) → is_ascii_alphabetic c ≡ true → IsTaken Word (1 + word_len cs) (c ∷ cs)
word_inv c cs h = let all : IsToken (word (c ∷ take (word_len cs) cs)) (c ∷ take (word_len cs) cs) = word_token (a_word h (word_take cs)) in record { is = rw (one_more (word_len cs)) all; clear = refl }

step_inv : (bs : List ℕ) (s : Step) → step_at bs ≡ s → Inv s bs
unfolding step_at
step_inv [] s h = subst (λ x. Inv x []) h tt
step_inv (c ∷ cs) s h = elim (chosen (is_space c) _ _ _ h) [
  | inl p ↦ subst (λ x. Inv x (c ∷ cs)) p.1 (λ ts d. space p.0 d)
  | inr p ↦ (elim (chosen (c == hyphen && starts_with hyphen cs) _ _ _ p.1) [
    | inl q ↦ subst (λ x. Inv x (c ∷ cs)) q.1 (line_inv c cs q.0)
    | inr q ↦ (elim (chosen (c == slash && starts_with star cs) _ _ _ q.1) [
      | inl r ↦ subst (λ x. Inv x (c ∷ cs)) r.1 (block_inv c cs r.0)
      | inr r ↦ (elim (chosen (is_ascii_alphabetic c) _ _ _ r.1) [
        | inl u ↦ subst (λ x. Inv x (c ∷ cs)) u.1 (word_inv c cs u.0)
        | inr u ↦ (elim (chosen (c == quote) _ _ _ u.1) [
          | inl v ↦ subst (λ x. Inv s (x ∷ cs)) (sym (eqb-true c quote v.0)) (quote_inv cs s v.1)
          | inr v ↦ (elim (chosen (c == double_quote) _ _ _ v.1) [
            | inl w ↦ subst (λ x. Inv x (c ∷ cs)) w.1 (subst (λ x. Inv (text_step (text_len cs)) (x ∷ cs)) (sym (eqb-true c double_quote w.0)) (text_inv cs (text_len cs) refl))
            | inr w ↦ number_inv (c ∷ cs) (number_len (c ∷ cs)) s refl w.1
          ])
        ])
      ])
    ])
  ])
]

-- what is said of what is taken
abbrev Valid : Option Token → ℕ → List ℕ → Type 0
Valid None k bs = (ts : List Token) → FallsInto (drop k bs) ts → FallsInto bs ts
Valid (Some t) k bs = IsToken t (take k bs) × (is_number t && starts is_letter_or_digit (drop k bs) ≡ false)

by_step : (s : Step) (bs : List ℕ) (o : Option Token) (k : ℕ) → Inv s bs → ◌≡◌ {A = Taken} (front_by s bs) (Some (o, k)) → Valid o k bs
by_step (step.Skip n) bs o k v h = subst (λ x. Valid x.0 x.1 bs) (same_some h) v
by_step (step.Take kind n) bs o k v h = subst (λ x. Valid x.0 x.1 bs) (same_some h) (v.is, v.clear)
by_step (step.Sign s) bs o k v h = subst (λ x. Valid x.0 x.1 bs) (same_some h) (subst (IsToken (sign s)) (sym v) (sign_token s), refl)
by_step step.Bad bs o k v h = absurd (cc)

front_valid : (bs : List ℕ) (o : Option Token) (k : ℕ) → front_at bs ≡ Some (o, k) → Valid o k bs
unfolding front_at
front_valid bs o k h = by_step (step_at bs) bs o k (step_inv bs (step_at bs) refl) h

pub longest : (t : Token) (k : ℕ) (bs : List ℕ) → front_at bs ≡ Some (Some t, k) → IsLongest (take k bs) (drop k bs)
longest t k bs h = λ u v more d e.
    let whole : bs ≡ v ++ more = sym (take-append-drop k bs) ∙ e in
    let most = front_max d more t k (rw whole at h) in
    let size = ap length whole ∙ length-append v more in
    let taken = length-take k bs in
    omega arith

step_falls : (n at : ℕ) (bs : List ℕ) → ((at : ℕ) (cs : List ℕ) → (lex_from n at cs).complete ≡ true → FallsInto cs (tokens (lex_from n at cs).spots))
    → (o : Taken) → front_at bs ≡ o → (go (lex_from n) at bs o).complete ≡ true → FallsInto bs (tokens (go (lex_from n) at bs o).spots)
step_falls n at [] ih None e h = nothing_left
step_falls n at (c ∷ cs) ih None e h = absurd (cc)
step_falls n at bs ih (Some (None, k)) e h = front_valid bs None k e _ (ih (at + k) (drop k bs) h)
step_falls n at bs ih (Some (Some t, k)) e h =
    let v = front_valid bs (Some t) k e in
    subst (λ l. FallsInto l (t ∷ tokens (lex_from n (at + k) (drop k bs)).spots)) (take-append-drop k bs) (token v.0 (longest t k bs e) v.1 (ih (at + k) (drop k bs) h))

lexed_from : (n at : ℕ) (bs : List ℕ) → (lex_from n at bs).complete ≡ true → FallsInto bs (tokens (lex_from n at bs).spots)
unfolding lex_from
lexed_from zero at [] h = nothing_left
lexed_from zero at (c ∷ cs) h = absurd (cc)
lexed_from (suc n) at bs h = step_falls n at bs (lexed_from n) (front_at bs) refl h

pub lexed_falls : LexSound
lexed_falls bs h = lexed_from (length bs) 0 bs h
