-- A step ends between characters.
use Rattle.std.proofs.Common.{◌≡◌, ℕ, zero, suc, ◌+◌, ◌-◌, ◌≤◌, ◌<◌, List, [], ◌∷◌, length, take, drop, get_or, Bool, true, false, cond, ◌&&◌, ◌||◌, ◌==◌, ◌⊎◌, inl, inr, ⊎_elim, Option, Some, None, refl, sym, ap, subst, ◌∙◌, arith, sub-one, IsUtf8, length-take, get_or-take, lit<}
use Rattle.std.specs.Prelude.{nat_lt}
use Rattle.std.specs.Str.{IsCharBoundary}
use Rattle.std.proofs.lemmas.Str.{IsCharBoundary-after_ascii, IsCharBoundary-end}
use Rattle.std.proofs.lemmas.Bool.{eqb-true, and_parts}
use Rattle.std.proofs.lemmas.Bool.Decides.{nat_tests}
use Rattle.std.specs.Char.{is_ascii_alphabetic, is_ascii_digit}
use Rattle.oer_lexer.specs.Characters.{is_space, is_letter_or_digit, is_first_digit, starts, starts_with, starts_with_two, hyphen, quote, double_quote, star, slash}
use Rattle.oer_lexer.specs.FallsInto.{sign_text}
use Rattle.oer_lexer.specs.Lexing.{line_ends, line_end_len, line_len, word_goes_on, word_len, digits_len, close, block_len, text_len, number_len, sign_at, sign_len, sign_step, number_step, quote_step, text_step, block_step, step_at}
use Rattle.oer_lexer.specs.declared.lengths.Digit.TheVariants.{Decimal, Hexadecimal, Binary}
use Rattle.oer_lexer.specs.declared.lexing.Step.{Step}
use Rattle.oer_lexer.specs.declared.lexing.Step.TheVariants as step
use Rattle.oer_lexer.specs.declared.token.Sign.{Sign}
use Rattle.oer_lexer.specs.declared.token.Sign.TheVariants.{OpenBrace, CloseBrace, OpenParenthesis, CloseParenthesis, OpenBracket, CloseBracket, Comma, Range, Ellipsis, Assign}
use Rattle.oer_lexer.proofs.LexComplete.{word_len_le, plus_some, one_more, sign_size}
use Rattle.oer_lexer.proofs.LexSound.{chosen, sign_inv}

-- the first k bytes are some, and all, or the last of them is ASCII
pub record Cuts (k : ℕ) (bs : List ℕ) : Type 0 where
  pub some : 0 < k
  pub within : k ≤ length bs
  pub last : (k ≡ length bs) ⊎ (get_or bs (k - 1) 0 < 128)

pub boundary : (k : ℕ) (bs : List ℕ) → IsUtf8 bs → Cuts k bs → IsCharBoundary bs k
boundary k bs u c = ⊎_elim
    (λ e. subst (IsCharBoundary bs) (sym e) (IsCharBoundary-end bs))
    (λ l. let some = c.some in let within = c.within in
    let back : k - 1 + 1 ≡ k = omega arith in
    subst (IsCharBoundary bs) back (IsCharBoundary-after_ascii bs (k - 1) u (omega arith) l))
    c.last

letter_ascii : (c : ℕ) → is_ascii_alphabetic c ≡ true → c < 128
letter_ascii c h = grind (arith, nat_tests)

digit_ascii : (c : ℕ) → is_ascii_digit c ≡ true → c < 128
digit_ascii c h = grind (arith, nat_tests)

space_ascii : (c : ℕ) → is_space c ≡ true → c < 128
space_ascii c h = grind (arith, nat_tests)

goes_on_ascii : (c : ℕ) (b : Bool) → is_letter_or_digit c || (c == hyphen && b) ≡ true → c < 128
goes_on_ascii c true h = grind (arith, nat_tests)
goes_on_ascii c false h = grind (arith, nat_tests)

word_last_by : (c d : ℕ) (ds : List ℕ) (b : Bool) → word_goes_on (d ∷ ds) ≡ b → c < 128 → (d < 128 → get_or (d ∷ ds) (word_len ds) 0 < 128) → get_or (c ∷ d ∷ ds) (word_len (d ∷ ds)) 0 < 128
unfolding word_len
word_last_by c d ds true e h ih = rw e (ih (goes_on_ascii d (starts is_letter_or_digit ds) e))
word_last_by c d ds false e h ih = rw e h

word_last : (c : ℕ) (cs : List ℕ) → c < 128 → get_or (c ∷ cs) (word_len cs) 0 < 128
unfolding word_len
word_last c [] h = h
word_last c (d ∷ ds) h = word_last_by c d ds (word_goes_on (d ∷ ds)) refl h (word_last d ds)

digits_last_by : (c d : ℕ) (ds : List ℕ) (b : Bool) → is_ascii_digit d ≡ b → c < 128 → (d < 128 → get_or (d ∷ ds) (digits_len Decimal ds) 0 < 128) → get_or (c ∷ d ∷ ds) (digits_len Decimal (d ∷ ds)) 0 < 128
unfolding digits_len
digits_last_by c d ds true e h ih = rw e (ih (digit_ascii d e))
digits_last_by c d ds false e h ih = rw e h

digits_last : (c : ℕ) (cs : List ℕ) → c < 128 → get_or (c ∷ cs) (digits_len Decimal cs) 0 < 128
unfolding digits_len
digits_last c [] h = h
digits_last c (d ∷ ds) h = digits_last_by c d ds (is_ascii_digit d) refl h (digits_last d ds)

digits_within : (bs : List ℕ) → digits_len Decimal bs ≤ length bs
unfolding digits_len
digits_within [] = omega arith
digits_within (c ∷ cs) = let e = digits_within cs in elim (is_ascii_digit c) as (λ b. cond b (suc (digits_len Decimal cs)) 0 ≤ length (c ∷ cs)) [ true ↦ omega arith | false ↦ omega arith ]

-- one byte and n more
from_last : (c : ℕ) (cs : List ℕ) (n : ℕ) → n ≤ length cs → get_or (c ∷ cs) n 0 < 128 → Cuts (suc n) (c ∷ cs)
from_last c cs n fits h = record { some = omega arith; within = omega arith; last = inr (rw sub-one h) }

-- what is said of a step
abbrev pub StepCuts : Step → List ℕ → Type 0
StepCuts (step.Skip k) bs = Cuts k bs
StepCuts (step.Take kind k) bs = Cuts k bs
StepCuts (step.Sign s) bs = Cuts (sign_len s) bs
StepCuts step.Bad bs = Unit {0}

-- ---- what ends at a byte

-- n is past the place of x
pub record EndsAt (x n : ℕ) (bs : List ℕ) : Type 0 where
  pub place : ℕ
  pub is : n ≡ suc place
  pub within : place < length bs
  pub here : get_or bs place 0 ≡ x

later_one : (x n c : ℕ) (cs : List ℕ) → EndsAt x n cs → EndsAt x (1 + n) (c ∷ cs)
later_one x n c cs e = let i = e.is in let w = e.within in record { place = suc e.place; is = omega arith; within = omega arith; here = e.here }

later_two : (x n c d : ℕ) (cs : List ℕ) → EndsAt x n cs → EndsAt x (2 + n) (c ∷ d ∷ cs)
later_two x n c d cs e = let i = e.is in let w = e.within in record { place = suc (suc e.place); is = omega arith; within = omega arith; here = e.here }

same_some : {x y : ℕ} → ◌≡◌ {A = Option ℕ} (Some x) (Some y) → x ≡ y
same_some h = cc

text_last : (bs : List ℕ) (n : ℕ) → text_len bs ≡ Some n → EndsAt double_quote n bs
unfolding text_len
text_last [] n h = absurd (cc)
text_last (c ∷ []) n h = elim (chosen (c == double_quote) _ _ _ h) [
  | inl p ↦ record { place = 0; is = sym (same_some p.1); within = omega arith; here = eqb-true c double_quote p.0 }
  | inr p ↦ absurd (let e = p.1 in cc)
]
text_last (c ∷ d ∷ ds) n h = elim (chosen (c == double_quote) _ _ _ h) [
  | inl p ↦ (elim (chosen (d == double_quote) _ _ _ p.1) [
    | inl q ↦ (let m = plus_some 2 n (text_len ds) q.1 in rw m.2 (later_two double_quote m.0 c d ds (text_last ds m.0 m.1)))
    | inr q ↦ record { place = 0; is = sym (same_some q.1); within = omega arith; here = eqb-true c double_quote p.0 }
  ])
  | inr p ↦ (elim (chosen (nat_lt c 32) _ _ _ p.1) [
    | inl q ↦ absurd (let e = q.1 in cc)
    | inr q ↦ (let m = plus_some 1 n (text_len (d ∷ ds)) q.1 in rw m.2 (later_one double_quote m.0 c (d ∷ ds) (text_last (d ∷ ds) m.0 m.1)))
  ])
]

close_last : (d n c e : ℕ) (es : List ℕ) → ((k m : ℕ) → block_len es k ≡ Some m → EndsAt slash m es) → e ≡ slash → close (block_len es) d ≡ Some n → EndsAt slash n (c ∷ e ∷ es)
close_last zero n c e es ih y h = record { place = 1; is = sym (same_some h); within = omega arith; here = y }
close_last (suc d) n c e es ih y h = let m = plus_some 2 n (block_len es d) h in rw m.2 (later_two slash m.0 c e es (ih d m.0 m.1))

block_last : (bs : List ℕ) (d n : ℕ) → block_len bs d ≡ Some n → EndsAt slash n bs
unfolding block_len
block_last [] d n h = absurd (cc)
block_last (c ∷ []) d n h = absurd (cc)
block_last (c ∷ e ∷ es) d n h = elim (chosen (c == star && e == slash) _ _ _ h) [
  | inl p ↦ (let q = and_parts (c == star) (e == slash) p.0 in close_last d n c e es (block_last es) (eqb-true e slash q.1) p.1)
  | inr p ↦ (elim (chosen (c == slash && e == star) _ _ _ p.1) [
    | inl q ↦ (let m = plus_some 2 n (block_len es (suc d)) q.1 in rw m.2 (later_two slash m.0 c e es (block_last es (suc d) m.0 m.1)))
    | inr q ↦ (let m = plus_some 1 n (block_len (e ∷ es) d) q.1 in rw m.2 (later_one slash m.0 c (e ∷ es) (block_last (e ∷ es) d m.0 m.1)))
  ])
]

quoted_last : (n : ℕ) (cs : List ℕ) (x : ℕ) → starts_with_two quote x (drop n cs) ≡ true → EndsAt x (suc (suc n)) cs
quoted_last zero [] x h = absurd (cc)
quoted_last zero (c ∷ []) x h = absurd (let p = and_parts (c == quote) false h in cc)
quoted_last zero (c ∷ d ∷ ds) x h = let p = and_parts (c == quote) (d == x) h in record { place = 1; is = refl; within = omega arith; here = eqb-true d x p.1 }
quoted_last (suc n) [] x h = absurd (cc)
quoted_last (suc n) (c ∷ cs) x h = let e = quoted_last n cs x h in let i = e.is in let w = e.within in record { place = suc e.place; is = ap suc e.is; within = omega arith; here = e.here }

ends_cut : (x n : ℕ) (bs : List ℕ) → x < 128 → EndsAt x n bs → Cuts n bs
ends_cut x n bs low e =
    let i = e.is in
    let w = e.within in
    let back : n - 1 ≡ e.place = omega arith in
    record { some = omega arith; within = omega arith; last = inr (rw (back, e.here) low) }

-- ---- comments to the line's end

line_end_ascii : (c : ℕ) (b : Bool) → c == hyphen ≡ false → c == 10 || c == 13 || (c == hyphen && b) ≡ true → c < 128
line_end_ascii c true e h = grind (arith, nat_tests)
line_end_ascii c false e h = grind (arith, nat_tests)

later : (c : ℕ) (cs : List ℕ) (n : ℕ) → 0 < n → get_or cs (n - 1) 0 < 128 → get_or (c ∷ cs) (suc n - 1) 0 < 128
later c cs zero some h = absurd (omega arith)
later c cs (suc n) some h = rw sub-one (rw sub-one at h)

much_later : (c d : ℕ) (ds : List ℕ) (n : ℕ) → 0 < n → get_or ds (n - 1) 0 < 128 → get_or (c ∷ d ∷ ds) (2 + n - 1) 0 < 128
much_later c d ds zero some h = absurd (omega arith)
much_later c d ds (suc n) some h = let e : 2 + suc n - 1 ≡ suc (suc n) = omega arith in rw e (rw sub-one at h)

-- a comment ends with the text, or its last byte is ASCII
abbrev Ends : List ℕ → ℕ → Type 0
Ends cs n = (n ≤ length cs) × ((n ≡ length cs) ⊎ ((0 < n) × (get_or cs (n - 1) 0 < 128)))

end_ascii : (c : ℕ) (cs : List ℕ) (b : Bool) → c == hyphen ≡ b → line_ends (c ∷ cs) ≡ true → Ends (c ∷ cs) (cond b 2 1)
end_ascii c [] true e h = absurd (let is : c ≡ hyphen = eqb-true c hyphen e in let no : line_ends (hyphen ∷ []) ≡ true = rw is at h in cc)
end_ascii c (d ∷ ds) true e h =
    let is : c ≡ hyphen = eqb-true c hyphen e in
    let two : d == hyphen ≡ true = rw is at h in
    (omega arith, inr (omega arith, let last : d ≡ hyphen = eqb-true d hyphen two in omega arith))
end_ascii c cs false e h = (omega arith, inr (omega arith, line_end_ascii c (starts_with hyphen cs) e h))

ends_on : (c : ℕ) (cs : List ℕ) (b : Bool) → line_ends (c ∷ cs) ≡ b → Ends cs (line_len cs) → Ends (c ∷ cs) (cond b (line_end_len (c ∷ cs)) (suc (line_len cs)))
ends_on c cs true e ih = end_ascii c cs (c == hyphen) refl e
ends_on c cs false e ih = (let f = ih.0 in omega arith, ⊎_elim (λ l. inl (omega arith)) (λ l. inr (omega arith, later c cs (line_len cs) l.0 l.1)) ih.1)

line_ends_so : (cs : List ℕ) → Ends cs (line_len cs)
unfolding line_len
line_ends_so [] = (omega arith, inl refl)
line_ends_so (c ∷ cs) = ends_on c cs (line_ends (c ∷ cs)) refl (line_ends_so cs)

line_cuts : (c : ℕ) (cs : List ℕ) → c == hyphen && starts_with hyphen cs ≡ true → Cuts (2 + line_len (drop 1 cs)) (c ∷ cs)
line_cuts c [] h = absurd (let p = and_parts (c == hyphen) false h in cc)
line_cuts c (d ∷ ds) h =
    let e = line_ends_so ds in
    let f = e.0 in
    record {
      some = omega arith;
      within = omega arith;
      last = ⊎_elim (λ l. inl (omega arith)) (λ l. inr (much_later c d ds (line_len ds) l.0 l.1)) e.1;
    }

-- ---- the other steps

block_cuts_by : (c d : ℕ) (ds : List ℕ) (o : Option ℕ) → block_len ds 0 ≡ o → StepCuts (block_step o) (c ∷ d ∷ ds)
block_cuts_by c d ds None h = tt
block_cuts_by c d ds (Some n) h = ends_cut slash (2 + n) (c ∷ d ∷ ds) (lit< tt) (later_two slash n c d ds (block_last ds 0 n h))

block_cuts : (c : ℕ) (cs : List ℕ) → c == slash && starts_with star cs ≡ true → StepCuts (block_step (block_len (drop 1 cs) 0)) (c ∷ cs)
block_cuts c [] h = absurd (let p = and_parts (c == slash) false h in cc)
block_cuts c (d ∷ ds) h = block_cuts_by c d ds (block_len ds 0) refl

text_cuts : (c : ℕ) (cs : List ℕ) (o : Option ℕ) → text_len cs ≡ o → StepCuts (text_step o) (c ∷ cs)
text_cuts c cs None h = tt
text_cuts c cs (Some n) h = ends_cut double_quote (1 + n) (c ∷ cs) (lit< tt) (later_one double_quote n c cs (text_last cs n h))

quote_cuts_at : (c n x : ℕ) (cs : List ℕ) → x < 128 → starts_with_two quote x (drop n cs) ≡ true → Cuts (3 + n) (c ∷ cs)
quote_cuts_at c n x cs low h = let same : 1 + suc (suc n) ≡ 3 + n = omega arith in subst (λ k. Cuts k (c ∷ cs)) same (ends_cut x (1 + suc (suc n)) (c ∷ cs) low (later_one x (suc (suc n)) c cs (quoted_last n cs x h)))

quote_cuts : (c : ℕ) (cs : List ℕ) (s : Step) → quote_step cs ≡ s → StepCuts s (c ∷ cs)
quote_cuts c cs s h = elim (chosen (starts_with_two quote 72 (drop (digits_len Hexadecimal cs) cs)) _ _ _ h) [
  | inl p ↦ subst (λ x. StepCuts x (c ∷ cs)) p.1 (quote_cuts_at c (digits_len Hexadecimal cs) 72 cs (lit< tt) p.0)
  | inr p ↦ (elim (chosen (starts_with_two quote 66 (drop (digits_len Binary cs) cs)) _ _ _ p.1) [
    | inl q ↦ subst (λ x. StepCuts x (c ∷ cs)) q.1 (quote_cuts_at c (digits_len Binary cs) 66 cs (lit< tt) q.0)
    | inr q ↦ subst (λ x. StepCuts x (c ∷ cs)) q.1 tt
  ])
]

number_cuts : (bs : List ℕ) (n : ℕ) → number_len bs ≡ n → n == 0 ≡ false → Cuts n bs
unfolding number_len
number_cuts [] n h some = absurd (let e : n == 0 ≡ true = ap (λ x. x == 0) (sym h) in cc)
number_cuts (c ∷ cs) n h some = elim (chosen (c == 48) _ _ _ h) [
  | inl p ↦ subst (λ x. Cuts x (c ∷ cs)) p.1 (let e : c ≡ 48 = eqb-true c 48 p.0 in from_last c cs 0 (omega arith) (omega arith))
  | inr p ↦ (elim (chosen (is_ascii_digit c) _ _ _ p.1) [
    | inl q ↦ subst (λ x. Cuts x (c ∷ cs)) q.1 (from_last c cs (digits_len Decimal cs) (digits_within cs) (digits_last c cs (digit_ascii c q.0)))
    | inr q ↦ (elim (chosen (c == hyphen && starts is_first_digit cs) _ _ _ q.1) [
      | inl r ↦ subst (λ x. Cuts x (c ∷ cs)) r.1 (let e : c ≡ hyphen = eqb-true c hyphen (and_parts (c == hyphen) _ r.0).0 in from_last c cs (digits_len Decimal cs) (digits_within cs) (digits_last c cs (omega arith)))
      | inr r ↦ absurd (let e : n == 0 ≡ true = ap (λ x. x == 0) (sym r.1) in cc)
    ])
  ])
]

sign_some : (s : Sign) → 0 < sign_len s
sign_some OpenBrace = omega arith
sign_some CloseBrace = omega arith
sign_some OpenParenthesis = omega arith
sign_some CloseParenthesis = omega arith
sign_some OpenBracket = omega arith
sign_some CloseBracket = omega arith
sign_some Comma = omega arith
sign_some Range = omega arith
sign_some Ellipsis = omega arith
sign_some Assign = omega arith

sign_last : (s : Sign) → get_or (sign_text s) (sign_len s - 1) 0 < 128
sign_last OpenBrace = lit< tt
sign_last CloseBrace = lit< tt
sign_last OpenParenthesis = lit< tt
sign_last CloseParenthesis = lit< tt
sign_last OpenBracket = lit< tt
sign_last CloseBracket = lit< tt
sign_last Comma = lit< tt
sign_last Range = lit< tt
sign_last Ellipsis = lit< tt
sign_last Assign = lit< tt

sign_cuts : (bs : List ℕ) (s : Sign) → sign_at bs ≡ Some s → Cuts (sign_len s) bs
sign_cuts bs s h =
    let e = sign_inv bs s h in
    let some = sign_some s in
    let size = ap length e ∙ sign_size s in
    let taken = length-take (sign_len s) bs in
    let at : get_or (take (sign_len s) bs) (sign_len s - 1) 0 ≡ get_or bs (sign_len s - 1) 0 = get_or-take (sign_len s) bs (sign_len s - 1) 0 (omega arith) in
    record {
      some = some;
      within = omega arith;
      last = inr (subst (λ x. x < 128) at (subst (λ l. get_or l (sign_len s - 1) 0 < 128) (sym e) (sign_last s)));
    }

by_sign : (o : Option Sign) (bs : List ℕ) → sign_at bs ≡ o → StepCuts (sign_step o) bs
by_sign None bs h = tt
by_sign (Some s) bs h = sign_cuts bs s h

numbers_cuts : (bs : List ℕ) (n : ℕ) (s : Step) → number_len bs ≡ n → number_step n bs ≡ s → StepCuts s bs
numbers_cuts bs n s e h = elim (chosen (n == 0) _ _ _ h) [
  | inl p ↦ subst (λ x. StepCuts x bs) p.1 (by_sign (sign_at bs) bs refl)
  | inr p ↦ (elim (chosen (starts is_letter_or_digit (drop n bs)) _ _ _ p.1) [
    | inl q ↦ subst (λ x. StepCuts x bs) q.1 tt
    | inr q ↦ subst (λ x. StepCuts x bs) q.1 (number_cuts bs n e p.0)
  ])
]

pub step_cuts : (bs : List ℕ) (s : Step) → step_at bs ≡ s → StepCuts s bs
unfolding step_at
step_cuts [] s h = subst (λ x. StepCuts x []) h tt
step_cuts (c ∷ cs) s h = elim (chosen (is_space c) _ _ _ h) [
  | inl p ↦ subst (λ x. StepCuts x (c ∷ cs)) p.1 (from_last c cs 0 (omega arith) (space_ascii c p.0))
  | inr p ↦ (elim (chosen (c == hyphen && starts_with hyphen cs) _ _ _ p.1) [
    | inl q ↦ subst (λ x. StepCuts x (c ∷ cs)) q.1 (line_cuts c cs q.0)
    | inr q ↦ (elim (chosen (c == slash && starts_with star cs) _ _ _ q.1) [
      | inl r ↦ subst (λ x. StepCuts x (c ∷ cs)) r.1 (block_cuts c cs r.0)
      | inr r ↦ (elim (chosen (is_ascii_alphabetic c) _ _ _ r.1) [
        | inl u ↦ subst (λ x. StepCuts x (c ∷ cs)) u.1 (subst (λ k. Cuts k (c ∷ cs)) (sym (one_more (word_len cs))) (from_last c cs (word_len cs) (word_len_le cs) (word_last c cs (letter_ascii c u.0))))
        | inr u ↦ (elim (chosen (c == quote) _ _ _ u.1) [
          | inl v ↦ quote_cuts c cs s v.1
          | inr v ↦ (elim (chosen (c == double_quote) _ _ _ v.1) [
            | inl w ↦ subst (λ x. StepCuts x (c ∷ cs)) w.1 (text_cuts c cs (text_len cs) refl)
            | inr w ↦ numbers_cuts (c ∷ cs) (number_len (c ∷ cs)) s refl w.1
          ])
        ])
      ])
    ])
  ])
]
