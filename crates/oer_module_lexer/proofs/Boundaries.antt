-- A step ends between characters.
use Rattle.std.proofs.Common.{◌≡◌, ℕ, zero, suc, ◌+◌, ◌-◌, ◌≤◌, ◌<◌, List, [], ◌∷◌, length, drop, get_or, Bool, true, false, cond, not, ◌&&◌, ◌||◌, ◌==◌, ◌⊎◌, inl, inr, ⊎_elim, Option, Some, None, refl, sym, ap, subst, ◌∙◌, arith, sub-one, IsUtf8, lit<}
use Rattle.std.specs.Prelude.{nat_lt}
use Rattle.std.specs.Str.{IsCharBoundary}
use lib.Utf8.{encode}
use Rattle.std.proofs.lemmas.Str.{IsCharBoundary-past_char}
use Rattle.std.proofs.lemmas.Bool.{eqb-true, and_parts}
use Rattle.std.proofs.lemmas.Bool.Decides.{nat_tests}
use Rattle.std.specs.Char.{is_ascii_alphabetic, is_ascii_digit}
use Rattle.oer_lexer.specs.Characters.{is_letter_or_digit, starts, starts_with, starts_with_two, hyphen, quote, double_quote, star, slash}
use Rattle.oer_lexer.specs.Lexing.{block_len, word_len, plus, step_at as lexer_step}
use Rattle.oer_lexer.proofs.Boundaries.{Cuts, StepCuts as LexerCuts, EndsAt, boundary, step_cuts as lexer_cuts}
use Rattle.oer_lexer.proofs.Chars.{letter_no_space, letter_no_hyphen, letter_no_slash}
use Rattle.oer_lexer.proofs.LexComplete.{plus_some}
use Rattle.oer_lexer.proofs.LexSound.{chosen}
use Rattle.oer_lexer.specs.declared.lexing.Step.TheVariants as lexer
use Rattle.oer_lexer.specs.declared.token.Kind.TheVariants as lexer_kind
use Rattle.oer_module_lexer.specs.Lexing.{is_space, is_line_end, line_ends, line_end_len, line_len, run_len, is_of, point_len, is_exponent, exponent_start, exponent_len, number_tail, text_len, dots, colons, brackets, closing, single, sign_at, sign_len, sign_step, number_step, quote_step, text_step, block_step, token_step, step_at}
use Rattle.oer_module_lexer.specs.declared.lengths.Class.TheVariants.{Decimal, Hexadecimal, Binary}
use Rattle.oer_module_lexer.specs.declared.lexing.Step.{Step}
use Rattle.oer_module_lexer.specs.declared.lexing.Step.TheVariants as step
use Rattle.oer_module_lexer.specs.declared.token.Sign.{Sign}
use Rattle.oer_module_lexer.specs.declared.token.Sign.TheVariants.{OpenBrace, CloseBrace, OpenParenthesis, CloseParenthesis, OpenBracket, CloseBracket, OpenGroup, CloseGroup, Less, Greater, Comma, Semicolon, Point, Range, Ellipsis, Colon, Assign, Equals, Hyphen, At, Bar, Exclamation, Caret}

-- the first k bytes are some, and end between characters
pub record Clean (k : ℕ) (bs : List ℕ) : Type 0 where
  pub some : 0 < k
  pub within : k ≤ length bs
  pub boundary : IsUtf8 bs → IsCharBoundary bs k

clean : (k : ℕ) (bs : List ℕ) → Cuts k bs → Clean k bs
clean k bs c = record { some = c.some; within = c.within; boundary = λ u. boundary k bs u c }

-- what is said of a step
abbrev pub StepClean : Step → List ℕ → Type 0
StepClean (step.Skip k) bs = Clean k bs
StepClean (step.Take kind k) bs = Clean k bs
StepClean (step.Sign s) bs = Clean (sign_len s) bs
StepClean step.Bad bs = Unit {0}

-- ---- joining pieces

cuts_one : (c : ℕ) (cs : List ℕ) → c < 128 → Cuts 1 (c ∷ cs)
cuts_one c cs h = record { some = omega arith; within = omega arith; last = inr h }

last_later : (c : ℕ) (cs : List ℕ) (k : ℕ) → 0 < k → get_or cs (k - 1) 0 < 128 → get_or (c ∷ cs) (suc k - 1) 0 < 128
last_later c cs zero some h = absurd (omega arith)
last_later c cs (suc k) some h = rw sub-one (rw sub-one at h)

cuts_later : (c : ℕ) (cs : List ℕ) (k : ℕ) → Cuts k cs → Cuts (suc k) (c ∷ cs)
cuts_later c cs k h =
    let some = h.some in
    let within = h.within in
    record { some = omega arith; within = omega arith; last = ⊎_elim (λ e. inl (ap suc e)) (λ l. inr (last_later c cs k some l)) h.last }

cuts_drop : (n : ℕ) (bs : List ℕ) (k : ℕ) → Cuts k (drop n bs) → Cuts (n + k) bs
cuts_drop zero bs k h = let none : k ≡ 0 + k = omega arith in subst (λ m. Cuts m bs) none h
cuts_drop (suc n) [] k h = absurd (let some = h.some in let within = h.within in omega arith)
cuts_drop (suc n) (c ∷ cs) k h = let same : suc (n + k) ≡ suc n + k = omega arith in subst (λ m. Cuts m (c ∷ cs)) same (cuts_later c cs (n + k) (cuts_drop n cs k h))

ends_cut : (x n : ℕ) (bs : List ℕ) → x < 128 → EndsAt x n bs → Cuts n bs
ends_cut x n bs low e =
    let i = e.is in
    let w = e.within in
    let back : n - 1 ≡ e.place = omega arith in
    record { some = omega arith; within = omega arith; last = inr (rw (back, e.here) low) }

later_one : (x n c : ℕ) (cs : List ℕ) → EndsAt x n cs → EndsAt x (1 + n) (c ∷ cs)
later_one x n c cs e = let i = e.is in let w = e.within in record { place = suc e.place; is = omega arith; within = omega arith; here = e.here }

later_two : (x n c d : ℕ) (cs : List ℕ) → EndsAt x n cs → EndsAt x (2 + n) (c ∷ d ∷ cs)
later_two x n c d cs e = let i = e.is in let w = e.within in record { place = suc (suc e.place); is = omega arith; within = omega arith; here = e.here }

same_some : {A : Type 0} {x y : A} → ◌≡◌ {A = Option A} (Some x) (Some y) → x ≡ y
same_some h = cc

-- ---- white space

space_ascii : (c : ℕ) → is_space c ≡ true → c < 128
space_ascii c h = grind (arith, nat_tests)

-- a no-break space is the two octets of one character
no_break : (c : ℕ) (cs : List ℕ) → c == 194 && starts_with 160 cs ≡ true → Clean 2 (c ∷ cs)
unfolding encode
no_break c [] h = absurd (let p = and_parts (c == 194) false h in cc)
no_break c (d ∷ ds) h =
    let p = and_parts (c == 194) (d == 160) h in
    let first : c ≡ 194 = eqb-true c 194 p.0 in
    let second : d ≡ 160 = eqb-true d 160 p.1 in
    record {
      some = omega arith;
      within = omega arith;
      boundary = rw (first, second) (λ u. IsCharBoundary-past_char (194 ∷ 160 ∷ ds) ds 0 160 (omega arith) u refl);
    }

-- ---- comments

line_end_ascii : (c : ℕ) (b : Bool) → c == hyphen ≡ false → is_line_end c || (c == hyphen && b) ≡ true → c < 128
line_end_ascii c true e h = grind (arith, nat_tests)
line_end_ascii c false e h = grind (arith, nat_tests)

much_later : (c d : ℕ) (ds : List ℕ) (n : ℕ) → 0 < n → get_or ds (n - 1) 0 < 128 → get_or (c ∷ d ∷ ds) (2 + n - 1) 0 < 128
much_later c d ds zero some h = absurd (omega arith)
much_later c d ds (suc n) some h = let e : 2 + suc n - 1 ≡ suc (suc n) = omega arith in rw e (rw sub-one at h)

-- a comment ends with the text, or its last byte is ASCII
abbrev Ends : List ℕ → ℕ → Type 0
Ends cs n = (n ≤ length cs) × ((n ≡ length cs) ⊎ ((0 < n) × (get_or cs (n - 1) 0 < 128)))

end_ascii : (c : ℕ) (cs : List ℕ) (b : Bool) → c == hyphen ≡ b → line_ends (c ∷ cs) ≡ true → Ends (c ∷ cs) (cond b 2 1)
end_ascii c [] true e h = absurd (let is : c ≡ hyphen = eqb-true c hyphen e in let no : line_ends (hyphen ∷ []) ≡ true = rw is at h in cc)
end_ascii c (d ∷ ds) true e h =
    let is : c ≡ hyphen = eqb-true c hyphen e in
    let two : d == hyphen ≡ true = rw is at h in
    (omega arith, inr (omega arith, let last : d ≡ hyphen = eqb-true d hyphen two in omega arith))
end_ascii c cs false e h = (omega arith, inr (omega arith, line_end_ascii c (starts_with hyphen cs) e h))

ends_on : (c : ℕ) (cs : List ℕ) (b : Bool) → line_ends (c ∷ cs) ≡ b → Ends cs (line_len cs) → Ends (c ∷ cs) (cond b (line_end_len (c ∷ cs)) (suc (line_len cs)))
ends_on c cs true e ih = end_ascii c cs (c == hyphen) refl e
ends_on c cs false e ih = (let f = ih.0 in omega arith, ⊎_elim (λ l. inl (omega arith)) (λ l. inr (omega arith, last_later c cs (line_len cs) l.0 l.1)) ih.1)

line_ends_so : (cs : List ℕ) → Ends cs (line_len cs)
unfolding line_len
line_ends_so [] = (omega arith, inl refl)
line_ends_so (c ∷ cs) = ends_on c cs (line_ends (c ∷ cs)) refl (line_ends_so cs)

line_cuts : (c : ℕ) (cs : List ℕ) → c == hyphen && starts_with hyphen cs ≡ true → Cuts (2 + line_len (drop 1 cs)) (c ∷ cs)
line_cuts c [] h = absurd (let p = and_parts (c == hyphen) false h in cc)
line_cuts c (d ∷ ds) h =
    let e = line_ends_so ds in
    let f = e.0 in
    record {
      some = omega arith;
      within = omega arith;
      last = ⊎_elim (λ l. inl (omega arith)) (λ l. inr (much_later c d ds (line_len ds) l.0 l.1)) e.1;
    }

-- as the notation of types has it
block_by : (ds : List ℕ) (o : Option ℕ) → block_len ds 0 ≡ o → LexerCuts (lexer_step (slash ∷ star ∷ ds)) (slash ∷ star ∷ ds) → StepClean (block_step o) (slash ∷ star ∷ ds)
unfolding lexer_step
block_by ds None h c = tt
block_by ds (Some n) h c = clean (2 + n) (slash ∷ star ∷ ds) (rw h at c)

block_clean : (c : ℕ) (cs : List ℕ) → c == slash && starts_with star cs ≡ true → StepClean (block_step (block_len (drop 1 cs) 0)) (c ∷ cs)
block_clean c [] h = absurd (let p = and_parts (c == slash) false h in cc)
block_clean c (d ∷ ds) h =
    let p = and_parts (c == slash) (d == star) h in
    let first : c ≡ slash = eqb-true c slash p.0 in
    let second : d ≡ star = eqb-true d star p.1 in
    rw (first, second) (block_by ds (block_len ds 0) refl (lexer_cuts (slash ∷ star ∷ ds) (lexer_step (slash ∷ star ∷ ds)) refl))

-- ---- words and fields

word_taken : (c : ℕ) (cs : List ℕ) → is_ascii_alphabetic c ≡ true → lexer_step (c ∷ cs) ≡ lexer.Take lexer_kind.Word (1 + word_len cs)
unfolding lexer_step
word_taken c cs h = rw (letter_no_space c h, letter_no_hyphen c h, letter_no_slash c h, h) refl

word_cuts : (c : ℕ) (cs : List ℕ) → is_ascii_alphabetic c ≡ true → Cuts (1 + word_len cs) (c ∷ cs)
word_cuts c cs h = lexer_cuts (c ∷ cs) (lexer.Take lexer_kind.Word (1 + word_len cs)) (word_taken c cs h)

field_cuts : (c : ℕ) (cs : List ℕ) → c == 38 && starts is_ascii_alphabetic cs ≡ true → Cuts (2 + word_len (drop 1 cs)) (c ∷ cs)
field_cuts c [] h = absurd (let p = and_parts (c == 38) false h in cc)
field_cuts c (d ∷ ds) h =
    let p = and_parts (c == 38) (is_ascii_alphabetic d) h in
    let same : suc (1 + word_len ds) ≡ 2 + word_len ds = omega arith in
    subst (λ k. Cuts k (c ∷ d ∷ ds)) same (cuts_later c (d ∷ ds) (1 + word_len ds) (word_cuts d ds p.1))

-- ---- texts, bits and digits

text_last : (bs : List ℕ) (n : ℕ) → text_len bs ≡ Some n → EndsAt double_quote n bs
unfolding text_len
text_last [] n h = absurd (cc)
text_last (c ∷ []) n h = elim (chosen (c == double_quote) _ _ _ h) [
  | inl p ↦ record { place = 0; is = sym (same_some p.1); within = omega arith; here = eqb-true c double_quote p.0 }
  | inr p ↦ absurd (let e = p.1 in cc)
]
text_last (c ∷ d ∷ ds) n h = elim (chosen (c == double_quote) _ _ _ h) [
  | inl p ↦ (elim (chosen (d == double_quote) _ _ _ p.1) [
    | inl q ↦ (let m = plus_some 2 n (text_len ds) q.1 in rw m.2 (later_two double_quote m.0 c d ds (text_last ds m.0 m.1)))
    | inr q ↦ record { place = 0; is = sym (same_some q.1); within = omega arith; here = eqb-true c double_quote p.0 }
  ])
  | inr p ↦ (let m = plus_some 1 n (text_len (d ∷ ds)) p.1 in rw m.2 (later_one double_quote m.0 c (d ∷ ds) (text_last (d ∷ ds) m.0 m.1)))
]

text_clean : (c : ℕ) (cs : List ℕ) (o : Option ℕ) → text_len cs ≡ o → StepClean (text_step o) (c ∷ cs)
text_clean c cs None h = tt
text_clean c cs (Some n) h = clean (1 + n) (c ∷ cs) (ends_cut double_quote (1 + n) (c ∷ cs) (lit< tt) (later_one double_quote n c cs (text_last cs n h)))

quoted_last : (n : ℕ) (cs : List ℕ) (x : ℕ) → starts_with_two quote x (drop n cs) ≡ true → EndsAt x (suc (suc n)) cs
quoted_last zero [] x h = absurd (cc)
quoted_last zero (c ∷ []) x h = absurd (let p = and_parts (c == quote) false h in cc)
quoted_last zero (c ∷ d ∷ ds) x h = let p = and_parts (c == quote) (d == x) h in record { place = 1; is = refl; within = omega arith; here = eqb-true d x p.1 }
quoted_last (suc n) [] x h = absurd (cc)
quoted_last (suc n) (c ∷ cs) x h = let e = quoted_last n cs x h in let i = e.is in let w = e.within in record { place = suc e.place; is = ap suc e.is; within = omega arith; here = e.here }

quote_cuts_at : (c n x : ℕ) (cs : List ℕ) → x < 128 → starts_with_two quote x (drop n cs) ≡ true → Cuts (3 + n) (c ∷ cs)
quote_cuts_at c n x cs low h = let same : 1 + suc (suc n) ≡ 3 + n = omega arith in subst (λ k. Cuts k (c ∷ cs)) same (ends_cut x (1 + suc (suc n)) (c ∷ cs) low (later_one x (suc (suc n)) c cs (quoted_last n cs x h)))

quote_clean : (c : ℕ) (cs : List ℕ) (s : Step) → quote_step cs ≡ s → StepClean s (c ∷ cs)
quote_clean c cs s h = elim (chosen (starts_with_two quote 72 (drop (run_len Hexadecimal cs) cs)) _ _ _ h) [
  | inl p ↦ subst (λ x. StepClean x (c ∷ cs)) p.1 (clean (3 + run_len Hexadecimal cs) (c ∷ cs) (quote_cuts_at c (run_len Hexadecimal cs) 72 cs (lit< tt) p.0))
  | inr p ↦ (elim (chosen (starts_with_two quote 66 (drop (run_len Binary cs) cs)) _ _ _ p.1) [
    | inl q ↦ subst (λ x. StepClean x (c ∷ cs)) q.1 (clean (3 + run_len Binary cs) (c ∷ cs) (quote_cuts_at c (run_len Binary cs) 66 cs (lit< tt) q.0))
    | inr q ↦ subst (λ x. StepClean x (c ∷ cs)) q.1 tt
  ])
]

-- ---- numbers

digit_ascii : (c : ℕ) → is_ascii_digit c ≡ true → c < 128
digit_ascii c h = grind (arith, nat_tests)

-- some digits
run_by : (c : ℕ) (cs : List ℕ) (n : ℕ) → run_len Decimal cs ≡ n → c < 128 → (0 < run_len Decimal cs → Cuts (run_len Decimal cs) cs) → Cuts (suc (run_len Decimal cs)) (c ∷ cs)
run_by c cs zero e h ih = rw e (cuts_one c cs h)
run_by c cs (suc n) e h ih = cuts_later c cs (run_len Decimal cs) (ih (omega arith))

run_is : (c : ℕ) (cs : List ℕ) (b : Bool) → is_ascii_digit c ≡ b → (0 < run_len Decimal cs → Cuts (run_len Decimal cs) cs) → 0 < cond b (suc (run_len Decimal cs)) 0 → Cuts (cond b (suc (run_len Decimal cs)) 0) (c ∷ cs)
run_is c cs true e ih some = run_by c cs (run_len Decimal cs) refl (digit_ascii c e) ih
run_is c cs false e ih some = absurd (omega arith)

run_cuts : (bs : List ℕ) → 0 < run_len Decimal bs → Cuts (run_len Decimal bs) bs
unfolding run_len
run_cuts [] some = absurd (omega arith)
run_cuts (c ∷ cs) some = run_is c cs (is_ascii_digit c) refl (run_cuts cs) some

-- ---- signs

-- one character that is ASCII
abbrev IsOne : ℕ → Sign → Type 0
IsOne c s = (c < 128) × (sign_len s ≡ 1)

one : (c k : ℕ) (s t : Sign) → c == k ≡ true → k < 128 → sign_len s ≡ 1 → ◌≡◌ {A = Option Sign} (Some s) (Some t) → IsOne c t
one c k s t is low size h =
    let e : c ≡ k = eqb-true c k is in
    let same : s ≡ t = same_some h in
    (omega arith, subst (λ x. sign_len x ≡ 1) same size)

single_one : (c : ℕ) (s : Sign) → single c ≡ Some s → IsOne c s
unfolding single
single_one c s h = elim (chosen (c == 123) _ _ _ h) [
  | inl p0 ↦ one c 123 OpenBrace s p0.0 (lit< tt) refl p0.1
  | inr p0 ↦ (elim (chosen (c == 125) _ _ _ p0.1) [
    | inl p1 ↦ one c 125 CloseBrace s p1.0 (lit< tt) refl p1.1
    | inr p1 ↦ (elim (chosen (c == 40) _ _ _ p1.1) [
      | inl p2 ↦ one c 40 OpenParenthesis s p2.0 (lit< tt) refl p2.1
      | inr p2 ↦ (elim (chosen (c == 41) _ _ _ p2.1) [
        | inl p3 ↦ one c 41 CloseParenthesis s p3.0 (lit< tt) refl p3.1
        | inr p3 ↦ (elim (chosen (c == 60) _ _ _ p3.1) [
          | inl p4 ↦ one c 60 Less s p4.0 (lit< tt) refl p4.1
          | inr p4 ↦ (elim (chosen (c == 62) _ _ _ p4.1) [
            | inl p5 ↦ one c 62 Greater s p5.0 (lit< tt) refl p5.1
            | inr p5 ↦ (elim (chosen (c == 44) _ _ _ p5.1) [
              | inl p6 ↦ one c 44 Comma s p6.0 (lit< tt) refl p6.1
              | inr p6 ↦ (elim (chosen (c == 59) _ _ _ p6.1) [
                | inl p7 ↦ one c 59 Semicolon s p7.0 (lit< tt) refl p7.1
                | inr p7 ↦ (elim (chosen (c == 61) _ _ _ p7.1) [
                  | inl p8 ↦ one c 61 Equals s p8.0 (lit< tt) refl p8.1
                  | inr p8 ↦ (elim (chosen (c == 45) _ _ _ p8.1) [
                    | inl p9 ↦ one c 45 Hyphen s p9.0 (lit< tt) refl p9.1
                    | inr p9 ↦ (elim (chosen (c == 64) _ _ _ p9.1) [
                      | inl p10 ↦ one c 64 At s p10.0 (lit< tt) refl p10.1
                      | inr p10 ↦ (elim (chosen (c == 124) _ _ _ p10.1) [
                        | inl p11 ↦ one c 124 Bar s p11.0 (lit< tt) refl p11.1
                        | inr p11 ↦ (elim (chosen (c == 33) _ _ _ p11.1) [
                          | inl p12 ↦ one c 33 Exclamation s p12.0 (lit< tt) refl p12.1
                          | inr p12 ↦ (elim (chosen (c == 94) _ _ _ p12.1) [
                            | inl p13 ↦ one c 94 Caret s p13.0 (lit< tt) refl p13.1
                            | inr p13 ↦ (absurd (let e = p13.1 in cc))
                          ])
                        ])
                      ])
                    ])
                  ])
                ])
              ])
            ])
          ])
        ])
      ])
    ])
  ])
]

starts_cuts : (x : ℕ) (cs : List ℕ) → x < 128 → starts_with x cs ≡ true → Cuts 1 cs
starts_cuts x [] low h = absurd (cc)
starts_cuts x (c ∷ cs) low h = let e : c ≡ x = eqb-true c x h in cuts_one c cs (omega arith)

two_cuts : (c x : ℕ) (cs : List ℕ) → x < 128 → starts_with x cs ≡ true → Cuts 2 (c ∷ cs)
two_cuts c x cs low h = cuts_later c cs 1 (starts_cuts x cs low h)

three_cuts : (c x : ℕ) (cs : List ℕ) → x < 128 → starts_with x (drop 1 cs) ≡ true → Cuts 3 (c ∷ cs)
three_cuts c x cs low h = cuts_later c cs 2 (cuts_drop 1 cs 1 (starts_cuts x (drop 1 cs) low h))

second : (x y : ℕ) (cs : List ℕ) → starts_with_two x y cs ≡ true → starts_with y (drop 1 cs) ≡ true
second x y [] h = absurd (cc)
second x y (c ∷ cs) h = (and_parts (c == x) (starts_with y cs) h).1

dots_cuts : (c : ℕ) (cs : List ℕ) (s : Sign) → c < 128 → dots cs ≡ s → Cuts (sign_len s) (c ∷ cs)
dots_cuts c cs s low h = elim (chosen (starts_with 46 cs) _ _ _ h) [
  | inl p ↦ (elim (chosen (starts_with 46 (drop 1 cs)) _ _ _ p.1) [
    | inl q ↦ subst (λ x. Cuts (sign_len x) (c ∷ cs)) q.1 (three_cuts c 46 cs (lit< tt) q.0)
    | inr q ↦ subst (λ x. Cuts (sign_len x) (c ∷ cs)) q.1 (two_cuts c 46 cs (lit< tt) p.0)
  ])
  | inr p ↦ subst (λ x. Cuts (sign_len x) (c ∷ cs)) p.1 (cuts_one c cs low)
]

colons_cuts : (c : ℕ) (cs : List ℕ) (s : Sign) → c < 128 → colons cs ≡ s → Cuts (sign_len s) (c ∷ cs)
colons_cuts c cs s low h = elim (chosen (starts_with_two 58 61 cs) _ _ _ h) [
  | inl p ↦ subst (λ x. Cuts (sign_len x) (c ∷ cs)) p.1 (three_cuts c 61 cs (lit< tt) (second 58 61 cs p.0))
  | inr p ↦ subst (λ x. Cuts (sign_len x) (c ∷ cs)) p.1 (cuts_one c cs low)
]

brackets_cuts : (c : ℕ) (cs : List ℕ) (s : Sign) → c < 128 → brackets cs ≡ s → Cuts (sign_len s) (c ∷ cs)
brackets_cuts c cs s low h = elim (chosen (starts_with 91 cs) _ _ _ h) [
  | inl p ↦ subst (λ x. Cuts (sign_len x) (c ∷ cs)) p.1 (two_cuts c 91 cs (lit< tt) p.0)
  | inr p ↦ subst (λ x. Cuts (sign_len x) (c ∷ cs)) p.1 (cuts_one c cs low)
]

closing_cuts : (c : ℕ) (cs : List ℕ) (s : Sign) → c < 128 → closing cs ≡ s → Cuts (sign_len s) (c ∷ cs)
closing_cuts c cs s low h = elim (chosen (starts_with 93 cs) _ _ _ h) [
  | inl p ↦ subst (λ x. Cuts (sign_len x) (c ∷ cs)) p.1 (two_cuts c 93 cs (lit< tt) p.0)
  | inr p ↦ subst (λ x. Cuts (sign_len x) (c ∷ cs)) p.1 (cuts_one c cs low)
]

single_cuts : (c : ℕ) (cs : List ℕ) (s : Sign) → single c ≡ Some s → Cuts (sign_len s) (c ∷ cs)
single_cuts c cs s h = let p = single_one c s h in rw p.1 (cuts_one c cs p.0)

low_by : (c k : ℕ) → c == k ≡ true → k < 128 → c < 128
low_by c k is low = let e : c ≡ k = eqb-true c k is in omega arith

sign_cuts : (c : ℕ) (cs : List ℕ) (s : Sign) → sign_at c cs ≡ Some s → Cuts (sign_len s) (c ∷ cs)
sign_cuts c cs s h = elim (chosen (c == 46) _ _ _ h) [
  | inl p ↦ dots_cuts c cs s (low_by c 46 p.0 (lit< tt)) (same_some p.1)
  | inr p ↦ (elim (chosen (c == 58) _ _ _ p.1) [
    | inl q ↦ colons_cuts c cs s (low_by c 58 q.0 (lit< tt)) (same_some q.1)
    | inr q ↦ (elim (chosen (c == 91) _ _ _ q.1) [
      | inl r ↦ brackets_cuts c cs s (low_by c 91 r.0 (lit< tt)) (same_some r.1)
      | inr r ↦ (elim (chosen (c == 93) _ _ _ r.1) [
        | inl u ↦ closing_cuts c cs s (low_by c 93 u.0 (lit< tt)) (same_some u.1)
        | inr u ↦ single_cuts c cs s u.1
      ])
    ])
  ])
]

sign_clean : (c : ℕ) (cs : List ℕ) (o : Option Sign) → sign_at c cs ≡ o → StepClean (sign_step o) (c ∷ cs)
sign_clean c cs None h = tt
sign_clean c cs (Some s) h = clean (sign_len s) (c ∷ cs) (sign_cuts c cs s h)

-- ---- numbers with more

point_cuts_by : (c : ℕ) (cs : List ℕ) (n : ℕ) → run_len Decimal cs ≡ n → c < 128 → Cuts (1 + run_len Decimal cs) (c ∷ cs)
point_cuts_by c cs zero e h = rw e (cuts_one c cs h)
point_cuts_by c cs (suc n) e h =
    let some : 0 < run_len Decimal cs = omega arith in
    let same : suc (run_len Decimal cs) ≡ 1 + run_len Decimal cs = omega arith in
    subst (λ k. Cuts k (c ∷ cs)) same (cuts_later c cs (run_len Decimal cs) (run_cuts cs some))

point_by : (x b : Bool) → not x || b ≡ false → x ≡ true
point_by true b h = refl
point_by false b h = absurd (cc)

point_first : (c : ℕ) (cs : List ℕ) (b : Bool) → b ≡ not (c == 46) || starts_with 46 cs → 0 < cond b 0 (1 + run_len Decimal cs) → Cuts (cond b 0 (1 + run_len Decimal cs)) (c ∷ cs)
point_first c cs true e some = absurd (omega arith)
point_first c cs false e some = point_cuts_by c cs (run_len Decimal cs) refl (low_by c 46 (point_by (c == 46) (starts_with 46 cs) (sym e)) (lit< tt))

point_cuts : (bs : List ℕ) → 0 < point_len bs → Cuts (point_len bs) bs
point_cuts [] some = absurd (omega arith)
point_cuts (c ∷ cs) some = point_first c cs (not (c == 46) || starts_with 46 cs) refl some

some_digits : (b : Bool) (n : ℕ) → b || n == 0 ≡ false → 0 < n
some_digits true n h = absurd (cc)
some_digits false zero h = absurd (cc)
some_digits false (suc n) h = omega arith

exponent_by : (bs : List ℕ) (k : ℕ) (b : Bool) → b ≡ k == 0 || run_len Decimal (drop k bs) == 0 → 0 < cond b 0 (k + run_len Decimal (drop k bs)) → Cuts (cond b 0 (k + run_len Decimal (drop k bs))) bs
exponent_by bs k true e some = absurd (omega arith)
exponent_by bs k false e some = cuts_drop k bs (run_len Decimal (drop k bs)) (run_cuts (drop k bs) (some_digits (k == 0) (run_len Decimal (drop k bs)) (sym e)))

exponent_cuts : (bs : List ℕ) → 0 < exponent_len bs → Cuts (exponent_len bs) bs
exponent_cuts bs some = exponent_by bs (exponent_start bs) (exponent_start bs == 0 || run_len Decimal (drop (exponent_start bs) bs) == 0) refl some

tail_by : (bs : List ℕ) (p e : ℕ) → p ≡ point_len bs → e ≡ exponent_len (drop p bs) → 0 < p + e → Cuts (p + e) bs
tail_by bs p zero h g some =
    let none : p ≡ p + 0 = omega arith in
    let most : 0 < point_len bs = omega arith in
    subst (λ k. Cuts k bs) (sym h ∙ none) (point_cuts bs most)
tail_by bs p (suc e) h g some =
    let most : 0 < exponent_len (drop p bs) = omega arith in
    cuts_drop p bs (suc e) (subst (λ k. Cuts k (drop p bs)) (sym g) (exponent_cuts (drop p bs) most))

tail_cuts : (bs : List ℕ) → 0 < number_tail bs → Cuts (number_tail bs) bs
tail_cuts bs some = tail_by bs (point_len bs) (exponent_len (drop (point_len bs) bs)) refl refl some

is_more : (n : ℕ) → nat_lt 0 n ≡ true → 0 < n
is_more n h = grind (arith, nat_tests)

number_clean : (bs : List ℕ) (n : ℕ) (s : Step) → Cuts n bs → number_step n bs ≡ s → StepClean s bs
number_clean bs n s cuts h = elim (chosen (starts is_letter_or_digit (drop (n + number_tail (drop n bs)) bs)) _ _ _ h) [
  | inl p ↦ subst (λ x. StepClean x bs) p.1 tt
  | inr p ↦ (elim (chosen (nat_lt 0 (number_tail (drop n bs))) _ _ _ p.1) [
    | inl q ↦ subst (λ x. StepClean x bs) q.1 (clean (n + number_tail (drop n bs)) bs (cuts_drop n bs (number_tail (drop n bs)) (tail_cuts (drop n bs) (is_more (number_tail (drop n bs)) q.0))))
    | inr q ↦ (elim (chosen (nat_lt 1 n && starts_with 48 bs) _ _ _ q.1) [
      | inl r ↦ subst (λ x. StepClean x bs) r.1 tt
      | inr r ↦ subst (λ x. StepClean x bs) r.1 (clean n bs cuts)
    ])
  ])
]

first_digit : (c : ℕ) (cs : List ℕ) → is_ascii_digit c ≡ true → Cuts (run_len Decimal (c ∷ cs)) (c ∷ cs)
unfolding run_len
first_digit c cs h = rw h (run_by c cs (run_len Decimal cs) refl (digit_ascii c h) (run_cuts cs))

-- ---- all steps

token_clean : (c : ℕ) (cs : List ℕ) (s : Step) → token_step c cs ≡ s → StepClean s (c ∷ cs)
unfolding token_step
token_clean c cs s h = elim (chosen (is_ascii_alphabetic c) _ _ _ h) [
  | inl p ↦ subst (λ x. StepClean x (c ∷ cs)) p.1 (clean (1 + word_len cs) (c ∷ cs) (word_cuts c cs p.0))
  | inr p ↦ (elim (chosen (is_ascii_digit c) _ _ _ p.1) [
    | inl q ↦ number_clean (c ∷ cs) (run_len Decimal (c ∷ cs)) s (first_digit c cs q.0) q.1
    | inr q ↦ (elim (chosen (c == 38 && starts is_ascii_alphabetic cs) _ _ _ q.1) [
      | inl r ↦ subst (λ x. StepClean x (c ∷ cs)) r.1 (clean (2 + word_len (drop 1 cs)) (c ∷ cs) (field_cuts c cs r.0))
      | inr r ↦ (elim (chosen (c == quote) _ _ _ r.1) [
        | inl u ↦ quote_clean c cs s u.1
        | inr u ↦ (elim (chosen (c == double_quote) _ _ _ u.1) [
          | inl v ↦ subst (λ x. StepClean x (c ∷ cs)) v.1 (text_clean c cs (text_len cs) refl)
          | inr v ↦ subst (λ x. StepClean x (c ∷ cs)) v.1 (sign_clean c cs (sign_at c cs) refl)
        ])
      ])
    ])
  ])
]

pub step_clean : (bs : List ℕ) (s : Step) → step_at bs ≡ s → StepClean s bs
unfolding step_at
step_clean [] s h = subst (λ x. StepClean x []) h tt
step_clean (c ∷ cs) s h = elim (chosen (is_space c) _ _ _ h) [
  | inl p ↦ subst (λ x. StepClean x (c ∷ cs)) p.1 (clean 1 (c ∷ cs) (cuts_one c cs (space_ascii c p.0)))
  | inr p ↦ (elim (chosen (c == 194 && starts_with 160 cs) _ _ _ p.1) [
    | inl q ↦ subst (λ x. StepClean x (c ∷ cs)) q.1 (no_break c cs q.0)
    | inr q ↦ (elim (chosen (c == hyphen && starts_with hyphen cs) _ _ _ q.1) [
      | inl r ↦ subst (λ x. StepClean x (c ∷ cs)) r.1 (clean (2 + line_len (drop 1 cs)) (c ∷ cs) (line_cuts c cs r.0))
      | inr r ↦ (elim (chosen (c == slash && starts_with star cs) _ _ _ r.1) [
        | inl u ↦ subst (λ x. StepClean x (c ∷ cs)) u.1 (block_clean c cs u.0)
        | inr u ↦ token_clean c cs s u.1
      ])
    ])
  ])
]
