-- What the lexer of modules reads, where that of the notation takes a step.
use Rattle.std.proofs.Common.{◌≡◌, ℕ, suc, ◌+◌, List, [], ◌∷◌, ◌++◌, take, drop, true, false, not, ◌&&◌, ◌==◌, inl, inr, Option, Some, None, refl, sym, ap, subst, ◌∙◌, arith, take-append-drop}
use Rattle.std.specs.Prelude.{nat_lt}
use Rattle.std.specs.Char.{is_ascii_alphabetic, is_ascii_digit}
use Rattle.std.proofs.lemmas.Bool.{eqb-true, and_parts, and_right, not-true, or_parts}
use Rattle.oer_lexer.specs.Characters.{is_space, is_letter_or_digit, is_first_digit, starts, starts_with, starts_with_two, hyphen, quote, double_quote, star, slash}
use Rattle.oer_lexer.specs.FallsInto.{sign_text}
use Rattle.oer_lexer.specs.Lexing as own
use Rattle.oer_lexer.specs.Token as own_tokens
use Rattle.oer_lexer.specs.declared.lengths.Digit.TheVariants.{Decimal, Hexadecimal, Binary}
use Rattle.oer_lexer.specs.declared.lexing.Step.{Step}
use Rattle.oer_lexer.specs.declared.lexing.Step.TheVariants as step
use Rattle.oer_lexer.specs.declared.token.Kind.TheVariants.{Word, Number}
use Rattle.oer_lexer.specs.declared.token.Sign.{Sign}
use Rattle.oer_lexer.proofs.Boundaries.{StepCuts, step_cuts}
use Rattle.oer_lexer.proofs.Chars.{digit_no_hyphen}
use Rattle.oer_lexer.proofs.LexSound.{chosen, sign_inv}
use Rattle.oer_module_lexer.specs.Lexing as modules
use Rattle.oer_module_lexer.specs.Token.{Token, number, sign}
use Rattle.oer_module_lexer.specs.declared.lexing.Step.TheVariants as module_step
use Rattle.oer_module_lexer.specs.declared.token.Kind.TheVariants as kind
use Rattle.oer_module_lexer.specs.declared.token.Sign.TheVariants as signs
use Rattle.oer_same_tokens.specs.Same.{same_sign, same_token, is_odd_space, has_odd_space}
use Rattle.oer_same_tokens.proofs.Lengths.{no_digits, quoted_run, bits_run, first_of_two, text_same}
use Rattle.oer_same_tokens.proofs.Turns.{IsLexed, IsSome, skipped, signed, took, Follows, Leads, number_lexed, hyphen_at, space_at, line_at, block_at, word_at, quote_at, text_at, sign_steps, size_same}

-- What is read at a text, where the notation's lexer takes this step and what is behind is read as ms. A token has to be
-- followed by what may follow it.
abbrev Reads : Step → List ℕ → Type 0
Reads (step.Skip k) bs = IsSome k bs → (ms : List Token) → IsLexed (drop k bs) ms → IsLexed bs ms
Reads (step.Take kind k) bs = IsSome k bs → Follows (own_tokens.token_by kind (take k bs)) (drop k bs) → (ms : List Token) → IsLexed (drop k bs) ms
    → IsLexed bs (same_token (own_tokens.token_by kind (take k bs)) ++ ms)
Reads (step.Sign s) bs = IsSome (own.sign_len s) bs → Follows (own_tokens.sign s) (drop (own.sign_len s) bs) → (ms : List Token) → IsLexed (drop (own.sign_len s) bs) ms
    → IsLexed bs (sign (same_sign s) ∷ ms)
Reads step.Bad bs = Unit {0}

-- ---- comments

line_reads : (c : ℕ) (cs : List ℕ) → c == hyphen && starts_with hyphen cs ≡ true → has_odd_space cs ≡ false → Reads (step.Skip (2 + own.line_len (drop 1 cs))) (c ∷ cs)
line_reads c [] h odd = absurd (let p = and_parts (c == hyphen) false h in cc)
line_reads c (e ∷ es) h odd =
    let p = and_parts (c == hyphen) (e == hyphen) h in
    let o = or_parts (is_odd_space e) (has_odd_space es) odd in
    rw (eqb-true c hyphen p.0, eqb-true e hyphen p.1) (λ some ms more. skipped (2 + own.line_len es) (hyphen ∷ hyphen ∷ es) ms some (line_at es o.1) more)

block_by : (es : List ℕ) (o : Option ℕ) → own.block_len es 0 ≡ o → Reads (own.block_step o) (slash ∷ star ∷ es)
block_by es None h = tt
block_by es (Some n) h = λ some ms more. skipped (2 + n) (slash ∷ star ∷ es) ms some (block_at es ∙ ap modules.block_step h) more

block_reads : (c : ℕ) (cs : List ℕ) → c == slash && starts_with star cs ≡ true → Reads (own.block_step (own.block_len (drop 1 cs) 0)) (c ∷ cs)
block_reads c [] h = absurd (let p = and_parts (c == slash) false h in cc)
block_reads c (e ∷ es) h =
    let p = and_parts (c == slash) (e == star) h in
    rw (eqb-true c slash p.0, eqb-true e star p.1) (block_by es (own.block_len es 0) refl)

-- ---- texts, and digits in quotes

text_reads : (cs : List ℕ) (o : Option ℕ) → own.text_len cs ≡ o → Reads (own.text_step o) (double_quote ∷ cs)
text_reads cs None h = tt
text_reads cs (Some n) h = λ some follows ms more. took kind.Text (1 + n) (double_quote ∷ cs) ms some (text_at cs ∙ ap modules.text_step (text_same cs n h)) more

quote_reads : (cs : List ℕ) (s : Step) → own.quote_step cs ≡ s → Reads s (quote ∷ cs)
quote_reads cs s h = elim (chosen (starts_with_two quote 72 (drop (own.digits_len Hexadecimal cs) cs)) _ _ _ h) [
  | inl p ↦ (
      let n = own.digits_len Hexadecimal cs in
      let same = quoted_run Hexadecimal cs (first_of_two quote 72 (drop n cs) p.0) in
      let is : modules.quote_step cs ≡ module_step.Take kind.Digits (3 + n) = rw (same, p.0) refl in
      subst (λ x. Reads x (quote ∷ cs)) p.1 (λ some follows ms more. took kind.Digits (3 + n) (quote ∷ cs) ms some (quote_at cs ∙ is) more))
  | inr p ↦ (elim (chosen (starts_with_two quote 66 (drop (own.digits_len Binary cs) cs)) _ _ _ p.1) [
    | inl q ↦ (
        let n = own.digits_len Binary cs in
        let ends = first_of_two quote 66 (drop n cs) q.0 in
        let all = bits_run cs ends in
        let hexadecimal_ends : starts_with quote (drop (own.digits_len Hexadecimal cs) cs) ≡ true = rw all ends in
        let same = quoted_run Hexadecimal cs hexadecimal_ends in
        let bits_same = quoted_run Binary cs ends in
        let is : modules.quote_step cs ≡ module_step.Take kind.Bits (3 + n) = rw (same, p.0, bits_same, q.0) refl in
        subst (λ x. Reads x (quote ∷ cs)) q.1 (λ some follows ms more. took kind.Bits (3 + n) (quote ∷ cs) ms some (quote_at cs ∙ is) more))
    | inr q ↦ subst (λ x. Reads x (quote ∷ cs)) q.1 tt
  ])
]

-- ---- signs

sign_stands : (bs : List ℕ) (s : Sign) → own.sign_at bs ≡ Some s → (bs ≡ sign_text s ++ drop (own.sign_len s) bs)
sign_stands bs s h = sym (take-append-drop (own.sign_len s) bs) ∙ ap (λ w. w ++ drop (own.sign_len s) bs) (sign_inv bs s h)

sign_reads : (bs : List ℕ) (o : Option Sign) → own.sign_at bs ≡ o → Reads (own.sign_step o) bs
sign_reads bs None h = tt
sign_reads bs (Some s) h = λ some follows ms more.
    let rest = drop (own.sign_len s) bs in
    let whole = sign_stands bs s h in
    let at : own.sign_at (sign_text s ++ rest) ≡ Some s = subst (λ x. own.sign_at x ≡ Some s) whole h in
    let steps : modules.step_at bs ≡ module_step.Sign (same_sign s) = subst (λ x. modules.step_at x ≡ module_step.Sign (same_sign s)) (sym whole)
    (sign_steps s rest at follows.short) in
    signed (same_sign s) bs ms (subst (λ k. IsSome k bs) (sym (size_same s)) some) steps (subst (λ k. IsLexed (drop k bs) ms) (sym (size_same s)) more)

-- ---- numbers

nought_reads : (cs : List ℕ) → starts is_letter_or_digit cs ≡ false → Reads (step.Take Number 1) (48 ∷ cs)
nought_reads cs clear = λ some follows ms more.
    let one : 1 ≡ suc (own.digits_len Decimal cs) = rw (no_digits cs clear) refl in
    number_lexed 48 cs 1 ms refl one some.within clear follows.alone refl more

positive_reads : (c : ℕ) (cs : List ℕ) → is_ascii_digit c ≡ true → c == 48 ≡ false → starts is_letter_or_digit (drop (own.digits_len Decimal cs) cs) ≡ false
    → Reads (step.Take Number (suc (own.digits_len Decimal cs))) (c ∷ cs)
positive_reads c cs h first clear = λ some follows ms more.
    let n = suc (own.digits_len Decimal cs) in
    let lead : Leads n (c ∷ cs) = and_right (nat_lt 1 n) (c == 48) first in
    rw (digit_no_hyphen c h) (number_lexed c cs n ms h refl some.within clear follows.alone lead more)

negative_reads : (d : ℕ) (ds : List ℕ) → is_first_digit d ≡ true → starts is_letter_or_digit (drop (own.digits_len Decimal ds) ds) ≡ false
    → Reads (step.Take Number (suc (suc (own.digits_len Decimal ds)))) (hyphen ∷ d ∷ ds)
negative_reads d ds h clear = λ some follows ms more.
    let p = and_parts (is_ascii_digit d) (not (d == 48)) h in
    let n = suc (own.digits_len Decimal ds) in
    let lead : Leads n (d ∷ ds) = and_right (nat_lt 1 n) (d == 48) (not-true (d == 48) p.1) in
    let within = some.within in
    let behind = number_lexed d ds n ms p.0 refl (omega arith) clear follows.alone lead more in
    signed signs.Hyphen (hyphen ∷ d ∷ ds) (number (take n (d ∷ ds)) ∷ ms) (record { some = omega arith; within = omega arith }) (hyphen_at d ds p.0) behind

negative_by : (c : ℕ) (cs : List ℕ) → c == hyphen && starts is_first_digit cs ≡ true → starts is_letter_or_digit (drop (suc (own.digits_len Decimal cs)) (c ∷ cs)) ≡ false
    → Reads (step.Take Number (suc (own.digits_len Decimal cs))) (c ∷ cs)
unfolding own.digits_len
negative_by c [] h clear = absurd (let p = and_parts (c == hyphen) false h in cc)
negative_by c (d ∷ ds) h clear =
    let p = and_parts (c == hyphen) (is_first_digit d) h in
    let q = and_parts (is_ascii_digit d) (not (d == 48)) p.1 in
    let c_is : c ≡ hyphen = eqb-true c hyphen p.0 in
    let one : own.digits_len Decimal (d ∷ ds) ≡ suc (own.digits_len Decimal ds) = rw q.0 refl in
    let clear_behind : starts is_letter_or_digit (drop (own.digits_len Decimal ds) ds) ≡ false = rw one at clear in
    rw (one, c_is) (negative_reads d ds p.1 clear_behind)

numeral_reads : (bs : List ℕ) (n : ℕ) → own.number_len bs ≡ n → n == 0 ≡ false → starts is_letter_or_digit (drop n bs) ≡ false → Reads (step.Take Number n) bs
unfolding own.number_len
numeral_reads [] n h some clear = absurd (let e : n == 0 ≡ true = ap (λ x. x == 0) (sym h) in cc)
numeral_reads (c ∷ cs) n h some clear = elim (chosen (c == 48) _ _ _ h) [
  | inl p ↦ (
      let clear_behind : starts is_letter_or_digit cs ≡ false = rw (← p.1) at clear in
      rw (← p.1, eqb-true c 48 p.0) (nought_reads cs clear_behind))
  | inr p ↦ (elim (chosen (is_ascii_digit c) _ _ _ p.1) [
    | inl q ↦ (
        let clear_behind : starts is_letter_or_digit (drop (own.digits_len Decimal cs) cs) ≡ false = rw (← q.1) at clear in
        rw (← q.1) (positive_reads c cs q.0 p.0 clear_behind))
    | inr q ↦ (elim (chosen (c == hyphen && starts is_first_digit cs) _ _ _ q.1) [
      | inl r ↦ (
          let clear_behind : starts is_letter_or_digit (drop (suc (own.digits_len Decimal cs)) (c ∷ cs)) ≡ false = rw (← r.1) at clear in
          rw (← r.1) (negative_by c cs r.0 clear_behind))
      | inr r ↦ absurd (let e : n == 0 ≡ true = ap (λ x. x == 0) (sym r.1) in cc)
    ])
  ])
]

number_reads : (bs : List ℕ) (n : ℕ) (s : Step) → own.number_len bs ≡ n → own.number_step n bs ≡ s → Reads s bs
number_reads bs n s e h = elim (chosen (n == 0) _ _ _ h) [
  | inl p ↦ subst (λ x. Reads x bs) p.1 (sign_reads bs (own.sign_at bs) refl)
  | inr p ↦ (elim (chosen (starts is_letter_or_digit (drop n bs)) _ _ _ p.1) [
    | inl q ↦ subst (λ x. Reads x bs) q.1 tt
    | inr q ↦ subst (λ x. Reads x bs) q.1 (numeral_reads bs n e p.0 q.0)
  ])
]

-- ---- what stands at the front

word_reads : (c : ℕ) (cs : List ℕ) → is_ascii_alphabetic c ≡ true → Reads (step.Take Word (1 + own.word_len cs)) (c ∷ cs)
word_reads c cs h = λ some follows ms more. took kind.Word (1 + own.word_len cs) (c ∷ cs) ms some (word_at c cs h) more

step_reads : (bs : List ℕ) (s : Step) → has_odd_space bs ≡ false → own.step_at bs ≡ s → Reads s bs
unfolding own.step_at
step_reads [] s odd h = subst (λ x. Reads x []) h tt
step_reads (c ∷ cs) s odd h = elim (chosen (is_space c) _ _ _ h) [
  | inl p ↦ subst (λ x. Reads x (c ∷ cs)) p.1 (λ some ms more. skipped 1 (c ∷ cs) ms some (space_at c cs p.0) more)
  | inr p ↦ (elim (chosen (c == hyphen && starts_with hyphen cs) _ _ _ p.1) [
    | inl q ↦ (let o = or_parts (is_odd_space c) (has_odd_space cs) odd in subst (λ x. Reads x (c ∷ cs)) q.1 (line_reads c cs q.0 o.1))
    | inr q ↦ (elim (chosen (c == slash && starts_with star cs) _ _ _ q.1) [
      | inl r ↦ subst (λ x. Reads x (c ∷ cs)) r.1 (block_reads c cs r.0)
      | inr r ↦ (elim (chosen (is_ascii_alphabetic c) _ _ _ r.1) [
        | inl u ↦ subst (λ x. Reads x (c ∷ cs)) u.1 (word_reads c cs u.0)
        | inr u ↦ (elim (chosen (c == quote) _ _ _ u.1) [
          | inl v ↦ subst (λ x. Reads s (x ∷ cs)) (sym (eqb-true c quote v.0)) (quote_reads cs s v.1)
          | inr v ↦ (elim (chosen (c == double_quote) _ _ _ v.1) [
            | inl w ↦ subst (λ x. Reads x (c ∷ cs)) w.1 (subst (λ x. Reads (own.text_step (own.text_len cs)) (x ∷ cs)) (sym
                (eqb-true c double_quote w.0)) (text_reads cs (own.text_len cs) refl))
            | inr w ↦ number_reads (c ∷ cs) (own.number_len (c ∷ cs)) s refl w.1
          ])
        ])
      ])
    ])
  ])
]

-- what is read where the notation's lexer takes so many bytes, and a token if there is one
abbrev pub Turned : Option own_tokens.Token → ℕ → List ℕ → Type 0
Turned None k bs = (ms : List Token) → IsLexed (drop k bs) ms → IsLexed bs ms
Turned (Some t) k bs = Follows t (drop k bs) → (ms : List Token) → IsLexed (drop k bs) ms → IsLexed bs (same_token t ++ ms)

abbrev pub Taken : Type 0
Taken = Option (Option own_tokens.Token × ℕ)

same_some : {A : Type 0} {x y : A} → ◌≡◌ {A = Option A} (Some x) (Some y) → x ≡ y
same_some h = cc

by_step : (s : Step) (bs : List ℕ) (o : Option own_tokens.Token) (k : ℕ) → StepCuts s bs → Reads s bs → ◌≡◌ {A = Taken} (own.front_by s bs) (Some (o, k)) → Turned o k bs
by_step (step.Skip n) bs o k c r h = subst (λ x. Turned x.0 x.1 bs) (same_some h) (r (record { some = c.some; within = c.within }))
by_step (step.Take kind n) bs o k c r h = subst (λ x. Turned x.0 x.1 bs) (same_some h) (r (record { some = c.some; within = c.within }))
by_step (step.Sign s) bs o k c r h = subst (λ x. Turned x.0 x.1 bs) (same_some h) (r (record { some = c.some; within = c.within }))
by_step step.Bad bs o k c r h = absurd (cc)

pub front_turned : (bs : List ℕ) (o : Option own_tokens.Token) (k : ℕ) → has_odd_space bs ≡ false → own.front_at bs ≡ Some (o, k) → Turned o k bs
unfolding own.front_at
front_turned bs o k odd h = by_step (own.step_at bs) bs o k (step_cuts bs (own.step_at bs) refl) (step_reads bs (own.step_at bs) odd refl) h
