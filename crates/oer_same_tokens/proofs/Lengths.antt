-- How long what stands at the front is, as the lexer of modules has it.
use Rattle.std.proofs.Common.{◌≡◌, ℕ, List, [], ◌∷◌, drop, Bool, true, false, ◌==◌, inl, inr, Some, refl, sym, ap, arith}
use Rattle.std.specs.Prelude.{nat_lt}
use Rattle.std.specs.Char.{is_ascii_alphabetic, is_ascii_digit}
use Rattle.std.proofs.lemmas.Bool.{eqb-true, and_parts, or_parts}
use Rattle.std.proofs.lemmas.Bool.Decides.{nat_tests}
use Rattle.oer_lexer.specs.Characters as own_characters
use Rattle.oer_lexer.specs.Characters.{is_letter_or_digit, starts, starts_with, starts_with_two, quote, double_quote}
use Rattle.oer_lexer.specs.Lexing as own
use Rattle.oer_lexer.specs.declared.lengths.Digit.{Digit}
use Rattle.oer_lexer.specs.declared.lengths.Digit.TheVariants.{Decimal, Hexadecimal, Binary}
use Rattle.oer_lexer.proofs.Chars.{bit_is_hexadecimal}
use Rattle.oer_lexer.proofs.LexComplete.{plus_some}
use Rattle.oer_lexer.proofs.LexSound.{chosen}
use Rattle.oer_module_lexer.specs.Lexing as modules
use Rattle.oer_module_lexer.specs.declared.lengths.Class.{Class}
use Rattle.oer_module_lexer.specs.declared.lengths.Class.TheVariants as class
use Rattle.oer_same_tokens.specs.Same.{is_odd_space, has_odd_space}

-- ---- digits

abbrev pub same_class : Digit → Class
same_class Decimal = class.Decimal
same_class Hexadecimal = class.Hexadecimal
same_class Binary = class.Binary

pub decimal_run : (bs : List ℕ) → modules.run_len class.Decimal bs ≡ own.digits_len Decimal bs
unfolding modules.run_len own.digits_len
decimal_run [] = refl
decimal_run (c ∷ cs) = rw (decimal_run cs) refl

pub no_digits : (bs : List ℕ) → starts is_letter_or_digit bs ≡ false → own.digits_len Decimal bs ≡ 0
unfolding own.digits_len
no_digits [] h = refl
no_digits (c ∷ cs) h = let p = or_parts (is_ascii_alphabetic c) (is_ascii_digit c) h in rw p.1 refl

in_class : (d : Digit) (c : ℕ) → own.is_digit d c ≡ true → modules.is_of (same_class d) c ≡ true
in_class Decimal c h = h
in_class Hexadecimal c h = rw h refl
in_class Binary c h = rw h refl

quote_outside : (d : Digit) → modules.is_of (same_class d) quote ≡ false
quote_outside Decimal = refl
quote_outside Hexadecimal = refl
quote_outside Binary = refl

run_by : (d : Digit) (c : ℕ) (cs : List ℕ) (b : Bool) → own.is_digit d c ≡ b
    → (starts_with quote (drop (own.digits_len d cs) cs) ≡ true → modules.run_len (same_class d) cs ≡ own.digits_len d cs)
    → starts_with quote (drop (own.digits_len d (c ∷ cs)) (c ∷ cs)) ≡ true → modules.run_len (same_class d) (c ∷ cs) ≡ own.digits_len d (c ∷ cs)
unfolding modules.run_len own.digits_len
run_by d c cs true e ih h = let more = ih (rw e at h) in rw (e, in_class d c e, more) refl
run_by d c cs false e ih h =
    let ends : c == quote ≡ true = rw e at h in
    let is = eqb-true c quote ends in
    let over : modules.is_of (same_class d) c ≡ false = rw is (quote_outside d) in
    rw (e, over) refl

-- up to a quote there are digits alone, so no white space
pub quoted_run : (d : Digit) (cs : List ℕ) → starts_with quote (drop (own.digits_len d cs) cs) ≡ true → modules.run_len (same_class d) cs ≡ own.digits_len d cs
unfolding modules.run_len own.digits_len
quoted_run d [] h = refl
quoted_run d (c ∷ cs) h = run_by d c cs (own.is_digit d c) refl (quoted_run d cs) h

bits_by : (c : ℕ) (cs : List ℕ) (b : Bool) → own.is_digit Binary c ≡ b
    → (starts_with quote (drop (own.digits_len Binary cs) cs) ≡ true → own.digits_len Hexadecimal cs ≡ own.digits_len Binary cs)
    → starts_with quote (drop (own.digits_len Binary (c ∷ cs)) (c ∷ cs)) ≡ true → own.digits_len Hexadecimal (c ∷ cs) ≡ own.digits_len Binary (c ∷ cs)
unfolding own.digits_len
bits_by c cs true e ih h = let more = ih (rw e at h) in rw (e, bit_is_hexadecimal c e, more) refl
bits_by c cs false e ih h =
    let ends : c == quote ≡ true = rw e at h in
    let is = eqb-true c quote ends in
    rw (e, is) refl

-- bits up to a quote are hexadecimal digits up to it
pub bits_run : (cs : List ℕ) → starts_with quote (drop (own.digits_len Binary cs) cs) ≡ true → own.digits_len Hexadecimal cs ≡ own.digits_len Binary cs
unfolding own.digits_len
bits_run [] h = refl
bits_run (c ∷ cs) h = bits_by c cs (own.is_digit Binary c) refl (bits_run cs) h

pub first_of_two : (x y : ℕ) (bs : List ℕ) → starts_with_two x y bs ≡ true → starts_with x bs ≡ true
first_of_two x y [] h = h
first_of_two x y (c ∷ cs) h = let p = and_parts (c == x) (starts_with y cs) h in p.0

-- ---- texts

pub text_same : (bs : List ℕ) (n : ℕ) → own.text_len bs ≡ Some n → modules.text_len bs ≡ Some n
unfolding own.text_len modules.text_len
text_same [] n h = h
text_same (c ∷ []) n h = h
text_same (c ∷ d ∷ ds) n h = elim (chosen (c == double_quote) _ _ _ h) [
  | inl p ↦ (elim (chosen (d == double_quote) _ _ _ p.1) [
    | inl q ↦ (let m = plus_some 2 n (own.text_len ds) q.1 in rw (p.0, q.0, text_same ds m.0 m.1) (ap Some (sym m.2)))
    | inr q ↦ rw (p.0, q.0) q.1
  ])
  | inr p ↦ (elim (chosen (nat_lt c 32) _ _ _ p.1) [
    | inl q ↦ absurd (let e = q.1 in cc)
    | inr q ↦ (let m = plus_some 1 n (own.text_len (d ∷ ds)) q.1 in rw (p.0, text_same (d ∷ ds) m.0 m.1) (ap Some (sym m.2)))
  ])
]

-- ---- comments

line_end_same : (c : ℕ) → is_odd_space c ≡ false → modules.is_line_end c ≡ own_characters.is_line_end c
line_end_same c h = let p = or_parts (c == 11) (c == 12) h in grind (arith, nat_tests)

pub line_same : (bs : List ℕ) → has_odd_space bs ≡ false → modules.line_len bs ≡ own.line_len bs
unfolding modules.line_len own.line_len
line_same [] h = refl
line_same (c ∷ cs) h =
    let p = or_parts (is_odd_space c) (has_odd_space cs) h in
    rw (line_end_same c p.0, line_same cs p.1) refl

pub space_same : (c : ℕ) → own_characters.is_space c ≡ true → modules.is_space c ≡ true
space_same c h = grind (arith, nat_tests)

-- ---- what follows a number

is_no_exponent : (c : ℕ) → is_letter_or_digit c ≡ false → modules.is_exponent c ≡ false
is_no_exponent c h = grind (arith, nat_tests)

no_exponent : (bs : List ℕ) → starts is_letter_or_digit bs ≡ false → modules.exponent_len bs ≡ 0
no_exponent [] h = refl
no_exponent (c ∷ cs) h = rw (is_no_exponent c h) refl

-- no point stands here alone
abbrev pub NoPoint : List ℕ → Type 0
NoPoint bs = starts_with 46 bs ≡ true → starts_with 46 (drop 1 bs) ≡ true

point_by : (c : ℕ) (cs : List ℕ) (b : Bool) → c == 46 ≡ b → NoPoint (c ∷ cs) → modules.point_len (c ∷ cs) ≡ 0
point_by c cs true e h = let two : starts_with 46 cs ≡ true = h e in rw (e, two) refl
point_by c cs false e h = rw e refl

no_point : (bs : List ℕ) → NoPoint bs → modules.point_len bs ≡ 0
no_point [] h = refl
no_point (c ∷ cs) h = point_by c cs (c == 46) refl h

-- neither a decimal point nor an exponent
pub no_tail : (bs : List ℕ) → starts is_letter_or_digit bs ≡ false → NoPoint bs → modules.number_tail bs ≡ 0
no_tail bs clear h = rw (no_point bs h, no_exponent bs clear) refl
