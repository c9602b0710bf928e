-- How long the tokens are, a byte at a time.
use Rattle.std.proofs.Common.{◌≡◌, ℕ, zero, suc, ◌+◌, ◌-◌, ◌≤◌, ◌<◌, List, [], ◌∷◌, length, drop, Bool, true, false, cond, ◌&&◌, refl, ◌∙◌, arith, add-one, sub-one, ◌==◌, ap, Option, Some, None}
use Rattle.std.specs.Prelude.{nat_lt}
use Rattle.std.proofs.lemmas.Bool.{eqb-true, and_parts}
use Rattle.oer_lexer.specs.Characters.{starts, starts_with, starts_with_two, hyphen, double_quote, star, slash}
use Rattle.oer_lexer.specs.Lexing.{plus, word_goes_on, word_len, is_digit, digits_len, line_ends, line_end_len, line_len, block_len, text_len}
use Rattle.oer_lexer.specs.declared.lengths.Digit.{Digit}

pub word_more : (bs : List ℕ) → word_goes_on bs ≡ true → (word_len bs ≡ word_len (drop 1 bs) + 1) × (length bs ≡ length (drop 1 bs) + 1)
unfolding word_len
word_more [] h = absurd (cc)
word_more (c ∷ cs) h = (rw (h, add-one) refl, rw add-one refl)

pub word_over : (bs : List ℕ) → word_goes_on bs ≡ false → word_len bs ≡ 0
unfolding word_len
word_over [] h = refl
word_over (c ∷ cs) h = rw h refl

pub digits_more : (d : Digit) (bs : List ℕ) → starts (is_digit d) bs ≡ true → (digits_len d bs ≡ digits_len d (drop 1 bs) + 1) × (length bs ≡ length (drop 1 bs) + 1)
unfolding digits_len
digits_more d [] h = absurd (cc)
digits_more d (c ∷ cs) h = (rw (h, add-one) refl, rw add-one refl)

pub digits_over : (d : Digit) (bs : List ℕ) → starts (is_digit d) bs ≡ false → digits_len d bs ≡ 0
unfolding digits_len
digits_over d [] h = refl
digits_over d (c ∷ cs) h = rw h refl

pub line_more : (bs : List ℕ) → line_ends bs ≡ false → (line_len bs ≡ line_len (drop 1 bs) + 1) × (length bs ≡ length (drop 1 bs) + 1)
unfolding line_len
line_more [] h = absurd (cc)
line_more (c ∷ cs) h = (rw (h, add-one) refl, rw add-one refl)

pub line_over : (bs : List ℕ) → line_ends bs ≡ true → line_len bs ≡ line_end_len bs
unfolding line_len
line_over [] h = refl
line_over (c ∷ cs) h = rw h refl

end_within : (c : ℕ) (cs : List ℕ) (b : Bool) → c == hyphen ≡ b → line_ends (c ∷ cs) ≡ true → cond b 2 1 ≤ length (c ∷ cs)
end_within c cs false e h = omega arith
end_within c [] true e h = let is : c ≡ hyphen = eqb-true c hyphen e in absurd (let no : line_ends (hyphen ∷ []) ≡ true = rw is at h in cc)
end_within c (d ∷ ds) true e h = omega arith

pub line_end_within : (bs : List ℕ) → line_ends bs ≡ true → line_end_len bs ≤ length bs
line_end_within [] h = omega arith
line_end_within (c ∷ cs) h = end_within c cs (c == hyphen) refl h

pub plus_plus : (a b : ℕ) (o : Option ℕ) → plus a (plus b o) ≡ plus (a + b) o
plus_plus a b None = refl
plus_plus a b (Some n) = let e : a + (b + n) ≡ a + b + n = omega arith in ap Some e

pub two_long : (x y : ℕ) (bs : List ℕ) → starts_with_two x y bs ≡ true → 2 ≤ length bs
two_long x y [] h = absurd (cc)
two_long x y (c ∷ []) h = absurd (let p = and_parts (c == x) false h in cc)
two_long x y (c ∷ d ∷ ds) h = omega arith

pub block_last : (bs : List ℕ) → starts_with_two star slash bs ≡ true → block_len bs 0 ≡ Some 2
unfolding block_len
block_last [] h = absurd (cc)
block_last (c ∷ []) h = absurd (let p = and_parts (c == star) false h in cc)
block_last (c ∷ d ∷ ds) h = rw h refl

pub block_close : (bs : List ℕ) (d : ℕ) → starts_with_two star slash bs ≡ true → 0 < d → block_len bs d ≡ plus 2 (block_len (drop 1 (drop 1 bs)) (d - 1))
unfolding block_len
block_close [] d h some = absurd (cc)
block_close (c ∷ []) d h some = absurd (let p = and_parts (c == star) false h in cc)
block_close (c ∷ e ∷ es) zero h some = absurd (omega arith)
block_close (c ∷ e ∷ es) (suc d) h some = rw (h, sub-one) refl

pub block_open : (bs : List ℕ) (d : ℕ) → starts_with_two star slash bs ≡ false → starts_with_two slash star bs ≡ true → block_len bs d ≡ plus 2 (block_len (drop 1 (drop 1 bs)) (d + 1))
unfolding block_len
block_open [] d n h = absurd (cc)
block_open (c ∷ []) d n h = absurd (let p = and_parts (c == slash) false h in cc)
block_open (c ∷ e ∷ es) d n h = rw (n, h, add-one) refl

pub block_more : (bs : List ℕ) (d : ℕ) → starts_with_two star slash bs ≡ false → starts_with_two slash star bs ≡ false → 1 < length bs → block_len bs d ≡ plus 1 (block_len (drop 1 bs) d)
unfolding block_len
block_more [] d n h some = absurd (omega arith)
block_more (c ∷ []) d n h some = absurd (omega arith)
block_more (c ∷ e ∷ es) d n h some = rw (n, h) refl

pub block_none : (bs : List ℕ) (d : ℕ) → length bs ≤ 1 → block_len bs d ≡ None
unfolding block_len
block_none [] d h = refl
block_none (c ∷ []) d h = refl
block_none (c ∷ e ∷ es) d h = absurd (omega arith)

pub text_twice : (bs : List ℕ) → starts_with_two double_quote double_quote bs ≡ true → text_len bs ≡ plus 2 (text_len (drop 1 (drop 1 bs)))
unfolding text_len
text_twice [] h = absurd (cc)
text_twice (c ∷ []) h = absurd (let p = and_parts (c == double_quote) false h in cc)
text_twice (c ∷ e ∷ es) h = let p = and_parts (c == double_quote) (e == double_quote) h in rw (p.0, p.1) refl

close_by : (c e : ℕ) (es : List ℕ) (b : Bool) → e == double_quote ≡ b → c == double_quote ≡ true → c == double_quote && b ≡ false → text_len (c ∷ e ∷ es) ≡ Some 1
unfolding text_len
close_by c e es true g h n = absurd (let t : true ≡ false = rw h at n in cc)
close_by c e es false g h n = rw (h, g) refl

pub text_close : (bs : List ℕ) → starts_with_two double_quote double_quote bs ≡ false → starts_with double_quote bs ≡ true → text_len bs ≡ Some 1
unfolding text_len
text_close [] n h = absurd (cc)
text_close (c ∷ []) n h = rw h refl
text_close (c ∷ e ∷ es) n h = close_by c e es (e == double_quote) refl h n

pub text_low : (bs : List ℕ) → starts_with double_quote bs ≡ false → starts (λ c. nat_lt c 32) bs ≡ true → text_len bs ≡ None
unfolding text_len
text_low [] n h = refl
text_low (c ∷ []) n h = rw n refl
text_low (c ∷ e ∷ es) n h = rw (n, h) refl

pub text_more : (bs : List ℕ) → starts_with double_quote bs ≡ false → starts (λ c. nat_lt c 32) bs ≡ false → 0 < length bs → text_len bs ≡ plus 1 (text_len (drop 1 bs))
unfolding text_len
text_more [] n h some = absurd (omega arith)
text_more (c ∷ []) n h some = rw n refl
text_more (c ∷ e ∷ es) n h some = rw (n, h) refl

pub text_none : (bs : List ℕ) → length bs ≤ 0 → text_len bs ≡ None
unfolding text_len
text_none [] h = refl
text_none (c ∷ cs) h = absurd (omega arith)

-- so much of a length is known, and then more of it
pub turn : (all : Option ℕ) (n k : ℕ) (o p : Option ℕ) → all ≡ plus n o → o ≡ plus k p → all ≡ plus (n + k) p
turn all n k o p h e = h ∙ ap (plus n) e ∙ plus_plus n k p

pub drop_two : (bs : List ℕ) → 2 ≤ length bs → length (drop 1 (drop 1 bs)) + 2 ≡ length bs
drop_two [] h = absurd (omega arith)
drop_two (c ∷ []) h = absurd (omega arith)
drop_two (c ∷ d ∷ ds) h = omega arith

pub drop_one : (bs : List ℕ) → 1 ≤ length bs → length (drop 1 bs) + 1 ≡ length bs
drop_one [] h = absurd (omega arith)
drop_one (c ∷ cs) h = omega arith

pub some_long : (p : ℕ → Bool) (bs : List ℕ) → starts p bs ≡ true → 1 ≤ length bs
some_long p [] h = absurd (cc)
some_long p (c ∷ cs) h = omega arith
