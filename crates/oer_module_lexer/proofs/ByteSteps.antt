-- How long the tokens are, a byte at a time.
use Rattle.std.proofs.Common.{◌≡◌, ℕ, zero, suc, ◌+◌, ◌≤◌, ◌<◌, List, [], ◌∷◌, length, drop, Bool, true, false, cond, ◌&&◌, refl, arith, add-one, ◌==◌, Some, None}
use Rattle.std.proofs.lemmas.Bool.{eqb-true, and_parts}
use Rattle.oer_lexer.specs.Characters.{starts, starts_with, starts_with_two, hyphen, double_quote}
use Rattle.oer_lexer.specs.Lexing.{plus}
use Rattle.oer_module_lexer.specs.Lexing.{is_of, run_len, line_ends, line_end_len, line_len, text_len}
use Rattle.oer_module_lexer.specs.declared.lengths.Class.{Class}

pub run_more : (d : Class) (bs : List ℕ) → starts (is_of d) bs ≡ true → (run_len d bs ≡ run_len d (drop 1 bs) + 1) × (length bs ≡ length (drop 1 bs) + 1)
unfolding run_len
run_more d [] h = absurd (cc)
run_more d (c ∷ cs) h = (rw (h, add-one) refl, rw add-one refl)

pub run_over : (d : Class) (bs : List ℕ) → starts (is_of d) bs ≡ false → run_len d bs ≡ 0
unfolding run_len
run_over d [] h = refl
run_over d (c ∷ cs) h = rw h refl

pub line_more : (bs : List ℕ) → line_ends bs ≡ false → (line_len bs ≡ line_len (drop 1 bs) + 1) × (length bs ≡ length (drop 1 bs) + 1)
unfolding line_len
line_more [] h = absurd (cc)
line_more (c ∷ cs) h = (rw (h, add-one) refl, rw add-one refl)

pub line_over : (bs : List ℕ) → line_ends bs ≡ true → line_len bs ≡ line_end_len bs
unfolding line_len
line_over [] h = refl
line_over (c ∷ cs) h = rw h refl

end_within : (c : ℕ) (cs : List ℕ) (b : Bool) → c == hyphen ≡ b → line_ends (c ∷ cs) ≡ true → cond b 2 1 ≤ length (c ∷ cs)
end_within c cs false e h = omega arith
end_within c [] true e h = let is : c ≡ hyphen = eqb-true c hyphen e in absurd (let no : line_ends (hyphen ∷ []) ≡ true = rw is at h in cc)
end_within c (d ∷ ds) true e h = omega arith

pub line_end_within : (bs : List ℕ) → line_ends bs ≡ true → line_end_len bs ≤ length bs
line_end_within [] h = omega arith
line_end_within (c ∷ cs) h = end_within c cs (c == hyphen) refl h

pub text_twice : (bs : List ℕ) → starts_with_two double_quote double_quote bs ≡ true → text_len bs ≡ plus 2 (text_len (drop 1 (drop 1 bs)))
unfolding text_len
text_twice [] h = absurd (cc)
text_twice (c ∷ []) h = absurd (let p = and_parts (c == double_quote) false h in cc)
text_twice (c ∷ e ∷ es) h = let p = and_parts (c == double_quote) (e == double_quote) h in rw (p.0, p.1) refl

close_by : (c e : ℕ) (es : List ℕ) (b : Bool) → e == double_quote ≡ b → c == double_quote ≡ true → c == double_quote && b ≡ false → text_len (c ∷ e ∷ es) ≡ Some 1
unfolding text_len
close_by c e es true g h n = absurd (let t : true ≡ false = rw h at n in cc)
close_by c e es false g h n = rw (h, g) refl

pub text_close : (bs : List ℕ) → starts_with_two double_quote double_quote bs ≡ false → starts_with double_quote bs ≡ true → text_len bs ≡ Some 1
unfolding text_len
text_close [] n h = absurd (cc)
text_close (c ∷ []) n h = rw h refl
text_close (c ∷ e ∷ es) n h = close_by c e es (e == double_quote) refl h n

pub text_more : (bs : List ℕ) → starts_with double_quote bs ≡ false → 0 < length bs → text_len bs ≡ plus 1 (text_len (drop 1 bs))
unfolding text_len
text_more [] n some = absurd (omega arith)
text_more (c ∷ []) n some = rw n refl
text_more (c ∷ e ∷ es) n some = rw n refl

pub text_none : (bs : List ℕ) → length bs ≤ 0 → text_len bs ≡ None
unfolding text_len
text_none [] h = refl
text_none (c ∷ cs) h = absurd (omega arith)
