-- What falls into tokens of the notation is read as the same by the lexer of modules.
use Rattle.std.proofs.Common.{◌≡◌, ℕ, zero, suc, ◌+◌, List, [], ◌∷◌, length, drop, Bool, true, false, ◌&&◌, ◌||◌, ◌==◌, Some, None, refl, sym, ap, ◌∙◌, arith}
use Rattle.std.proofs.lemmas.Bool.{eqb-true, or_parts}
use Rattle.oer_lexer.specs.Characters.{starts_with}
use Rattle.oer_lexer.specs.Lexing as own
use Rattle.oer_lexer.specs.Token.{Token, sign, tokens}
use Rattle.oer_lexer.specs.declared.token.Sign.TheVariants.{OpenBracket, CloseBracket}
use Rattle.oer_lexer.proofs.LexComplete.{falls_lexed}
use Rattle.oer_same_tokens.specs.Laws.{SameTokens}
use Rattle.oer_same_tokens.specs.Same.{same_tokens, is_odd_space, has_odd_space, is_opening, is_closing, begins, has_pair}
use Rattle.oer_same_tokens.proofs.Lengths.{NoPoint}
use Rattle.oer_same_tokens.proofs.Turns.{IsLexed, over_lexed, longer, Follows}
use Rattle.oer_same_tokens.proofs.Steps.{Taken, front_turned}

odd_behind : (k : ℕ) (bs : List ℕ) → has_odd_space bs ≡ false → has_odd_space (drop k bs) ≡ false
odd_behind zero bs h = h
odd_behind (suc k) [] h = h
odd_behind (suc k) (c ∷ cs) h = let p = or_parts (is_odd_space c) (has_odd_space cs) h in odd_behind k cs p.1

-- ---- what is read whole

point_by : (n at : ℕ) (cs : List ℕ) (b : Bool) → starts_with 46 cs ≡ b → (own.lex_from (suc n) at (46 ∷ cs)).complete ≡ true → b ≡ true
unfolding own.lex_from own.front_at own.step_at own.number_len own.sign_at
point_by n at cs true e h = refl
point_by n at cs false e h = rw e at h

first_point : (n at c : ℕ) (cs : List ℕ) → (own.lex_from n at (c ∷ cs)).complete ≡ true → c == 46 ≡ true → starts_with 46 cs ≡ true
unfolding own.lex_from
first_point zero at c cs h e = absurd (cc)
first_point (suc n) at c cs h e = point_by n at cs (starts_with 46 cs) refl (rw (eqb-true c 46 e) at h)

no_lone_point : (n at : ℕ) (bs : List ℕ) → (own.lex_from n at bs).complete ≡ true → NoPoint bs
no_lone_point n at [] h = λ e. absurd (cc)
no_lone_point n at (c ∷ cs) h = first_point n at c cs h

opening_begins : (n at : ℕ) (cs : List ℕ) → (own.lex_from n at (91 ∷ cs)).complete ≡ true → begins is_opening (tokens (own.lex_from n at (91 ∷ cs)).spots) ≡ true
unfolding own.lex_from own.front_at own.step_at own.number_len own.sign_at
opening_begins zero at cs h = absurd (cc)
opening_begins (suc n) at cs h = refl

closing_begins : (n at : ℕ) (cs : List ℕ) → (own.lex_from n at (93 ∷ cs)).complete ≡ true → begins is_closing (tokens (own.lex_from n at (93 ∷ cs)).spots) ≡ true
unfolding own.lex_from own.front_at own.step_at own.number_len own.sign_at
closing_begins zero at cs h = absurd (cc)
closing_begins (suc n) at cs h = refl

opening_by : (n at c : ℕ) (cs : List ℕ) (b : Bool) → c == 91 ≡ b → (own.lex_from n at (c ∷ cs)).complete ≡ true
    → begins is_opening (tokens (own.lex_from n at (c ∷ cs)).spots) ≡ false → b ≡ false
opening_by n at c cs false e h none = refl
opening_by n at c cs true e h none =
    let is = eqb-true c 91 e in
    let some = opening_begins n at cs (rw is at h) in
    let none_here : begins is_opening (tokens (own.lex_from n at (91 ∷ cs)).spots) ≡ false = rw is at none in
    sym some ∙ none_here

closing_by : (n at c : ℕ) (cs : List ℕ) (b : Bool) → c == 93 ≡ b → (own.lex_from n at (c ∷ cs)).complete ≡ true
    → begins is_closing (tokens (own.lex_from n at (c ∷ cs)).spots) ≡ false → b ≡ false
closing_by n at c cs false e h none = refl
closing_by n at c cs true e h none =
    let is = eqb-true c 93 e in
    let some = closing_begins n at cs (rw is at h) in
    let none_here : begins is_closing (tokens (own.lex_from n at (93 ∷ cs)).spots) ≡ false = rw is at none in
    sym some ∙ none_here

no_opening : (n at : ℕ) (bs : List ℕ) → (own.lex_from n at bs).complete ≡ true → begins is_opening (tokens (own.lex_from n at bs).spots) ≡ false → starts_with 91 bs ≡ false
no_opening n at [] h none = refl
no_opening n at (c ∷ cs) h none = opening_by n at c cs (c == 91) refl h none

no_closing : (n at : ℕ) (bs : List ℕ) → (own.lex_from n at bs).complete ≡ true → begins is_closing (tokens (own.lex_from n at bs).spots) ≡ false → starts_with 93 bs ≡ false
no_closing n at [] h none = refl
no_closing n at (c ∷ cs) h none = closing_by n at c cs (c == 93) refl h none

no_longer : (t : Token) (n at : ℕ) (bs : List ℕ) → (own.lex_from n at bs).complete ≡ true
    → is_opening t && begins is_opening (tokens (own.lex_from n at bs).spots) || (is_closing t && begins is_closing (tokens
    (own.lex_from n at bs).spots)) ≡ false → longer t bs ≡ false
no_longer (sign OpenBracket) n at bs h e = let p = or_parts (begins is_opening (tokens (own.lex_from n at bs).spots)) false e in no_opening n at bs h p.0
no_longer (sign CloseBracket) n at bs h e = no_closing n at bs h e
no_longer t n at bs h e = refl

-- ---- all tokens

-- where the notation's lexer has read all, that of modules reads the same
abbrev AllRead : ℕ → Type 0
AllRead n = (at : ℕ) (bs : List ℕ) → (own.lex_from n at bs).complete ≡ true → has_odd_space bs ≡ false → has_pair (tokens (own.lex_from n at bs).spots) ≡ false
    → IsLexed bs (same_tokens (tokens (own.lex_from n at bs).spots))

turn : (n at : ℕ) (bs : List ℕ) → AllRead n → (o : Taken) → own.front_at bs ≡ o → (own.go (own.lex_from n) at bs o).complete ≡ true → has_odd_space bs ≡ false
    → has_pair (tokens (own.go (own.lex_from n) at bs o).spots) ≡ false → IsLexed bs (same_tokens (tokens (own.go (own.lex_from n) at bs o).spots))
turn n at [] ih None e h odd pair = over_lexed
turn n at (c ∷ cs) ih None e h odd pair = absurd (cc)
turn n at bs ih (Some (None, k)) e h odd pair = front_turned bs None k odd e _ (ih (at + k) (drop k bs) h (odd_behind k bs odd) pair)
turn n at bs ih (Some (Some t, k)) e h odd pair =
    let ts = tokens (own.lex_from n (at + k) (drop k bs)).spots in
    let p = or_parts (is_opening t && begins is_opening ts || (is_closing t && begins is_closing ts)) (has_pair ts) pair in
    let follows : Follows t (drop k bs) = record { alone = no_lone_point n (at + k) (drop k bs) h; short = no_longer t n (at + k) (drop k bs) h p.0 } in
    front_turned bs (Some t) k odd e follows (same_tokens ts) (ih (at + k) (drop k bs) h (odd_behind k bs odd) p.1)

all_read : (n : ℕ) → AllRead n
unfolding own.lex_from
all_read zero at [] h odd pair = over_lexed
all_read zero at (c ∷ cs) h odd pair = absurd (cc)
all_read (suc n) at bs h odd pair = turn n at bs (all_read n) (own.front_at bs) refl h odd pair

pub same_read : SameTokens
same_read bs ts falls odd pair =
    let own_read = falls_lexed bs ts falls in
    let none : has_pair (tokens (own.lex bs).spots) ≡ false = rw own_read.0 pair in
    let read = all_read (length bs) 0 bs own_read.1 odd none (length bs) 0 (omega arith) in
    (read.0 ∙ ap same_tokens own_read.0, read.1)
