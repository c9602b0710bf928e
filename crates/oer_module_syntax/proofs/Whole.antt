-- What stands in brackets is taken whole.
use Rattle.std.proofs.Common.{◌≡◌, ℕ, suc, ◌+◌, List, [], ◌∷◌, ◌++◌, take, drop, length, true, Ok, refl, sym, ap, subst, ◌∙◌, append_assoc}
use Rattle.std.proofs.Math.Seq.{take-append_seam, drop-append_seam}
use Rattle.oer_module_lexer.specs.Token.{Token, word, field, number, real, bits, digits, text, sign, Spot}
use Rattle.oer_module_lexer.specs.declared.token.Sign.{Sign}
use Rattle.oer_module_lexer.specs.declared.token.Sign.TheVariants as sg
use Rattle.oer_module_syntax.specs.Grammar.{EndsInBracket, Enclosed, GroupsWhole}
use Rattle.oer_module_syntax.specs.Matched.{brackets_in, brackets, Closes, brace, parenthesis, bracket, Matched, none, pair}
use Rattle.oer_module_syntax.specs.Ranges.{close, nest, nest_next, groups_len, group_len, group_at, starts_sign}
use Rattle.oer_module_syntax.specs.State.{State, ◌>>=◌, same_sign, at_sign, is_sign, first_of}
use Rattle.oer_module_syntax.specs.declared.range.Extent.TheVariants.{Group}
use Rattle.oer_module_syntax.proofs.Groups.{one_more, at_end, some_bracket}
use Rattle.oer_module_syntax.proofs.Matching.{CloseAll, closed_all, close_one, is_that, opens_alone}

-- ---- signs that open and close

-- what closes opens nothing
no_opener : (o g c : Sign) → Closes o g → Closes g c → ⊥
no_opener _ _ c brace h = elim h [ ]
no_opener _ _ c parenthesis h = elim h [ ]
no_opener _ _ c bracket h = elim h [ ]

one_closer : (o c d : Sign) → Closes o c → Closes o d → c ≡ d
one_closer _ _ _ brace brace = refl
one_closer _ _ _ parenthesis parenthesis = refl
one_closer _ _ _ bracket bracket = refl

-- signs that close what is open
data Stack : List Sign → Type 0 where
  empty_stack : Stack []
  on_stack : {o d : Sign} {ds : List Sign} → Closes o d → Stack ds → Stack (d ∷ ds)

top : (d : Sign) (ds : List Sign) → Stack (d ∷ ds) → (o : Sign) × Closes o d × Stack ds
top _ _ (on_stack {o = o} c more) = (o, c, more)

-- ---- taking brackets one by one

split_close : (d : Sign) (ds l : List Sign) → CloseAll (d ∷ ds) l → (inner : List Sign) × (rest : List Sign) × (l ≡ inner ++ (d ∷ rest)) × Matched inner × CloseAll ds rest
split_close d ds _ (close_one {inner = inner} {rest = rest} m more) = (inner, rest, refl, m, more)

nothing_open : (l : List Sign) → CloseAll [] l → l ≡ []
nothing_open _ closed_all = refl

closing : (o g d : Sign) (ds hs rest inner : List Sign) → Closes o g → Matched inner → inner ++ (d ∷ rest) ≡ g ∷ hs → CloseAll ds rest → (d ≡ g) × CloseAll ds hs
closing o g d ds hs rest _ c none e a = let same : rest ≡ hs = cc in (cc, subst (CloseAll ds) same a)
closing o g d ds hs rest _ c (pair {o = p} {c = q} cl m n) e a = let same : p ≡ g = cc in absurd (no_opener o g q c (subst (λ p. Closes p q) same cl))

-- the next bracket closes what is open
take_closing : (o g d : Sign) (ds hs : List Sign) → Closes o g → CloseAll (d ∷ ds) (g ∷ hs) → (d ≡ g) × CloseAll ds hs
take_closing o g d ds hs c a = let p = split_close d ds (g ∷ hs) a in closing o g d ds hs p.1 p.0 c p.3 (sym p.2) p.4

opening : (o g c d : Sign) (ds hs rest inner : List Sign) → Closes g c → Closes o d → Matched inner → inner ++ (d ∷ rest) ≡ g ∷ hs → CloseAll ds rest → CloseAll (c ∷ d ∷ ds) hs
opening o g c d ds hs rest _ cg cd none e a = let same : d ≡ g = cc in absurd (no_opener o d c cd (subst (λ g. Closes g c) (sym same) cg))
opening o g c d ds hs rest _ cg cd (pair {o = p} {c = q} {inner = inner} {rest = more} cl m n) e a =
    let same : p ≡ g = cc in
    let closer : q ≡ c = one_closer g q c (subst (λ p. Closes p q) same cl) cg in
    let all : (inner ++ (q ∷ more)) ++ (d ∷ rest) ≡ hs = cc in
    let moved : inner ++ (q ∷ (more ++ (d ∷ rest))) ≡ hs = sym (append_assoc inner (q ∷ more) (d ∷ rest)) ∙ all in
    subst (CloseAll (c ∷ d ∷ ds)) moved (subst (λ q. CloseAll (c ∷ d ∷ ds) (inner ++ (q ∷ (more ++ (d ∷ rest))))) (sym closer) (close_one m (close_one n a)))

-- the next bracket opens something
take_opening : (o g c d : Sign) (ds hs : List Sign) → Closes g c → Closes o d → CloseAll (d ∷ ds) (g ∷ hs) → CloseAll (c ∷ d ∷ ds) hs
take_opening o g c d ds hs cg cd a = let p = split_close d ds (g ∷ hs) a in opening o g c d ds hs p.1 p.0 cg cd p.3 (sym p.2) p.4

-- ---- a token

-- behind a token, what is open is closed by the other brackets
abbrev Nests : ℕ → Token → List Sign → List Sign → Type 0
Nests at t cs hs = (more : List Sign) × (nest at t cs ≡ Ok more) × Stack more × CloseAll more hs

opens_one : (at : ℕ) (g c d : Sign) (ds hs : List Sign) → Closes g c → Stack (d ∷ ds) → CloseAll (d ∷ ds) (g ∷ hs) → Stack (c ∷ d ∷ ds) × CloseAll (c ∷ d ∷ ds) hs
opens_one at g c d ds hs cl st a = let u = top d ds st in (on_stack cl st, take_opening u.0 g c d ds hs cl u.1 a)

close_same : (at : ℕ) (d g : Sign) (ds : List Sign) → d ≡ g → same_sign g g ≡ true → close at g (d ∷ ds) ≡ Ok ds
close_same at d g ds e s = subst (λ d. close at g (d ∷ ds) ≡ Ok ds) (sym e) (rw s refl)

closes_one : (at : ℕ) (o g : Sign) (cs hs : List Sign) → Closes o g → same_sign g g ≡ true → Stack cs → CloseAll cs (g ∷ hs)
    → (ds : List Sign) × (close at g cs ≡ Ok ds) × Stack ds × CloseAll ds hs
closes_one at o g [] hs cl s st a = absurd (some_bracket (nothing_open (g ∷ hs) a))
closes_one at o g (d ∷ ds) hs cl s st a = let p = take_closing o g d ds hs cl a in (ds, close_same at d g ds p.0 s, (top d ds st).2, p.1)

nests : (at : ℕ) (t : Token) (d : Sign) (ds hs : List Sign) → Stack (d ∷ ds) → CloseAll (d ∷ ds) (brackets_in t ++ hs) → Nests at t (d ∷ ds) hs
nests at (sign sg.OpenBrace) d ds hs st a = let p = opens_one at sg.OpenBrace sg.CloseBrace d ds hs brace st a in (sg.CloseBrace ∷ d ∷ ds, refl, p.0, p.1)
nests at (sign sg.OpenParenthesis) d ds hs st a = let p = opens_one at sg.OpenParenthesis sg.CloseParenthesis d ds hs parenthesis st a in (sg.CloseParenthesis ∷ d ∷ ds, refl, p.0, p.1)
nests at (sign sg.OpenBracket) d ds hs st a = let p = opens_one at sg.OpenBracket sg.CloseBracket d ds hs bracket st a in (sg.CloseBracket ∷ d ∷ ds, refl, p.0, p.1)
nests at (sign sg.OpenGroup) d ds hs st a =
    let p = opens_one at sg.OpenBracket sg.CloseBracket d ds (sg.OpenBracket ∷ hs) bracket st a in
    let q = opens_one at sg.OpenBracket sg.CloseBracket sg.CloseBracket (d ∷ ds) hs bracket p.0 p.1 in
    (sg.CloseBracket ∷ sg.CloseBracket ∷ d ∷ ds, refl, q.0, q.1)
nests at (sign sg.CloseBrace) d ds hs st a = closes_one at sg.OpenBrace sg.CloseBrace (d ∷ ds) hs brace refl st a
nests at (sign sg.CloseParenthesis) d ds hs st a = closes_one at sg.OpenParenthesis sg.CloseParenthesis (d ∷ ds) hs parenthesis refl st a
nests at (sign sg.CloseBracket) d ds hs st a = closes_one at sg.OpenBracket sg.CloseBracket (d ∷ ds) hs bracket refl st a
nests at (sign sg.CloseGroup) d ds hs st a =
    let p = closes_one at sg.OpenBracket sg.CloseBracket (d ∷ ds) (sg.CloseBracket ∷ hs) bracket refl st a in
    let q = closes_one at sg.OpenBracket sg.CloseBracket p.0 hs bracket refl p.2 p.3 in
    (q.0, ap (λ r. r >>= close at sg.CloseBracket) p.1 ∙ q.1, q.2, q.3)
nests at (sign sg.Less) d ds hs st a = (d ∷ ds, refl, st, a)
nests at (sign sg.Greater) d ds hs st a = (d ∷ ds, refl, st, a)
nests at (sign sg.Comma) d ds hs st a = (d ∷ ds, refl, st, a)
nests at (sign sg.Semicolon) d ds hs st a = (d ∷ ds, refl, st, a)
nests at (sign sg.Point) d ds hs st a = (d ∷ ds, refl, st, a)
nests at (sign sg.Range) d ds hs st a = (d ∷ ds, refl, st, a)
nests at (sign sg.Ellipsis) d ds hs st a = (d ∷ ds, refl, st, a)
nests at (sign sg.Colon) d ds hs st a = (d ∷ ds, refl, st, a)
nests at (sign sg.Assign) d ds hs st a = (d ∷ ds, refl, st, a)
nests at (sign sg.Equals) d ds hs st a = (d ∷ ds, refl, st, a)
nests at (sign sg.Hyphen) d ds hs st a = (d ∷ ds, refl, st, a)
nests at (sign sg.At) d ds hs st a = (d ∷ ds, refl, st, a)
nests at (sign sg.Bar) d ds hs st a = (d ∷ ds, refl, st, a)
nests at (sign sg.Exclamation) d ds hs st a = (d ∷ ds, refl, st, a)
nests at (sign sg.Caret) d ds hs st a = (d ∷ ds, refl, st, a)
nests at (word w) d ds hs st a = (d ∷ ds, refl, st, a)
nests at (field w) d ds hs st a = (d ∷ ds, refl, st, a)
nests at (number w) d ds hs st a = (d ∷ ds, refl, st, a)
nests at (real w) d ds hs st a = (d ∷ ds, refl, st, a)
nests at (bits w) d ds hs st a = (d ∷ ds, refl, st, a)
nests at (digits w) d ds hs st a = (d ∷ ds, refl, st, a)
nests at (text w) d ds hs st a = (d ∷ ds, refl, st, a)

-- ---- a group

not_empty : {A : Type 0} (a : List A) (x : A) (b : List A) → a ++ x ∷ b ≡ [] → ⊥
not_empty [] x b h = absurd (cc)
not_empty (y ∷ a) x b h = absurd (cc)

-- behind a first token that isn't the last
ends_later : (t v : Spot) (vs : List Spot) → EndsInBracket (t ∷ v ∷ vs) → EndsInBracket (v ∷ vs)
ends_later t v vs e = later e.0 e.1 e.2 e.3
  where
    later : (front : List Spot) (u : Spot) → t ∷ v ∷ vs ≡ front ++ u ∷ [] → (brackets_in u.token ≡ [] → ⊥) → EndsInBracket (v ∷ vs)
    later [] u h b = absurd (cc)
    later (x ∷ front) u h b = (front, u, cc, b)

front_empty : (a b : List Sign) → a ++ b ≡ [] → a ≡ []
front_empty [] b h = refl
front_empty (x ∷ a) b h = absurd (cc)

behind_empty : (a b : List Sign) → a ++ b ≡ [] → b ≡ []
behind_empty [] b h = h
behind_empty (x ∷ a) b h = absurd (cc)

some_bracket_in : (ts : List Spot) → EndsInBracket ts → brackets ts ≡ [] → ⊥
some_bracket_in [] e h = not_empty e.0 e.1 [] (sym e.2)
some_bracket_in (t ∷ []) e h = last e.0 e.1 e.2 e.3
  where
    last : (front : List Spot) (u : Spot) → t ∷ [] ≡ front ++ u ∷ [] → (brackets_in u.token ≡ [] → ⊥) → ⊥
    last [] u g b = let same : t ≡ u = cc in b (ap (λ x. brackets_in x.token) (sym same) ∙ front_empty (brackets_in t.token) [] h)
    last (x ∷ front) u g b = let rest : front ++ u ∷ [] ≡ [] = cc in not_empty front u [] rest
some_bracket_in (t ∷ v ∷ vs) e h = some_bracket_in (v ∷ vs) (ends_later t v vs e) (behind_empty (brackets_in t.token) (brackets (v ∷ vs)) h)

module _ (s : State) (rest : List Spot) where
  counted : (t : Spot) (ts : List Spot) (cs more : List Sign) (n : ℕ) → nest t.at t.token cs ≡ Ok more → groups_len Group s (ts ++ rest) more ≡ Ok n
      → (nest t.at t.token cs >>= λ more. groups_len Group s (ts ++ rest) more >>= λ n. Ok (1 + n)) ≡ Ok (suc n)
  counted t ts cs more n p h = ap (λ r. r >>= λ more. groups_len Group s (ts ++ rest) more >>= λ n. Ok (1 + n)) p ∙ ap (λ r. r >>= λ n. Ok (1 + n)) h ∙ ap Ok (one_more n)

  behind : (t : Spot) (ts : List Spot) (more : List Sign) → Stack more → CloseAll more (brackets ts) → EndsInBracket (t ∷ ts)
      → ((d : Sign) (ds : List Sign) → Stack (d ∷ ds) → CloseAll (d ∷ ds) (brackets ts) → EndsInBracket ts → groups_len Group s (ts ++ rest) (d ∷ ds) ≡ Ok (length ts))
      → groups_len Group s (ts ++ rest) more ≡ Ok (length ts)
  behind t [] [] st a e more = at_end s rest
  behind t (v ∷ vs) [] st a e more = absurd (some_bracket_in (v ∷ vs) (ends_later t v vs e) (nothing_open (brackets (v ∷ vs)) a))
  behind t [] (d ∷ ds) st a e more = let p = split_close d ds [] a in absurd (not_empty p.0 d p.1 (sym p.2))
  behind t (v ∷ vs) (d ∷ ds) st a e more = more d ds st a (ends_later t v vs e)

  whole_len : (ts : List Spot) (d : Sign) (ds : List Sign) → Stack (d ∷ ds) → CloseAll (d ∷ ds) (brackets ts) → EndsInBracket ts → groups_len Group s (ts ++ rest) (d ∷ ds) ≡ Ok (length ts)
  unfolding groups_len
  whole_len [] d ds st a e = absurd (not_empty e.0 e.1 [] (sym e.2))
  whole_len (t ∷ ts) d ds st a e =
      let p = nests t.at t.token d ds (brackets ts) st a in
      counted t ts (d ∷ ds) p.0 (length ts) p.1 (behind t ts p.0 p.2 p.3 e (λ d ds st a e. whole_len ts d ds st a e))

  group_whole : (o c : Sign) (ts : List Spot) → Closes o c → starts_sign o ts ≡ true → Enclosed o c ts
      → (nest_next (ts ++ rest) [] >>= λ cs. groups_len Group s (drop 1 (ts ++ rest)) cs >>= λ n. Ok (1 + n)) ≡ Ok (length ts)
  group_whole o c [] cl h g = absurd (cc)
  group_whole o c (t ∷ ts) cl h g =
      let that = is_that o t.token h in
      let alone = opens_alone o c t.at cl in
      let opens : nest t.at t.token [] ≡ Ok (c ∷ []) = ap (λ x. nest t.at x []) that ∙ alone.0 in
      let all : brackets_in t.token ++ brackets ts ≡ o ∷ (g.inner ++ (c ∷ [])) = g.pairs in
      let one : brackets_in t.token ≡ o ∷ [] = ap brackets_in that ∙ alone.1 in
      let joined : o ∷ brackets ts ≡ o ∷ (g.inner ++ (c ∷ [])) = ap (λ b. b ++ brackets ts) (sym one) ∙ all in
      let inside : brackets ts ≡ g.inner ++ (c ∷ []) = cc in
      let a : CloseAll (c ∷ []) (brackets ts) = subst (CloseAll (c ∷ [])) (sym inside) (close_one g.matched closed_all) in
      counted t ts [] (c ∷ []) (length ts) opens (behind t ts (c ∷ []) (on_stack cl empty_stack) a g.closes (λ d ds st a e. whole_len ts d ds st a e))

pub groups_whole : GroupsWhole
unfolding group_at
groups_whole o c s rest ts cl h g e =
    let starts : at_sign o s ≡ true = subst (λ l. is_sign o (first_of l) ≡ true) (sym e) (starts_front ts h) in
    let n : group_len s ≡ Ok (length ts) = subst (λ l. (nest_next l [] >>= λ cs. groups_len Group s (drop 1 l) cs >>= λ n. Ok (1 + n)) ≡ Ok (length ts)) (sym e) (group_whole s rest o c ts cl h g) in
    let front : take (length ts) s.left ≡ ts = ap (take (length ts)) e ∙ take-append_seam ts rest in
    let back : drop (length ts) s.left ≡ rest = ap (drop (length ts)) e ∙ drop-append_seam ts rest in
    rw (starts, n, front, back) refl
  where
    starts_front : (ts : List Spot) → starts_sign o ts ≡ true → is_sign o (first_of (ts ++ rest)) ≡ true
    starts_front [] h = absurd (cc)
    starts_front (t ∷ ts) h = h
