-- What is taken as a group matches.
use Rattle.std.proofs.Common.{◌≡◌, ℕ, suc, ◌+◌, ◌==◌, List, [], ◌∷◌, ◌++◌, take, drop, Bool, true, false, cond, if◌then◌else◌}
use Rattle.std.proofs.Common.{refl, sym, ap, subst, ◌∙◌, arith, ◌⊎◌, inl, inr, Some, Result, Ok, Err, append_assoc}
use Rattle.std.proofs.lemmas.Bool.{eqb-true}
use Rattle.oer_module_lexer.specs.Token.{Token, sign, word, field, number, real, bits, digits, text, Spot}
use Rattle.oer_module_lexer.specs.declared.token.Sign.{Sign}
use Rattle.oer_module_lexer.specs.declared.token.Sign.TheVariants as sg
use Rattle.oer_module_syntax.specs.Matched.{brackets_in, brackets, Closes, brace, parenthesis, bracket, Matched, none, pair, GroupsMatch}
use Rattle.oer_module_syntax.specs.Ranges.{close, nest, nest_next, groups_len, group_len, group_at, starts_sign, unclosed}
use Rattle.oer_module_syntax.specs.State.{State, same_sign, sign_number, is_sign, ◌>>=◌}
use Rattle.oer_module_syntax.specs.declared.fault.Fault.{Fault}
use Rattle.oer_module_syntax.specs.declared.range.Extent.TheVariants.{Group}

-- ---- results

pub bind_ok : {A B : Type 0} (r : Result A Fault) (f : A → Result B Fault) (b : B) → (r >>= f) ≡ Ok b → (a : A) × (r ≡ Ok a) × (f a ≡ Ok b)
bind_ok (Ok a) f b h = (a, refl, h)
bind_ok (Err e) f b h = absurd (cc)

pub chosen : {A : Type 0} (b : Bool) (x y z : A) → cond b x y ≡ z → ((b ≡ true) × (x ≡ z)) ⊎ ((b ≡ false) × (y ≡ z))
chosen true x y z h = inl (refl, h)
chosen false x y z h = inr (refl, h)

abbrev pub stack_of : Result (List Sign) Fault → List Sign
stack_of (Ok cs) = cs
stack_of (Err e) = []

abbrev pub count_of : Result ℕ Fault → ℕ
count_of (Ok n) = n
count_of (Err e) = 0

-- ---- signs that are the same

name : ℕ → Sign
name n =
    if n == 0 then sg.OpenBrace
    else if n == 1 then sg.CloseBrace
    else if n == 2 then sg.OpenParenthesis
    else if n == 3 then sg.CloseParenthesis
    else if n == 4 then sg.OpenBracket
    else if n == 5 then sg.CloseBracket
    else if n == 6 then sg.OpenGroup
    else if n == 7 then sg.CloseGroup
    else if n == 8 then sg.Less
    else if n == 9 then sg.Greater
    else if n == 10 then sg.Comma
    else if n == 11 then sg.Semicolon
    else if n == 12 then sg.Point
    else if n == 13 then sg.Range
    else if n == 14 then sg.Ellipsis
    else if n == 15 then sg.Colon
    else if n == 16 then sg.Assign
    else if n == 17 then sg.Equals
    else if n == 18 then sg.Hyphen
    else if n == 19 then sg.At
    else if n == 20 then sg.Bar
    else if n == 21 then sg.Exclamation
    else sg.Caret

named : (s : Sign) → name (sign_number s) ≡ s
unfolding name
named sg.OpenBrace = refl
named sg.CloseBrace = refl
named sg.OpenParenthesis = refl
named sg.CloseParenthesis = refl
named sg.OpenBracket = refl
named sg.CloseBracket = refl
named sg.OpenGroup = refl
named sg.CloseGroup = refl
named sg.Less = refl
named sg.Greater = refl
named sg.Comma = refl
named sg.Semicolon = refl
named sg.Point = refl
named sg.Range = refl
named sg.Ellipsis = refl
named sg.Colon = refl
named sg.Assign = refl
named sg.Equals = refl
named sg.Hyphen = refl
named sg.At = refl
named sg.Bar = refl
named sg.Exclamation = refl
named sg.Caret = refl

same_is : (a b : Sign) → same_sign a b ≡ true → a ≡ b
same_is a b h = sym (named a) ∙ ap name (eqb-true (sign_number a) (sign_number b) h) ∙ named b

-- ---- what closes all that is open

-- the brackets close all that is open, the innermost first, and nothing follows
pub data CloseAll : List Sign → List Sign → Type 0 where
  closed_all : CloseAll [] []
  close_one : {c : Sign} {cs inner rest : List Sign} → Matched inner → CloseAll cs rest → CloseAll (c ∷ cs) (inner ++ (c ∷ rest))

-- where something is open, a bracket may open and close before it closes
within : (o c d : Sign) (cs inner rest : List Sign) → Closes o c → Matched inner → CloseAll (d ∷ cs) rest → CloseAll (d ∷ cs) (o ∷ (inner ++ (c ∷ rest)))
within o c d cs inner _ cl m (close_one {inner = inner2} {rest = rest2} m2 more) =
    subst (λ l. CloseAll (d ∷ cs) (o ∷ l)) (append_assoc inner (c ∷ inner2) (d ∷ rest2)) (close_one (pair cl m m2) more)

pub opened : (o c d : Sign) (cs hs : List Sign) → Closes o c → CloseAll (c ∷ d ∷ cs) hs → CloseAll (d ∷ cs) (o ∷ hs)
opened o c d cs _ cl (close_one {inner = inner} {rest = rest} m more) = within o c d cs inner rest cl m more

closed_by : (b : Bool) (at : ℕ) (g d : Sign) (ds more hs : List Sign) → same_sign d g ≡ b → cond b (Ok ds) (Err (unclosed at d)) ≡ Ok more
    → CloseAll more hs → CloseAll (d ∷ ds) (g ∷ hs)
closed_by true at g d ds more hs e h a =
    subst (λ x. CloseAll (x ∷ ds) (g ∷ hs)) (sym (same_is d g e)) (close_one none (subst (λ l. CloseAll l hs) (sym (ap stack_of h)) a))
closed_by false at g d ds more hs e h a = absurd (cc)

closed : (at : ℕ) (g : Sign) (cs more hs : List Sign) → close at g cs ≡ Ok more → CloseAll more hs → CloseAll cs (g ∷ hs)
closed at g [] more hs h a = absurd (cc)
closed at g (d ∷ ds) more hs h a = closed_by (same_sign d g) at g d ds more hs refl h a

kept : (cs more hs : List Sign) → ◌≡◌ {A = Result (List Sign) Fault} (Ok cs) (Ok more) → CloseAll more hs → CloseAll cs hs
kept cs more hs h a = subst (λ l. CloseAll l hs) (sym (ap stack_of h)) a

nested : (at : ℕ) (t : Token) (d : Sign) (cs more hs : List Sign) → nest at t (d ∷ cs) ≡ Ok more → CloseAll more hs → CloseAll (d ∷ cs) (brackets_in t ++ hs)
nested at (sign sg.OpenBrace) d cs more hs h a = opened _ _ d cs hs brace (kept _ more hs h a)
nested at (sign sg.OpenParenthesis) d cs more hs h a = opened _ _ d cs hs parenthesis (kept _ more hs h a)
nested at (sign sg.OpenBracket) d cs more hs h a = opened _ _ d cs hs bracket (kept _ more hs h a)
nested at (sign sg.OpenGroup) d cs more hs h a = opened _ _ d cs _ bracket (opened _ _ sg.CloseBracket (d ∷ cs) hs bracket (kept _ more hs h a))
nested at (sign sg.CloseBrace) d cs more hs h a = closed at sg.CloseBrace (d ∷ cs) more hs h a
nested at (sign sg.CloseParenthesis) d cs more hs h a = closed at sg.CloseParenthesis (d ∷ cs) more hs h a
nested at (sign sg.CloseBracket) d cs more hs h a = closed at sg.CloseBracket (d ∷ cs) more hs h a
nested at (sign sg.CloseGroup) d cs more hs h a =
    let p = bind_ok (close at sg.CloseBracket (d ∷ cs)) (close at sg.CloseBracket) more h in
    closed at sg.CloseBracket (d ∷ cs) p.0 (sg.CloseBracket ∷ hs) p.1 (closed at sg.CloseBracket p.0 more hs p.2 a)
nested at (sign sg.Less) d cs more hs h a = kept _ more hs h a
nested at (sign sg.Greater) d cs more hs h a = kept _ more hs h a
nested at (sign sg.Comma) d cs more hs h a = kept _ more hs h a
nested at (sign sg.Semicolon) d cs more hs h a = kept _ more hs h a
nested at (sign sg.Point) d cs more hs h a = kept _ more hs h a
nested at (sign sg.Range) d cs more hs h a = kept _ more hs h a
nested at (sign sg.Ellipsis) d cs more hs h a = kept _ more hs h a
nested at (sign sg.Colon) d cs more hs h a = kept _ more hs h a
nested at (sign sg.Assign) d cs more hs h a = kept _ more hs h a
nested at (sign sg.Equals) d cs more hs h a = kept _ more hs h a
nested at (sign sg.Hyphen) d cs more hs h a = kept _ more hs h a
nested at (sign sg.At) d cs more hs h a = kept _ more hs h a
nested at (sign sg.Bar) d cs more hs h a = kept _ more hs h a
nested at (sign sg.Exclamation) d cs more hs h a = kept _ more hs h a
nested at (sign sg.Caret) d cs more hs h a = kept _ more hs h a
nested at (word w) d cs more hs h a = kept _ more hs h a
nested at (field w) d cs more hs h a = kept _ more hs h a
nested at (number w) d cs more hs h a = kept _ more hs h a
nested at (real w) d cs more hs h a = kept _ more hs h a
nested at (bits w) d cs more hs h a = kept _ more hs h a
nested at (digits w) d cs more hs h a = kept _ more hs h a
nested at (text w) d cs more hs h a = kept _ more hs h a

pub matched_len : (s : State) (ts : List Spot) (cs : List Sign) (n : ℕ) → groups_len Group s ts cs ≡ Ok n → CloseAll cs (brackets (take n ts))
unfolding groups_len
matched_len s [] [] n h = subst (λ k. CloseAll [] (brackets (take k []))) (ap count_of h) closed_all
matched_len s [] (c ∷ cs) n h = absurd (cc)
matched_len s (t ∷ ts) [] n h = subst (λ k. CloseAll [] (brackets (take k (t ∷ ts)))) (ap count_of h) closed_all
matched_len s (t ∷ ts) (c ∷ cs) n h =
    let p = bind_ok (nest t.at t.token (c ∷ cs)) (λ more. groups_len Group s ts more >>= λ m. Ok (1 + m)) n h in
    let q = bind_ok (groups_len Group s ts p.0) (λ m. Ok (1 + m)) n p.2 in
    let all = nested t.at t.token c cs p.0 (brackets (take q.0 ts)) p.1 (matched_len s ts p.0 q.0 q.1) in
    let one : suc q.0 ≡ 1 + q.0 = omega arith in
    subst (λ k. CloseAll (c ∷ cs) (brackets (take k (t ∷ ts)))) (one ∙ ap count_of q.2) all

-- ---- groups

abbrev pub InGroup : Sign → Sign → List Sign → Type 0
InGroup o c hs = (inner : List Sign) × (hs ≡ o ∷ (inner ++ (c ∷ []))) × Matched inner

pub last_closes : (o c : Sign) (hs : List Sign) → CloseAll (c ∷ []) hs → InGroup o c (o ∷ hs)
last_closes o c _ (close_one {inner = inner} m closed_all) = (inner, refl, m)

pub opens_alone : (o c : Sign) (at : ℕ) → Closes o c → (nest at (sign o) [] ≡ Ok (c ∷ [])) × (brackets_in (sign o) ≡ o ∷ [])
opens_alone _ _ at brace = (refl, refl)
opens_alone _ _ at parenthesis = (refl, refl)
opens_alone _ _ at bracket = (refl, refl)

pub is_that : (o : Sign) (t : Token) → is_sign o (Some t) ≡ true → t ≡ sign o
is_that o (sign g) h = ap sign (sym (same_is o g h))
is_that o (word w) h = absurd (cc)
is_that o (field w) h = absurd (cc)
is_that o (number w) h = absurd (cc)
is_that o (real w) h = absurd (cc)
is_that o (bits w) h = absurd (cc)
is_that o (digits w) h = absurd (cc)
is_that o (text w) h = absurd (cc)

pub in_group : (o c : Sign) (s : State) (l : List Spot) (n : ℕ) → Closes o c → starts_sign o l ≡ true
    → (nest_next l [] >>= λ cs. groups_len Group s (drop 1 l) cs >>= λ m. Ok (1 + m)) ≡ Ok n → InGroup o c (brackets (take n l))
unfolding bind_ok
in_group o c s [] n cl h g = absurd (cc)
in_group o c s (t ∷ ts) n cl h g =
    let that = is_that o t.token h in
    let p = bind_ok (nest t.at t.token []) (λ cs. groups_len Group s ts cs >>= λ m. Ok (1 + m)) n g in
    let q = bind_ok (groups_len Group s ts p.0) (λ m. Ok (1 + m)) n p.2 in
    let alone = opens_alone o c t.at cl in
    let stack = ap stack_of (sym p.1 ∙ ap (λ x. nest t.at x []) that ∙ alone.0) in
    let all = last_closes o c _ (matched_len s ts (c ∷ []) q.0 (ap (groups_len Group s ts) (sym stack) ∙ q.1)) in
    let front = ap (λ bs. bs ++ brackets (take q.0 ts)) (ap brackets_in that ∙ alone.1) in
    let one : suc q.0 ≡ 1 + q.0 = omega arith in
    subst (λ k. InGroup o c (brackets (take k (t ∷ ts)))) (one ∙ ap count_of q.2) (subst (InGroup o c) (sym front) all)

abbrev tokens_of : Result (List Spot × State) Fault → List Spot
tokens_of (Ok r) = r.0
tokens_of (Err e) = []

pub groups_matched : GroupsMatch
unfolding group_at bind_ok
groups_matched o c s r ts cl h g =
    let p = bind_ok (group_len s) (λ n. Ok (take n s.left, record { left = drop n s.left; end = s.end; complete = s.complete })) (ts, r) (rw h at g) in
    subst (λ l. InGroup o c (brackets l)) (ap tokens_of p.2) (in_group o c s s.left p.0 cl h p.1)
