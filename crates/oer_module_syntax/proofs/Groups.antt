-- Where a count of tokens ends: at the bracket that closes the first, or behind several such groups.
use Rattle.std.proofs.Common.{◌≡◌, ℕ, zero, suc, ◌+◌, ◌≤◌, List, [], ◌∷◌, ◌++◌, take, drop, length, length-drop, true, Result, Ok, inl, inr, refl, sym, ap, subst, ◌∙◌, arith}
use Rattle.std.proofs.Math.Seq.{take-add}
use Rattle.oer_module_lexer.specs.Token.{Token, word, field, number, real, bits, digits, text, sign, Spot}
use Rattle.oer_module_lexer.specs.declared.token.Sign.{Sign}
use Rattle.oer_module_lexer.specs.declared.token.Sign.TheVariants as sg
use Rattle.oer_module_syntax.specs.Grammar.{BeginsInBracket, EndsInBracket, Enclosed, InParentheses, nothing_enclosed, one_enclosed}
use Rattle.oer_module_syntax.specs.Matched.{brackets_in, brackets, Closes, brace, parenthesis, bracket}
use Rattle.oer_module_syntax.specs.Ranges.{nest, nest_next, groups_len, starts_sign}
use Rattle.oer_module_syntax.specs.State.{State, ◌>>=◌}
use Rattle.oer_module_syntax.specs.declared.fault.Fault.{Fault}
use Rattle.oer_module_syntax.specs.declared.range.Extent.{Extent}
use Rattle.oer_module_syntax.specs.declared.range.Extent.TheVariants.{Group, Constraints}
use Rattle.oer_module_syntax.proofs.Matching.{bind_ok, chosen, count_of, stack_of, in_group, is_that, opens_alone, CloseAll, opened, matched_len, last_closes, InGroup}

pub one_more : (n : ℕ) → 1 + n ≡ suc n
one_more n = omega arith

-- a token behind which all is closed that was open before it
closes_all : (at : ℕ) (t : Token) (c : Sign) (cs : List Sign) → nest at t (c ∷ cs) ≡ Ok [] → brackets_in t ≡ [] → ⊥
closes_all at (sign sg.OpenBrace) c cs h b = absurd (cc)
closes_all at (sign sg.OpenParenthesis) c cs h b = absurd (cc)
closes_all at (sign sg.OpenBracket) c cs h b = absurd (cc)
closes_all at (sign sg.OpenGroup) c cs h b = absurd (cc)
closes_all at (sign sg.CloseBrace) c cs h b = absurd (cc)
closes_all at (sign sg.CloseParenthesis) c cs h b = absurd (cc)
closes_all at (sign sg.CloseBracket) c cs h b = absurd (cc)
closes_all at (sign sg.CloseGroup) c cs h b = absurd (cc)
closes_all at (sign sg.Less) c cs h b = absurd (cc)
closes_all at (sign sg.Greater) c cs h b = absurd (cc)
closes_all at (sign sg.Comma) c cs h b = absurd (cc)
closes_all at (sign sg.Semicolon) c cs h b = absurd (cc)
closes_all at (sign sg.Point) c cs h b = absurd (cc)
closes_all at (sign sg.Range) c cs h b = absurd (cc)
closes_all at (sign sg.Ellipsis) c cs h b = absurd (cc)
closes_all at (sign sg.Colon) c cs h b = absurd (cc)
closes_all at (sign sg.Assign) c cs h b = absurd (cc)
closes_all at (sign sg.Equals) c cs h b = absurd (cc)
closes_all at (sign sg.Hyphen) c cs h b = absurd (cc)
closes_all at (sign sg.At) c cs h b = absurd (cc)
closes_all at (sign sg.Bar) c cs h b = absurd (cc)
closes_all at (sign sg.Exclamation) c cs h b = absurd (cc)
closes_all at (sign sg.Caret) c cs h b = absurd (cc)
closes_all at (word w) c cs h b = absurd (cc)
closes_all at (field w) c cs h b = absurd (cc)
closes_all at (number w) c cs h b = absurd (cc)
closes_all at (real w) c cs h b = absurd (cc)
closes_all at (bits w) c cs h b = absurd (cc)
closes_all at (digits w) c cs h b = absurd (cc)
closes_all at (text w) c cs h b = absurd (cc)

-- where all is closed a group ends
pub at_end : (s : State) (ts : List Spot) → groups_len Group s ts [] ≡ Ok 0
unfolding groups_len
at_end s [] = refl
at_end s (t ∷ ts) = refl

none_taken : (s : State) (ts : List Spot) (n : ℕ) → groups_len Group s ts [] ≡ Ok n → take n ts ≡ []
none_taken s ts n h = ap (λ n. take n ts) (ap count_of (sym h ∙ at_end s ts))

module _ (s : State) where
  ends_behind : (t : Spot) (ts : List Spot) (c : Sign) (cs more : List Sign) (n : ℕ) → nest t.at t.token (c ∷ cs) ≡ Ok more → groups_len Group s ts more ≡ Ok n
      → ((d : Sign) (ds : List Sign) → groups_len Group s ts (d ∷ ds) ≡ Ok n → EndsInBracket (take n ts)) → EndsInBracket (t ∷ take n ts)
  ends_behind t ts c cs [] n p h more = ([], t, ap (λ l. t ∷ l) (none_taken s ts n h), closes_all t.at t.token c cs p)
  ends_behind t ts c cs (d ∷ ds) n p h more = let e = more d ds h in (t ∷ e.0, e.1, ap (λ l. t ∷ l) e.2, e.3)

  group_ends : (ts : List Spot) (c : Sign) (cs : List Sign) (n : ℕ) → groups_len Group s ts (c ∷ cs) ≡ Ok n → EndsInBracket (take n ts)
  unfolding groups_len
  group_ends [] c cs n h = absurd (cc)
  group_ends (t ∷ ts) c cs n h =
      let p = bind_ok (nest t.at t.token (c ∷ cs)) (λ more. groups_len Group s ts more >>= λ m. Ok (1 + m)) n h in
      let q = bind_ok (groups_len Group s ts p.0) (λ m. Ok (1 + m)) n p.2 in
      subst (λ k. EndsInBracket (take k (t ∷ ts))) (sym (one_more q.0) ∙ ap count_of q.2) (ends_behind t ts c cs p.0 q.0 p.1 q.1 (λ d ds g. group_ends ts d ds q.0 g))

pub some_bracket : {g : Sign} {gs : List Sign} → g ∷ gs ≡ [] → ⊥
some_bracket h = absurd (cc)

all_closed : {cs : List Sign} (d : Sign) (ds hs : List Sign) → ◌≡◌ {A = Result (List Sign) Fault} (Ok cs) (Ok (d ∷ ds)) → CloseAll (d ∷ ds) hs → CloseAll cs hs
all_closed d ds hs h a = subst (λ l. CloseAll l hs) (sym (ap stack_of h)) a

-- a token that opens something, and the brackets up to where all is closed
abbrev OpenedBy : Token → List Sign → Type 0
OpenedBy t hs = (o : Sign) × (c : Sign) × Closes o c × InGroup o c (brackets_in t ++ hs) × (brackets_in t ≡ [] → ⊥)

opened_group : (at : ℕ) (t : Token) (d : Sign) (ds hs : List Sign) → nest at t [] ≡ Ok (d ∷ ds) → CloseAll (d ∷ ds) hs → OpenedBy t hs
opened_group at (sign sg.OpenBrace) d ds hs h a = (sg.OpenBrace, sg.CloseBrace, brace, last_closes _ _ hs (all_closed d ds hs h a), some_bracket)
opened_group at (sign sg.OpenParenthesis) d ds hs h a = (sg.OpenParenthesis, sg.CloseParenthesis, parenthesis, last_closes _ _ hs (all_closed d ds hs h a), some_bracket)
opened_group at (sign sg.OpenBracket) d ds hs h a = (sg.OpenBracket, sg.CloseBracket, bracket, last_closes _ _ hs (all_closed d ds hs h a), some_bracket)
opened_group at (sign sg.OpenGroup) d ds hs h a =
    (sg.OpenBracket, sg.CloseBracket, bracket, last_closes _ _ _ (opened _ _ sg.CloseBracket [] hs bracket (all_closed d ds hs h a)), some_bracket)
opened_group at (sign sg.CloseBrace) d ds hs h a = absurd (cc)
opened_group at (sign sg.CloseParenthesis) d ds hs h a = absurd (cc)
opened_group at (sign sg.CloseBracket) d ds hs h a = absurd (cc)
opened_group at (sign sg.CloseGroup) d ds hs h a = absurd (cc)
opened_group at (sign sg.Less) d ds hs h a = absurd (cc)
opened_group at (sign sg.Greater) d ds hs h a = absurd (cc)
opened_group at (sign sg.Comma) d ds hs h a = absurd (cc)
opened_group at (sign sg.Semicolon) d ds hs h a = absurd (cc)
opened_group at (sign sg.Point) d ds hs h a = absurd (cc)
opened_group at (sign sg.Range) d ds hs h a = absurd (cc)
opened_group at (sign sg.Ellipsis) d ds hs h a = absurd (cc)
opened_group at (sign sg.Colon) d ds hs h a = absurd (cc)
opened_group at (sign sg.Assign) d ds hs h a = absurd (cc)
opened_group at (sign sg.Equals) d ds hs h a = absurd (cc)
opened_group at (sign sg.Hyphen) d ds hs h a = absurd (cc)
opened_group at (sign sg.At) d ds hs h a = absurd (cc)
opened_group at (sign sg.Bar) d ds hs h a = absurd (cc)
opened_group at (sign sg.Exclamation) d ds hs h a = absurd (cc)
opened_group at (sign sg.Caret) d ds hs h a = absurd (cc)
opened_group at (word w) d ds hs h a = absurd (cc)
opened_group at (field w) d ds hs h a = absurd (cc)
opened_group at (number w) d ds hs h a = absurd (cc)
opened_group at (real w) d ds hs h a = absurd (cc)
opened_group at (bits w) d ds hs h a = absurd (cc)
opened_group at (digits w) d ds hs h a = absurd (cc)
opened_group at (text w) d ds hs h a = absurd (cc)

-- such a token, and what is behind it up to there
pub group_behind : (s : State) (t : Spot) (ts : List Spot) (d : Sign) (ds : List Sign) (k : ℕ) → nest t.at t.token [] ≡ Ok (d ∷ ds) → groups_len Group s ts (d ∷ ds) ≡ Ok k
    → (o : Sign) × (c : Sign) × Closes o c × Enclosed o c (take (suc k) (t ∷ ts))
group_behind s t ts d ds k p h =
    let g = opened_group t.at t.token d ds (brackets (take k ts)) p (matched_len s ts (d ∷ ds) k h) in
    let ends = group_ends s ts d ds k h in
    (g.0, g.1, g.2, record { opens = g.4; closes = (t ∷ ends.0, ends.1, ap (λ l. t ∷ l) ends.2, ends.3); inner = g.3.0; pairs = g.3.1; matched = g.3.2 })

-- what is taken as a group
pub group_enclosed : (o c : Sign) (s : State) (l : List Spot) (n : ℕ) → Closes o c → starts_sign o l ≡ true
    → (nest_next l [] >>= λ cs. groups_len Group s (drop 1 l) cs >>= λ m. Ok (1 + m)) ≡ Ok n → Enclosed o c (take n l)
group_enclosed o c s [] n cl h g = absurd (cc)
group_enclosed o c s (t ∷ ts) n cl h g =
    let that = is_that o t.token h in
    let alone = opens_alone o c t.at cl in
    let p = bind_ok (nest t.at t.token []) (λ cs. groups_len Group s ts cs >>= λ m. Ok (1 + m)) n g in
    let q = bind_ok (groups_len Group s ts p.0) (λ m. Ok (1 + m)) n p.2 in
    let stack : p.0 ≡ c ∷ [] = ap stack_of (sym p.1 ∙ ap (λ x. nest t.at x []) that ∙ alone.0) in
    let ends = group_ends s ts c [] q.0 (subst (λ cs. groups_len Group s ts cs ≡ Ok q.0) stack q.1) in
    let all : suc q.0 ≡ n = sym (one_more q.0) ∙ ap count_of q.2 in
    let pairs = in_group o c s (t ∷ ts) n cl h g in
    record {
      opens = subst (λ k. BeginsInBracket (take k (t ∷ ts))) all (λ e. some_bracket (sym alone.1 ∙ ap brackets_in (sym that) ∙ e));
      closes = subst (λ k. EndsInBracket (take k (t ∷ ts))) all (t ∷ ends.0, ends.1, ap (λ l. t ∷ l) ends.2, ends.3);
      inner = pairs.0;
      pairs = pairs.1;
      matched = pairs.2;
    }

-- ---- several groups

-- Up to where all is closed for the first time, and from there on.
abbrev pub Parted : Extent → State → List Spot → List Sign → ℕ → Type 0
Parted x s ts cs n = (k m : ℕ) × (groups_len Group s ts cs ≡ Ok k) × (groups_len x s (drop k ts) [] ≡ Ok m) × (n ≡ k + m)

module _ (x : Extent) (s : State) where
  joined : (t : Spot) (ts : List Spot) (c : Sign) (cs more : List Sign) (k : ℕ) → nest t.at t.token (c ∷ cs) ≡ Ok more → groups_len Group s ts more ≡ Ok k
      → groups_len Group s (t ∷ ts) (c ∷ cs) ≡ Ok (suc k)
  unfolding groups_len
  joined t ts c cs more k p h = ap (λ r. r >>= λ more. groups_len Group s ts more >>= λ m. Ok (1 + m)) p ∙ ap (λ r. r >>= λ m. Ok (1 + m)) h ∙ ap Ok (one_more k)

  parted_behind : (t : Spot) (ts : List Spot) (c : Sign) (cs more : List Sign) (n m : ℕ) → nest t.at t.token (c ∷ cs) ≡ Ok more → groups_len x s ts more ≡ Ok m → n ≡ 1 + m
      → ((d : Sign) (ds : List Sign) → groups_len x s ts (d ∷ ds) ≡ Ok m → Parted x s ts (d ∷ ds) m) → Parted x s (t ∷ ts) (c ∷ cs) n
  parted_behind t ts c cs [] n m p h e more = (1, m, joined t ts c cs [] 0 p (at_end s ts), h, e)
  parted_behind t ts c cs (d ∷ ds) n m p h e more =
      let r = more d ds h in
      let sum : n ≡ suc r.0 + r.1 = let f = r.4 in omega arith in
      (suc r.0, r.1, joined t ts c cs (d ∷ ds) r.0 p r.2, r.3, sum)

  pub parted : (ts : List Spot) (c : Sign) (cs : List Sign) (n : ℕ) → groups_len x s ts (c ∷ cs) ≡ Ok n → Parted x s ts (c ∷ cs) n
  unfolding groups_len
  parted [] c cs n h = absurd (cc)
  parted (t ∷ ts) c cs n h =
      let p = bind_ok (nest t.at t.token (c ∷ cs)) (λ more. groups_len x s ts more >>= λ m. Ok (1 + m)) n h in
      let q = bind_ok (groups_len x s ts p.0) (λ m. Ok (1 + m)) n p.2 in
      parted_behind t ts c cs p.0 n q.0 p.1 q.1 (ap count_of (sym q.2)) (λ d ds g. parted ts d ds q.0 g)

-- what a count of constraints takes
module _ (s : State) where
  pub in_parentheses : (fuel : ℕ) (ts : List Spot) (n : ℕ) → length ts ≤ fuel → groups_len Constraints s ts [] ≡ Ok n → InParentheses (take n ts)
  unfolding groups_len
  in_parentheses fuel [] n l h = subst (λ k. InParentheses (take k [])) (ap count_of h) nothing_enclosed
  in_parentheses zero (t ∷ ts) n l h = absurd (omega arith)
  in_parentheses (suc fuel) (t ∷ ts) n l h = elim (chosen (starts_sign sg.OpenParenthesis (t ∷ ts)) _ _ _ h) [
    | inl p ↦ (
        let that = is_that sg.OpenParenthesis t.token p.0 in
        let one = bind_ok (nest t.at t.token []) (λ more. groups_len Constraints s ts more >>= λ m. Ok (1 + m)) n p.1 in
        let q = bind_ok (groups_len Constraints s ts one.0) (λ m. Ok (1 + m)) n one.2 in
        let stack = ap stack_of (sym one.1 ∙ ap (λ x. nest t.at x []) that) in
        let r = parted Constraints s ts sg.CloseParenthesis [] q.0 (subst (λ cs. groups_len Constraints s ts cs ≡ Ok q.0) stack q.1) in
        let rest = in_parentheses fuel (drop r.0 ts) r.1 (let d = length-drop r.0 ts in omega arith) r.3 in
        let sum : suc r.0 + r.1 ≡ n = let e = r.4 in let f = ap count_of q.2 in omega arith in
        let all : take n (t ∷ ts) ≡ take (suc r.0) (t ∷ ts) ++ take r.1 (drop r.0 ts) = ap (λ n. take n (t ∷ ts)) (sym sum) ∙ take-add (suc r.0) r.1 (t ∷ ts) in
        let opens : nest t.at t.token [] ≡ Ok (sg.CloseParenthesis ∷ []) = ap (λ x. nest t.at x []) that in
        let first = group_enclosed sg.OpenParenthesis sg.CloseParenthesis s (t ∷ ts) (suc r.0) parenthesis p.0
        (ap (λ x. x >>= λ cs. groups_len Group s ts cs >>= λ m. Ok (1 + m)) opens ∙ ap (λ x. x >>= λ m. Ok (1 + m)) r.2 ∙ ap Ok (one_more r.0)) in
        subst InParentheses (sym all) (one_enclosed first rest))
    | inr p ↦ subst (λ k. InParentheses (take k (t ∷ ts))) (ap count_of p.1) nothing_enclosed
  ]
