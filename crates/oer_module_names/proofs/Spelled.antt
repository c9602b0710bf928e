-- What is read of an identifier is what its tokens spell.
use Rattle.std.proofs.Common.{◌≡◌, ◌≤◌, ◌-◌, ◌↔◌, ℕ, zero, suc, Bool, true, false, cond, List, [], ◌∷◌, ◌++◌, length, drop, Option, None, Some, refl, sym, subst, ap, ◌∙◌, arith}
use Rattle.oer_module_lexer.specs.Token.{Token, word, number, sign, Spot}
use Rattle.oer_module_lexer.specs.declared.token.Sign.TheVariants.{OpenBrace, CloseBrace, OpenParenthesis, CloseParenthesis}
use Rattle.oer_module_syntax.proofs.Took.{sign_first}
use Rattle.oer_module_syntax.specs.State.{State, at_sign, bump, first, first_of, is_sign}
use Rattle.oer_module_names.proofs.Among.{same_some}
use Rattle.oer_module_names.specs.Identifiers.{Identifies, Spells, arc_at, arc_by, arcs, arcs_by, arcs_from, both, closed, enclosed_by, named, named_arc, number_of, numbered, over, tokens, with_rest}

-- ---- the front of tokens

front_is : (ss : List Spot) (t : Token) → first_of ss ≡ Some t → tokens ss ≡ t ∷ tokens (drop 1 ss)
front_is [] t h = cc
front_is (s ∷ ss) t h = ap (λ u. u ∷ tokens ss) (same_some s.token t h)

is_front : (ss : List Spot) (t : Token) (ts : List Token) → tokens ss ≡ t ∷ ts → (first_of ss ≡ Some t) × (tokens (drop 1 ss) ≡ ts)
is_front [] t ts h = cc
is_front (s ∷ ss) t ts h =
    let here : s.token ≡ t = cc in
    let rest : tokens ss ≡ ts = cc in
    (ap Some here, rest)

front_left : (ss : List Spot) (t : Token) (ts : List Token) → tokens ss ≡ t ∷ ts → length ss ≡ suc (length (drop 1 ss))
front_left [] t ts h = cc
front_left (s ∷ ss) t ts h = refl

-- ---- what is read is spelled

some_rest : (o : Option ℕ) (s : State) (x : ℕ × State) → with_rest o s ≡ Some x → (o ≡ Some x.0) × (s ≡ x.1)
some_rest None s x h = cc
some_rest (Some n) s x h = let same = same_some (n, s) x h in (ap (λ p. Some p.0) same, ap (λ p. p.1) same)

module _ (before ns : List ℕ) (s : State) (x : ℕ × State) (more : Spells (before ++ x.0 ∷ []) (tokens x.1.left) ns) where
  rest_spells : (q : State) → q ≡ x.1 → Spells (before ++ x.0 ∷ []) (tokens q.left) ns
  rest_spells q same = subst (λ r. Spells (before ++ x.0 ∷ []) (tokens r.left) ns) (sym same) more

  closing_spells : (w d : List ℕ) (q : State) (b : Bool) → at_sign CloseParenthesis q ≡ b → cond b (with_rest (number_of d) (bump q)) None ≡ Some x
      → Spells before (word w ∷ sign OpenParenthesis ∷ number d ∷ tokens q.left) ns
  closing_spells w d q true e h =
      let r = some_rest (number_of d) (bump q) x h in
      subst (λ ts. Spells before (word w ∷ sign OpenParenthesis ∷ number d ∷ ts) ns) (sym (front_is q.left (sign CloseParenthesis) (sign_first CloseParenthesis (first q) e)))
      (both r.0 (rest_spells (bump q) r.1))
  closing_spells w d q false e h = cc

  enclosed_spells : (w : List ℕ) (q : State) (o : Option Token) → first q ≡ o → enclosed_by o q ≡ Some x → Spells before (word w ∷ sign OpenParenthesis ∷ tokens q.left) ns
  enclosed_spells w q (Some (number d)) e h =
      subst (λ ts. Spells before (word w ∷ sign OpenParenthesis ∷ ts) ns) (sym (front_is q.left (number d) e))
      (closing_spells w d (bump q) (at_sign CloseParenthesis (bump q)) refl h)
  enclosed_spells w q _ e h = cc

  worded_spells : (w : List ℕ) (q : State) (b : Bool) → at_sign OpenParenthesis q ≡ b
      → cond b (enclosed_by (first (bump q)) (bump q)) (with_rest (named_arc before w) q) ≡ Some x → Spells before (word w ∷ tokens q.left) ns
  worded_spells w q true e h =
      subst (λ ts. Spells before (word w ∷ ts) ns) (sym (front_is q.left (sign OpenParenthesis) (sign_first OpenParenthesis (first q) e)))
      (enclosed_spells w (bump q) (first (bump q)) refl h)
  worded_spells w q false e h = let r = some_rest (named_arc before w) q x h in named r.0 (rest_spells q r.1)

  first_spells : (o : Option Token) → first s ≡ o → arc_by before o s ≡ Some x → Spells before (tokens s.left) ns
  first_spells (Some (number d)) e h =
      let r = some_rest (number_of d) (bump s) x h in
      subst (λ ts. Spells before ts ns) (sym (front_is s.left (number d) e)) (numbered r.0 (rest_spells (bump s) r.1))
  first_spells (Some (word w)) e h =
      subst (λ ts. Spells before ts ns) (sym (front_is s.left (word w) e)) (worded_spells w (bump s) (at_sign OpenParenthesis (bump s)) refl h)
  first_spells _ e h = cc

  arc_spells : arc_at before s ≡ Some x → Spells before (tokens s.left) ns
  unfolding arc_at
  arc_spells h = first_spells (first s) refl h

arcs_spell : (n : ℕ) (before ns : List ℕ) (s : State) → arcs_from n before s ≡ Some ns → Spells before (tokens s.left) ns
unfolding arcs_from
arcs_spell zero before ns s h = cc
arcs_spell (suc n) before ns s h = by (at_sign CloseBrace s) refl h (arcs_spell n)
  where
    next : (o : Option (ℕ × State)) → arc_at before s ≡ o → arcs_by (arcs_from n) before o ≡ Some ns
        → ((bs ms : List ℕ) (q : State) → arcs_from n bs q ≡ Some ms → Spells bs (tokens q.left) ms) → Spells before (tokens s.left) ns
    next None e g more = cc
    next (Some x) e g more = arc_spells before ns s x (more (before ++ x.0 ∷ []) ns x.1 g) e

    by : (b : Bool) → at_sign CloseBrace s ≡ b → cond b (Some before) (arcs_by (arcs_from n) before (arc_at before s)) ≡ Some ns
        → ((bs ms : List ℕ) (q : State) → arcs_from n bs q ≡ Some ms → Spells bs (tokens q.left) ms) → Spells before (tokens s.left) ns
    by true e g more =
        subst (λ ts. Spells before ts ns) (sym (front_is s.left (sign CloseBrace) (sign_first CloseBrace (first s) e)))
        (subst (Spells before (sign CloseBrace ∷ tokens (bump s).left)) (same_some before ns g) closed)
    by false e g more = next (arc_at before s) refl g more

-- ---- what is spelled is read

-- behind an arc no parenthesis opens
not_open : (bs ns : List ℕ) (ts : List Token) → Spells bs ts ns → (ss : List Spot) → tokens ss ≡ ts → is_sign OpenParenthesis (first_of ss) ≡ false
not_open bs ns _ (closed {ts = ts}) ss e = ap (is_sign OpenParenthesis) (is_front ss (sign CloseBrace) ts e).0
not_open bs ns _ (numbered {d = d} {ts = ts} is more) ss e = ap (is_sign OpenParenthesis) (is_front ss (number d) ts e).0
not_open bs ns _ (both {d = d} {w = w} {ts = ts} is more) ss e = ap (is_sign OpenParenthesis) (is_front ss (word w) (sign OpenParenthesis ∷ number d ∷ sign CloseParenthesis ∷ ts) e).0
not_open bs ns _ (named {w = w} {ts = ts} is more) ss e = ap (is_sign OpenParenthesis) (is_front ss (word w) ts e).0

turn_end : (n : ℕ) (before : List ℕ) (s : State) → at_sign CloseBrace s ≡ true → arcs_from (suc n) before s ≡ Some before
unfolding arcs_from
turn_end n before s e = ap (λ b. cond b (Some before) (arcs_by (arcs_from n) before (arc_at before s))) e

turn_on : (n : ℕ) (before : List ℕ) (s : State) (a : ℕ) (q : State) → at_sign CloseBrace s ≡ false → arc_at before s ≡ Some (a, q) → arcs_from (suc n) before s ≡ arcs_from n (before ++ a ∷ []) q
unfolding arcs_from
turn_on n before s a q e f = ap (λ b. cond b (Some before) (arcs_by (arcs_from n) before (arc_at before s))) e ∙ ap (arcs_by (arcs_from n) before) f

number_read : (before d : List ℕ) (a : ℕ) (s : State) → first s ≡ Some (number d) → number_of d ≡ Some a → arc_at before s ≡ Some (a, bump s)
unfolding arc_at
number_read before d a s e is = ap (λ o. arc_by before o s) e ∙ ap (λ o. with_rest o (bump s)) is

name_read : (before w : List ℕ) (a : ℕ) (s : State) → first s ≡ Some (word w) → at_sign OpenParenthesis (bump s) ≡ false → named_arc before w ≡ Some a → arc_at before s ≡ Some (a, bump s)
unfolding arc_at
name_read before w a s e apart is =
    ap (λ o. arc_by before o s) e ∙ ap (λ b. cond b (enclosed_by (first (bump (bump s))) (bump (bump s))) (with_rest (named_arc before w) (bump s))) apart
    ∙ ap (λ o. with_rest o (bump s)) is

both_read : (before w d : List ℕ) (a : ℕ) (s : State) → first s ≡ Some (word w) → first (bump s) ≡ Some (sign OpenParenthesis) → first (bump (bump s)) ≡ Some (number d)
    → first (bump (bump (bump s))) ≡ Some (sign CloseParenthesis) → number_of d ≡ Some a → arc_at before s ≡ Some (a, bump (bump (bump (bump s))))
unfolding arc_at
both_read before w d a s e opens digits closes is =
    ap (λ o. arc_by before o s) e
    ∙ ap (λ b. cond b (enclosed_by (first (bump (bump s))) (bump (bump s))) (with_rest (named_arc before w) (bump s))) (ap (is_sign OpenParenthesis) opens)
    ∙ ap (λ o. enclosed_by o (bump (bump s))) digits
    ∙ ap (λ b. cond b (with_rest (number_of d) (bump (bump (bump (bump s))))) None) (ap (is_sign CloseParenthesis) closes)
    ∙ ap (λ o. with_rest o (bump (bump (bump (bump s))))) is

spelled : (before ns : List ℕ) (ts : List Token) → Spells before ts ns → (s : State) (n : ℕ) → tokens s.left ≡ ts → length s.left ≤ n → arcs_from n before s ≡ Some ns
spelled before ns _ (closed {ts = ts}) s n same room =
    let f = is_front s.left (sign CloseBrace) ts same in
    let l = front_left s.left (sign CloseBrace) ts same in
    let one : n ≡ suc (n - 1) = omega (arith, l, room) in
    ap (λ i. arcs_from i before s) one ∙ turn_end (n - 1) before s (ap (is_sign CloseBrace) f.0)
spelled before ns _ (numbered {d = d} {ts = ts} {n = a} is more) s n same room =
    let f = is_front s.left (number d) ts same in
    let l = front_left s.left (number d) ts same in
    let one : n ≡ suc (n - 1) = omega (arith, l, room) in
    let less : length (bump s).left ≤ n - 1 = omega (arith, l, room) in
    ap (λ i. arcs_from i before s) one ∙ turn_on (n - 1) before s a (bump s) (ap (is_sign CloseBrace) f.0) (number_read before d a s f.0 is)
    ∙ spelled (before ++ a ∷ []) ns ts more (bump s) (n - 1) f.1 less
spelled before ns _ (named {w = w} {ts = ts} {n = a} is more) s n same room =
    let f = is_front s.left (word w) ts same in
    let l = front_left s.left (word w) ts same in
    let one : n ≡ suc (n - 1) = omega (arith, l, room) in
    let less : length (bump s).left ≤ n - 1 = omega (arith, l, room) in
    ap (λ i. arcs_from i before s) one
    ∙ turn_on (n - 1) before s a (bump s) (ap (is_sign CloseBrace) f.0) (name_read before w a s f.0 (not_open (before ++ a ∷ []) ns ts more (bump s).left f.1) is)
    ∙ spelled (before ++ a ∷ []) ns ts more (bump s) (n - 1) f.1 less
spelled before ns _ (both {d = d} {w = w} {ts = ts} {n = a} is more) s n same room =
    let u = bump s in
    let v = bump u in
    let x = bump v in
    let f = is_front s.left (word w) (sign OpenParenthesis ∷ number d ∷ sign CloseParenthesis ∷ ts) same in
    let g = is_front u.left (sign OpenParenthesis) (number d ∷ sign CloseParenthesis ∷ ts) f.1 in
    let h = is_front v.left (number d) (sign CloseParenthesis ∷ ts) g.1 in
    let i = is_front x.left (sign CloseParenthesis) ts h.1 in
    let l = front_left s.left (word w) (sign OpenParenthesis ∷ number d ∷ sign CloseParenthesis ∷ ts) same in
    let m = front_left u.left (sign OpenParenthesis) (number d ∷ sign CloseParenthesis ∷ ts) f.1 in
    let o = front_left v.left (number d) (sign CloseParenthesis ∷ ts) g.1 in
    let p = front_left x.left (sign CloseParenthesis) ts h.1 in
    let one : n ≡ suc (n - 1) = omega (arith, l, room) in
    let less : length (bump x).left ≤ n - 1 = omega (arith, l, m, o, p, room) in
    ap (λ j. arcs_from j before s) one ∙ turn_on (n - 1) before s a (bump x) (ap (is_sign CloseBrace) f.0) (both_read before w d a s f.0 g.0 h.0 i.0 is)
    ∙ spelled (before ++ a ∷ []) ns ts more (bump x) (n - 1) i.1 less

-- ---- the whole identifier

pub arcs_told : (id : List Spot) (ns : List ℕ) → (arcs id ≡ Some ns) ↔ Identifies id ns
unfolding arcs
arcs_told id ns = (λ h. told (at_sign OpenBrace (over id)) refl h, tell)
  where
    told : (b : Bool) → at_sign OpenBrace (over id) ≡ b → cond b (arcs_from (length (drop 1 id)) [] (bump (over id))) None ≡ Some ns → Identifies id ns
    told true e h = record {
      inner = tokens (drop 1 id);
      braced = front_is id (sign OpenBrace) (sign_first OpenBrace (first_of id) e);
      arcs = arcs_spell (length (drop 1 id)) [] ns (bump (over id)) h;
    }
    told false e h = cc

    tell : Identifies id ns → cond (at_sign OpenBrace (over id)) (arcs_from (length (drop 1 id)) [] (bump (over id))) None ≡ Some ns
    tell h =
        let f = is_front id (sign OpenBrace) h.inner h.braced in
        ap (λ b. cond b (arcs_from (length (drop 1 id)) [] (bump (over id))) None) (ap (is_sign OpenBrace) f.0)
        ∙ spelled [] ns h.inner h.arcs (bump (over id)) (length (drop 1 id)) f.1 (omega arith)
