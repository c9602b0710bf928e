-- Tokens that were taken, from one state to another.
use Rattle.std.proofs.Common.{◌≡◌, ℕ, List, [], ◌∷◌, ◌++◌, Bool, true, false, cond, ◌==◌, ◌⊎◌, inl, inr, Option, Some, None, Result, Ok, Err, refl, sym, ap, subst, ◌∙◌, append_assoc, drop, ◌-◌}
use Rattle.std.specs.Str.{bytes_eq}
use Rattle.std.proofs.lemmas.Bool.{eqb-true}
use Rattle.std.proofs.lemmas.Slice.Eq.{bytes_eq-Decides}
use Rattle.oer_lexer.specs.declared.token.Sign.{Sign}
use Rattle.oer_lexer.specs.declared.token.Sign.TheVariants.{OpenBrace, CloseBrace, OpenParenthesis, CloseParenthesis, OpenBracket, CloseBracket, Comma, Range, Ellipsis, Assign}
use Rattle.oer_lexer.specs.Token.{Token, word, number, bits, digits, text, sign, Spot, tokens}
use Rattle.oer_notation.specs.Grammar.{IsId, an_id}
use Rattle.oer_value_notation.specs.Numbers.{given, number_at}
use Rattle.oer_value_notation.specs.State.{State, Read, ◌>>=◌, first, first_of, bump, sign_number, same_sign, is_sign, at_sign, is_word, at_word, skip_sign, skip_word, id_by, id_at, number_text_by, number_text_at, part_at}
use Rattle.oer_value_notation.specs.Words.{is_id}
use Rattle.oer_value_notation.specs.declared.fault.TextFault.{TextFault}

pub bind_ok : {A B : Type 0} (r : Result A TextFault) (f : A → Result B TextFault) (y : B) → (r >>= f) ≡ Ok y → (x : A) × (r ≡ Ok x) × (f x ≡ Ok y)
bind_ok (Ok x) f y h = (x, refl, h)
bind_ok (Err e) f y h = absurd (cc)

pub chosen : {A : Type 0} (b : Bool) (x y z : A) → cond b x y ≡ z → ((b ≡ true) × (x ≡ z)) ⊎ ((b ≡ false) × (y ≡ z))
chosen true x y z h = inl (refl, h)
chosen false x y z h = inr (refl, h)

pub same_ok : {A : Type 0} (x y : A) → ◌≡◌ {A = Result A TextFault} (Ok x) (Ok y) → x ≡ y
same_ok x y h = cc

pub tokens-append : (a b : List Spot) → tokens (a ++ b) ≡ tokens a ++ tokens b
tokens-append [] b = refl
tokens-append (s ∷ a) b = ap (λ l. s.token ∷ l) (tokens-append a b)

-- From s to t tokens were taken that have P; the fault behind the tokens is the same.
pub record Took (s t : State) (P : List Token → Type 0) : Type 0 where
  pub used : List Spot
  pub is : s.left ≡ used ++ t.left
  pub stop : s.stop ≡ t.stop
  pub holds : P (tokens used)

abbrev pub Is : Token → List Token → Type 0
Is k ts = ts ≡ k ∷ []

-- nothing was taken
pub stay : (s : State) (P : List Token → Type 0) → P [] → Took s s P
stay s P h = record { used = []; is = refl; stop = refl; holds = h }

pub both : {s t u : State} {P Q : List Token → Type 0} (R : List Token → Type 0) → Took s t P → Took t u Q → ((a b : List Token) → P a → Q b → R (a ++ b)) → Took s u R
both {s} {t} {u} {P} {Q} R p q f = record {
  used = p.used ++ q.used;
  is = p.is ∙ ap (λ x. p.used ++ x) q.is ∙ sym (append_assoc p.used q.used u.left);
  stop = p.stop ∙ q.stop;
  holds = subst R (sym (tokens-append p.used q.used)) (f (tokens p.used) (tokens q.used) p.holds q.holds);
}

pub turned : {s t : State} {P : List Token → Type 0} (Q : List Token → Type 0) → Took s t P → ((a : List Token) → P a → Q a) → Took s t Q
turned Q p f = record { used = p.used; is = p.is; stop = p.stop; holds = f (tokens p.used) p.holds }

-- a token, then others
pub after : {s t u : State} {Q : List Token → Type 0} (k : Token) (R : List Token → Type 0) → Took s t (Is k) → Took t u Q → ((b : List Token) → Q b → R (k ∷ b)) → Took s u R
after {s} {t} {u} {Q} k R p q f = both R p q (λ a b e h. subst (λ a. R (a ++ b)) (sym e) (f b h))

pub ends : {s t : State} (k : Token) (R : List Token → Type 0) → Took s t (Is k) → R (k ∷ []) → Took s t R
ends k R p h = turned R p (λ a e. subst R (sym e) h)

-- the first token
take_among : (l : List Spot) (s : State) (k : Token) → s.left ≡ l → first_of l ≡ Some k → Took s (bump s) (Is k)
take_among [] s k e h = absurd (cc)
take_among (x ∷ xs) s k e h = record { used = x ∷ []; is = e ∙ ap (λ y. x ∷ drop 1 y) (sym e); stop = refl; holds = cc }

pub take_first : (s : State) (k : Token) → first s ≡ Some k → Took s (bump s) (Is k)
take_first s k h = take_among s.left s k refl h

-- what was answered
pub answered : {A : Type 0} {s : State} (P : A → List Token → Type 0) (x r : A × State) → ◌≡◌ {A = Read A} (Ok x) (Ok r) → Took s x.1 (P x.0) → Took s r.1 (P r.0)
answered {A} {s} P x r e h = subst (λ v. Took s v.1 (P v.0)) (same_ok x r e) h

-- one token of which P holds
abbrev pub One : (Token → Type 0) → List Token → Type 0
One P ts = (t : Token) × (ts ≡ t ∷ []) × P t

pub one_is : {s t : State} {P : Token → Type 0} (p : Took s t (One P)) → Took s t (Is p.holds.0)
one_is p = record { used = p.used; is = p.is; stop = p.stop; holds = p.holds.1 }

-- ---- signs and words

sign_at : ℕ → Sign
sign_at n = cond (n == 0) OpenBrace (cond (n == 1) CloseBrace (cond (n == 2) OpenParenthesis (cond (n == 3) CloseParenthesis (cond (n == 4) OpenBracket (cond (n == 5) CloseBracket (cond (n == 6) Comma (cond (n == 7) Range (cond (n == 8) Ellipsis Assign))))))))

sign_back : (s : Sign) → sign_at (sign_number s) ≡ s
unfolding sign_at
sign_back OpenBrace = refl
sign_back CloseBrace = refl
sign_back OpenParenthesis = refl
sign_back CloseParenthesis = refl
sign_back OpenBracket = refl
sign_back CloseBracket = refl
sign_back Comma = refl
sign_back Range = refl
sign_back Ellipsis = refl
sign_back Assign = refl

pub sign_same : (s u : Sign) → same_sign s u ≡ true → s ≡ u
sign_same s u h = sym (sign_back s) ∙ ap sign_at (eqb-true (sign_number s) (sign_number u) h) ∙ sign_back u

pub sign_first : (g : Sign) (o : Option Token) → is_sign g o ≡ true → o ≡ Some (sign g)
sign_first g None h = absurd (cc)
sign_first g (Some (word w)) h = absurd (cc)
sign_first g (Some (number w)) h = absurd (cc)
sign_first g (Some (bits w)) h = absurd (cc)
sign_first g (Some (digits w)) h = absurd (cc)
sign_first g (Some (text w)) h = absurd (cc)
sign_first g (Some (sign u)) h = ap (λ s. Some (sign s)) (sym (sign_same g u h))

pub same_bytes : (v w : List ℕ) → bytes_eq v w ≡ true → v ≡ w
same_bytes v w h = (bytes_eq-Decides v w).0 h

pub word_first : (v : List ℕ) (o : Option Token) → is_word v o ≡ true → o ≡ Some (word v)
word_first v None h = absurd (cc)
word_first v (Some (word w)) h = ap (λ x. Some (word x)) (same_bytes w v h)
word_first v (Some (number w)) h = absurd (cc)
word_first v (Some (bits w)) h = absurd (cc)
word_first v (Some (digits w)) h = absurd (cc)
word_first v (Some (text w)) h = absurd (cc)
word_first v (Some (sign u)) h = absurd (cc)

pub sign_took : (g : Sign) (s : State) → at_sign g s ≡ true → Took s (bump s) (Is (sign g))
sign_took g s h = take_first s (sign g) (sign_first g (first s) h)

pub word_took : (v : List ℕ) (s : State) → at_word v s ≡ true → Took s (bump s) (Is (word v))
word_took v s h = take_first s (word v) (word_first v (first s) h)

pub skip_sign_took : (g : Sign) (s : State) (r : Unit {0} × State) → skip_sign g s ≡ Ok r → Took s r.1 (Is (sign g))
unfolding skip_sign
skip_sign_took g s r h = elim (chosen (at_sign g s) _ _ _ h) [
  | inl p ↦ answered (λ u. Is (sign g)) (tt, bump s) r p.1 (sign_took g s p.0)
  | inr p ↦ absurd (cc)
]

pub skip_word_took : (v : List ℕ) (s : State) (r : Unit {0} × State) → skip_word v s ≡ Ok r → Took s r.1 (Is (word v))
unfolding skip_word
skip_word_took v s r h = elim (chosen (at_word v s) _ _ _ h) [
  | inl p ↦ answered (λ u. Is (word v)) (tt, bump s) r p.1 (word_took v s p.0)
  | inr p ↦ absurd (cc)
]

pub small : (w : List ℕ) → is_id w ≡ true → IsId w
small [] h = absurd (cc)
small (c ∷ cs) h = an_id h

-- an id
abbrev pub IsIdTaken : List ℕ → List Token → Type 0
IsIdTaken w ts = (ts ≡ word w ∷ []) × IsId w

id_by_took : (o : Option Token) (s : State) (r : List ℕ × State) → first s ≡ o → id_by o s ≡ Ok r → Took s r.1 (IsIdTaken r.0)
id_by_took None s r e h = absurd (cc)
id_by_took (Some (word w)) s r e h = elim (chosen (is_id w) _ _ _ h) [
  | inl p ↦ answered IsIdTaken (w, bump s) r p.1 (turned (IsIdTaken w) (take_first s (word w) e) (λ a t. (t, small w p.0)))
  | inr p ↦ absurd (cc)
]
id_by_took (Some (number w)) s r e h = absurd (cc)
id_by_took (Some (bits w)) s r e h = absurd (cc)
id_by_took (Some (digits w)) s r e h = absurd (cc)
id_by_took (Some (text w)) s r e h = absurd (cc)
id_by_took (Some (sign u)) s r e h = absurd (cc)

pub id_took : (s : State) (r : List ℕ × State) → id_at s ≡ Ok r → Took s r.1 (IsIdTaken r.0)
unfolding id_at
id_took s r h = id_by_took (first s) s r refl h

pub id_is : {s t : State} {w : List ℕ} → Took s t (IsIdTaken w) → Took s t (Is (word w))
id_is {s} {t} {w} p = turned (Is (word w)) p (λ a h. h.0)

text_by_took : (o : Option Token) (s : State) (r : List ℕ × State) → first s ≡ o → number_text_by o s ≡ Ok r → Took s r.1 (Is (number r.0))
text_by_took None s r e h = absurd (cc)
text_by_took (Some (word w)) s r e h = absurd (cc)
text_by_took (Some (number w)) s r e h = answered (λ w. Is (number w)) (w, bump s) r h (take_first s (number w) e)
text_by_took (Some (bits w)) s r e h = absurd (cc)
text_by_took (Some (digits w)) s r e h = absurd (cc)
text_by_took (Some (text w)) s r e h = absurd (cc)
text_by_took (Some (sign u)) s r e h = absurd (cc)

given_ok : {A : Type 0} (o : Option A) (e : TextFault) (s : State) (r : A × State) → given o e s ≡ Ok r → (o ≡ Some r.0) × (s ≡ r.1)
given_ok (Some x) e s r h = let q = same_ok (x, s) r h in (ap (λ p. Some p.0) q, ap (λ p. p.1) q)
given_ok None e s r h = absurd (cc)

-- a number that the reader of its text takes
pub number_took : {A : Type 0} (parse : List ℕ → Option A) (P : A → Token → Type 0) → ((w : List ℕ) (x : A) → parse w ≡ Some x → P x (number w)) → (s : State) (r : A × State) → number_at parse s ≡ Ok r → Took s r.1 (One (P r.0))
unfolding number_at number_text_at
number_took parse P f s r h =
    let w = bind_ok (number_text_by (first s) s) _ r h in
    let t = text_by_took (first s) s w.0 refl w.1 in
    let g = given_ok (parse w.0.0) _ w.0.1 r w.2 in
    subst (λ u. Took s u (One (P r.0))) g.1 (turned (One (P r.0)) t (λ a e. (number w.0.0, e, f w.0.0 r.0 g.0)))

pub part_took : (e : TextFault) (s : State) (r : Unit {0} × State) → part_at e s ≡ Ok r → Took s r.1 (λ ts. ts ≡ [])
unfolding part_at
part_took e s r h = elim (chosen (s.parts == 0) _ _ _ h) [
  | inl p ↦ absurd (cc)
  | inr p ↦ answered (λ u ts. ts ≡ []) (tt, record { left = s.left; parts = s.parts - 1; stop = s.stop }) r p.1 (record { used = []; is = refl; stop = refl; holds = refl })
]

-- what takes nothing in front
pub unmoved : {s t u : State} {Q : List Token → Type 0} → Took s t (λ ts. ts ≡ []) → Took t u Q → Took s u Q
unmoved {s} {t} {u} {Q} p q = both Q p q (λ a b e h. subst (λ x. Q (x ++ b)) (sym e) h)
