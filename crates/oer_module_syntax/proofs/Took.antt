-- Tokens that were taken, from one state to another.
use Rattle.std.proofs.Common.{◌≡◌, arith, ℕ, zero, suc, ◌+◌, List, [], ◌∷◌, ◌++◌, take, drop, length, Bool, true, false, not, ◌⊎◌, inl, inr, Option, Some, None, Result, Ok, refl, sym, ap, subst, ◌∙◌, append_assoc}
use Rattle.std.proofs.lemmas.Bool.{and_parts}
use Rattle.std.proofs.lemmas.List.{append-nil, take-append-drop}
use Rattle.std.specs.Str.{bytes_eq}
use Rattle.std.proofs.lemmas.Slice.Eq.{bytes_eq-Decides}
use Rattle.oer_module_lexer.specs.Token.{Token, word, field, number, real, bits, digits, text, sign, Spot}
use Rattle.oer_module_lexer.specs.declared.token.Sign.{Sign}
use Rattle.oer_module_lexer.specs.declared.token.Sign.TheVariants.{OpenBrace, CloseBrace, Comma, Point}
use Rattle.oer_module_syntax.specs.Grammar.{◌▹◌, Nothing, ASign, AKeyword, WordAt, NameAt, Enclosed, Braced, MaybeBraced, Each, Listed, AreSteps, Path, SignAt}
use Rattle.oer_module_syntax.specs.Looks.{is_field}
use Rattle.oer_module_syntax.specs.Matched.{Closes, brace}
use Rattle.oer_module_syntax.specs.Modules.{braced_at, many, all_of}
use Rattle.oer_module_syntax.specs.Ranges.{front_of, group_at, group_len, starts_sign, is_pair, is_step, pairs_len}
use Rattle.oer_module_syntax.specs.State.{State, Read, first, first_of, bump, past, place, place_among, is_sign, at_sign, is_word, at_keyword, skip_sign, skip_keyword, identifier_by, identifier_at, reference_by, reference_at}
use Rattle.oer_module_syntax.specs.Types.{more_listed, listed}
use Rattle.oer_module_syntax.specs.Words.{keyword_text, is_identifier, is_reference}
use Rattle.oer_module_syntax.specs.declared.fault.Fault.{Fault}
use Rattle.oer_module_syntax.specs.declared.fault.Sought.{Sought}
use Rattle.oer_module_syntax.specs.declared.range.Pair.TheVariants.{Step}
use Rattle.oer_module_syntax.specs.declared.word.Keyword.{Keyword}
use Rattle.oer_module_syntax.proofs.Groups.{group_enclosed}
use Rattle.oer_module_syntax.proofs.Matching.{bind_ok, chosen, is_that}

pub same_ok : {A : Type 0} (x y : A) → ◌≡◌ {A = Result A Fault} (Ok x) (Ok y) → x ≡ y
same_ok x y h = cc

pub not_true : (b : Bool) → not b ≡ false → b ≡ true
not_true true h = refl
not_true false h = absurd (cc)

-- From s to t tokens were taken of which P holds; that the text ends behind the last is known of both or of none.
pub record Took (s t : State) (P : List Spot → Type 0) : Type 0 where
  pub used : List Spot
  pub is : s.left ≡ used ++ t.left
  pub stop : s.complete ≡ t.complete
  pub holds : P used

-- nothing was taken
pub stay : (s : State) (P : List Spot → Type 0) → P [] → Took s s P
stay s P h = record { used = []; is = refl; stop = refl; holds = h }

infixr 5 ◌▸◌
-- these, then others
pub ◌▸◌ : {s t u : State} {P Q : List Spot → Type 0} → Took s t P → Took t u Q → Took s u (P ▹ Q)
◌▸◌ {s} {t} {u} p q = record {
  used = p.used ++ q.used;
  is = p.is ∙ ap (λ x. p.used ++ x) q.is ∙ sym (append_assoc p.used q.used u.left);
  stop = p.stop ∙ q.stop;
  holds = record { front = p.used; behind = q.used; is = refl; first = p.holds; last = q.holds };
}

pub turned : {s t : State} {P : List Spot → Type 0} (Q : List Spot → Type 0) → Took s t P → ((a : List Spot) → P a → Q a) → Took s t Q
turned Q p f = record { used = p.used; is = p.is; stop = p.stop; holds = f p.used p.holds }

-- what was answered
pub answered : {A : Type 0} {s : State} (P : A → List Spot → Type 0) (x r : A × State) → ◌≡◌ {A = Read A} (Ok x) (Ok r) → Took s x.1 (P x.0) → Took s r.1 (P r.0)
answered {A} {s} P x r e h = subst (λ v. Took s v.1 (P v.0)) (same_ok x r e) h

-- ---- a token

take_among : (l : List Spot) (s : State) (k : Token) → s.left ≡ l → first_of l ≡ Some k → Took s (bump s) (λ ts. ts ≡ record { at = place_among l s.end; token = k } ∷ [])
take_among [] s k e h = absurd (cc)
take_among (x ∷ xs) s k e h = record { used = x ∷ []; is = e ∙ ap (λ y. x ∷ drop 1 y) (sym e); stop = refl; holds = ap (λ u. record { at = x.at; token = u } ∷ []) (some x.token k h) }
  where
    some : (a b : Token) → Some a ≡ Some b → a ≡ b
    some a b e = cc

pub take_first : (s : State) (k : Token) → first s ≡ Some k → Took s (bump s) (λ ts. ts ≡ record { at = place s; token = k } ∷ [])
take_first s k h = take_among s.left s k refl h

pub sign_first : (g : Sign) (o : Option Token) → is_sign g o ≡ true → o ≡ Some (sign g)
sign_first g None h = absurd (cc)
sign_first g (Some t) h = ap Some (is_that g t h)

pub same_bytes : (v w : List ℕ) → bytes_eq v w ≡ true → v ≡ w
same_bytes v w h = (bytes_eq-Decides v w).0 h

pub word_first : (v : List ℕ) (o : Option Token) → is_word v o ≡ true → o ≡ Some (word v)
word_first v None h = absurd (cc)
word_first v (Some (word w)) h = ap (λ x. Some (word x)) (same_bytes w v h)
word_first v (Some (field w)) h = absurd (cc)
word_first v (Some (number w)) h = absurd (cc)
word_first v (Some (real w)) h = absurd (cc)
word_first v (Some (bits w)) h = absurd (cc)
word_first v (Some (digits w)) h = absurd (cc)
word_first v (Some (text w)) h = absurd (cc)
word_first v (Some (sign u)) h = absurd (cc)

pub sign_took_at : (g : Sign) (s : State) → at_sign g s ≡ true → Took s (bump s) (SignAt (place s) g)
sign_took_at g s h = take_first s (sign g) (sign_first g (first s) h)

pub sign_took : (g : Sign) (s : State) → at_sign g s ≡ true → Took s (bump s) (ASign g)
sign_took g s h = turned (ASign g) (sign_took_at g s h) (λ a e. (place s, e))

pub word_took : (w : List ℕ) (s : State) → first s ≡ Some (word w) → Took s (bump s) (WordAt (place s) w)
word_took w s h = take_first s (word w) h

pub keyword_took_at : (k : Keyword) (s : State) → at_keyword k s ≡ true → Took s (bump s) (WordAt (place s) (keyword_text k))
keyword_took_at k s h = word_took (keyword_text k) s (word_first (keyword_text k) (first s) h)

pub keyword_took : (k : Keyword) (s : State) → at_keyword k s ≡ true → Took s (bump s) (AKeyword k)
keyword_took k s h = turned (AKeyword k) (keyword_took_at k s h) (λ a e. (place s, e))

pub skip_sign_took : (g : Sign) (s : State) (r : Unit {0} × State) → skip_sign g s ≡ Ok r → Took s r.1 (ASign g)
unfolding skip_sign
skip_sign_took g s r h = elim (chosen (at_sign g s) _ _ _ h) [
  | inl p ↦ answered (λ u. ASign g) (tt, bump s) r p.1 (sign_took g s p.0)
  | inr p ↦ absurd (cc)
]

pub skip_keyword_took : (k : Keyword) (s : State) (r : Unit {0} × State) → skip_keyword k s ≡ Ok r → Took s r.1 (AKeyword k)
unfolding skip_keyword
skip_keyword_took k s r h = elim (chosen (at_keyword k s) _ _ _ h) [
  | inl p ↦ answered (λ u. AKeyword k) (tt, bump s) r p.1 (keyword_took k s p.0)
  | inr p ↦ absurd (cc)
]

-- a word that the test allows
pub name_took : (allows : List ℕ → Bool) (w : List ℕ) (s : State) → first s ≡ Some (word w) → allows w ≡ true → Took s (bump s) (NameAt allows (place s) w)
name_took allows w s h e = turned (NameAt allows (place s) w) (word_took w s h) (λ a i. (i, e))

identifier_by_took : (o : Option Token) (s : State) (r : List ℕ × State) → first s ≡ o → identifier_by o s ≡ Ok r → Took s r.1 (NameAt is_identifier (place s) r.0)
identifier_by_took None s r e h = absurd (cc)
identifier_by_took (Some (word w)) s r e h = elim (chosen (is_identifier w) _ _ _ h) [
  | inl p ↦ answered (NameAt is_identifier (place s)) (w, bump s) r p.1 (name_took is_identifier w s e p.0)
  | inr p ↦ absurd (cc)
]
identifier_by_took (Some (field w)) s r e h = absurd (cc)
identifier_by_took (Some (number w)) s r e h = absurd (cc)
identifier_by_took (Some (real w)) s r e h = absurd (cc)
identifier_by_took (Some (bits w)) s r e h = absurd (cc)
identifier_by_took (Some (digits w)) s r e h = absurd (cc)
identifier_by_took (Some (text w)) s r e h = absurd (cc)
identifier_by_took (Some (sign u)) s r e h = absurd (cc)

pub identifier_took : (s : State) (r : List ℕ × State) → identifier_at s ≡ Ok r → Took s r.1 (NameAt is_identifier (place s) r.0)
unfolding identifier_at
identifier_took s r h = identifier_by_took (first s) s r refl h

reference_by_took : (x : Sought) (o : Option Token) (s : State) (r : List ℕ × State) → first s ≡ o → reference_by x o s ≡ Ok r → Took s r.1 (NameAt is_reference (place s) r.0)
reference_by_took x None s r e h = absurd (cc)
reference_by_took x (Some (word w)) s r e h = elim (chosen (is_reference w) _ _ _ h) [
  | inl p ↦ answered (NameAt is_reference (place s)) (w, bump s) r p.1 (name_took is_reference w s e p.0)
  | inr p ↦ absurd (cc)
]
reference_by_took x (Some (field w)) s r e h = absurd (cc)
reference_by_took x (Some (number w)) s r e h = absurd (cc)
reference_by_took x (Some (real w)) s r e h = absurd (cc)
reference_by_took x (Some (bits w)) s r e h = absurd (cc)
reference_by_took x (Some (digits w)) s r e h = absurd (cc)
reference_by_took x (Some (text w)) s r e h = absurd (cc)
reference_by_took x (Some (sign u)) s r e h = absurd (cc)

pub reference_took : (x : Sought) (s : State) (r : List ℕ × State) → reference_at x s ≡ Ok r → Took s r.1 (NameAt is_reference (place s) r.0)
unfolding reference_at
reference_took x s r h = reference_by_took x (first s) s r refl h

-- ---- what is kept

pub front_took : (n : ℕ) (s : State) → Took s (past n s) (λ ts. ts ≡ take n s.left)
front_took n s = record { used = take n s.left; is = sym (take-append-drop n s.left); stop = refl; holds = refl }

pub kept_took : (n : ℕ) (s : State) (r : List Spot × State) → front_of n s ≡ Ok r → Took s r.1 (λ ts. ts ≡ r.0)
kept_took n s r h = answered (λ kept ts. ts ≡ kept) (take n s.left, past n s) r h (front_took n s)

-- what stands in brackets of a kind, or nothing
abbrev pub MaybeEnclosed : Sign → Sign → List Spot → List Spot → Type 0
MaybeEnclosed o c kept ts = (ts ≡ kept) × (Nothing ts ⊎ Enclosed o c ts)

-- what stands in brackets of a kind
abbrev pub InBrackets : Sign → Sign → List Spot → List Spot → Type 0
InBrackets o c kept ts = (ts ≡ kept) × Enclosed o c ts

pub group_took_here : (o c : Sign) (s : State) (r : List Spot × State) → Closes o c → at_sign o s ≡ true → group_at o s ≡ Ok r → Took s r.1 (InBrackets o c r.0)
unfolding group_at
group_took_here o c s r cl a h = elim (chosen (at_sign o s) _ _ _ h) [
  | inl p ↦ (
      let n = bind_ok (group_len s) (λ n. front_of n s) r p.1 in
      let e = ap (λ x. x.0) (same_ok (take n.0 s.left, past n.0 s) r n.2) in
      turned (InBrackets o c r.0) (kept_took n.0 s r n.2) (λ a i. (i, subst (Enclosed o c) (e ∙ sym i) (group_enclosed o c s s.left n.0 cl p.0 n.1))))
  | inr p ↦ absurd (cc)
]

pub braces_took : (s : State) (r : List Spot × State) → group_at OpenBrace s ≡ Ok r → Took s r.1 (MaybeBraced r.0)
unfolding group_at
braces_took s r h = elim (chosen (at_sign OpenBrace s) _ _ _ h) [
  | inl p ↦ turned (MaybeBraced r.0) (group_took_here OpenBrace CloseBrace s r brace p.0 h) (λ a i. (i.0, inr i.1))
  | inr p ↦ answered MaybeBraced ([], s) r p.1 (stay s (MaybeBraced []) (refl, inl refl))
]

pub braced_took : (s : State) (r : List Spot × State) → braced_at s ≡ Ok r → Took s r.1 (Braced r.0)
braced_took s r h = elim (chosen (at_sign OpenBrace s) _ _ _ h) [
  | inl p ↦ group_took_here OpenBrace CloseBrace s r brace p.0 p.1
  | inr p ↦ absurd (cc)
]

-- ---- lists

pub both : {s t u : State} {P Q : List Spot → Type 0} (R : List Spot → Type 0) → Took s t P → Took t u Q → ((a b : List Spot) → P a → Q b → R (a ++ b)) → Took s u R
both {s} {t} {u} R p q f = record {
  used = p.used ++ q.used;
  is = p.is ∙ ap (λ x. p.used ++ x) q.is ∙ sym (append_assoc p.used q.used u.left);
  stop = p.stop ∙ q.stop;
  holds = f p.used q.used p.holds q.holds;
}

module _ {A : Type 0} (P : A → List Spot → Type 0) where
  -- one more behind them
  pub each_onto : (xs : List A) (y : A) (a b : List Spot) → Each P xs a → P y b → Each P (xs ++ y ∷ []) (a ++ b)
  each_onto [] y a b p q = record { front = b; behind = []; is = ap (λ x. x ++ b) p ∙ sym (append-nil b); first = q; last = refl }
  each_onto (x ∷ xs) y a b p q = record {
    front = p.front;
    behind = p.behind ++ b;
    is = ap (λ x. x ++ b) p.is ∙ append_assoc p.front p.behind b;
    first = p.first;
    last = each_onto xs y p.behind b p.last q;
  }

module _ {A : Type 0} (P : A → List Spot → Type 0) where
  abbrev BehindComma : A → List Spot → Type 0
  BehindComma y = ASign Comma ▹ P y

  listed_onto : (x : A) (xs : List A) (y : A) (a b : List Spot) → Listed P (x ∷ xs) a → BehindComma y b → Listed P (x ∷ (xs ++ y ∷ [])) (a ++ b)
  listed_onto x xs y a b p q = record {
    front = p.front;
    behind = p.behind ++ b;
    is = ap (λ x. x ++ b) p.is ∙ append_assoc p.front p.behind b;
    first = p.first;
    last = each_onto BehindComma xs y p.behind b p.last q;
  }

module _ {A : Type 0} (P : A → List Spot → Type 0) (one : State → Read A) (sound : (s : State) (r : A × State) → one s ≡ Ok r → Took s r.1 (P r.0)) where
  more_listed_took : (n : ℕ) (x : A) (xs : List A) (s t : State) (r : List A × State) → Took s t (Listed P (x ∷ xs))
      → more_listed one n (x ∷ xs) t ≡ Ok r → Took s r.1 (Listed P r.0)
  unfolding more_listed
  more_listed_took zero x xs s t r p h = absurd (cc)
  more_listed_took (suc n) x xs s t r p h = elim (chosen (at_sign Comma t) _ _ _ h) [
    | inl c ↦ (
        let e = bind_ok (one (bump t)) _ r c.1 in
        let more = sign_took Comma t c.0 ▸ sound (bump t) e.0 e.1 in
        more_listed_took n x (xs ++ e.0.0 ∷ []) s e.0.1 r (both (Listed P (x ∷ (xs ++ e.0.0 ∷ []))) p more (λ a b p q. listed_onto P x xs e.0.0 a b p q)) e.2)
    | inr c ↦ answered (Listed P) (x ∷ xs, t) r c.1 p
  ]

  pub listed_took : (s : State) (r : List A × State) → listed one s ≡ Ok r → Took s r.1 (Listed P r.0)
  listed_took s r h =
      let e = bind_ok (one s) _ r h in
      more_listed_took (suc (length e.0.1.left)) e.0.0 [] s e.0.1 r (sound s e.0 e.1 ▸ stay e.0.1 Nothing refl) e.2

-- one after another, where one more behind those of R makes more of R
module _ {A : Type 0} (P : A → List Spot → Type 0) (R : List A → List Spot → Type 0)
    (onto : (xs : List A) (y : A) (a b : List Spot) → R xs a → P y b → R (xs ++ y ∷ []) (a ++ b))
    (one : State → Read A) (sound : (s : State) (r : A × State) → one s ≡ Ok r → Took s r.1 (P r.0)) (done : State → Bool) where
  pub many_took : (n : ℕ) (found : List A) (s t : State) (r : List A × State) → Took s t (R found) → many done one n found t ≡ Ok r
      → Took s r.1 (R r.0) × (done r.1 ≡ true)
  unfolding many
  many_took zero found s t r p h = absurd (cc)
  many_took (suc n) found s t r p h = elim (chosen (done t) _ _ _ h) [
    | inl c ↦ (answered R (found, t) r c.1 p, subst (λ v. done v.1 ≡ true) (same_ok (found, t) r c.1) c.0)
    | inr c ↦ (
        let e = bind_ok (one t) _ r c.1 in
        many_took n (found ++ e.0.0 ∷ []) s e.0.1 r (both (R (found ++ e.0.0 ∷ [])) p (sound t e.0 e.1) (λ a b p q. onto found e.0.0 a b p q)) e.2)
  ]

-- all up to where it is done
pub all_took : {A : Type 0} (P : A → List Spot → Type 0) (one : State → Read A) → ((s : State) (r : A × State) → one s ≡ Ok r → Took s r.1 (P r.0))
    → (done : State → Bool) (s : State) (r : List A × State) → all_of done one s ≡ Ok r → Took s r.1 (Each P r.0) × (done r.1 ≡ true)
all_took P one sound done s r h = many_took P (Each P) (each_onto P) one sound done (suc (length s.left)) [] s s r (stay s Nothing refl) h

-- ---- steps behind a name

pub two_more : (n : ℕ) → 2 + n ≡ suc (suc n)
two_more n = omega arith

pub steps : (l : List Spot) → AreSteps (take (pairs_len Step l) l)
unfolding pairs_len
steps [] = tt
steps (t ∷ []) = tt
steps (t ∷ u ∷ us) = elim (chosen {A = ℕ} (is_pair Step t.token u.token) (2 + pairs_len Step us) 0 (pairs_len Step (t ∷ u ∷ us)) refl) [
  | inl c ↦ (
      let two = and_parts (is_sign Point (Some t.token)) (is_step u.token) c.0 in
      subst (λ n. AreSteps (take n (t ∷ u ∷ us))) (sym (two_more (pairs_len Step us)) ∙ c.1) (two.0, two.1, steps us))
  | inr c ↦ subst (λ n. AreSteps (take n (t ∷ u ∷ us))) c.1 tt
]

pub path_took : (s : State) → Took s (past (pairs_len Step s.left) s) (Path (take (pairs_len Step s.left) s.left))
path_took s = turned (Path (take (pairs_len Step s.left) s.left)) (front_took (pairs_len Step s.left) s) (λ a e. (e, subst AreSteps (sym e) (steps s.left)))

-- a point and a field
pub field_first : (l : List Spot) → starts_sign Point l ≡ true → is_field (first_of (drop 1 l)) ≡ true
    → (starts_sign Point (take (pairs_len Step l) l) ≡ true) × (is_field (first_of (drop 1 (take (pairs_len Step l) l))) ≡ true)
unfolding pairs_len
field_first [] p f = absurd (cc)
field_first (t ∷ []) p f = absurd (cc)
field_first (t ∷ u ∷ us) p f =
    let two : is_pair Step t.token u.token ≡ true = rw (p, is_a_step u.token f) refl in
    let n : pairs_len Step (t ∷ u ∷ us) ≡ suc (suc (pairs_len Step us)) = rw two (two_more (pairs_len Step us)) in
    subst (λ n. (starts_sign Point (take n (t ∷ u ∷ us)) ≡ true) × (is_field (first_of (drop 1 (take n (t ∷ u ∷ us)))) ≡ true)) (sym n) (p, f)
  where
    is_a_step : (k : Token) → is_field (Some k) ≡ true → is_step k ≡ true
    is_a_step (word w) h = refl
    is_a_step (field w) h = refl
    is_a_step (number w) h = absurd (cc)
    is_a_step (real w) h = absurd (cc)
    is_a_step (bits w) h = absurd (cc)
    is_a_step (digits w) h = absurd (cc)
    is_a_step (text w) h = absurd (cc)
    is_a_step (sign g) h = absurd (cc)
