-- Tokens that come next, from one state to another.
use Rattle.std.proofs.Common.{◌≡◌, ℕ, zero, suc, ◌+◌, ◌-◌, List, [], ◌∷◌, ◌++◌, drop, false, ◌==◌, ◌⊎◌, inl, inr, Some, Result, Ok, refl, ap, ap₂, subst, ◌∙◌, append_assoc, arith}
use Rattle.std.proofs.lemmas.Bool.Decides.{nat_tests}
use Rattle.oer_lexer.specs.Token.{Token, word, sign, Spot, tokens}
use Rattle.oer_lexer.specs.declared.token.Sign.TheVariants.{CloseBrace, Comma}
use Rattle.oer_notation.specs.Grammar.{IsId, an_id}
use Rattle.oer_value_notation.specs.State.{State, ◌>>=◌, first, bump, part_at, id_at}
use Rattle.oer_value_notation.specs.declared.fault.TextFault.{TextFault}

-- The tokens come between s and t, and n parts are counted.
pub record Comes (s t : State) (n : ℕ) (ts : List Token) : Type 0 where
  pub used : List Spot
  pub is : s.left ≡ used ++ t.left
  pub are : tokens used ≡ ts
  pub parts : s.parts ≡ n + t.parts
  pub stop : s.stop ≡ t.stop

pub same_state : (s t : State) → s.left ≡ t.left → s.parts ≡ t.parts → s.stop ≡ t.stop → s ≡ t
same_state s t l p e =
    ap (λ x. record { left = x; parts = s.parts; stop = s.stop }) l ∙ ap (λ x. record { left = t.left; parts = x; stop = s.stop }) p ∙ ap (λ x. record { left = t.left; parts = t.parts; stop = x }) e

no_tokens : (l : List Spot) → tokens l ≡ [] → l ≡ []
no_tokens [] h = refl
no_tokens (x ∷ xs) h = absurd (cc)

pub done : {s t : State} → Comes s t 0 [] → s ≡ t
done {s} {t} c = same_state s t (c.is ∙ ap (λ l. l ++ t.left) (no_tokens c.used c.are)) (let p = c.parts in omega arith) c.stop

pub same_left : {s t : State} {n : ℕ} → Comes s t n [] → s.left ≡ t.left
same_left {s} {t} c = c.is ∙ ap (λ l. l ++ t.left) (no_tokens c.used c.are)

first_used : (l : List Spot) (s t : State) (n : ℕ) (k : Token) (ts : List Token) → s.left ≡ l ++ t.left → tokens l ≡ k ∷ ts → s.parts ≡ n + t.parts → s.stop ≡ t.stop → (first s ≡ Some k) × Comes (bump s) t n ts
first_used [] s t n k ts e h p q = absurd (cc)
first_used (x ∷ xs) s t n k ts e h p q =
    let same : x.token ≡ k = cc in
    (rw e (ap Some same), record { used = xs; is = ap (drop 1) e; are = cc; parts = p; stop = q })

pub front : {s t : State} {n : ℕ} {k : Token} {ts : List Token} → Comes s t n (k ∷ ts) → (first s ≡ Some k) × Comes (bump s) t n ts
front {s} {t} {n} {k} {ts} c = first_used c.used s t n k ts c.is c.are c.parts c.stop

-- the one token that comes
pub sole : {s t : State} {k : Token} → Comes s t 0 (k ∷ []) → (first s ≡ Some k) × (bump s ≡ t)
sole c = let f = front c in (f.0, done f.1)

record Falls (all : List Spot) (ts us : List Token) : Type 0 where
  front : List Spot
  back : List Spot
  is : all ≡ front ++ back
  first : tokens front ≡ ts
  second : tokens back ≡ us

falls : (all : List Spot) (ts us : List Token) → tokens all ≡ ts ++ us → Falls all ts us
falls all [] us h = record { front = []; back = all; is = refl; first = refl; second = h }
falls [] (t ∷ ts) us h = absurd (cc)
falls (s ∷ ss) (t ∷ ts) us h =
    let same : s.token ≡ t = cc in
    let f = falls ss ts us (cc) in
    record { front = s ∷ f.front; back = f.back; is = ap (λ l. s ∷ l) f.is; first = ap₂ (λ x xs. x ∷ xs) same f.first; second = f.second }

-- a state between two lists
pub record Between (s t : State) (m n : ℕ) (a b : List Token) : Type 0 where
  pub middle : State
  pub left : Comes s middle m a
  pub right : Comes middle t n b

pub split : {s t : State} {k : ℕ} (m n : ℕ) (a b : List Token) → k ≡ m + n → Comes s t k (a ++ b) → Between s t m n a b
split {s} {t} {k} m n a b e c =
    let f = falls c.used a b c.are in
    let p = c.parts in
    record {
      middle = record { left = f.back ++ t.left; parts = n + t.parts; stop = t.stop };
      left = record { used = f.front; is = c.is ∙ ap (λ l. l ++ t.left) f.is ∙ append_assoc f.front f.back t.left; are = f.first; parts = omega arith; stop = c.stop };
      right = record { used = f.back; is = refl; are = f.second; parts = refl; stop = refl };
    }

pub recount : {s t : State} {m n : ℕ} {ts : List Token} → m ≡ n → Comes s t m ts → Comes s t n ts
recount {s} {t} {m} {n} {ts} e c = subst (λ n. Comes s t n ts) e c

-- one part counted
abbrev pub less : State → State
less s = record { left = s.left; parts = s.parts - 1; stop = s.stop }

pub counted : {s t : State} {n : ℕ} {ts : List Token} → Comes s t (suc n) ts → Comes (less s) t n ts
counted c = let p = c.parts in record { used = c.used; is = c.is; are = c.are; parts = omega arith; stop = c.stop }

not_zero : (n m k : ℕ) → n ≡ suc m + k → n == 0 ≡ false
not_zero zero m k h = absurd (omega arith)
not_zero (suc n) m k h = grind (arith, nat_tests)

pub part_given : {s t : State} {n : ℕ} {ts : List Token} (e : TextFault) → Comes s t (suc n) ts → part_at e s ≡ Ok (tt, less s)
unfolding part_at
part_given {s} {t} {n} e c = rw (not_zero s.parts n t.parts c.parts) refl

pub bound : {A B : Type 0} (r : Result A TextFault) (f : A → Result B TextFault) (x : A) → r ≡ Ok x → (r >>= f) ≡ f x
bound r f x h = ap (λ r. r >>= f) h

pub id_given : (s : State) {w : List ℕ} → IsId w → first s ≡ Some (word w) → id_at s ≡ Ok (w, bump s)
unfolding id_at
id_given s (an_id small) e = rw (e, small) refl

-- what stands behind an element of a list
abbrev pub Follows : State → Type 0
Follows s = (first s ≡ Some (sign Comma)) ⊎ (first s ≡ Some (sign CloseBrace))

-- nothing, or a comma first
abbrev pub Commas : List Token → Type 0
Commas ts = (ts ≡ []) ⊎ ((us : List Token) × (ts ≡ sign Comma ∷ us))

pub follows : {s t : State} {n : ℕ} {ts : List Token} → Commas ts → Comes s t n ts → first t ≡ Some (sign CloseBrace) → Follows s
follows {s} {t} {n} {ts} (inl e) c h =
    let d = subst (Comes s t n) e c in
    inr (ap (λ l. first (record { left = l; parts = s.parts; stop = s.stop })) (d.is ∙ ap (λ l. l ++ t.left) (no_tokens d.used d.are)) ∙ h)
follows {s} {t} {n} {ts} (inr p) c h = inl (front (subst (Comes s t n) p.1 c)).0

-- the same with a comma in front
abbrev pub before : State → State
before s = record { left = record { at = 0; token = sign Comma } ∷ s.left; parts = s.parts; stop = s.stop }

pub before_comes : {s t : State} {n : ℕ} {ts : List Token} → Comes s t n ts → Comes (before s) t n (sign Comma ∷ ts)
before_comes c = record { used = record { at = 0; token = sign Comma } ∷ c.used; is = ap (λ l. record { at = 0; token = sign Comma } ∷ l) c.is; are = ap (λ l. sign Comma ∷ l) c.are; parts = c.parts; stop = c.stop }
