-- Tokens with their places, and what is read of them.
use Rattle.std.proofs.Common.{◌≡◌, ℕ, List, [], ◌∷◌, ◌++◌, Bool, refl, ap, subst}
use Rattle.std.proofs.lemmas.Grind.{flat_map-append}
use Rattle.oer_lexer.specs.Token as notation
use Rattle.oer_lexer.specs.declared.token.Sign as signs
use Rattle.oer_module_lexer.specs.Token.{Token, Spot, sign, word}
use Rattle.oer_module_syntax.specs.State.{State}
use Rattle.oer_same_tokens.specs.Same.{same_sign, same_token, same_tokens}
use Rattle.oer_same_trees.specs.Says.{kept}

pub data Placed : List Token → List Spot → Type 0 where
  none_placed : Placed [] []
  placed : {t : Token} {ts : List Token} {ss : List Spot} (at : ℕ) → Placed ts ss → Placed (t ∷ ts) (record { at = at; token = t } ∷ ss)

pub place_all : (ss : List Spot) → Placed (kept ss) ss
place_all [] = none_placed
place_all (s ∷ ss) = placed s.at (place_all ss)

pub placed_as : (ts : List Token) (ss : List Spot) → kept ss ≡ ts → Placed ts ss
placed_as ts ss e = subst (λ ts. Placed ts ss) e (place_all ss)

pub kept_as : {ts : List Token} {ss : List Spot} → Placed ts ss → kept ss ≡ ts
kept_as none_placed = refl
kept_as (placed {t} at p) = ap (λ ts. t ∷ ts) (kept_as p)

-- ---- one behind the other

pub record Parts (ts us : List Token) (ss : List Spot) : Type 0 where
  pub front : List Spot
  pub behind : List Spot
  pub is : ss ≡ front ++ behind
  pub first : Placed ts front
  pub second : Placed us behind

part_more : (t : Token) (at : ℕ) (ts us : List Token) (ss : List Spot) → Parts ts us ss → Parts (t ∷ ts) us (record { at = at; token = t } ∷ ss)
part_more t at ts us ss p = record {
  front = record { at = at; token = t } ∷ p.front;
  behind = p.behind;
  is = ap (λ ss. record { at = at; token = t } ∷ ss) p.is;
  first = placed at p.first;
  second = p.second;
}

pub parts : (ts us : List Token) (ss : List Spot) → Placed (ts ++ us) ss → Parts ts us ss
parts [] us ss p = record { front = []; behind = ss; is = refl; first = none_placed; second = p }
parts (t ∷ ts) us _ (placed at p) = part_more t at ts us _ (parts ts us _ p)

pub same_parts : (ts us : List notation.Token) (ss : List Spot) → Placed (same_tokens (ts ++ us)) ss → Parts (same_tokens ts) (same_tokens us) ss
same_parts ts us ss p = parts (same_tokens ts) (same_tokens us) ss (subst (λ l. Placed l ss) (flat_map-append same_token ts us) p)

-- ---- tokens and what stands behind them

-- before a closing sign
pub record Closed (g : signs.Sign) (ts : List notation.Token) (ss : List Spot) : Type 0 where
  pub inner : List Spot
  pub at : ℕ
  pub is : ss ≡ inner ++ record { at = at; token = sign (same_sign g) } ∷ []
  pub holds : Placed (same_tokens ts) inner

pub closed : (g : signs.Sign) (ts : List notation.Token) (ss : List Spot) → Placed (same_tokens (ts ++ notation.sign g ∷ [])) ss → Closed g ts ss
closed g ts ss p = by (same_parts ts (notation.sign g ∷ []) ss p)
  where
    by : Parts (same_tokens ts) (same_tokens (notation.sign g ∷ [])) ss → Closed g ts ss
    by q = last q.behind q.is q.second
      where
        last : (us : List Spot) → ss ≡ q.front ++ us → Placed (sign (same_sign g) ∷ []) us → Closed g ts ss
        last _ e (placed at none_placed) = record { inner = q.front; at = at; is = e; holds = q.first }

-- before a word
pub record Apart (ts : List notation.Token) (w : List ℕ) (us : List notation.Token) (ss : List Spot) : Type 0 where
  pub front : List Spot
  pub at : ℕ
  pub behind : List Spot
  pub is : ss ≡ front ++ (record { at = at; token = word w } ∷ behind)
  pub first : Placed (same_tokens ts) front
  pub second : Placed (same_tokens us) behind

pub apart : (ts : List notation.Token) (w : List ℕ) (us : List notation.Token) (ss : List Spot) → Placed (same_tokens (ts ++ notation.word w ∷ us)) ss → Apart ts w us ss
apart ts w us ss p = by (same_parts ts (notation.word w ∷ us) ss p)
  where
    by : Parts (same_tokens ts) (same_tokens (notation.word w ∷ us)) ss → Apart ts w us ss
    by q = next q.behind q.is q.second
      where
        next : (vs : List Spot) → ss ≡ q.front ++ vs → Placed (word w ∷ same_tokens us) vs → Apart ts w us ss
        next _ e (placed {ss = vs} at p) = record { front = q.front; at = at; behind = vs; is = e; first = q.first; second = p }

-- ---- states

-- before these tokens
abbrev pub before : ℕ → Bool → List Spot → State
before end complete ss = record { left = ss; end = end; complete = complete }

abbrev pub spot : ℕ → Token → Spot
spot at t = record { at = at; token = t }
