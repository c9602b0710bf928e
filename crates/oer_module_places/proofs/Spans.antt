-- Tokens whose places rise, from one place on and before another.
use Rattle.std.proofs.Common.{ℕ, suc, ◌≤◌, List, [], ◌∷◌, ◌++◌, subst, arith}
use Rattle.oer_module_lexer.specs.Token.{Spot}
use Rattle.oer_module_syntax.specs.Grammar.{Splits}

-- each stands behind the one before it; the first is at the lower place or behind it, and all stand before the higher one
abbrev pub Between : ℕ → ℕ → List Spot → Type 0
Between low high [] = low ≤ high
Between low high (t ∷ ts) = (low ≤ t.at) × Between (suc t.at) high ts

-- the same as a record, of which the places and tokens can be inferred
pub record Spans (low high : ℕ) (ts : List Spot) : Type 0 where
  pub rise : Between low high ts

-- what stands between two places stands between places further apart
between_widens : (low high lower higher : ℕ) (ts : List Spot) → lower ≤ low → high ≤ higher → Between low high ts → Between lower higher ts
between_widens low high lower higher [] down up b = omega arith
between_widens low high lower higher (t ∷ ts) down up b =
    let here = b.0 in
    (omega arith, between_widens (suc t.at) high (suc t.at) higher ts (omega arith) up b.1)

-- what stands between two places and splits in two has a place between its parts
between_splits : (low high : ℕ) (xs ys : List Spot) → Between low high (xs ++ ys) → (mid : ℕ) × Between low mid xs × Between mid high ys
between_splits low high [] ys b = (low, omega arith, b)
between_splits low high (x ∷ xs) ys b = let later = between_splits (suc x.at) high xs ys b.1 in (later.0, (b.0, later.1), later.2)

between_orders : (low high : ℕ) (ts : List Spot) → Between low high ts → low ≤ high
between_orders low high [] b = b
between_orders low high (t ∷ ts) b =
    let here = b.0 in
    let later : suc t.at ≤ high = between_orders (suc t.at) high ts b.1 in
    omega arith

-- between_widens, with what can be inferred left out
pub widen : {low high : ℕ} {ts : List Spot} (lower higher : ℕ) → lower ≤ low → high ≤ higher → Spans low high ts → Spans lower higher ts
widen {low} {high} {ts} lower higher down up s = record { rise = between_widens low high lower higher ts down up s.rise }

-- tokens that split in two, with a place between these
pub record Parts (P Q : List Spot → Type 0) (low high : ℕ) : Type 0 where
  pub front : List Spot
  pub behind : List Spot
  pub mid : ℕ
  pub first : P front
  pub last : Q behind
  pub before : Spans low mid front
  pub after : Spans mid high behind
  pub up : low ≤ mid
  pub down : mid ≤ high

pub parts : {P Q : List Spot → Type 0} {low high : ℕ} {ts : List Spot} → Splits P Q ts → Spans low high ts → Parts P Q low high
parts {P} {Q} {low} {high} {ts} p s =
    let x = between_splits low high p.front p.behind (subst (Between low high) p.is s.rise) in
    record {
      front = p.front;
      behind = p.behind;
      mid = x.0;
      first = p.first;
      last = p.last;
      before = record { rise = x.1 };
      after = record { rise = x.2 };
      up = between_orders low x.0 p.front x.1;
      down = between_orders x.0 high p.behind x.2;
    }
