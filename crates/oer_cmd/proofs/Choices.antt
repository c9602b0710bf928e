-- A fact that is chosen by a test.
use Rattle.std.proofs.Common.{◌≡◌, Bool, true, false}
use Rattle.std.specs.Prelude.{MatchBool}

-- where the test passes
pub passing : (b : Bool) (P Q : Type 0) → b ≡ true → P → MatchBool b P Q
passing true P Q is p = p
passing false P Q is p = absurd (cc)

-- where it fails
pub failing : (b : Bool) (P Q : Type 0) → b ≡ false → Q → MatchBool b P Q
failing true P Q is q = absurd (cc)
failing false P Q is q = q

-- in both cases
pub either : (b : Bool) {P Q P' Q' : Type 0} → (P → P') → (Q → Q') → MatchBool b P Q → MatchBool b P' Q'
either true f g h = f h
either false f g h = g h
