-- What tests say.
use Rattle.std.proofs.Common.{◌≡◌, ◌⊎◌, inl, inr, ℕ, List, [], ◌∷◌, Bool, true, false, not, ◌&&◌, ◌||◌, ltb, refl}
use Rattle.std.proofs.lemmas.Bool.{lt-ltb, ltb-true}
use Rattle.oer_units.specs.Octets.{IsOctets}
use Rattle.oer_model.specs.Contents.{AllBelow, all_below}

pub both : (a b : Bool) → (a && b) ≡ true → (a ≡ true) × (b ≡ true)
both true b h = (refl, h)
both false b h = cc

pub and_true : (a b : Bool) → a ≡ true → b ≡ true → (a && b) ≡ true
and_true true b h k = k
and_true false b h k = h

pub not_true : (a : Bool) → not a ≡ true → a ≡ false
not_true false h = refl
not_true true h = cc

pub below_octets : (w : List ℕ) → all_below 256 w ≡ true → IsOctets w
below_octets [] h = tt
below_octets (x ∷ w) h = let b = both (ltb x 256) (all_below 256 w) h in (ltb-true x 256 b.0, below_octets w b.1)

pub octets_below : (w : List ℕ) → IsOctets w → all_below 256 w ≡ true
octets_below [] h = refl
octets_below (x ∷ w) h = and_true (ltb x 256) (all_below 256 w) (lt-ltb x 256 h.0) (octets_below w h.1)

pub below_all : (n : ℕ) (w : List ℕ) → all_below n w ≡ true → AllBelow n w
below_all n [] h = tt
below_all n (x ∷ w) h = let b = both (ltb x n) (all_below n w) h in (ltb-true x n b.0, below_all n w b.1)

pub all_are_below : (n : ℕ) (w : List ℕ) → AllBelow n w → all_below n w ≡ true
all_are_below n [] h = refl
all_are_below n (x ∷ w) h = and_true (ltb x n) (all_below n w) (lt-ltb x n h.0) (all_are_below n w h.1)

pub or_cases : (a b : Bool) → (a || b) ≡ true → (a ≡ true) ⊎ (b ≡ true)
or_cases true b h = inl refl
or_cases false b h = inr h

pub or_right : (a b : Bool) → b ≡ true → (a || b) ≡ true
or_right true b h = refl
or_right false b h = h
