-- The last of some tokens.
use Rattle.std.proofs.Common.{◌≡◌, ℕ, ◌-◌, List, [], ◌∷◌, length, Option, Some, None, refl, ap, ◌∙◌, sub-one, slice_get}
use Rattle.oer_module_lexer.specs.Token.{spots_of}
use Rattle.oer_module_lexer.specs.declared.token.Spot.{Spot}
use Rattle.oer_module_parts.specs.Kept.{last_place}

place_of : Option Spot → ℕ → ℕ
place_of (Some x) at = x.at
place_of None at = at

last_more : (s : Spot) (ss : List Spot) (at before : ℕ) → place_of (slice_get (s ∷ ss) (length ss)) at ≡ last_place (spots_of (s ∷ ss)) before
unfolding place_of
last_more s [] at before = refl
last_more s (t ∷ ts) at before = last_more t ts at s.at

last_of : (ss : List Spot) (at : ℕ) → place_of (slice_get ss (length ss - 1)) at ≡ last_place (spots_of ss) at
unfolding place_of
last_of [] at = refl
last_of (s ∷ ss) at = rw sub-one (last_more s ss at at)

pub last_is : (ss : List Spot) (at : ℕ) (x : Spot) → Some x ≡ slice_get ss (length ss - 1) → x.at ≡ last_place (spots_of ss) at
unfolding place_of
last_is ss at x h = ap (λ o. place_of o at) h ∙ last_of ss at

pub last_none : (ss : List Spot) (at : ℕ) → None ≡ slice_get ss (length ss - 1) → at ≡ last_place (spots_of ss) at
unfolding place_of
last_none ss at h = ap (λ o. place_of o at) h ∙ last_of ss at
