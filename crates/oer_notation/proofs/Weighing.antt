-- The turns of the loop over the tokens that are weighed.
use Rattle.std.proofs.Common.{◌≡◌, ℕ, suc, ◌+◌, ◌-◌, ◌≤◌, ◌<◌, List, ◌∷◌, Option, None, take, drop, drop-cons, get_or, length, refl, subst, sym, ap, ◌∙◌, add-one}
use Rattle.std.proofs.lemmas.List.{drop_all, take_rest}
use Rattle.oer_lexer.specs.Token.{spot_of, spots_of}
use Rattle.oer_lexer.specs.declared.token.Spot.{Spot as RawSpot}
use Rattle.oer_notation.specs.Weight.{Scale, after, heavy_from, named, scale_of, step_by, step_of}
use Rattle.oer_notation.specs.declared.weight.Scale.{Scale as RawScale}
use Rattle.oer_notation.specs.declared.weight.Step.{Step as RawStep}

step_first : (front : List RawSpot) (s : RawSpot) (rest : List RawSpot) (c : Scale) → front ≡ s ∷ rest
    → heavy_from (spots_of front) c ≡ after (heavy_from (spots_of rest)) (step_by (named (spots_of front)) (spot_of s) c)
unfolding heavy_from
step_first front s rest c is =
    subst (λ l. heavy_from (spots_of l) c ≡ after (heavy_from (spots_of rest)) (step_by (named (spots_of l)) (spot_of s) c)) (sym is) refl

-- a token, and what follows from it
pub step_more : (spots : List RawSpot) (i : ℕ) (d : RawSpot) (c : Scale) (now : RawScale) (name : Option (List ℕ)) (step found : RawStep)
    → i < length spots → name ≡ named (spots_of (take (length spots - i) (drop i spots)))
    → step_of step (scale_of now) ≡ step_by name (spot_of (get_or spots i d)) c → step ≡ found
    → heavy_from (spots_of (drop i spots)) c ≡ after (heavy_from (spots_of (drop (i + 1) spots))) (step_of found (scale_of now))
step_more spots i d c now name step found less called is this =
    let here : name ≡ named (spots_of (drop i spots)) = called ∙ ap (λ l. named (spots_of l)) (take_rest spots i) in
    let next : step_by (named (spots_of (drop i spots))) (spot_of (get_or spots i d)) c ≡ step_of found (scale_of now) =
    sym (is ∙ ap (λ o. step_by o (spot_of (get_or spots i d)) c) here) ∙ ap (λ r. step_of r (scale_of now)) this in
    step_first (drop i spots) (get_or spots i d) (drop (suc i) spots) c (drop-cons spots i d less)
    ∙ ap (λ n. after (heavy_from (spots_of (drop (suc i) spots))) n) next
    ∙ ap (λ k. after (heavy_from (spots_of (drop k spots))) (step_of found (scale_of now))) (sym (add-one i))

pub step_none : (spots : List RawSpot) (i : ℕ) (c : Scale) → length spots ≤ i → heavy_from (spots_of (drop i spots)) c ≡ None
unfolding heavy_from
step_none spots i c h = subst (λ l. heavy_from (spots_of l) c ≡ None) (sym (drop_all i spots h)) refl
