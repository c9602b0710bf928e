-- The turns of loops that join what is said of each.
use Rattle.std.proofs.Common.{◌≡◌, ℕ, suc, ◌+◌, ◌<◌, List, [], ◌++◌, length, drop, map, Ok, Err, refl, sym, ap, ◌∙◌, append_assoc, get_or, drop-cons, add-one}
use Rattle.oer_module_limits.specs.Errors.{Error, Read, ◌>>=◌}
use Rattle.oer_module_limits.specs.Sets.{added, joined}

nothing_added : {B : Type 0} (r : Read (List B)) → r ≡ added [] r
nothing_added (Ok xs) = refl
nothing_added (Err e) = refl

added_after : {B : Type 0} (found ys : List B) (r : Read (List B)) → added found (r >>= λ more. Ok (ys ++ more)) ≡ added (found ++ ys) r
added_after found ys (Ok xs) = ap (λ zs. let r : Read (List _) = Ok zs in r) (sym (append_assoc found ys xs))
added_after found ys (Err e) = refl

-- What the loop is to give is what is found, beside what is still to be read, at a turn.
pub record SoFar {A B C : Type 0} (view : C → A) (one : A → Read (List B)) (whole : List C) (before : List B) (i : ℕ) (found : List B) : Type 0 where
  pub is : added before (joined one (map view whole)) ≡ added found (joined one (map view (drop i whole)))

module _ {A B C : Type 0} (view : C → A) {one : A → Read (List B)} {whole : List C} {i : ℕ} {found : List B}
    (so_far : SoFar view one whole [] i found) where
  pub turn_err : (x : C) {e : Error} → i < length whole → one (view (get_or whole i x)) ≡ Err e → joined one (map view whole) ≡ Err e
  turn_err x h fails =
      nothing_added (joined one (map view whole)) ∙ so_far.is ∙ ap (λ xs. added found (joined one (map view xs))) (drop-cons whole i x h)
      ∙ ap (λ r. added found (r >>= λ ys. joined one (map view (drop (suc i) whole)) >>= λ more. Ok (ys ++ more))) fails

  pub turn_step : (x : C) {ys more : List B} → i < length whole → one (view (get_or whole i x)) ≡ Ok ys
      → more ≡ found ++ ys → SoFar view one whole [] (i + 1) more
  turn_step x {ys} {more} h gives pushed =
      record {
        is =
            so_far.is ∙ ap (λ xs. added found (joined one (map view xs))) (drop-cons whole i x h)
            ∙ ap (λ r. added found (r >>= λ ys. joined one (map view (drop (suc i) whole)) >>= λ more. Ok (ys ++ more))) gives
            ∙ added_after found ys (joined one (map view (drop (suc i) whole)))
            ∙ ap (λ zs. added zs (joined one (map view (drop (suc i) whole)))) (sym pushed)
            ∙ ap (λ j. added more (joined one (map view (drop j whole)))) (sym (add-one i));
      }

  -- the same, where the item is known by a name
  pub item_err : (x : C) {e : Error} → i < length whole → x ≡ get_or whole i x → one (view x) ≡ Err e → joined one (map view whole) ≡ Err e
  item_err x h is fails = turn_err x h (ap (λ y. one (view y)) (sym is) ∙ fails)

  pub item_step : (x : C) {ys more : List B} → i < length whole → x ≡ get_or whole i x → one (view x) ≡ Ok ys
      → more ≡ found ++ ys → SoFar view one whole [] (i + 1) more
  item_step x h is gives pushed = turn_step x h (ap (λ y. one (view y)) (sym is) ∙ gives) pushed
