-- Looking for a definition by its Name, and one definition more.
use Rattle.std.proofs.Common.{◌≡◌, ◌<◌, ℕ, zero, suc, Bool, true, false, cond, List, [], ◌∷◌, ◌++◌, Option, None, Some, IsSome, is_some, option_map, length, Result, Ok, Err, IfOk, length-append, refl, sym, ap, ◌∙◌, arith}
use denote.Ref.{Bor}
use Rattle.std.proofs.lemmas.Option.{slice_get-get_or, slice_get_past}
use Rattle.std.specs.List.{slice_get}
use Rattle.std.specs.Slice.{IsItemAt}
use Rattle.std.specs.Str.{bytes_eq}
use Rattle.std.specs.declared.sync.Arc.{Arc}
use Rattle.oer_types.specs.declared.schema.Schema.{Schema}
use Rattle.oer_notation.specs.Places.{IsAdded, place_in}
use Rattle.oer_notation.specs.Reading.{find}
use Rattle.oer_notation.specs.Views.{name_past, shared_type, together}
use Rattle.oer_notation.proofs.Places.{place_below}

-- the one at a place
abbrev pub one_at : {A : Type 0} → List A → Option ℕ → Option A
one_at xs None = None
one_at xs (Some i) = slice_get xs i

nothing : (Z : Type 0) (o : Option ℕ) → None ≡ option_map (λ (s : Arc Schema Z). shared_type s) (one_at [] o)
nothing Z None = refl
nothing Z (Some i) = refl

-- A Name is found where it stands, if it has a type.
pub find_together : {Z : Type 0} (ws : List (List ℕ)) (ss : List (Arc Schema Z)) (w : List ℕ) → find (together ws ss) w ≡ option_map shared_type (one_at ss (place_in ws w))
find_together [] ss w = refl
find_together {Z} (v ∷ ws) [] w = nothing Z (place_in (v ∷ ws) w)
find_together (v ∷ ws) (s ∷ ss) w = by (bytes_eq v w) (find_together ws ss w)
  where
    past : (o : Option ℕ) → option_map shared_type (one_at ss o) ≡ option_map shared_type (one_at (s ∷ ss) (option_map suc o))
    past None = refl
    past (Some i) = refl

    by : (b : Bool) → find (together ws ss) w ≡ option_map shared_type (one_at ss (place_in ws w)) → cond b (Some (shared_type s)) (find (together ws ss) w) ≡ option_map shared_type (one_at (s ∷ ss) (cond b (Some 0) (option_map suc (place_in ws w))))
    by true h = refl
    by false h = h ∙ past (place_in ws w)

-- one Name more, which has no type yet
pub together_named : {Z : Type 0} (ws us : List (List ℕ)) (ss : List (Arc Schema Z)) → length ws ≡ length ss → together (ws ++ us) ss ≡ together ws ss
together_named [] [] [] h = refl
together_named [] (u ∷ us) [] h = refl
together_named [] us (s ∷ ss) h = cc
together_named (w ∷ ws) us [] h = refl
together_named (w ∷ ws) us (s ∷ ss) h = ap (λ ks. record { name = w; type = shared_type s } ∷ ks) (together_named ws us ss (omega (arith, h)))

pub name_past_all : {Z : Type 0} (ws : List (List ℕ)) (u : List ℕ) (ss : List (Arc Schema Z)) → length ws ≡ length ss → name_past (ws ++ u ∷ []) ss ≡ u
name_past_all [] u [] h = refl
name_past_all [] u (s ∷ ss) h = cc
name_past_all (w ∷ ws) u [] h = cc
name_past_all (w ∷ ws) u (s ∷ ss) h = name_past_all ws u ss (omega (arith, h))

-- its type
pub together_typed : {Z : Type 0} (ws : List (List ℕ)) (ss : List (Arc Schema Z)) (s : Arc Schema Z) → length ws ≡ suc (length ss)
    → together ws (ss ++ s ∷ []) ≡ together ws ss ++ record { name = name_past ws ss; type = shared_type s } ∷ []
together_typed [] ss s h = cc
together_typed (w ∷ []) [] s h = refl
together_typed (w ∷ v ∷ ws) [] s h = absurd (omega (arith, h))
together_typed (w ∷ ws) (r ∷ ss) s h = ap (λ ks. record { name = w; type = shared_type r } ∷ ks) (together_typed ws ss s (omega (arith, h)))

some_at : {A : Type 0} (xs : List A) (i : ℕ) → i < length xs → is_some (slice_get xs i) ≡ true
some_at [] i h = absurd (omega (arith, h))
some_at (x ∷ xs) zero h = refl
some_at (x ∷ xs) (suc i) h = some_at xs i (omega (arith, h))

some_mapped : {A B : Type 0} (f : A → B) (o : Option A) → is_some o ≡ true → is_some (option_map f o) ≡ true
some_mapped f None h = cc
some_mapped f (Some x) h = refl

-- a Name among those that have types
pub some_found : {Z : Type 0} (ws : List (List ℕ)) (ss : List (Arc Schema Z)) (w : List ℕ) → length ws ≡ length ss → IsSome (place_in ws w) → is_some (find (together ws ss) w) ≡ true
some_found ws ss w size some = by (place_in ws w) refl some
  where
    by : (o : Option ℕ) → place_in ws w ≡ o → IsSome o → is_some (find (together ws ss) w) ≡ true
    by None e s = cc
    by (Some i) e s =
        let b = place_below ws w i e in
        ap is_some (find_together ws ss w) ∙ ap (λ o. is_some (option_map shared_type (one_at ss o))) e ∙ some_mapped shared_type (slice_get ss i) (some_at ss i (omega (arith, b, size)))

-- a Name that none has
pub none_found : {Z : Type 0} (ws : List (List ℕ)) (ss : List (Arc Schema Z)) (w : List ℕ) → place_in ws w ≡ None → find (together ws ss) w ≡ None
none_found ws ss w h = find_together ws ss w ∙ ap (λ o. option_map shared_type (one_at ss o)) h

-- what a slice gives
pub item_given : {X A : Type 0} (f : X → A) (xs : List X) (i : ℕ) (r : Option (Bor X)) → IsItemAt xs i r → option_map (λ x. f x.now) r ≡ option_map f (slice_get xs i)
item_given f xs i None h = sym (ap (option_map f) (slice_get_past xs i h.3))
item_given f xs i (Some x) h = ap (λ y. Some (f y)) (h.3.1 x.now) ∙ sym (ap (option_map f) (slice_get-get_or xs i x.now h.3.0))

-- a new Name is the one that has no type yet
pub next_named : {Y E : Type 0} (ws us : List (List ℕ)) (ss : List (Arc Schema Y)) (w : List ℕ) (r : Result Bool E) → length ws ≡ length ss → IfOk r (λ new. IsAdded new ws w us)
    → IfOk r (λ new. new ≡ true → (name_past us ss ≡ w) × (length us ≡ suc (length ss)))
next_named ws us ss w (Ok true) size added = λ _.
    (ap (λ l. name_past l ss) added.1 ∙ name_past_all ws w ss size, ap length added.1 ∙ omega (arith, length-append ws (w ∷ []), size))
next_named ws us ss w (Ok false) size added = λ h. cc
next_named ws us ss w (Err e) size added = tt
