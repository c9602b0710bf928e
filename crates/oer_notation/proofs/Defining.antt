-- What a definition more changes.
use Rattle.std.proofs.Common.{◌≡◌, ℕ, Bool, true, false, cond, List, [], ◌∷◌, ◌++◌, Option, None, Some, is_some, length, map, Result, Ok, Err, IfOk, refl, sym, ap, ◌∙◌}
use Rattle.std.proofs.lemmas.Slice.Eq.{bytes_eq-Decides}
use Rattle.std.proofs.lemmas.List.{map-append}
use Rattle.std.specs.Str.{bytes_eq}
use Rattle.std.specs.declared.sync.Arc.{Arc}
use Rattle.oer_types.specs.declared.schema.Schema.{Schema}
use Rattle.oer_notation.specs.Defining.{HaveSameTypes, known_of, with_known}
use Rattle.oer_notation.specs.Places.{IsAdded}
use Rattle.oer_notation.specs.Reading.{Known, find}
use Rattle.oer_notation.specs.declared.types.Definition.{Definition}

-- a Name that isn't new is among those that have types
pub old_named : {Y E : Type 0} (ws us : List (List ℕ)) (ss : List (Arc Schema Y)) (w : List ℕ) (r : Result Bool E) → length ws ≡ length ss → IfOk r (λ new. IsAdded new ws w us)
    → IfOk r (λ new. new ≡ false → length us ≡ length ss)
old_named ws us ss w (Ok true) size added = λ h. cc
old_named ws us ss w (Ok false) size added = λ _. ap length added.1 ∙ size
old_named ws us ss w (Err e) size added = tt

abbrev first_of : {A : Type 0} → Option A → Option A → Option A
first_of (Some x) o = Some x
first_of None o = o

none_behind : {A : Type 0} (o : Option A) → o ≡ first_of o None
none_behind (Some x) = refl
none_behind None = refl

some_before : {A : Type 0} (o p : Option A) → is_some o ≡ true → o ≡ first_of o p
some_before (Some x) p h = refl
some_before None p h = cc

-- one at the end counts where there is none before
find_last : (ks : List Known) (k : Known) (w : List ℕ) → find (ks ++ k ∷ []) w ≡ first_of (find ks w) (find (k ∷ []) w)
find_last [] k w = refl
find_last (j ∷ ks) k w = by (bytes_eq j.name w) (find_last ks k w)
  where
    by : (b : Bool) → find (ks ++ k ∷ []) w ≡ first_of (find ks w) (find (k ∷ []) w)
        → cond b (Some j.type) (find (ks ++ k ∷ []) w) ≡ first_of (cond b (Some j.type) (find ks w)) (find (k ∷ []) w)
    by true h = refl
    by false h = h

module _ (ks ys : List Known) (k : Known) (same : HaveSameTypes ks ys) where
  kept : is_some (find ks k.name) ≡ true → (w : List ℕ) → find ys w ≡ first_of (find ys w) (find (k ∷ []) w)
  kept some w = by (bytes_eq k.name w) refl
    where
      by : (b : Bool) → bytes_eq k.name w ≡ b → find ys w ≡ first_of (find ys w) (cond b (Some k.type) None)
      by true e =
          let is : k.name ≡ w = (bytes_eq-Decides k.name w).0 e in
          some_before (find ys w) (Some k.type) (ap (λ v. is_some (find ys v)) (sym is) ∙ ap is_some (sym (same k.name)) ∙ some)
      by false e = none_behind (find ys w)

  pub known_more : HaveSameTypes (with_known ks k) (ys ++ k ∷ [])
  known_more w = by (is_some (find ks k.name)) refl
    where
      by : (b : Bool) → is_some (find ks k.name) ≡ b → find (cond b ks (ks ++ k ∷ [])) w ≡ find (ys ++ k ∷ []) w
      by true some = same w ∙ kept some w ∙ sym (find_last ys k w)
      by false none = find_last ks k w ∙ ap (λ o. first_of o (find (k ∷ []) w)) (same w) ∙ sym (find_last ys k w)

-- one definition more of a list
pub defined_more : (ks new : List Known) (ds : List Definition) (d : Definition) → HaveSameTypes ks (map known_of ds) → new ≡ with_known ks (known_of d)
    → HaveSameTypes new (map known_of (ds ++ d ∷ []))
defined_more ks new ds d same is w =
    ap (λ js. find js w) is ∙ known_more ks (map known_of ds) (known_of d) same w ∙ ap (λ js. find js w) (sym (map-append known_of ds (d ∷ [])))
