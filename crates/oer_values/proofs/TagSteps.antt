-- The first alternative that has a tag, in a loop.
use Rattle.std.proofs.Common.{◌≡◌, ℕ, zero, suc, ◌+◌, ◌<◌, ◌≤◌, Bool, true, false, ◌||◌, List, [], ◌∷◌, arith, if◌then◌else◌, Some, length, drop, take, get_or, refl, sym, ap, ◌∙◌, add-one, drop-cons}
use Rattle.std.proofs.lemmas.List.{take_all}
use Rattle.oer_units.specs.declared.tagging.Tag.{Tag}
use Rattle.oer_model.specs.AsnType.{no_alternatives}
use Rattle.oer_model.specs.Constraints.{has_tag, same_tag}
use Rattle.oer_values.specs.Lookup.{first_with}
use Rattle.oer_values.specs.ShapeView.{root_of}
use Rattle.oer_values.specs.declared.shape.Alt.{Alt}

pub here : (xs : List Alt) (i : ℕ) (a : Alt) → i < length xs → a ≡ get_or xs i a → drop i xs ≡ a ∷ drop (i + 1) xs
here xs i a less is = drop-cons xs i a less ∙ ap (λ (x : Alt). x ∷ drop (suc i) xs) (sym is) ∙ ap (λ (k : ℕ). a ∷ drop k xs) (sym (add-one i))

pub first_later : (xs : List Alt) (i : ℕ) (a : Alt) (t : Tag) → i < length xs → a ≡ get_or xs i a → same_tag a.tag t ≡ false → first_with t (drop i xs) ≡ first_with t xs → first_with t (drop (i + 1) xs) ≡ first_with t xs
first_later xs i a t less is other e =
    sym (ap (λ (b : Bool). if b then Some a else first_with t (drop (i + 1) xs)) other) ∙ ap (first_with t) (sym (here xs i a less is)) ∙ e

tag_beside : (b c : Bool) (x y : Bool) → b ≡ false → (x ≡ false → y ≡ false) → (c || x) ≡ false → (c || y) ≡ false
tag_beside b true x y e f h = absurd (cc)
tag_beside b false x y e f h = f h

first_next : (xs : List Alt) (i : ℕ) (a : Alt) (t : Tag) → i < length xs → a ≡ get_or xs i a → same_tag a.tag t ≡ false → has_tag t (root_of (take i xs) no_alternatives) ≡ false → has_tag t (root_of (take (suc i) xs) no_alternatives) ≡ false
first_next [] i a t less is none before = absurd (omega arith)
first_next (x ∷ xs) zero a t less is none before = ap (λ (b : Bool). b || false) (ap (λ (y : Alt). same_tag y.tag t) (sym is) ∙ none)
first_next (x ∷ xs) (suc i) a t less is none before = tag_beside false (same_tag x.tag t) (has_tag t (root_of (take i xs) no_alternatives)) (has_tag t (root_of (take (suc i) xs) no_alternatives)) refl (first_next xs i a t (omega arith) is none) before

pub first_more : (xs : List Alt) (i : ℕ) (a : Alt) (t : Tag) → i < length xs → a ≡ get_or xs i a → same_tag a.tag t ≡ false → has_tag t (root_of (take i xs) no_alternatives) ≡ false → has_tag t (root_of (take (i + 1) xs) no_alternatives) ≡ false
first_more xs i a t less is none before = ap (λ (k : ℕ). has_tag t (root_of (take k xs) no_alternatives)) (add-one i) ∙ first_next xs i a t less is none before

pub first_none : (xs : List Alt) (i : ℕ) (t : Tag) → length xs ≤ i → has_tag t (root_of (take i xs) no_alternatives) ≡ false → has_tag t (root_of xs no_alternatives) ≡ false
first_none xs i t le before = ap (λ (l : List Alt). has_tag t (root_of l no_alternatives)) (sym (take_all i xs le)) ∙ before
