-- The alternative that is taken.
use Rattle.std.proofs.Common.{◌≡◌, ◌≢◌, inl, inr, ℕ, suc, ◌<◌, ◌≤◌, List, [], ◌∷◌, Bool, true, false}
use Rattle.std.proofs.Common.{not, ◌&&◌, ◌||◌, if◌then◌else◌, Option, Some, None, Vec, Global, refl, sym, ap, ◌∙◌, arith, rules}
use denote.Param.Weighed.{most}
use Rattle.oer_model.specs.AsnType.{Alternatives, choice, no_alternatives}
use Rattle.oer_model.specs.AsnValue.{chosen}
use Rattle.oer_model.specs.Constraints.{same_tag}
use Rattle.oer_nesting.specs.Deeper.{end_tag}
use Rattle.oer_values.specs.ShapeView.{choice_with, later_of, root_of, type_of}
use Rattle.oer_values.specs.declared.shape.Alt.{Alt}
use Rattle.oer_values.specs.declared.shape.Shape.{Shape, Choice, the_lemmas}
use Rattle.oer_values.proofs.shape.Shape.TheLaws.{the_size}
use Rattle.oer_values.proofs.shape.Alt.TheLaws as alt
use borrow.Author.Sizes.{Under, under, sizes, deeper, same_size}
use Rattle.oer_skeleton.specs.Skeleton.{any_legal, is_legal, is_taken, skeleton, skeleton_chosen}
use Rattle.oer_skeleton.specs.Seen.{first_taken}
use Rattle.oer_skeleton.specs.Sound.{AlternativesHaveItems, HasItems}
use Rattle.oer_skeleton.specs.Weight.{weight, weight_chosen}
use Rattle.oer_skeleton.specs.declared.parts.Parts.{Parts}

-- ---- one is taken

taken_legal : (xs : List Alt) → any_legal (root_of xs no_alternatives) ≡ true → None ≡ first_taken true xs → ⊥
taken_legal [] h e = cc
taken_legal (x ∷ xs) h e = by (not (same_tag x.tag end_tag) && is_legal (type_of x.shape)) (taken_legal xs) h e
  where
    by : (b : Bool) → (any_legal (root_of xs no_alternatives) ≡ true → None ≡ first_taken true xs → ⊥)
        → (b || any_legal (root_of xs no_alternatives)) ≡ true → None ≡ (if b then Some x else first_taken true xs) → ⊥
    by true f h e = cc
    by false f h e = f h e

taken_any : (any : Bool) (xs : List Alt) → any ≡ any_legal (root_of xs no_alternatives) → xs ≢ [] → None ≡ first_taken any xs → ⊥
taken_any true xs e some none = taken_legal xs (sym e) none
taken_any false [] e some none = some refl
taken_any false (x ∷ xs) e some none = cc

pub is_one_taken : (xs : List Alt) → xs ≢ [] → None ≡ first_taken (any_legal (root_of xs no_alternatives)) xs → ⊥
is_one_taken xs some none = taken_any (any_legal (root_of xs no_alternatives)) xs refl some none

-- ---- what it says of the whole

module _ (parts : Parts) (any : Bool) (a : Alt) (after : Alternatives) where
  chosen_taken : (xs : List Alt) → Some a ≡ first_taken any xs → skeleton_chosen parts any (root_of xs after) ≡ chosen a.tag (skeleton parts (type_of a.shape))
  chosen_taken [] e = cc
  chosen_taken (x ∷ xs) e = by (is_taken any x.tag (is_legal (type_of x.shape))) (chosen_taken xs) e
    where
      by : (b : Bool) → (Some a ≡ first_taken any xs → skeleton_chosen parts any (root_of xs after) ≡ chosen a.tag (skeleton parts (type_of a.shape)))
          → Some a ≡ (if b then Some x else first_taken any xs)
          → (if b then chosen x.tag (skeleton parts (type_of x.shape)) else skeleton_chosen parts any (root_of xs after)) ≡ chosen a.tag (skeleton parts (type_of a.shape))
      by true f e = let s : x ≡ a = cc in ap (λ (y : Alt). chosen y.tag (skeleton parts (type_of y.shape))) s
      by false f e = f e

  weight_taken : (xs : List Alt) → Some a ≡ first_taken any xs → weight_chosen parts any (root_of xs after) ≡ weight parts (type_of a.shape)
  weight_taken [] e = cc
  weight_taken (x ∷ xs) e = by (is_taken any x.tag (is_legal (type_of x.shape))) (weight_taken xs) e
    where
      by : (b : Bool) → (Some a ≡ first_taken any xs → weight_chosen parts any (root_of xs after) ≡ weight parts (type_of a.shape))
          → Some a ≡ (if b then Some x else first_taken any xs)
          → (if b then weight parts (type_of x.shape) else weight_chosen parts any (root_of xs after)) ≡ weight parts (type_of a.shape)
      by true f e = let s : x ≡ a = cc in ap (λ (y : Alt). weight parts (type_of y.shape)) s
      by false f e = f e

  items_taken : (xs : List Alt) → Some a ≡ first_taken any xs → AlternativesHaveItems (root_of xs after) → HasItems (type_of a.shape)
  items_taken [] e h = cc
  items_taken (x ∷ xs) e h = by (is_taken any x.tag (is_legal (type_of x.shape))) (λ e. items_taken xs e (λ s. h (inr s))) e
    where
      by : (b : Bool) → (Some a ≡ first_taken any xs → HasItems (type_of a.shape)) → Some a ≡ (if b then Some x else first_taken any xs) → HasItems (type_of a.shape)
      by true f e = λ s. let same : a ≡ x = cc in h (inl (rw (sym same) s))
      by false f e = f e

-- ---- of a CHOICE

legal_root : (xs ys : List Alt) → any_legal (root_of xs (later_of ys)) ≡ any_legal (root_of xs no_alternatives)
legal_root [] [] = refl
legal_root [] (y ∷ ys) = refl
legal_root (x ∷ xs) ys = ap (λ b. (not (same_tag x.tag end_tag) && is_legal (type_of x.shape)) || b) (legal_root xs ys)

pub choice_legal : (xs : List Alt) (later : Option (Vec Alt Global)) → is_legal (choice_with xs later) ≡ any_legal (root_of xs no_alternatives)
choice_legal xs None = refl
choice_legal xs (Some more) = legal_root xs more.items

module _ (xs : List Alt) (a : Alt) (e : Some a ≡ first_taken (any_legal (root_of xs no_alternatives)) xs) where
  pub choice_skeleton : (parts : Parts) (later : Option (Vec Alt Global)) → skeleton parts (choice_with xs later) ≡ chosen a.tag (skeleton parts (type_of a.shape))
  choice_skeleton parts None = chosen_taken parts (any_legal (root_of xs no_alternatives)) a no_alternatives xs e
  choice_skeleton parts (Some more) =
      ap (λ any. skeleton_chosen parts any (root_of xs (later_of more.items))) (legal_root xs more.items)
      ∙ chosen_taken parts (any_legal (root_of xs no_alternatives)) a (later_of more.items) xs e

  pub choice_weight : (parts : Parts) (later : Option (Vec Alt Global)) → weight parts (choice_with xs later) ≡ suc (weight parts (type_of a.shape))
  choice_weight parts None = ap suc (weight_taken parts (any_legal (root_of xs no_alternatives)) a no_alternatives xs e)
  choice_weight parts (Some more) =
      ap suc
      (ap (λ any. weight_chosen parts any (root_of xs (later_of more.items))) (legal_root xs more.items)
      ∙ weight_taken parts (any_legal (root_of xs no_alternatives)) a (later_of more.items) xs e)

  pub choice_items : (parts : Parts) (later : Option (Vec Alt Global)) → HasItems (choice_with xs later) → HasItems (type_of a.shape)
  choice_items parts None h = items_taken parts (any_legal (root_of xs no_alternatives)) a no_alternatives xs e (λ s. h (inr s))
  choice_items parts (Some more) h = items_taken parts (any_legal (root_of xs no_alternatives)) a (later_of more.items) xs e (λ s. h (inr s))

nothing_later : (e : Bool) (ys : List Alt) → HasItems (choice e (later_of ys)) → ⊥
nothing_later e [] h = h (inl tt)
nothing_later e (y ∷ ys) h = h (inl tt)

pub is_choice_full : (xs : List Alt) (later : Option (Vec Alt Global)) → HasItems (choice_with xs later) → xs ≢ []
is_choice_full [] None h e = h (inl tt)
is_choice_full [] (Some more) h e = nothing_later true more.items h
is_choice_full (x ∷ xs) later h e = cc

-- ---- its size, which the type's exceeds

taken_size : (any : Bool) (xs : List Alt) (x : Alt) → Some x ≡ first_taken any xs → alt.the_size x ≤ most (λ y. alt.the_size y) xs
taken_size any [] x e = cc
taken_size any (y ∷ ys) x e = by (is_taken any y.tag (is_legal (type_of y.shape))) (taken_size any ys x) e
  where
    by : (b : Bool) → (Some x ≡ first_taken any ys → alt.the_size x ≤ most (λ z. alt.the_size z) ys) → Some x ≡ (if b then Some y else first_taken any ys)
        → alt.the_size x ≤ most (λ z. alt.the_size z) (y ∷ ys)
    by true f h = let s : y ≡ x = cc in rw (s) (omega arith)
    by false f h = let s = f h in omega (arith, s)

root_under : (shape : Shape) (root : Vec Alt Global) (a : Option (Vec Alt Global)) → shape ≡ Choice root a → Under (most (λ y. alt.the_size y) root.items)
    (the_size shape)
root_under shape root a e = search (rules, the_lemmas, sizes, same_size the_size)

shape_size : (x : Alt) → Under (the_size x.shape) (alt.the_size x)
shape_size x = search (rules, the_lemmas, sizes, deeper)

smaller : (k l m n : ℕ) → Under k l → l ≤ m → Under m n → k < n
smaller k l m n (under u) s (under w) = omega arith

pub taken_smaller : (any : Bool) (shape : Shape) (root : Vec Alt Global) (a : Option (Vec Alt Global)) (x : Alt) → shape ≡ Choice root a
    → Some x ≡ first_taken any root.items → the_size x.shape < the_size shape
taken_smaller any shape root a x e f = smaller _ _ _ _ (shape_size x) (taken_size any root.items x f) (root_under shape root a e)
