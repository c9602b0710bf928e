-- The alternative with a tag: what it says of values, and its size.
use Rattle.std.proofs.Common.{◌≡◌, ℕ, ◌≤◌, List, [], ◌∷◌, Bool, true, false, if◌then◌else◌, Option, Some, None, Vec, Global, ◌+◌, ◌*◌, ◌<◌, refl, sym, ap, ◌∙◌, arith, rules}
use denote.Param.Weighed.{most}
use Rattle.oer_units.specs.declared.tagging.Tag.{Tag}
use Rattle.oer_model.specs.AsnType.{Alternatives, no_alternatives}
use Rattle.oer_model.specs.AsnValue.{AsnValue, chosen}
use Rattle.oer_model.specs.Constraints.{same_tag}
use Rattle.oer_model.specs.Filling.{filled, filled_alternative, filled_by_tag}
use Rattle.oer_model.specs.FitTest.{is_fit, alternative_fits}
use Rattle.oer_values.specs.Lookup.{alternative_with, first_with, or_else}
use Rattle.oer_values.specs.ShapeView.{type_of, later_of, root_of, choice_with, known_later}
use Rattle.oer_values.specs.declared.shape.Alt.{Alt}
use Rattle.oer_values.specs.declared.shape.Shape.{Shape, Choice, the_lemmas}
use Rattle.oer_values.proofs.shape.Shape.TheLaws.{the_size}
use Rattle.oer_values.proofs.shape.Alt.TheLaws as alt
use borrow.Author.Sizes.{Under, under, sizes, deeper, same_size}

module _ (t : Tag) (v : AsnValue) where
  -- whether v fits the alternative; where there is none, what is said of the others
  abbrev pub fit_or : Option Alt → Bool → Bool
  fit_or None b = b
  fit_or (Some x) b = is_fit (type_of x.shape) v

  fit_first : (b : Bool) (x : Alt) (p : Option Alt) (f g : Bool) → f ≡ fit_or p g → (if b then is_fit (type_of x.shape) v else f) ≡ fit_or (if b then Some x else p) g
  fit_first true x p f g e = refl
  fit_first false x p f g e = e

  fit_joined : (p q : Option Alt) → fit_or p (fit_or q false) ≡ fit_or (or_else p q) false
  fit_joined None q = refl
  fit_joined (Some x) q = refl

  fit_root : (xs : List Alt) (after : Alternatives) → alternative_fits (root_of xs after) t v ≡ fit_or (first_with t xs) (alternative_fits after t v)
  fit_root [] after = refl
  fit_root (x ∷ xs) after = fit_first (same_tag x.tag t) x (first_with t xs) _ _ (fit_root xs after)

  fit_later : (xs : List Alt) → alternative_fits (later_of xs) t v ≡ fit_or (first_with t xs) false
  fit_later [] = refl
  fit_later (x ∷ xs) = fit_first (same_tag x.tag t) x (first_with t xs) _ _ (fit_later xs)

  pub choice_fits : (xs : List Alt) (a : Option (Vec Alt Global)) → is_fit (choice_with xs a) (chosen t v) ≡ fit_or (alternative_with t xs a) false
  choice_fits xs None = fit_root xs no_alternatives ∙ fit_joined (first_with t xs) None
  choice_fits xs (Some more) = fit_root xs (later_of more.items) ∙ ap (fit_or (first_with t xs)) (fit_later more.items) ∙ fit_joined (first_with t xs) (first_with t more.items)

  pub fits_found : (xs : List Alt) (a : Option (Vec Alt Global)) (x : Alt) → Some x ≡ alternative_with t xs a → is_fit (choice_with xs a) (chosen t v) ≡ is_fit (type_of x.shape) v
  fits_found xs a x e = choice_fits xs a ∙ ap (λ p. fit_or p false) (sym e)

  pub fits_nowhere : (xs : List Alt) (a : Option (Vec Alt Global)) → None ≡ alternative_with t xs a → is_fit (choice_with xs a) (chosen t v) ≡ false
  fits_nowhere xs a e = choice_fits xs a ∙ ap (λ p. fit_or p false) (sym e)

  -- v filled by the alternative; where there is none, what others make of it
  abbrev pub filled_or : Option Alt → AsnValue → AsnValue
  filled_or None w = w
  filled_or (Some x) w = filled (type_of x.shape) v

  filled_first : (b : Bool) (x : Alt) (p : Option Alt) (f : AsnValue → AsnValue) (w : AsnValue) → f v ≡ filled_or p w → filled_by_tag b (filled (type_of x.shape)) f v ≡ filled_or (if b then Some x else p) w
  filled_first true x p f w e = refl
  filled_first false x p f w e = e

  filled_joined : (p q : Option Alt) → filled_or p (filled_or q v) ≡ filled_or (or_else p q) v
  filled_joined None q = refl
  filled_joined (Some x) q = refl

  filled_root : (xs : List Alt) (after : Alternatives) → filled_alternative (root_of xs after) t v ≡ filled_or (first_with t xs) (filled_alternative after t v)
  filled_root [] after = refl
  filled_root (x ∷ xs) after = filled_first (same_tag x.tag t) x (first_with t xs) (filled_alternative (root_of xs after) t) (filled_alternative after t v) (filled_root xs after)

  filled_later : (xs : List Alt) → filled_alternative (later_of xs) t v ≡ filled_or (first_with t xs) v
  filled_later [] = refl
  filled_later (x ∷ xs) = filled_first (same_tag x.tag t) x (first_with t xs) (filled_alternative (later_of xs) t) v (filled_later xs)

  pub choice_filled : (xs : List Alt) (a : Option (Vec Alt Global)) → filled (choice_with xs a) (chosen t v) ≡ chosen t (filled_or (alternative_with t xs a) v)
  choice_filled xs None = ap (chosen t) (filled_root xs no_alternatives ∙ filled_joined (first_with t xs) None)
  choice_filled xs (Some more) = ap (chosen t) (filled_root xs (later_of more.items) ∙ ap (filled_or (first_with t xs)) (filled_later more.items) ∙ filled_joined (first_with t xs) (first_with t more.items))

  pub filled_found : (xs : List Alt) (a : Option (Vec Alt Global)) (x : Alt) → Some x ≡ alternative_with t xs a → filled (choice_with xs a) (chosen t v) ≡ chosen t (filled (type_of x.shape) v)
  filled_found xs a x e = choice_filled xs a ∙ ap (λ p. chosen t (filled_or p v)) (sym e)

  pub filled_nowhere : (xs : List Alt) (a : Option (Vec Alt Global)) → None ≡ alternative_with t xs a → filled (choice_with xs a) (chosen t v) ≡ chosen t v
  filled_nowhere xs a e = choice_filled xs a ∙ ap (λ p. chosen t (filled_or p v)) (sym e)

first_size : (t : Tag) (xs : List Alt) (x : Alt) → first_with t xs ≡ Some x → alt.the_size x ≤ most (λ y. alt.the_size y) xs
first_size t [] x e = cc
first_size t (y ∷ ys) x e = by (same_tag y.tag t) (first_size t ys x) e
  where
    by : (b : Bool) → (first_with t ys ≡ Some x → alt.the_size x ≤ most (λ z. alt.the_size z) ys) → (if b then Some y else first_with t ys) ≡ Some x → alt.the_size x ≤ most (λ z. alt.the_size z) (y ∷ ys)
    by true f h = let s : y ≡ x = cc in rw (s) (omega arith)
    by false f h = let s = f h in omega (arith, s)

-- ---- its size, which a type's exceeds
root_under : (shape : Shape) (root : Vec Alt Global) (a : Option (Vec Alt Global)) → shape ≡ Choice root a → Under (most (λ y. alt.the_size y) root.items) (the_size shape)
root_under shape root a e = search (rules, the_lemmas, sizes, same_size the_size)

later_under : (shape : Shape) (root : Vec Alt Global) (a : Option (Vec Alt Global)) (more : Vec Alt Global) → shape ≡ Choice root a → a ≡ Some more → Under (most (λ y. alt.the_size y) more.items) (the_size shape)
later_under shape root a more e f = search (rules, the_lemmas, sizes, deeper, same_size the_size)

shape_size : (x : Alt) → Under (the_size x.shape) (alt.the_size x)
shape_size x = search (rules, the_lemmas, sizes, deeper)

below : (k m n : ℕ) → k ≤ m → Under m n → k < n
below k m n l (under u) = omega arith

in_either : (t : Tag) (shape : Shape) (root : Vec Alt Global) (a : Option (Vec Alt Global)) (x : Alt) (p : Option Alt) → shape ≡ Choice root a → p ≡ first_with t root.items → Some x ≡ or_else p (first_with t (known_later a)) → alt.the_size x < the_size shape
in_either t shape root a x (Some y) e f h =
    let s : x ≡ y = cc in
    let l = first_size t root.items x (sym f ∙ ap Some (sym s)) in
    below _ _ _ l (root_under shape root a e)
in_either t shape root None x None e f h = cc
in_either t shape root (Some more) x None e f h = below _ _ _ (first_size t more.items x (sym h)) (later_under shape root (Some more) more e refl)

twice : (k m n t : ℕ) → m < n → Under k m → 2 * n + 0 ≡ t → 2 * k + 0 < t
twice k m n t l (under u) d = omega arith

pub found_falls : (tag : Tag) (shape : Shape) (root : Vec Alt Global) (a : Option (Vec Alt Global)) (x : Alt) (t : ℕ) → shape ≡ Choice root a → Some x ≡ alternative_with tag root.items a → 2 * the_size shape + 0 ≡ t → 2 * the_size x.shape + 0 < t
found_falls tag shape root a x t e f d =
    let l = in_either tag shape root a x (first_with tag root.items) e refl f in
    twice _ _ _ t l (shape_size x) d

-- ---- what one list has, to go down by

falls : (k m n : ℕ) → Under k m → m ≤ n → k < n
falls k m n (under u) l = omega arith

pub first_falls : (t : Tag) (xs : List Alt) (x : Alt) → Some x ≡ first_with t xs → the_size x.shape < most (λ y. alt.the_size y) xs
first_falls t xs x e = falls _ _ _ (shape_size x) (first_size t xs x (sym e))

pub root_falls : (t : Tag) (shape : Shape) (root : Vec Alt Global) (a : Option (Vec Alt Global)) (x : Alt) → shape ≡ Choice root a → Some x ≡ first_with t root.items → the_size x.shape < the_size shape
root_falls t shape root a x e f = down _ _ _ (first_falls t root.items x f) (root_under shape root a e)
  where
    down : (k m n : ℕ) → k < m → Under m n → k < n
    down k m n l (under u) = omega (arith, l)

pub found_smaller : (tag : Tag) (shape : Shape) (root : Vec Alt Global) (a : Option (Vec Alt Global)) (x : Alt) → shape ≡ Choice root a → Some x ≡ alternative_with tag root.items a → the_size x.shape < the_size shape
found_smaller tag shape root a x e f = up _ _ _ (shape_size x) (in_either tag shape root a x (first_with tag root.items) e refl f)
  where
    up : (k m n : ℕ) → Under k m → m < n → k < n
    up k m n (under u) l = omega (arith, l)
