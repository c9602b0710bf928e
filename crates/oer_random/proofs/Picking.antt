-- The alternative that is picked.
use Rattle.std.proofs.Common.{◌≡◌, ◌≢◌, inl, inr, ℕ, suc, ◌+◌, ◌-◌, ◌<◌, ◌≤◌, ◌%◌, List, [], ◌∷◌, ◌++◌, Bool, true, false, not, ◌&&◌, ◌||◌, eqb}
use Rattle.std.proofs.Common.{if◌then◌else◌, Option, Some, None, Vec, Global, refl, sym, ap, ap₂, ◌∙◌, subst, arith, rules}
use Rattle.std.proofs.lemmas.Bool.{eqb-false, eqb-true}
use denote.Param.Weighed.{most}
use borrow.Author.Sizes.{Under, under, sizes, deeper, same_size}
use Rattle.oer_model.specs.AsnType.{Alternatives, alternative, choice, later, no_alternatives}
use Rattle.oer_model.specs.AsnValue.{AsnValue, chosen, nothing}
use Rattle.oer_model.specs.Constraints.{same_tag}
use Rattle.oer_model.specs.WellFormed.{HasNoItems}
use Rattle.oer_nesting.specs.Deeper.{end_tag}
use Rattle.oer_values.specs.ShapeView.{choice_with, known_later, later_of, root_of, type_of}
use Rattle.oer_values.specs.declared.shape.Alt.{Alt}
use Rattle.oer_values.specs.declared.shape.Shape.{Shape, Choice, the_lemmas}
use Rattle.oer_values.proofs.shape.Shape.TheLaws.{the_size}
use Rattle.oer_values.proofs.shape.Alt.TheLaws as alt
use Rattle.oer_skeleton.specs.Skeleton.{any_legal, is_legal}
use Rattle.oer_skeleton.specs.Sound.{AlternativesHaveItems, HasItems}
use Rattle.oer_skeleton.proofs.Taken.{choice_legal}
use Rattle.oer_random.specs.Drawn.{drawn, drawn_chosen, one_if, pick, taken_count}
use Rattle.oer_random.specs.Picked.{count_taken, may_take, picked}
use Rattle.oer_random.specs.Weight.{weight, weight_chosen}
use Rattle.oer_random.specs.Words.{word}

-- ---- steps

-- what holds of two picks at one place
pub pick_both : {A B : Type 0} (R : A → B → Type 0) (b : Bool) (k n : ℕ) (x : A) (y : B) (f : ℕ → A) (g : ℕ → B)
    → k < one_if b n → (b ≡ true → R x y) → ((l : ℕ) → l < n → R (f l) (g l)) → R (pick b k x f) (pick b k y g)
pick_both R false k n x y f g l h r = r k l
pick_both R true k n x y f g l h r = by (eqb k 0) refl
  where
    by : (c : Bool) → eqb k 0 ≡ c → R (if c then x else f (k - 1)) (if c then y else g (k - 1))
    by true e = h refl
    by false e = let d = eqb-false k 0 e in r (k - 1) (omega (arith, l, d))

-- the same at any place
pick_all : {A B : Type 0} (R : A → B → Type 0) (b : Bool) (k : ℕ) (x : A) (y : B) (f : ℕ → A) (g : ℕ → B)
    → R x y → ((l : ℕ) → R (f l) (g l)) → R (pick b k x f) (pick b k y g)
pick_all R false k x y f g h r = r k
pick_all R true k x y f g h r = by (eqb k 0)
  where
    by : (c : Bool) → R (if c then x else f (k - 1)) (if c then y else g (k - 1))
    by true = h
    by false = r (k - 1)

-- ---- how many

pub counted : (any : Bool) (xs ys : List Alt) → taken_count any (root_of xs (later_of ys)) ≡ count_taken any (xs ++ ys)
counted any [] [] = refl
counted any [] (y ∷ ys) = ap (one_if (may_take any y)) (counted any [] ys)
counted any (x ∷ xs) ys = ap (one_if (may_take any x)) (counted any xs ys)

one_more : (b : Bool) (m n : ℕ) → one_if b (m + n) ≡ one_if b m + n
one_more true m n = omega arith
one_more false m n = refl

pub count_joined : (any : Bool) (xs ys : List Alt) → count_taken any (xs ++ ys) ≡ count_taken any xs + count_taken any ys
count_joined any [] ys = omega arith
count_joined any (x ∷ xs) ys = ap (one_if (may_take any x)) (count_joined any xs ys) ∙ one_more (may_take any x) (count_taken any xs) (count_taken any ys)

pub some_legal : (more : Alternatives) → any_legal more ≡ true → 0 < taken_count true more
some_legal no_alternatives e = absurd (cc)
some_legal (later name t T more) e = absurd (cc)
some_legal (alternative name t T more) e = by (not (same_tag t end_tag) && is_legal T) (some_legal more) e
  where
    by : (b : Bool) → (any_legal more ≡ true → 0 < taken_count true more) → (b || any_legal more) ≡ true → 0 < one_if b (taken_count true more)
    by true f e = omega arith
    by false f e = f e

some_other : (e : Bool) (more : Alternatives) → (HasNoItems (choice e more) → ⊥) → 0 < taken_count false more
some_other e no_alternatives free = absurd (free tt)
some_other e (later name t T more) free = absurd (free tt)
some_other e (alternative name t T more) free = omega arith

pub some_taken : (e any : Bool) (more : Alternatives) → any_legal more ≡ any → (HasNoItems (choice e more) → ⊥) → 0 < taken_count any more
some_taken e true more is free = some_legal more is
some_taken e false more is free = some_other e more free

pub root_taken : (any : Bool) (xs ys : List Alt) → any_legal (root_of xs no_alternatives) ≡ any → xs ≢ [] → 0 < count_taken any (xs ++ ys)
root_taken any xs ys is some =
    let l = some_taken false any (root_of xs no_alternatives) is (full xs some) in
    let e = counted any xs [] ∙ count_joined any xs [] in
    let f = count_joined any xs ys in
    omega (arith, l, e, f)
  where
    full : (zs : List Alt) → zs ≢ [] → HasNoItems (choice false (root_of zs no_alternatives)) → ⊥
    full [] s h = s refl
    full (z ∷ zs) s h = h

-- ---- which one

pub picked_left : (any : Bool) (xs ys : List Alt) (k : ℕ) → k < count_taken any xs → picked any k xs ≡ picked any k (xs ++ ys)
picked_left any [] ys k l = absurd (omega arith)
picked_left any (x ∷ xs) ys k l =
    pick_both (λ u v. u ≡ v) (may_take any x) k (count_taken any xs) (Some x) (Some x) (λ l. picked any l xs) (λ l. picked any l (xs ++ ys)) l (λ _. refl)
    (picked_left any xs ys)

pub picked_right : (any : Bool) (xs ys : List Alt) (k : ℕ) → count_taken any xs ≤ k → picked any (k - count_taken any xs) ys ≡ picked any k (xs ++ ys)
picked_right any [] ys k l = let e : k - 0 ≡ k = omega arith in ap (λ m. picked any m ys) e
picked_right any (x ∷ xs) ys k l = by (may_take any x) (picked_right any xs ys) l
  where
    n : ℕ
    n = count_taken any xs

    Holds : ℕ → Type 0
    Holds m = n ≤ m → picked any (m - n) ys ≡ picked any m (xs ++ ys)

    past : (c : Bool) → eqb k 0 ≡ c → ((m : ℕ) → Holds m) → suc n ≤ k → picked any (k - suc n) ys ≡ (if c then Some x else picked any (k - 1) (xs ++ ys))
    past true e f l = let z = eqb-true k 0 e in absurd (omega (arith, z, l))
    past false e f l = let s : k - suc n ≡ k - 1 - n = omega arith in ap (λ m. picked any m ys) s ∙ f (k - 1) (omega (arith, l))

    by : (b : Bool) → ((m : ℕ) → Holds m) → one_if b n ≤ k → picked any (k - one_if b n) ys ≡ pick b k (Some x) (λ l. picked any l (xs ++ ys))
    by true f l = past (eqb k 0) refl f l
    by false f l = f k l

pub is_one_picked : (any : Bool) (xs : List Alt) (k : ℕ) → k < count_taken any xs → None ≡ picked any k xs → ⊥
is_one_picked any [] k l e = absurd (omega arith)
is_one_picked any (x ∷ xs) k l e =
    pick_both (λ (u : Option Alt) (v : ℕ). None ≡ u → ⊥) (may_take any x) k (count_taken any xs) (Some x) 0 (λ l. picked any l xs) (λ l. 0) l (λ _ e. cc)
    (is_one_picked any xs) e

-- the one that the seed gives, by what was counted
pub seed_picks : (any b : Bool) (seed n c d : ℕ) (xs ys : List Alt) (o : Option Alt) → any ≡ b → n ≡ seed → c ≡ count_taken any xs → d ≡ count_taken any ys
    → o ≡ picked any (n % (c + d)) (xs ++ ys) → o ≡ picked b (seed % count_taken b (xs ++ ys)) (xs ++ ys)
seed_picks any b seed n c d xs ys o is same e f h =
    subst (λ a. o ≡ picked a (seed % count_taken a (xs ++ ys)) (xs ++ ys)) is
    (h ∙ ap₂ (λ m k. picked any (m % k) (xs ++ ys)) same (ap₂ (λ i j. i + j) e f ∙ sym (count_joined any xs ys)))

-- ---- what it says of the whole

-- f of the alternative that is picked
abbrev folded : {A : Type 0} → (Alt → A) → A → Bool → ℕ → List Alt → A
folded f z any k [] = z
folded f z any k (x ∷ xs) = pick (may_take any x) k (f x) (λ l. folded f z any l xs)

folded_at : {A : Type 0} (f : Alt → A) (z : A) (any : Bool) (a : Alt) (xs : List Alt) (k : ℕ) → Some a ≡ picked any k xs → folded f z any k xs ≡ f a
folded_at f z any a [] k e = absurd (cc)
folded_at {A} f z any a (x ∷ xs) k e =
    pick_all (λ (u : Option Alt) (v : A). Some a ≡ u → v ≡ f a) (may_take any x) k (Some x) (f x) (λ l. picked any l xs) (λ l. folded f z any l xs)
    (λ s. let same : x ≡ a = cc in ap f same) (folded_at f z any a xs) e

module _ (room seed : ℕ) (any : Bool) where
  abbrev chosen_at : Alt → AsnValue
  chosen_at a = chosen a.tag (drawn room seed (type_of a.shape))

  abbrev weight_at : Alt → ℕ
  weight_at a = weight room seed (type_of a.shape)

  chosen_folded : (xs ys : List Alt) (k : ℕ) → drawn_chosen room seed any k (root_of xs (later_of ys)) ≡ folded chosen_at nothing any k (xs ++ ys)
  chosen_folded [] [] k = refl
  chosen_folded [] (y ∷ ys) k =
      pick_all (λ u v. u ≡ v) (may_take any y) k (chosen_at y) (chosen_at y) (λ l. drawn_chosen room seed any l (later_of ys)) (λ l. folded chosen_at nothing any l ys)
      refl (chosen_folded [] ys)
  chosen_folded (x ∷ xs) ys k =
      pick_all (λ u v. u ≡ v) (may_take any x) k (chosen_at x) (chosen_at x) (λ l. drawn_chosen room seed any l (root_of xs (later_of ys)))
      (λ l. folded chosen_at nothing any l (xs ++ ys)) refl (chosen_folded xs ys)

  weight_folded : (xs ys : List Alt) (k : ℕ) → weight_chosen room seed any k (root_of xs (later_of ys)) ≡ folded weight_at 0 any k (xs ++ ys)
  weight_folded [] [] k = refl
  weight_folded [] (y ∷ ys) k =
      pick_all (λ u v. u ≡ v) (may_take any y) k (weight_at y) (weight_at y) (λ l. weight_chosen room seed any l (later_of ys)) (λ l. folded weight_at 0 any l ys)
      refl (weight_folded [] ys)
  weight_folded (x ∷ xs) ys k =
      pick_all (λ u v. u ≡ v) (may_take any x) k (weight_at x) (weight_at x) (λ l. weight_chosen room seed any l (root_of xs (later_of ys)))
      (λ l. folded weight_at 0 any l (xs ++ ys)) refl (weight_folded xs ys)

-- the alternatives of a CHOICE, on both sides
pub alternatives_in : List Alt → Option (Vec Alt Global) → Alternatives
alternatives_in xs additions = root_of xs (later_of (known_later additions))

module _ (room seed : ℕ) (xs : List Alt) where
  -- of a CHOICE whose alternatives are these
  abbrev pub root_any : Bool
  root_any = any_legal (root_of xs no_alternatives)

  abbrev pub at : List Alt → ℕ
  at ys = seed % count_taken root_any (xs ++ ys)

  same_any : (additions : Option (Vec Alt Global)) → is_legal (choice_with xs additions) ≡ root_any
  same_any additions = choice_legal xs additions

  value_of_all : (ys : List Alt) (any : Bool) (a : Alt) → any ≡ root_any → Some a ≡ picked root_any (at ys) (xs ++ ys)
      → drawn_chosen room (word seed) any (seed % taken_count any (root_of xs (later_of ys))) (root_of xs (later_of ys))
      ≡ chosen a.tag (drawn room (word seed) (type_of a.shape))
  value_of_all ys any a is e =
      ap (λ b. drawn_chosen room (word seed) b (seed % taken_count b (root_of xs (later_of ys))) (root_of xs (later_of ys))) is
      ∙ ap (λ n. drawn_chosen room (word seed) root_any (seed % n) (root_of xs (later_of ys))) (counted root_any xs ys)
      ∙ chosen_folded room (word seed) root_any xs ys (at ys)
      ∙ folded_at (chosen_at room (word seed) root_any) nothing root_any a (xs ++ ys) (at ys) e

  weight_of_all : (ys : List Alt) (any : Bool) (a : Alt) → any ≡ root_any → Some a ≡ picked root_any (at ys) (xs ++ ys)
      → weight_chosen room (word seed) any (seed % taken_count any (root_of xs (later_of ys))) (root_of xs (later_of ys))
      ≡ weight room (word seed) (type_of a.shape)
  weight_of_all ys any a is e =
      ap (λ b. weight_chosen room (word seed) b (seed % taken_count b (root_of xs (later_of ys))) (root_of xs (later_of ys))) is
      ∙ ap (λ n. weight_chosen room (word seed) root_any (seed % n) (root_of xs (later_of ys))) (counted root_any xs ys)
      ∙ weight_folded room (word seed) root_any xs ys (at ys)
      ∙ folded_at (weight_at room (word seed) root_any) 0 root_any a (xs ++ ys) (at ys) e

  pub choice_drawn : (additions : Option (Vec Alt Global)) (a : Alt) → Some a ≡ picked root_any (at (known_later additions)) (xs ++ known_later additions)
      → drawn room seed (choice_with xs additions) ≡ chosen a.tag (drawn room (word seed) (type_of a.shape))
  choice_drawn None a e = value_of_all [] root_any a refl e
  choice_drawn (Some more) a e = value_of_all more.items _ a (same_any (Some more)) e

  pub choice_weight : (additions : Option (Vec Alt Global)) (a : Alt) → Some a ≡ picked root_any (at (known_later additions)) (xs ++ known_later additions)
      → weight room seed (choice_with xs additions) ≡ suc (weight room (word seed) (type_of a.shape))
  choice_weight None a e = ap suc (weight_of_all [] root_any a refl e)
  choice_weight (Some more) a e = ap suc (weight_of_all more.items _ a (same_any (Some more)) e)

-- ---- what holds of each

abbrev Each : (Alt → Type 0) → List Alt → Type 0
Each P [] = Unit {0}
Each P (x ∷ xs) = P x × Each P xs

joined : (P : Alt → Type 0) (xs ys : List Alt) → Each P xs → Each P ys → Each P (xs ++ ys)
joined P [] ys h k = k
joined P (x ∷ xs) ys h k = (h.0, joined P xs ys h.1 k)

has_each : (P : Alt → Type 0) (any : Bool) (a : Alt) (xs : List Alt) (k : ℕ) → Each P xs → Some a ≡ picked any k xs → P a
has_each P any a [] k h e = absurd (cc)
has_each P any a (x ∷ xs) k h e =
    pick_all (λ (u : Option Alt) (v : ℕ). Some a ≡ u → P a) (may_take any x) k (Some x) 0 (λ l. picked any l xs) (λ l. 0)
    (λ s. let same : x ≡ a = cc in subst P same h.0) (λ l. has_each P any a xs l h.1) e

root_items : (xs : List Alt) (after : Alternatives) → AlternativesHaveItems (root_of xs after) → Each (λ a. HasItems (type_of a.shape)) xs
root_items [] after h = tt
root_items (x ∷ xs) after h = (λ s. h (inl s), root_items xs after (λ s. h (inr s)))

after_items : (xs : List Alt) (after : Alternatives) → AlternativesHaveItems (root_of xs after) → AlternativesHaveItems after
after_items [] after h = h
after_items (x ∷ xs) after h = after_items xs after (λ s. h (inr s))

later_items : (ys : List Alt) → AlternativesHaveItems (later_of ys) → Each (λ a. HasItems (type_of a.shape)) ys
later_items [] h = tt
later_items (y ∷ ys) h = (λ s. h (inl s), later_items ys (λ s. h (inr s)))

all_items : (xs ys : List Alt) → AlternativesHaveItems (root_of xs (later_of ys)) → Each (λ a. HasItems (type_of a.shape)) (xs ++ ys)
all_items xs ys h = joined (λ a. HasItems (type_of a.shape)) xs ys (root_items xs (later_of ys) h) (later_items ys (after_items xs (later_of ys) h))

pub choice_items : (any : Bool) (xs : List Alt) (additions : Option (Vec Alt Global)) (a : Alt) (k : ℕ) → HasItems (choice_with xs additions)
    → Some a ≡ picked any k (xs ++ known_later additions) → HasItems (type_of a.shape)
choice_items any xs None a k h e = has_each (λ a. HasItems (type_of a.shape)) any a (xs ++ []) k (all_items xs [] (λ s. h (inr s))) e
choice_items any xs (Some more) a k h e =
    has_each (λ a. HasItems (type_of a.shape)) any a (xs ++ more.items) k (all_items xs more.items (λ s. h (inr s))) e

-- ---- its size, which the type's exceeds

root_under : (shape : Shape) (root : Vec Alt Global) (a : Option (Vec Alt Global)) → shape ≡ Choice root a → Under (most (λ y. alt.the_size y) root.items) (the_size shape)
root_under shape root a e = search (rules, the_lemmas, sizes, same_size the_size)

later_under : (shape : Shape) (root : Vec Alt Global) (a : Option (Vec Alt Global)) (more : Vec Alt Global) → shape ≡ Choice root a → a ≡ Some more
    → Under (most (λ y. alt.the_size y) more.items) (the_size shape)
later_under shape root a more e f = search (rules, the_lemmas, sizes, deeper, same_size the_size)

shape_size : (x : Alt) → Under (the_size x.shape) (alt.the_size x)
shape_size x = search (rules, the_lemmas, sizes, deeper)

smaller : (k l m n : ℕ) → Under k l → l ≤ m → Under m n → k < n
smaller k l m n (under u) s (under w) = omega arith

each_smaller : (shape : Shape) (xs : List Alt) → Under (most (λ y. alt.the_size y) xs) (the_size shape) → Each (λ a. the_size a.shape < the_size shape) xs
each_smaller shape xs u = by xs (omega arith)
  where
    by : (zs : List Alt) → most (λ y. alt.the_size y) zs ≤ most (λ y. alt.the_size y) xs → Each (λ a. the_size a.shape < the_size shape) zs
    by [] l = tt
    by (z ∷ zs) l = (smaller _ (alt.the_size z) _ _ (shape_size z) (omega (arith, l)) u, by zs (omega (arith, l)))

each_later : (shape : Shape) (root : Vec Alt Global) (a : Option (Vec Alt Global)) → shape ≡ Choice root a → Each (λ x. the_size x.shape < the_size shape) (known_later a)
each_later shape root None e = tt
each_later shape root (Some more) e = each_smaller shape more.items (later_under shape root (Some more) more e refl)

pub picked_smaller : (any : Bool) (shape : Shape) (root : Vec Alt Global) (a : Option (Vec Alt Global)) (x : Alt) (k : ℕ) → shape ≡ Choice root a
    → Some x ≡ picked any k (root.items ++ known_later a) → the_size x.shape < the_size shape
picked_smaller any shape root a x k e f =
    has_each (λ y. the_size y.shape < the_size shape) any x (root.items ++ known_later a) k
    (joined (λ y. the_size y.shape < the_size shape) root.items (known_later a) (each_smaller shape root.items (root_under shape root a e)) (each_later shape root a e)) f
