-- Numbers and tags that ascend are all different.
use Rattle.std.proofs.Common.{◌≡◌, ℕ, ◌+◌, ◌<◌, ◌≤◌, ◌≤ℤ◌, ◌<ℤ◌, ℤ, int_lt, int_le, leb, eqb, T, List, [], ◌∷◌, Bool, true, false, ◌&&◌, Option, Some, None, refl, sym, ◌∙◌, subst, cond, arith, true≢false}
use Rattle.std.specs.Int.Signed.{lt_z_yes, le_z_yes}
use Rattle.std.proofs.lemmas.Int.{ints}
use Rattle.std.proofs.lemmas.Bool.{eqb-true, leb-true}
use Rattle.oer_types.proofs.Alternatives.{later_tag, later_tags}
use Rattle.oer_units.specs.Spelling.{class_number}
use Rattle.oer_model.specs.AsnType.{Alternatives, NamedNumber, no_alternatives}
use Rattle.oer_model.specs.Constraints.{has_number, has_tag, same_tag}
use Rattle.oer_model.specs.FaultTest.{numbers_repeat, tags_repeat}
use Rattle.oer_units.specs.declared.tagging.Tag.{Tag}
use Rattle.oer_values.specs.ShapeView.{later_of, root_of}
use Rattle.oer_values.specs.declared.shape.Alt.{Alt}
use Rattle.oer_types.specs.Ascending.{ascend, ascend_after, next_tag}

not_true : (b : Bool) → (b ≡ true → ⊥) → b ≡ false
not_true true h = absurd (h refl)
not_true false h = refl

both : (a b : Bool) → (a && b) ≡ true → (a ≡ true) × (b ≡ true)
both true b e = (refl, e)
both false b e = absurd (true≢false (sym e))

above : (z w x : ℤ) → z ≤ℤ w → int_lt w x ≡ true → int_le x z ≡ false
above z w x h k = not_true (int_le x z) (λ e. let less : w <ℤ x = lt_z_yes (subst T (sym k) tt) in let most : x ≤ℤ z = le_z_yes (subst T (sym e) tt) in omega (arith, ints))

up : (w x : ℤ) → int_lt w x ≡ true → w ≤ℤ x
up w x k = let less : w <ℤ x = lt_z_yes (subst T (sym k) tt) in omega (arith, ints)

-- a number isn't among greater ones
not_among : (z w : ℤ) (xs : List NamedNumber) → z ≤ℤ w → ascend_after w xs ≡ true → has_number xs z ≡ false
not_among z w [] h e = refl
not_among z w (x ∷ xs) h e =
    let p = both (int_lt w x.number) (ascend_after x.number xs) e in
    rw (above z w x.number h p.0) (not_among z x.number xs (let l = up w x.number p.0 in omega (arith, ints)) p.1)

after_apart : (w : ℤ) (xs : List NamedNumber) → ascend_after w xs ≡ true → numbers_repeat xs ≡ false
after_apart w [] e = refl
after_apart w (x ∷ xs) e =
    let p = both (int_lt w x.number) (ascend_after x.number xs) e in
    rw (not_among x.number x.number xs (omega (arith, ints)) p.1) (after_apart x.number xs p.1)

pub apart : (xs : List NamedNumber) → ascend xs ≡ true → numbers_repeat xs ≡ false
apart [] e = refl
apart (x ∷ xs) e = rw (not_among x.number x.number xs (omega (arith, ints)) e) (after_apart x.number xs e)

-- a tag of another number is another
other_tag : (t u : Tag) → u.number < t.number → same_tag t u ≡ false
other_tag t u l = not_true (same_tag t u) (λ e.
    let p = both (eqb (class_number t.class) (class_number u.class)) (eqb t.number u.number) e in
    let same = eqb-true t.number u.number p.1 in
    omega arith)

chosen : (b : Bool) (r : Option ℕ) (m : ℕ) → cond b r None ≡ Some m → (b ≡ true) × (r ≡ Some m)
chosen true r m e = (refl, e)
chosen false r m e = absurd (none_some m e)
  where
    none_some : (m : ℕ) → None ≡ Some m → ⊥
    none_some m e = cc

step : (n : ℕ) (x : Alt) (xs : List Alt) (m : ℕ) → next_tag n (x ∷ xs) ≡ Some m → (n ≤ x.tag.number) × (next_tag (x.tag.number + 1) xs ≡ Some m)
step n x xs m e = let p = chosen (leb n x.tag.number) (next_tag (x.tag.number + 1) xs) m e in (leb-true n x.tag.number p.0, p.1)

same_end : (n m : ℕ) → Some n ≡ Some m → n ≤ m
same_end n m e = let same : n ≡ m = cc in omega arith

ends : (n : ℕ) (xs : List Alt) (m : ℕ) → next_tag n xs ≡ Some m → n ≤ m
ends n [] m e = same_end n m e
ends n (x ∷ xs) m e = let p = step n x xs m e in let l = ends (x.tag.number + 1) xs m p.1 in omega arith

-- a tag of a lower number isn't among them
not_tag : (n : ℕ) (xs : List Alt) (after : Alternatives) (m : ℕ) (t : Tag) → next_tag n xs ≡ Some m → t.number < n
    → has_tag t (root_of xs after) ≡ has_tag t after
not_tag n [] after m t e l = refl
not_tag n (x ∷ xs) after m t e l =
    let p = step n x xs m e in
    rw (other_tag x.tag t (omega arith)) (not_tag (x.tag.number + 1) xs after m t p.1 (omega arith))

-- tags that ascend, before others that are greater and differ
root_apart : (n : ℕ) (xs : List Alt) (after : Alternatives) (m : ℕ) → next_tag n xs ≡ Some m
    → ((t : Tag) → t.number < m → has_tag t after ≡ false) → tags_repeat after ≡ false → tags_repeat (root_of xs after) ≡ false
root_apart n [] after m e greater differ = differ
root_apart n (x ∷ xs) after m e greater differ =
    let p = step n x xs m e in
    let l = ends (x.tag.number + 1) xs m p.1 in
    rw (not_tag (x.tag.number + 1) xs after m x.tag p.1 (omega arith), greater x.tag (omega arith)) (root_apart (x.tag.number + 1) xs after m p.1 greater differ)

pub tags_apart : (xs ys : List Alt) (m k : ℕ) → next_tag 0 xs ≡ Some m → next_tag m ys ≡ Some k → tags_repeat (root_of xs (later_of ys)) ≡ false
tags_apart xs ys m k e f =
    root_apart 0 xs (later_of ys) m e (λ t l. later_tag t ys ∙ not_tag m ys no_alternatives k t f l)
    (later_tags ys ∙ root_apart m ys no_alternatives k f (λ t l. refl) refl)
