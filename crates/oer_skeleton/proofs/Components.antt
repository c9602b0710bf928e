-- The components and additions of a skeleton, as lists.
use Rattle.std.proofs.Common.{◌≡◌, ℕ, zero, suc, ◌<◌, ◌≤◌, List, [], ◌∷◌, length, map, get_or, Option, Some, None, refl, sym, ap, ◌∙◌, inl, inr, arith, rules}
use denote.Param.Weighed.{most}
use borrow.Author.Sizes.{Under, under, sizes, deeper}
use Rattle.oer_model.specs.AsnValue.{AsnValue}
use Rattle.oer_values.specs.DefaultView.{place}
use Rattle.oer_values.specs.ShapeView.{additions_of, fields_of, need_of, type_of}
use Rattle.oer_values.specs.ValueView.{places_from}
use Rattle.oer_values.specs.declared.shape.Addition.{Addition}
use Rattle.oer_values.specs.declared.shape.Field.{Field}
use Rattle.oer_values.specs.declared.shape.Shape.{the_lemmas}
use Rattle.oer_values.proofs.shape.Shape.TheLaws.{the_size}
use Rattle.oer_values.proofs.shape.Addition.TheLaws as addition
use Rattle.oer_values.proofs.shape.Field.TheLaws as field
use Rattle.oer_skeleton.specs.Skeleton.{is_legal, optional_part, part, skeleton, skeleton_additions, skeleton_fields}
use Rattle.oer_skeleton.specs.Sound.{AdditionsHaveItems, FieldsHaveItems, HasItems}
use Rattle.oer_skeleton.specs.declared.parts.Parts.{Parts}

places_from-cons : (p : Option AsnValue) (ps : List (Option AsnValue)) → places_from (p ∷ ps) ≡ place p (places_from ps)
places_from-cons None ps = refl
places_from-cons (Some v) ps = refl

module _ (parts : Parts) where
  abbrev pub field_part : Field → Option AsnValue
  field_part f = part parts (need_of f.need) (is_legal (type_of f.shape)) (skeleton parts (type_of f.shape))

  abbrev pub addition_part : Addition → Option AsnValue
  addition_part a = optional_part parts (is_legal (type_of a.shape)) (skeleton parts (type_of a.shape))

  pub fields_are : (fs : List Field) → places_from (map field_part fs) ≡ skeleton_fields parts (fields_of fs)
  fields_are [] = refl
  fields_are (f ∷ fs) = places_from-cons (field_part f) (map field_part fs) ∙ ap (place (field_part f)) (fields_are fs)

  pub additions_are : (xs : List Addition) → places_from (map addition_part xs) ≡ skeleton_additions parts (additions_of xs)
  additions_are [] = refl
  additions_are (x ∷ xs) = places_from-cons (addition_part x) (map addition_part xs) ∙ ap (place (addition_part x)) (additions_are xs)

pub field_items : (fs : List Field) (i : ℕ) (f : Field) → i < length fs → f ≡ get_or fs i f → FieldsHaveItems (fields_of fs) → HasItems (type_of f.shape)
field_items [] i f l e h = absurd (omega arith)
field_items (x ∷ xs) zero f l e h = λ s. h (inl (rw (sym e) s))
field_items (x ∷ xs) (suc i) f l e h = field_items xs i f (omega arith) e (λ s. h (inr s))

pub addition_items : (xs : List Addition) (i : ℕ) (a : Addition) → i < length xs → a ≡ get_or xs i a → AdditionsHaveItems (additions_of xs) → HasItems (type_of a.shape)
addition_items [] i a l e h = absurd (omega arith)
addition_items (x ∷ xs) zero a l e h = λ s. h (inl (rw (sym e) s))
addition_items (x ∷ xs) (suc i) a l e h = addition_items xs i a (omega arith) e (λ s. h (inr s))

-- ---- their sizes

pub field_size : (fs : List Field) (i : ℕ) (f : Field) → i < length fs → f ≡ get_or fs i f → field.the_size f ≤ most (λ y. field.the_size y) fs
field_size [] i f l e = absurd (omega arith)
field_size (x ∷ xs) zero f l e = rw e (omega arith)
field_size (x ∷ xs) (suc i) f l e = let s = field_size xs i f (omega arith) e in omega (arith, s)

addition_size : (xs : List Addition) (i : ℕ) (a : Addition) → i < length xs → a ≡ get_or xs i a → addition.the_size a ≤ most (λ y. addition.the_size y) xs
addition_size [] i a l e = absurd (omega arith)
addition_size (x ∷ xs) zero a l e = rw e (omega arith)
addition_size (x ∷ xs) (suc i) a l e = let s = addition_size xs i a (omega arith) e in omega (arith, s)

addition_under : (a : Addition) → Under (the_size a.shape) (addition.the_size a)
addition_under a = search (rules, the_lemmas, sizes, deeper)

smaller : (k m n : ℕ) → Under k m → m ≤ n → k < n
smaller k m n (under u) l = omega arith

pub addition_smaller : (xs : List Addition) (i : ℕ) (a : Addition) → i < length xs → a ≡ get_or xs i a → the_size a.shape < most (λ y. addition.the_size y) xs
addition_smaller xs i a l e = smaller _ _ _ (addition_under a) (addition_size xs i a l e)
