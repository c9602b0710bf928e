-- Steps of loops.
use Rattle.std.proofs.Common.{◌≡◌, ℕ, zero, suc, ◌+◌, ◌-◌, ◌%◌, ◌<◌, ◌≤◌, List, [], ◌∷◌, ◌++◌, length, map, drop, get_or, ℤ, pos, Bool, Option, Some, None, option_map, refl, sym, ap, ap₂, ◌∙◌, subst, arith}
use Rattle.std.proofs.Math.Seq.{drop-cons}
use Rattle.std.proofs.lemmas.List.{drop_all, length-map}
use Rattle.std.proofs.lemmas.Nat.{mod_below}
use Rattle.oer_model.specs.AsnType.{sequence_of}
use Rattle.oer_model.specs.AsnValue.{Places}
use Rattle.oer_model.specs.declared.size.Size.{Size}
use Rattle.oer_values.specs.DefaultView.{place}
use Rattle.oer_values.specs.ShapeView.{additions_of, fields_of, named_number, need_of, type_of}
use Rattle.oer_values.specs.ValueView.{attached, places_of, value_of}
use Rattle.oer_values.specs.declared.shape.Addition.{Addition}
use Rattle.oer_values.specs.declared.shape.Field.{Field}
use Rattle.oer_values.specs.declared.shape.Item.{Item}
use Rattle.oer_values.specs.declared.shape.Shape.{Shape}
use Rattle.oer_values.specs.declared.value.Value.{Value}
use Rattle.oer_values.proofs.FillSteps.{attached-none, attached-push}
use Rattle.oer_skeleton.specs.Skeleton.{is_legal}
use Rattle.oer_skeleton.specs.Weight.{Leaves}
use Rattle.oer_random.specs.Drawn.{drawn, drawn_additions, drawn_fields, elements, optional_part, part}
use Rattle.oer_random.specs.Leaves.{item_number}
use Rattle.oer_random.specs.Weight.{total, weight}
use Rattle.oer_random.specs.Words.{after, word, words}

-- ---- numbers of a seed

pub words_left : (n k s : ℕ) → k < n → words (n - k) s ≡ word s ∷ words (n - (k + 1)) (after s)
words_left n k s l = let e : n - k ≡ suc (n - (k + 1)) = omega (arith, l) in ap (λ m. words m s) e

joined : (xs ys : List ℕ) (x : ℕ) → (xs ++ x ∷ []) ++ ys ≡ xs ++ x ∷ ys
joined [] ys x = refl
joined (z ∷ xs) ys x = ap (λ w. z ∷ w) (joined xs ys x)

pub word_pushed : (ws : List ℕ) (n k s w s' : ℕ) → k < n → w ≡ word s → s' ≡ after s → (ws ++ w ∷ []) ++ words (n - (k + 1)) s' ≡ ws ++ words (n - k) s
word_pushed ws n k s w s' l e f =
    joined ws (words (n - (k + 1)) s') w ∙ ap (λ x. ws ++ x ∷ words (n - (k + 1)) s') e ∙ ap (λ t. ws ++ word s ∷ words (n - (k + 1)) t) f
    ∙ ap (λ ys. ws ++ ys) (sym (words_left n k s l))

pub total_left : (f : ℕ → ℕ) (n k s : ℕ) → k < n → total f (words (n - k) s) ≡ f (word s) + total f (words (n - (k + 1)) (after s))
total_left f n k s l = ap (total f) (words_left n k s l)

-- ---- items

named_at : (xs : List Item) (i : ℕ) (d : Item) (z : ℤ) → i < length xs → get_or (map (λ x. x.number) (map named_number xs)) i z ≡ (get_or xs i d).number
named_at [] i d z l = absurd (omega arith)
named_at (x ∷ xs) zero d z l = refl
named_at (x ∷ xs) (suc i) d z l = named_at xs i d z (omega arith)

not_empty : (xs : List Item) → (map named_number xs ≡ [] → ⊥) → 0 < length xs
not_empty [] h = absurd (h refl)
not_empty (x ∷ xs) h = omega arith

pub item_at : (xs : List Item) (seed : ℕ) (d : Item) → (map named_number xs ≡ [] → ⊥) → item_number (map named_number xs) seed ≡ (get_or xs (seed % length xs) d).number
item_at xs seed d h =
    ap (λ n. get_or (map (λ x. x.number) (map named_number xs)) (seed % n) (pos 0)) (length-map xs named_number)
    ∙ named_at xs (seed % length xs) d (pos 0) (mod_below seed (length xs) (not_empty xs h))

-- ---- parts of a list that are counted

pub list_step : (f : ℕ → ℕ) (n k s w s' left rest whole start : ℕ) → k < n → w ≡ word s → s' ≡ after s → rest + f w ≡ left
    → left + whole ≡ start + total f (words (n - k) s) → rest + whole ≡ start + total f (words (n - (k + 1)) s')
list_step f n k s w s' left rest whole start l is then taken before =
    let e = total_left f n k s l ∙ ap₂ (λ x t. f x + total f (words (n - (k + 1)) t)) (sym is) (sym then) in omega (arith, e, taken, before)

-- too many
pub list_over : (f : ℕ → ℕ) (n k s w left whole start : ℕ) → k < n → w ≡ word s → left < f w → left + whole ≡ start + total f (words (n - k) s) → start < whole
list_over f n k s w left whole start l is over before =
    let e = total_left f n k s l ∙ ap (λ x. f x + total f (words (n - (k + 1)) (after s))) (sym is) in omega (arith, e, over, before)

-- ---- the parts of a SEQUENCE OF

one_less : (o : Option ℕ) (left w : ℕ) → (left ≡ 0 → ⊥) → Leaves o (left - 1) w → Leaves o left (suc w)
one_less o zero w some h = absurd (some refl)
one_less None (suc left) w some h = omega (arith, h)
one_less (Some rest) (suc left) w some h = omega (arith, h)

pub list_weighed : (o : Option ℕ) (left room seed r n : ℕ) (b : Bool) (size : Size) (x y z : Shape) → (left ≡ 0 → ⊥) → x ≡ z → b ≡ is_legal (type_of x) → y ≡ z
    → r ≡ room - 1 → n ≡ elements room b size seed → Leaves o (left - 1) (total (λ w. weight r w (type_of y)) (words n seed))
    → Leaves o left (weight room seed (sequence_of size (type_of z)))
list_weighed o left room seed r n b size x y z some e legal f g h l =
    one_less o left (total (λ w. weight (room - 1) w (type_of z)) (words (elements room (is_legal (type_of z)) size seed) seed)) some
    (subst (λ k. Leaves o (left - 1) k)
    (ap₂ (λ k s. total (λ w. weight k w (type_of s)) (words n seed)) g f
    ∙ ap (λ k. total (λ w. weight (room - 1) w (type_of z)) (words k seed)) (h ∙ ap (λ c. elements room c size seed) (legal ∙ ap (λ s. is_legal (type_of s)) e))) l)

-- ---- components that are made

dropped : {A : Type 0} (xs : List A) (i : ℕ) (x : A) → i < length xs → x ≡ get_or xs i x → drop i xs ≡ x ∷ drop (i + 1) xs
dropped xs i x l e = let s : suc i ≡ i + 1 = omega arith in drop-cons xs i x l ∙ ap₂ (λ y j. y ∷ drop j xs) (sym e) s

module _ (room i s w s' : ℕ) (ps : List (Option Value)) (p : Option Value) (is : w ≡ word s) (then : s' ≡ after s) where
  pub fields_step : (fs : List Field) (f : Field) → i < length fs → f ≡ get_or fs i f
      → option_map value_of p ≡ part (need_of f.need) (is_legal (type_of f.shape)) w (drawn room (word w) (type_of f.shape))
      → attached (ps ++ p ∷ []) (drawn_fields room s' (fields_of (drop (i + 1) fs))) ≡ attached ps (drawn_fields room s (fields_of (drop i fs)))
  fields_step fs f l e made =
      attached-push ps p (drawn_fields room s' (fields_of (drop (i + 1) fs)))
      ∙ ap₂ (λ o t. attached ps (place o (drawn_fields room t (fields_of (drop (i + 1) fs))))) made then
      ∙ ap (λ x. attached ps (place (part (need_of f.need) (is_legal (type_of f.shape)) x (drawn room (word x) (type_of f.shape)))
      (drawn_fields room (after s) (fields_of (drop (i + 1) fs))))) is
      ∙ ap (λ gs. attached ps (drawn_fields room s (fields_of gs))) (sym (dropped fs i f l e))

  pub additions_step : (xs : List Addition) (a : Addition) → i < length xs → a ≡ get_or xs i a
      → option_map value_of p ≡ optional_part (is_legal (type_of a.shape)) w (drawn room (word w) (type_of a.shape))
      → attached (ps ++ p ∷ []) (drawn_additions room s' (additions_of (drop (i + 1) xs))) ≡ attached ps (drawn_additions room s (additions_of (drop i xs)))
  additions_step xs a l e made =
      attached-push ps p (drawn_additions room s' (additions_of (drop (i + 1) xs)))
      ∙ ap₂ (λ o t. attached ps (place o (drawn_additions room t (additions_of (drop (i + 1) xs))))) made then
      ∙ ap (λ x. attached ps (place (optional_part (is_legal (type_of a.shape)) x (drawn room (word x) (type_of a.shape)))
      (drawn_additions room (after s) (additions_of (drop (i + 1) xs))))) is
      ∙ ap (λ ys. attached ps (drawn_additions room s (additions_of ys))) (sym (dropped xs i a l e))

pub fields_end : (room i s : ℕ) (fs : List Field) (ps : List (Option Value)) (whole : Places) → length fs ≤ i
    → attached ps (drawn_fields room s (fields_of (drop i fs))) ≡ whole → places_of ps ≡ whole
fields_end room i s fs ps whole l e =
    sym (attached-none ps) ∙ ap (λ gs. attached ps (drawn_fields room s (fields_of gs))) (sym (drop_all i fs l)) ∙ e

pub additions_end : (room i s : ℕ) (xs : List Addition) (ps : List (Option Value)) (whole : Places) → length xs ≤ i
    → attached ps (drawn_additions room s (additions_of (drop i xs))) ≡ whole → places_of ps ≡ whole
additions_end room i s xs ps whole l e =
    sym (attached-none ps) ∙ ap (λ ys. attached ps (drawn_additions room s (additions_of ys))) (sym (drop_all i xs l)) ∙ e
