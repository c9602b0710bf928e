-- The canonical octets of components, elements and alternatives, one after another.
use Rattle.std.proofs.Common.{◌≡◌, ℕ, suc, ◌+◌, ◌<◌, ◌≤◌, List, [], ◌∷◌, ◌++◌, length, drop, get_or, map, Bool, true, false, ◌||◌, Option, Some, None, option_map, Vec, Box, Global, refl, sym, ap, ap₂, ◌∙◌, append-nil, append_assoc, length-append}
use Rattle.std.proofs.lemmas.List.{drop_more, drop_all, length-map}
use Rattle.oer_units.specs.Least.{counted, tag_octets, unsigned_octets}
use Rattle.oer_units.specs.declared.tagging.Tag.{Tag}
use Rattle.oer_model.specs.AsnType.{AsnType, Need, must, may, default, Fields, Additions, Alternatives, no_fields, field, no_additions, addition, no_alternatives, extensible_sequence, choice}
use Rattle.oer_model.specs.AsnValue.{AsnValue, Places, Unknown, no_places, absent, present, seq, items, chosen}
use Rattle.oer_model.specs.Bits.{padded}
use Rattle.oer_model.specs.Canonical.{any_present, any_unknown, bitmap_octets, canonical_octets, count, extension_octets, same, trimmed, trimmed_additions, unknown_marks, unknown_octets}
use Rattle.oer_model.specs.Constraints.{same_tag}
use Rattle.oer_model.specs.Filling.{filled, map_values}
use Rattle.oer_values.specs.Lookup.{first_with}
use Rattle.oer_values.specs.ShapeView.{additions_of, fields_of, later_of, root_of, choice_with, seen_field, seen_addition, need_of, type_of}
use Rattle.oer_values.specs.ValueView.{places_of, places_from, unknown_of, value_of, values_of, values_from}
use Rattle.oer_values.specs.declared.shape.Addition.{Addition}
use Rattle.oer_values.specs.declared.shape.Alt.{Alt}
use Rattle.oer_values.specs.declared.shape.Field.{Field}
use Rattle.oer_values.specs.declared.shape.Shape.{Shape, Sequence, SequenceOf, Choice}
use Rattle.oer_model.specs.declared.size.Size.{Size}
use Rattle.oer_values.specs.declared.value.Unknown as rust_unknown
use Rattle.oer_values.specs.declared.value.Value.{Value}
use Rattle.oer_values.proofs.Shapes.{type_of-Sequence, type_of-SequenceOf, type_of-Choice}
use Rattle.oer_leaves.specs.Parts.{addition_octets, chosen_octets, counted_place, field_bits, field_octets, kept_place, known_bits, known_octets, place_octets_of, root_octets, values_octets}
use Rattle.oer_leaves.proofs.Places.{counted_additions}

-- ---- the root

pub field_first : (n : List ℕ) (need : Need) (T : AsnType) (fs : Fields) (p : Option AsnValue) (ps : List (Option AsnValue)) → field_octets (field n need T fs) (places_from (p ∷ ps)) ≡ place_octets_of T (kept_place need T p) ++ field_octets fs (places_from ps)
field_first n must T fs None ps = refl
field_first n may T fs None ps = refl
field_first n (default d) T fs None ps = refl
field_first n must T fs (Some v) ps = refl
field_first n may T fs (Some v) ps = refl
field_first n (default d) T fs (Some v) ps = by (same (filled T v) (filled T d)) refl
  where
    by : (b : Bool) → same (filled T v) (filled T d) ≡ b → field_octets (field n (default d) T fs) (present v (places_from ps)) ≡ place_octets_of T (kept_place (default d) T (Some v)) ++ field_octets fs (places_from ps)
    by true e = rw (e) refl
    by false e = rw (e) refl

pub field_step : (xs : List Field) (i : ℕ) (x : Field) (ps qs : List (Option Value)) (p : Option Value) → i < length xs → x ≡ get_or xs i x → ps ≡ p ∷ qs → field_octets (fields_of (drop i xs)) (places_of ps) ≡ place_octets_of (type_of x.shape) (kept_place (need_of x.need) (type_of x.shape) (option_map value_of p)) ++ field_octets (fields_of (drop (i + 1) xs)) (places_of qs)
field_step xs i x ps qs p h is e =
    let rest = drop (i + 1) xs in
    ap (λ l. field_octets (fields_of l) (places_of ps)) (drop_more xs i x h ∙ ap (λ y. y ∷ rest) (sym is)) ∙ ap (λ l. field_octets (fields_of (x ∷ rest)) (places_of l)) e
    ∙ field_first (seen_field x).name (seen_field x).need (seen_field x).type (fields_of rest) (option_map value_of p) (map (option_map value_of) qs)

pub field_none : (xs : List Field) (ps : List (Option Value)) → ps ≡ [] → field_octets (fields_of xs) (places_of ps) ≡ []
field_none xs ps e = ap (λ l. field_octets (fields_of xs) (places_of l)) e ∙ none xs
  where
    none : (xs : List Field) → field_octets (fields_of xs) no_places ≡ []
    none [] = refl
    none (x ∷ xs) = refl

no_field : (ps : Places) → field_octets no_fields ps ≡ []
no_field ps = refl

pub field_end : (xs : List Field) (i : ℕ) (ps : List (Option Value)) → length xs ≤ i → field_octets (fields_of (drop i xs)) (places_of ps) ≡ []
field_end xs i ps h = ap (λ l. field_octets (fields_of l) (places_of ps)) (drop_all i xs h) ∙ no_field (places_of ps)

-- ---- additions

known_first : (n : List ℕ) (T : AsnType) (more : Additions) (p : Option AsnValue) (ps : List (Option AsnValue)) → known_octets (addition n T more) (places_from (p ∷ ps)) ≡ counted_place T p ++ known_octets more (places_from ps)
known_first n T more None ps = refl
known_first n T more (Some v) ps = refl

pub known_step : (xs : List Addition) (i : ℕ) (x : Addition) (ps qs : List (Option Value)) (p : Option Value) → i < length xs → x ≡ get_or xs i x → ps ≡ p ∷ qs → known_octets (additions_of (drop i xs)) (places_of ps) ≡ counted_place (type_of x.shape) (option_map value_of p) ++ known_octets (additions_of (drop (i + 1) xs)) (places_of qs)
known_step xs i x ps qs p h is e =
    let rest = drop (i + 1) xs in
    ap (λ l. known_octets (additions_of l) (places_of ps)) (drop_more xs i x h ∙ ap (λ y. y ∷ rest) (sym is)) ∙ ap (λ l. known_octets (additions_of (x ∷ rest)) (places_of l)) e
    ∙ known_first (seen_addition x).name (seen_addition x).type (additions_of rest) (option_map value_of p) (map (option_map value_of) qs)

pub known_none : (xs : List Addition) (ps : List (Option Value)) → ps ≡ [] → known_octets (additions_of xs) (places_of ps) ≡ []
known_none xs ps e = ap (λ l. known_octets (additions_of xs) (places_of l)) e ∙ none xs
  where
    none : (xs : List Addition) → known_octets (additions_of xs) no_places ≡ []
    none [] = refl
    none (x ∷ xs) = refl

no_addition : (ps : Places) → known_octets no_additions ps ≡ []
no_addition ps = refl

pub known_end : (xs : List Addition) (i : ℕ) (ps : List (Option Value)) → length xs ≤ i → known_octets (additions_of (drop i xs)) (places_of ps) ≡ []
known_end xs i ps h = ap (λ l. known_octets (additions_of l) (places_of ps)) (drop_all i xs h) ∙ no_addition (places_of ps)

-- ---- elements

pub values_step : (T : AsnType) (vs : List Value) (i : ℕ) (v : Value) → i < length vs → v ≡ get_or vs i v → values_octets T (values_of (drop i vs)) ≡ canonical_octets T (value_of v) ++ values_octets T (values_of (drop (i + 1) vs))
values_step T vs i v h e = ap (λ x. values_octets T (values_of x)) (drop_more vs i v h ∙ ap (λ x. x ∷ drop (i + 1) vs) (sym e))

pub values_end : (T : AsnType) (vs : List Value) (i : ℕ) → length vs ≤ i → values_octets T (values_of (drop i vs)) ≡ []
values_end T vs i h = ap (λ x. values_octets T (values_of x)) (drop_all i vs h)

count_values : (f : AsnValue → AsnValue) (vs : List AsnValue) → count (map_values f (values_from vs)) ≡ length vs
count_values f [] = refl
count_values f (v ∷ vs) = ap suc (count_values f vs)

pub count_of : (T : AsnType) (vs : List Value) → count (map_values (trimmed T) (values_of vs)) ≡ length vs
count_of T vs = count_values (trimmed T) (map value_of vs) ∙ length-map vs value_of

-- ---- alternatives

-- the octets of the value by the alternative, in their way, or else those given
abbrev chosen_or : List ℕ → (List ℕ → List ℕ) → AsnValue → Option Alt → List ℕ
chosen_or otherwise f v None = otherwise
chosen_or otherwise f v (Some x) = f (canonical_octets (type_of x.shape) v)

root_first : (xs : List Alt) (after : Alternatives) (t : Tag) (v : AsnValue) → chosen_octets (root_of xs after) t v ≡ chosen_or (chosen_octets after t v) (λ b. b) v (first_with t xs)
root_first [] after t v = refl
root_first (x ∷ xs) after t v = by (same_tag x.tag t) refl (root_first xs after t v)
  where
    by : (b : Bool) → same_tag x.tag t ≡ b → chosen_octets (root_of xs after) t v ≡ chosen_or (chosen_octets after t v) (λ o. o) v (first_with t xs) → chosen_octets (root_of (x ∷ xs) after) t v ≡ chosen_or (chosen_octets after t v) (λ o. o) v (first_with t (x ∷ xs))
    by true e h = rw (e) refl
    by false e h = rw (e) h

later_first : (xs : List Alt) (t : Tag) (v : AsnValue) → chosen_octets (later_of xs) t v ≡ chosen_or [] counted v (first_with t xs)
later_first [] t v = refl
later_first (x ∷ xs) t v = by (same_tag x.tag t) refl (later_first xs t v)
  where
    by : (b : Bool) → same_tag x.tag t ≡ b → chosen_octets (later_of xs) t v ≡ chosen_or [] counted v (first_with t xs) → chosen_octets (later_of (x ∷ xs)) t v ≡ chosen_or [] counted v (first_with t (x ∷ xs))
    by true e h = rw (e) refl
    by false e h = rw (e) h

root_found : (xs : List Alt) (after : Alternatives) (x : Alt) (t : Tag) (v : AsnValue) → Some x ≡ first_with t xs → chosen_octets (root_of xs after) t v ≡ canonical_octets (type_of x.shape) v
root_found xs after x t v is = root_first xs after t v ∙ ap (chosen_or (chosen_octets after t v) (λ b. b) v) (sym is)

past_root : (xs : List Alt) (after : Alternatives) (t : Tag) (v : AsnValue) → None ≡ first_with t xs → chosen_octets (root_of xs after) t v ≡ chosen_octets after t v
past_root xs after t v is = root_first xs after t v ∙ ap (chosen_or (chosen_octets after t v) (λ b. b) v) (sym is)

pub later_found : (xs : List Alt) (x : Alt) (t : Tag) (v : AsnValue) → Some x ≡ first_with t xs → chosen_octets (later_of xs) t v ≡ counted (canonical_octets (type_of x.shape) v)
later_found xs x t v is = later_first xs t v ∙ ap (chosen_or [] counted v) (sym is)

pub later_none : (xs : List Alt) (t : Tag) (v : AsnValue) → None ≡ first_with t xs → chosen_octets (later_of xs) t v ≡ []
later_none xs t v is = later_first xs t v ∙ ap (chosen_or [] counted v) (sym is)

-- ---- whole values

pub at_sequence : (shape : Shape) (root : Vec Field Global) (fs : List Field) (ps qs : List (Option Value)) (us : List rust_unknown.Unknown) → shape ≡ Sequence root None → fs ≡ root.items
    → canonical_octets (type_of shape) (seq (places_of ps) (places_of qs) (map unknown_of us)) ≡ root_octets None (fields_of fs) (places_of ps)
at_sequence shape root fs ps qs us e a =
    ap (λ x. canonical_octets (type_of x) (seq (places_of ps) (places_of qs) (map unknown_of us))) e
    ∙ ap (λ T. canonical_octets T (seq (places_of ps) (places_of qs) (map unknown_of us))) (type_of-Sequence root None)
    ∙ ap (λ gs. root_octets None (fields_of gs) (places_of ps)) (sym a)

present_same : (more : Additions) (ps : Places) → any_present (trimmed_additions more ps) ≡ any_present ps
present_same no_additions ps = refl
present_same (addition n T more) no_places = refl
present_same (addition n T more) (absent ps) = present_same more ps
present_same (addition n T more) (present v ps) = refl

pub extended_is : (fs : Fields) (more : Additions) (ps qs : Places) (us : List Unknown) (x : Bool) → x ≡ (any_present qs || any_unknown us)
    → canonical_octets (extensible_sequence fs more) (seq ps qs us) ≡ root_octets (Some x) fs ps ++ extension_octets x (addition_octets more qs us)
extended_is fs more ps qs us x e =
    ap (λ b. padded ((b || any_unknown us) ∷ field_bits fs ps) ++ (field_octets fs ps ++ extension_octets (b || any_unknown us) (addition_octets more qs us))) (present_same more qs)
    ∙ ap (λ b. padded (b ∷ field_bits fs ps) ++ (field_octets fs ps ++ extension_octets b (addition_octets more qs us))) (sym e)
    ∙ sym (append_assoc (padded (x ∷ field_bits fs ps)) (field_octets fs ps) (extension_octets x (addition_octets more qs us)))

pub at_extended : (shape : Shape) (root : Vec Field Global) (additions : Vec Addition Global) (fs : List Field) (ps : List (Option Value)) (xs : List Addition) (qs : List (Option Value)) (us : List rust_unknown.Unknown) (x : Bool)
    → shape ≡ Sequence root (Some additions) → fs ≡ root.items → xs ≡ additions.items → x ≡ (any_present (places_of qs) || any_unknown (map unknown_of us))
    → canonical_octets (type_of shape) (seq (places_of ps) (places_of qs) (map unknown_of us)) ≡ root_octets (Some x) (fields_of fs) (places_of ps) ++ extension_octets x (addition_octets (additions_of xs) (places_of qs) (map unknown_of us))
at_extended shape root additions fs ps xs qs us x e a b k =
    ap (λ y. canonical_octets (type_of y) (seq (places_of ps) (places_of qs) (map unknown_of us))) e
    ∙ ap (λ T. canonical_octets T (seq (places_of ps) (places_of qs) (map unknown_of us))) (type_of-Sequence root (Some additions))
    ∙ ap₂ (λ gs ys. canonical_octets (extensible_sequence (fields_of gs) (additions_of ys)) (seq (places_of ps) (places_of qs) (map unknown_of us))) (sym a) (sym b)
    ∙ extended_is (fields_of fs) (additions_of xs) (places_of ps) (places_of qs) (map unknown_of us) x k

-- what follows the root, by the number of known additions
pub addition_parts : (xs : List Addition) (ps : Places) (us : List Unknown) → addition_octets (additions_of xs) ps us ≡ bitmap_octets (known_bits (additions_of xs) ps ++ unknown_marks (length xs) us) ++ (known_octets (additions_of xs) ps ++ unknown_octets us)
addition_parts xs ps us = ap (λ n. bitmap_octets (known_bits (additions_of xs) ps ++ unknown_marks n us) ++ (known_octets (additions_of xs) ps ++ unknown_octets us)) (counted_additions xs)

pub at_list : (shape : Shape) (size : Size) (item : Box Shape Global) (s : Shape) (vs : List Value) (n : ℕ) → shape ≡ SequenceOf size item → s ≡ item.value → n ≡ length vs
    → canonical_octets (type_of shape) (items (values_of vs)) ≡ counted (unsigned_octets n) ++ values_octets (type_of s) (values_of vs)
at_list shape size item s vs n e a c =
    ap (λ y. canonical_octets (type_of y) (items (values_of vs))) e
    ∙ ap (λ T. canonical_octets T (items (values_of vs))) (type_of-SequenceOf size item)
    ∙ ap (λ k. counted (unsigned_octets k) ++ values_octets (type_of item.value) (values_of vs)) (count_of (type_of item.value) vs ∙ sym c)
    ∙ ap (λ T. counted (unsigned_octets n) ++ values_octets (type_of T) (values_of vs)) (sym a)

-- by the type that the shape stands for
choice_octets : (T : AsnType) (shape : Shape) (root : Vec Alt Global) (additions : Option (Vec Alt Global)) (t : Tag) (v : AsnValue) → shape ≡ Choice root additions → choice_with root.items additions ≡ T → canonical_octets (type_of shape) (chosen t v) ≡ canonical_octets T (chosen t v)
choice_octets T shape root additions t v e w =
    ap (λ y. canonical_octets (type_of y) (chosen t v)) e ∙ ap (λ T. canonical_octets T (chosen t v)) (type_of-Choice root additions ∙ w)

pub at_root : (shape : Shape) (root : Vec Alt Global) (additions : Option (Vec Alt Global)) (t : Tag) (xs : List Alt) (x : Alt) (v : AsnValue) → shape ≡ Choice root additions → xs ≡ root.items → Some x ≡ first_with t xs
    → canonical_octets (type_of shape) (chosen t v) ≡ tag_octets t ++ canonical_octets (type_of x.shape) v
at_root shape root None t xs x v e a h =
    choice_octets (choice false (root_of root.items no_alternatives)) shape root None t v e refl
    ∙ ap (λ ys. tag_octets t ++ chosen_octets (root_of ys no_alternatives) t v) (sym a)
    ∙ ap (λ l. tag_octets t ++ l) (root_found xs no_alternatives x t v h)
at_root shape root (Some more) t xs x v e a h =
    choice_octets (choice true (root_of root.items (later_of more.items))) shape root (Some more) t v e refl
    ∙ ap (λ ys. tag_octets t ++ chosen_octets (root_of ys (later_of more.items)) t v) (sym a)
    ∙ ap (λ l. tag_octets t ++ l) (root_found xs (later_of more.items) x t v h)

pub at_none : (shape : Shape) (root : Vec Alt Global) (t : Tag) (xs : List Alt) (v : AsnValue) → shape ≡ Choice root None → xs ≡ root.items → None ≡ first_with t xs
    → canonical_octets (type_of shape) (chosen t v) ≡ tag_octets t
at_none shape root t xs v e a h =
    choice_octets (choice false (root_of root.items no_alternatives)) shape root None t v e refl
    ∙ ap (λ ys. tag_octets t ++ chosen_octets (root_of ys no_alternatives) t v) (sym a)
    ∙ ap (λ l. tag_octets t ++ l) (past_root xs no_alternatives t v h) ∙ append-nil (tag_octets t)

pub at_later : (shape : Shape) (root more : Vec Alt Global) (t : Tag) (xs ys : List Alt) (v : AsnValue) → shape ≡ Choice root (Some more) → xs ≡ root.items → ys ≡ more.items → None ≡ first_with t xs
    → canonical_octets (type_of shape) (chosen t v) ≡ tag_octets t ++ chosen_octets (later_of ys) t v
at_later shape root more t xs ys v e a b h =
    choice_octets (choice true (root_of root.items (later_of more.items))) shape root (Some more) t v e refl
    ∙ ap₂ (λ zs y. tag_octets t ++ chosen_octets (root_of zs (later_of y)) t v) (sym a) (sym b)
    ∙ ap (λ l. tag_octets t ++ l) (past_root xs (later_of ys) t v h)

-- a value of a CHOICE begins with its tag
pub tag_first : (shape : Shape) (root : Vec Alt Global) (additions : Option (Vec Alt Global)) (t : Tag) (v : AsnValue) → shape ≡ Choice root additions → (rest : List ℕ) × (canonical_octets (type_of shape) (chosen t v) ≡ tag_octets t ++ rest)
tag_first shape root None t v e = (chosen_octets (root_of root.items no_alternatives) t v, choice_octets (choice false (root_of root.items no_alternatives)) shape root None t v e refl)
tag_first shape root (Some more) t v e = (chosen_octets (root_of root.items (later_of more.items)) t v, choice_octets (choice true (root_of root.items (later_of more.items))) shape root (Some more) t v e refl)

-- ---- lengths of the same

pub length-two : (whole a b : List ℕ) → whole ≡ a ++ b → length whole ≡ length a + length b
length-two whole a b e = ap length e ∙ length-append a b

pub field_len : (xs : List Field) (i : ℕ) (x : Field) (ps qs : List (Option Value)) (p : Option Value) → i < length xs → x ≡ get_or xs i x → ps ≡ p ∷ qs → length (field_octets (fields_of (drop i xs)) (places_of ps)) ≡ length (place_octets_of (type_of x.shape) (kept_place (need_of x.need) (type_of x.shape) (option_map value_of p))) + length (field_octets (fields_of (drop (i + 1) xs)) (places_of qs))
field_len xs i x ps qs p h is e = length-two (field_octets (fields_of (drop i xs)) (places_of ps)) (place_octets_of (type_of x.shape) (kept_place (need_of x.need) (type_of x.shape) (option_map value_of p))) (field_octets (fields_of (drop (i + 1) xs)) (places_of qs)) (field_step xs i x ps qs p h is e)

pub known_len : (xs : List Addition) (i : ℕ) (x : Addition) (ps qs : List (Option Value)) (p : Option Value) → i < length xs → x ≡ get_or xs i x → ps ≡ p ∷ qs → length (known_octets (additions_of (drop i xs)) (places_of ps)) ≡ length (counted_place (type_of x.shape) (option_map value_of p)) + length (known_octets (additions_of (drop (i + 1) xs)) (places_of qs))
known_len xs i x ps qs p h is e = length-two (known_octets (additions_of (drop i xs)) (places_of ps)) (counted_place (type_of x.shape) (option_map value_of p)) (known_octets (additions_of (drop (i + 1) xs)) (places_of qs)) (known_step xs i x ps qs p h is e)

pub values_len : (T : AsnType) (vs : List Value) (i : ℕ) (v : Value) → i < length vs → v ≡ get_or vs i v → length (values_octets T (values_of (drop i vs))) ≡ length (canonical_octets T (value_of v)) + length (values_octets T (values_of (drop (i + 1) vs)))
values_len T vs i v h e = length-two (values_octets T (values_of (drop i vs))) (canonical_octets T (value_of v)) (values_octets T (values_of (drop (i + 1) vs))) (values_step T vs i v h e)
