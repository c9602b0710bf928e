-- Names in order: where each stands before the next, none stands twice.
use Rattle.std.proofs.Common.{◌≡◌, ℕ, zero, suc, ◌+◌, ◌-◌, ◌<◌, ◌≤◌, List, [], ◌∷◌, ◌++◌, length, map, get_or, Bool, true, false, not, ◌||◌, ◌&&◌, cond}
use Rattle.std.proofs.Common.{Ordering, Less, Equal, Greater, string_bytes, refl, sym, ap, ap₂, ◌∙◌, subst, arith, true≢false}
use Rattle.std.specs.Prelude.{IsPermutation}
use Rattle.std.specs.Cmp.{IsTotalOrder}
use Rattle.std.specs.Cmp.Lexicographic.{slice_cmp}
use Rattle.std.specs.List.{sum_by}
use Rattle.std.specs.List.Sorted.{IsSortedBy}
use Rattle.std.specs.Ordering.{is_eq, is_lt, nat_cmp, ordering_reverse, ordering_then}
use Rattle.std.specs.Str.{bytes_eq}
use Rattle.std.proofs.lemmas.Cmp.{nat_cmp_total, nat_list_cmp_total, on_total, then_total, tied_itself}
use Rattle.std.proofs.lemmas.List.{get_or-append_right, get_or-map, get_or_append_left, get_or_past, length-append, length-map}
use Rattle.std.proofs.lemmas.List.Sums.{sum_by-cons}
use Rattle.std.proofs.lemmas.List.Sorted.{IsPermutation-map, sum_by-IsPermutation}
use Rattle.std.proofs.lemmas.Map.Text.{is_eq-slice_cmp}
use Rattle.std.proofs.lemmas.Slice.Eq.{bytes_eq-Decides}
use Rattle.oer_model.specs.AsnType.{no_alternatives}
use Rattle.oer_model.specs.FaultTest.{contains_name, names_repeat}
use Rattle.oer_model.specs.WellFormed.{addition_names, alternative_names, field_names, item_names}
use Rattle.oer_types.specs.NameOrder.{AreNumbered, ascend, ascend_after, name_at, name_cmp, names_in, stands_before}
use Rattle.oer_types.specs.declared.order.Names.{Names}
use Rattle.oer_values.specs.ShapeView.{additions_of, fields_of, named_number, root_of}
use Rattle.oer_values.specs.declared.shape.Addition.{Addition}
use Rattle.oer_values.specs.declared.shape.Alt.{Alt}
use Rattle.oer_values.specs.declared.shape.Field.{Field}
use Rattle.oer_values.specs.declared.shape.Item.{Item}

-- ---- the name at a place

read : {A : Type 0} (f : A → List ℕ) (xs : List A) (i : ℕ) (x : A) → i < length xs → x ≡ get_or xs i x → f x ≡ get_or (map f xs) i []
read f xs i x l e = ap f e ∙ sym (get_or-map f xs i x [] l)

past : {A : Type 0} (f : A → List ℕ) (xs : List A) (i : ℕ) → length xs ≤ i → [] ≡ get_or (map f xs) i []
past f xs i l = sym (get_or_past (map f xs) i [] (let e = length-map xs f in omega arith))

items_are : (xs : List Item) → item_names (map named_number xs) ≡ map (λ x. string_bytes x.name) xs
items_are [] = refl
items_are (x ∷ xs) = ap (λ ns. string_bytes x.name ∷ ns) (items_are xs)

fields_are : (xs : List Field) → field_names (fields_of xs) ≡ map (λ x. string_bytes x.name) xs
fields_are [] = refl
fields_are (x ∷ xs) = ap (λ ns. string_bytes x.name ∷ ns) (fields_are xs)

additions_are : (xs : List Addition) → addition_names (additions_of xs) ≡ map (λ x. string_bytes x.name) xs
additions_are [] = refl
additions_are (x ∷ xs) = ap (λ ns. string_bytes x.name ∷ ns) (additions_are xs)

alternatives_are : (xs : List Alt) → alternative_names (root_of xs no_alternatives) ≡ map (λ x. string_bytes x.name) xs
alternatives_are [] = refl
alternatives_are (x ∷ xs) = ap (λ ns. string_bytes x.name ∷ ns) (alternatives_are xs)

pub item_at : (xs : List Item) (i : ℕ) (x : Item) → i < length xs → x ≡ get_or xs i x → string_bytes x.name ≡ get_or (item_names (map named_number xs)) i []
item_at xs i x l e = rw (items_are xs) (read (λ x. string_bytes x.name) xs i x l e)

pub item_past : (xs : List Item) (i : ℕ) → length xs ≤ i → [] ≡ get_or (item_names (map named_number xs)) i []
item_past xs i l = rw (items_are xs) (past (λ x. string_bytes x.name) xs i l)

pub field_at : (xs : List Field) (i : ℕ) (x : Field) → i < length xs → x ≡ get_or xs i x → string_bytes x.name ≡ get_or (field_names (fields_of xs)) i []
field_at xs i x l e = rw (fields_are xs) (read (λ x. string_bytes x.name) xs i x l e)

pub field_past : (xs : List Field) (i : ℕ) → length xs ≤ i → [] ≡ get_or (field_names (fields_of xs)) i []
field_past xs i l = rw (fields_are xs) (past (λ x. string_bytes x.name) xs i l)

pub addition_at : (xs : List Addition) (i : ℕ) (x : Addition) → i < length xs → x ≡ get_or xs i x → string_bytes x.name ≡ get_or (addition_names (additions_of xs)) i []
addition_at xs i x l e = rw (additions_are xs) (read (λ x. string_bytes x.name) xs i x l e)

pub addition_past : (xs : List Addition) (i : ℕ) → length xs ≤ i → [] ≡ get_or (addition_names (additions_of xs)) i []
addition_past xs i l = rw (additions_are xs) (past (λ x. string_bytes x.name) xs i l)

pub alternative_at : (xs : List Alt) (i : ℕ) (x : Alt) → i < length xs → x ≡ get_or xs i x → string_bytes x.name ≡ get_or (alternative_names (root_of xs no_alternatives)) i []
alternative_at xs i x l e = rw (alternatives_are xs) (read (λ x. string_bytes x.name) xs i x l e)

pub alternative_past : (xs : List Alt) (i : ℕ) → length xs ≤ i → [] ≡ get_or (alternative_names (root_of xs no_alternatives)) i []
alternative_past xs i l = rw (alternatives_are xs) (past (λ x. string_bytes x.name) xs i l)

pub ruleset names_at = (item_at, item_past, field_at, field_past, addition_at, addition_past, alternative_at, alternative_past)

pub item_count : (xs : List Item) → length (item_names (map named_number xs)) ≡ length xs
item_count xs = rw (items_are xs) (length-map xs (λ x. string_bytes x.name))

pub field_count : (xs : List Field) → length (field_names (fields_of xs)) ≡ length xs
field_count xs = rw (fields_are xs) (length-map xs (λ x. string_bytes x.name))

pub addition_count : (xs : List Addition) → length (addition_names (additions_of xs)) ≡ length xs
addition_count xs = rw (additions_are xs) (length-map xs (λ x. string_bytes x.name))

pub alternative_count : (xs : List Alt) → length (alternative_names (root_of xs no_alternatives)) ≡ length xs
alternative_count xs = rw (alternatives_are xs) (length-map xs (λ x. string_bytes x.name))

pub ruleset places = (get_or_append_left, get_or-append_right, length-append, item_count, field_count, addition_count, alternative_count)

-- ---- the order

pub order_total : IsTotalOrder name_cmp
order_total = then_total (on_total length nat_cmp_total) nat_list_cmp_total

same : (x y : List ℕ) → bytes_eq x y ≡ true → x ≡ y
same x y e = (bytes_eq-Decides x y).0 e

itself : (x : List ℕ) → bytes_eq x x ≡ true
itself x = (bytes_eq-Decides x x).1 refl

less : (o : Ordering) → is_lt o ≡ true → o ≡ Less
less Less e = refl
less Equal e = absurd (true≢false (sym e))
less Greater e = absurd (true≢false (sym e))

-- a name that stands before another isn't the same
before_differs : (x y : List ℕ) → name_cmp x y ≡ Less → bytes_eq y x ≡ false
before_differs x y e = by_test (bytes_eq y x) (same y x)
  where
    by_test : (b : Bool) → (b ≡ true → y ≡ x) → b ≡ false
    by_test true h = let l = tied_itself order_total x in let k = subst (λ z. name_cmp x z ≡ Less) (h refl) e in absurd (cc)
    by_test false h = refl

equal_is : (x y : List ℕ) → name_cmp x y ≡ Equal → x ≡ y
equal_is x y e = same x y (sym (is_eq-slice_cmp x y) ∙ ap is_eq (second (nat_cmp (length x) (length y)) (slice_cmp nat_cmp x y) e))
  where
    second : (a b : Ordering) → ordering_then a b ≡ Equal → b ≡ Equal
    second Less b e = absurd (cc)
    second Equal b e = e
    second Greater b e = absurd (cc)

-- of two names that differ, where the second doesn't stand before the first, the first stands before the second
before_other : (x y : List ℕ) → is_lt (name_cmp y x) ≡ false → bytes_eq y x ≡ false → is_lt (name_cmp x y) ≡ true
before_other x y d e = by_order (name_cmp x y) (name_cmp y x) (order_total.antisymm y x) d (equal_is x y)
  where
    by_order : (o p : Ordering) → p ≡ ordering_reverse o → is_lt p ≡ false → (o ≡ Equal → x ≡ y) → is_lt o ≡ true
    by_order Less p q h k = refl
    by_order Equal p q h k = let s = subst (λ z. bytes_eq z x ≡ false) (sym (k refl)) e in absurd (true≢false (sym (itself x) ∙ s))
    by_order Greater p q h k = absurd (true≢false (sym (ap is_lt q) ∙ h))

-- ---- each before the next

abbrev up : List ℕ → List (List ℕ) → Bool
up x [] = true
up x (y ∷ ys) = is_lt (name_cmp x y) && up y ys

and_left : (a b : Bool) → (a && b) ≡ true → a ≡ true
and_left true b e = refl
and_left false b e = e

and_right : (a b : Bool) → (a && b) ≡ true → b ≡ true
and_right true b e = e
and_right false b e = absurd (true≢false (sym e))

left : (a b : Bool) → (a || b) ≡ false → a ≡ false
left true b e = e
left false b e = refl

right : (a b : Bool) → (a || b) ≡ false → b ≡ false
right true b e = absurd (true≢false e)
right false b e = e

not_among : (z x : List ℕ) (ys : List (List ℕ)) → name_cmp z x ≡ Less → up x ys ≡ true → contains_name z (x ∷ ys) ≡ false
not_among z x [] e u = rw (before_differs z x e) refl
not_among z x (y ∷ ys) e u =
    let l : name_cmp x y ≡ Less = less (name_cmp x y) (and_left (is_lt (name_cmp x y)) (up y ys) u) in
    rw (before_differs z x e) (not_among z y ys (order_total.trans z x y e l) (and_right (is_lt (name_cmp x y)) (up y ys) u))

apart : (x : List ℕ) (ys : List (List ℕ)) → up x ys ≡ true → names_repeat (x ∷ ys) ≡ false
apart x [] u = refl
apart x (y ∷ ys) u =
    let l : name_cmp x y ≡ Less = less (name_cmp x y) (and_left (is_lt (name_cmp x y)) (up y ys) u) in
    let r : up y ys ≡ true = and_right (is_lt (name_cmp x y)) (up y ys) u in
    rw (not_among x y ys l r) (apart y ys r)

-- names in order that are all different stand each before the next
abbrev NoneAfter : List (List ℕ) → Type 0
NoneAfter xs = (k : ℕ) → suc k < length xs → is_lt (name_cmp (get_or xs (suc k) []) (get_or xs k [])) ≡ false

up_from : (x : List ℕ) (ys : List (List ℕ)) → NoneAfter (x ∷ ys) → names_repeat (x ∷ ys) ≡ false → up x ys ≡ true
up_from x [] s e = refl
up_from x (y ∷ ys) s e =
    let d : bytes_eq y x ≡ false = left (bytes_eq y x) (contains_name x ys) (left (contains_name x (y ∷ ys)) (names_repeat (y ∷ ys)) e) in
    rw (before_other x y (s 0 (omega arith)) d) (up_from y ys (λ k l. s (suc k) (omega arith)) (right (contains_name x (y ∷ ys)) (names_repeat (y ∷ ys)) e))

-- ---- the same names in another order

abbrev once : Bool → ℕ
once b = cond b 1 0

abbrev times : List ℕ → List (List ℕ) → ℕ
times x xs = sum_by (λ y. once (bytes_eq y x)) xs

more_times : (x y : List ℕ) (ys : List (List ℕ)) → times x (y ∷ ys) ≡ once (bytes_eq y x) + times x ys
more_times x y ys = sum_by-cons (λ z. once (bytes_eq z x)) y ys

some_times : (x : List ℕ) (xs : List (List ℕ)) → contains_name x xs ≡ true → 1 ≤ times x xs
some_times x [] e = absurd (true≢false (sym e))
some_times x (y ∷ ys) e = rw (more_times x y ys) (by_test (bytes_eq y x) (contains_name x ys) (some_times x ys) e)
  where
    by_test : (b c : Bool) → (c ≡ true → 1 ≤ times x ys) → (b || c) ≡ true → 1 ≤ once b + times x ys
    by_test true c h e = omega arith
    by_test false c h e = let l = h e in omega arith

no_times : (x : List ℕ) (xs : List (List ℕ)) → contains_name x xs ≡ false → times x xs ≡ 0
no_times x [] e = refl
no_times x (y ∷ ys) e =
    let n : times x ys ≡ 0 = no_times x ys (right (bytes_eq y x) (contains_name x ys) e) in
    rw (more_times x y ys, left (bytes_eq y x) (contains_name x ys) e) (omega arith)

abbrev HasTwice : List (List ℕ) → Type 0
HasTwice xs = (x : List ℕ) × (2 ≤ times x xs)

twice : (xs : List (List ℕ)) → names_repeat xs ≡ true → HasTwice xs
twice [] e = absurd (true≢false (sym e))
twice (y ∷ ys) e = by_test (contains_name y ys) (some_times y ys) (names_repeat ys) (twice ys) e
  where
    by_test : (b : Bool) → (b ≡ true → 1 ≤ times y ys) → (c : Bool) → (c ≡ true → HasTwice ys) → (b || c) ≡ true → HasTwice (y ∷ ys)
    by_test true h c k e = (y, (let l = h refl in rw (more_times y y ys, itself y) (omega arith)))
    by_test false h c k e = let p = k e in (p.0, (let l = p.1 in let m = more_times p.0 y ys in omega arith))

at_most_once : (xs : List (List ℕ)) → names_repeat xs ≡ false → (x : List ℕ) → times x xs ≤ 1
at_most_once [] e x = omega arith
at_most_once (y ∷ ys) e x =
    let none : times y ys ≡ 0 = no_times y ys (left (contains_name y ys) (names_repeat ys) e) in
    let others : times x ys ≤ 1 = at_most_once ys (right (contains_name y ys) (names_repeat ys) e) x in
    rw (more_times x y ys) (by_test (bytes_eq y x) (same y x) none others)
  where
    by_test : (b : Bool) → (b ≡ true → y ≡ x) → times y ys ≡ 0 → times x ys ≤ 1 → once b + times x ys ≤ 1
    by_test true h none others = let n = subst (λ z. times z ys ≡ 0) (h refl) none in omega arith
    by_test false h none others = omega arith

-- where none stands twice, none does in another order
moved_apart : (xs ys : List (List ℕ)) → ((x : List ℕ) → times x ys ≡ times x xs) → names_repeat xs ≡ false → names_repeat ys ≡ false
moved_apart xs ys t e = by_test (names_repeat ys) (twice ys)
  where
    by_test : (b : Bool) → (b ≡ true → HasTwice ys) → b ≡ false
    by_test true h = let p = h refl in let q = p.1 in let m = at_most_once xs e p.0 in let s = t p.0 in absurd (omega arith)
    by_test false h = refl

moved : (xs ys : List (List ℕ)) → ((x : List ℕ) → times x ys ≡ times x xs) → names_repeat ys ≡ names_repeat xs
moved xs ys t = by_tests (names_repeat xs) (names_repeat ys) (moved_apart xs ys t) (moved_apart ys xs (λ x. sym (t x)))
  where
    by_tests : (a b : Bool) → (a ≡ false → b ≡ false) → (b ≡ false → a ≡ false) → b ≡ a
    by_tests true true h k = refl
    by_tests true false h k = sym (k refl)
    by_tests false b h k = h refl

-- ---- numbers in the place of names

abbrev name_of : List (List ℕ) → ℕ → List ℕ
name_of xs n = get_or xs n []

abbrev names_by : List (List ℕ) → List ℕ → List (List ℕ)
names_by xs order = map (name_of xs) order

shift : (n k : ℕ) → n + suc k ≡ suc n + k
shift n k = omega arith

numbered_from : (zs xs : List (List ℕ)) (order : List ℕ) (n : ℕ) → length order ≡ length xs
    → ((k : ℕ) → k < length order → get_or order k 0 ≡ n + k) → ((k : ℕ) → get_or zs (n + k) [] ≡ get_or xs k []) → names_by zs order ≡ xs
numbered_from zs [] [] n l h g = refl
numbered_from zs (x ∷ xs) [] n l h g = absurd (omega arith)
numbered_from zs [] (o ∷ os) n l h g = absurd (omega arith)
numbered_from zs (x ∷ xs) (o ∷ os) n l h g =
    let here : get_or zs o [] ≡ x = ap (name_of zs) (h 0 (omega arith)) ∙ g 0 in
    let others : names_by zs os ≡ xs = numbered_from zs xs os (suc n) (omega arith) (λ k m. h (suc k) (omega arith) ∙ shift n k) (λ k. ap (name_of zs) (sym (shift n k)) ∙ g (suc k)) in
    ap₂ (λ y ys. y ∷ ys) here others

numbered : (xs : List (List ℕ)) (order : List ℕ) → length order ≡ length xs → AreNumbered order (length order) → names_by xs order ≡ xs
numbered xs order l h = numbered_from xs xs order 0 l (λ k m. h k m ∙ sym (plus_none k)) (λ k. ap (name_of xs) (plus_none k))
  where
    plus_none : (k : ℕ) → 0 + k ≡ k
    plus_none k = omega arith

by_number : (xs : List (List ℕ)) (order : List ℕ) (k : ℕ) → k < length order → get_or (names_by xs order) k [] ≡ name_of xs (get_or order k 0)
by_number xs order k l = get_or-map (name_of xs) order k 0 [] l

follow : (names : Names) (x : List ℕ) (order : List ℕ) → ascend_after names x order ≡ up x (names_by (names_in names) order)
follow names x [] = refl
follow names x (n ∷ ns) = ap (λ b. is_lt (name_cmp x (name_at names n)) && b) (follow names (name_at names n) ns)

ascend_apart : (names : Names) (order : List ℕ) → ascend names order ≡ true → names_repeat (names_by (names_in names) order) ≡ false
ascend_apart names [] e = refl
ascend_apart names (n ∷ ns) e = apart (name_at names n) (names_by (names_in names) ns) (sym (follow names (name_at names n) ns) ∙ e)

apart_ascend : (names : Names) (order : List ℕ) → NoneAfter (names_by (names_in names) order) → names_repeat (names_by (names_in names) order) ≡ false → ascend names order ≡ true
apart_ascend names [] s e = refl
apart_ascend names (n ∷ ns) s e = follow names (name_at names n) ns ∙ up_from (name_at names n) (names_by (names_in names) ns) s e

sorted_after : (names : Names) (order : List ℕ) → IsSortedBy (stands_before names) order → NoneAfter (names_by (names_in names) order)
sorted_after names order s = λ k l. at_next k (let e = length-map order (name_of (names_in names)) in omega arith)
  where
    at_next : (k : ℕ) → k + 1 < length order → is_lt (name_cmp (get_or (names_by (names_in names) order) (suc k) []) (get_or (names_by (names_in names) order) k [])) ≡ false
    at_next k m =
        let n : suc k ≡ k + 1 = omega arith in
        rw (n, by_number (names_in names) order k (omega arith), by_number (names_in names) order (k + 1) m) (s k 0 (omega arith) m)

-- names that ascend as they stand are all different
pub in_order : (names : Names) (order : List ℕ) → length order ≡ length (names_in names) → AreNumbered order (length order)
    → ascend names order ≡ true → names_repeat (names_in names) ≡ false
in_order names order l h a = subst (λ xs. names_repeat xs ≡ false) (numbered (names_in names) order l h) (ascend_apart names order a)

reordered : (xs : List (List ℕ)) (order after : List ℕ) → IsPermutation order after → names_repeat (names_by xs after) ≡ names_repeat (names_by xs order)
reordered xs order after p = moved (names_by xs order) (names_by xs after) (λ x. sum_by-IsPermutation (λ y. once (bytes_eq y x)) (names_by xs order) (names_by xs after) by_name)
  where
    by_name : IsPermutation (names_by xs order) (names_by xs after)
    by_name = IsPermutation-map (name_of xs) order after p

-- names that were put in order ascend exactly where they are all different
pub put_in_order : (names : Names) (order after : List ℕ) → length order ≡ length (names_in names) → AreNumbered order (length order)
    → IsPermutation order after → IsSortedBy (stands_before names) after → not (ascend names after) ≡ names_repeat (names_in names)
put_in_order names order after l h p s = told (ascend names after) (names_repeat (names_by (names_in names) after)) (ascend_apart names after) (apart_ascend names after (sorted_after names after s))
    ∙ reordered (names_in names) order after p ∙ ap names_repeat (numbered (names_in names) order l h)
  where
    told : (a b : Bool) → (a ≡ true → b ≡ false) → (b ≡ false → a ≡ true) → not a ≡ b
    told true b h k = sym (h refl)
    told false true h k = refl
    told false false h k = absurd (true≢false (sym (k refl)))
