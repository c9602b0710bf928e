-- At most how many octets the values that fit a type have.
use Rattle.std.proofs.Common.{inl, inr, ◌≡◌, ◌∙◌, ℕ, suc, ◌+◌, ◌*◌, ◌/◌, ◌^◌, ◌<◌, ◌≤◌, List, [], ◌∷◌, ◌++◌, length, drop, get_or, map, Bool, true, false, ◌&&◌, ℤ, pos, negsuc, ◌-ℤ◌, neg_ℤ, int_le, leb, FitsSigned, Option, Some, None, IfSome, option_map, Vec, Global, arith, refl, sym, ap, subst, length-append}
use Rattle.std.proofs.lemmas.Bool.{leb-true}
use Rattle.std.proofs.lemmas.Int.{ints}
use Rattle.std.proofs.lemmas.List.{drop_more, drop_all, length-map}
use Rattle.std.specs.Int.{w128}
use Rattle.oer_units.specs.Least.{counted, unsigned_octets}
use Rattle.oer_units.specs.Reading.{is_int128, is_int64}
use Rattle.oer_units.proofs.Lengths.{both_true}
use Rattle.oer_units.proofs.Ranges.{int_le-true}
use Rattle.oer_model.specs.AsnType.{AsnType, Fields, NamedNumber, Need, boolean, default, enumerated, field, integer, may, must, no_additions, null, octet_string, sequence}
use Rattle.oer_model.specs.AsnValue.{AsnValue, Places, Unknown, Values, absent, items, no_places, no_values, present, seq}
use Rattle.oer_model.specs.Bits.{octets_for, padded}
use Rattle.oer_model.specs.Canonical.{canonical_octets, count, same}
use Rattle.oer_model.specs.Constraints.{at_most, fixed}
use Rattle.oer_model.specs.Filling.{filled}
use Rattle.oer_model.specs.Fits.{AllFit, Fits, FitsFields, listed}
use Rattle.oer_values.specs.ShapeView.{SeenField, additions_of, fields_from, fields_of, need_of, seen_field, sequence_with, type_of}
use Rattle.oer_values.specs.ValueView.{places_from, places_of, value_of, values_from, values_of}
use Rattle.oer_values.specs.declared.shape.Addition.{Addition}
use Rattle.oer_values.specs.declared.shape.Field.{Field}
use Rattle.oer_model.specs.declared.size.Size.{Size}
use Rattle.oer_values.specs.declared.value.Value.{Value}
use Rattle.oer_model.proofs.bits.LeastBits.{length-padded}
use Rattle.oer_model.proofs.fitting.NumberSteps.{wide}
use Rattle.oer_leaves.specs.Parts.{field_bits, field_octets, values_octets}
use Rattle.oer_writer.specs.Bounds.{BoundsAdditions}
use Rattle.oer_writer.specs.TypeBounds.{BoundsFieldsIn, BoundsIn, BoundsListIn, BoundsPlaceIn, BoundsRootIn, BoundsValuesIn, FieldsHaveMost, HasMost, StringsHaveMost}
use Rattle.oer_writer.proofs.Bounds.{bool_bound, extended_few, int_bound, item_bound, kept_few, nil, null_bound, root_few, string_few}
use Rattle.oer_leaves.proofs.Components.{count_of, field_end, field_len, field_none}

-- ---- by the type alone: leaves

pub bool_most : HasMost boolean (Some 1)
bool_most = λ v (x, e). subst (λ w. length (canonical_octets boolean w) ≤ 1) (sym e) (bool_bound boolean x)

pub null_most : HasMost null (Some 0)
null_most = λ v e. subst (λ w. length (canonical_octets null w) ≤ 0) (sym e) (null_bound null)

within_128 : (z : ℤ) → is_int128 z ≡ true → FitsSigned w128 z
unfolding is_int128
within_128 z e = by z (both_true _ _ e).0 (both_true _ _ e).1
  where
    by : (z : ℤ) → int_le (neg_ℤ (pos (2 ^ 127))) z ≡ true → int_le z (pos (2 ^ 127) -ℤ pos 1) ≡ true → FitsSigned w128 z
    by (pos n) a b = let i = int_le-true (pos n) (pos (2 ^ 127) -ℤ pos 1) b in record { sfits = omega (arith, ints) }
    by (negsuc n) a b = let i = int_le-true (neg_ℤ (pos (2 ^ 127))) (negsuc n) a in record { sfits = omega (arith, ints) }

within_64 : (z : ℤ) → is_int64 z ≡ true → FitsSigned w128 z
unfolding is_int64
within_64 z e = by z (both_true _ _ e).0 (both_true _ _ e).1
  where
    by : (z : ℤ) → int_le (neg_ℤ (pos (2 ^ 63))) z ≡ true → int_le z (pos (2 ^ 63) -ℤ pos 1) ≡ true → FitsSigned w128 z
    by (pos n) a b = let i = int_le-true (pos n) (pos (2 ^ 63) -ℤ pos 1) b in record { sfits = omega (arith, ints) }
    by (negsuc n) a b = let i = int_le-true (neg_ℤ (pos (2 ^ 63))) (negsuc n) a in record { sfits = omega (arith, ints) }

pub int_most : (low high : Option ℤ) → HasMost (integer low high) (Some 17)
int_most low high = λ v (z, e, r). subst (λ w. length (canonical_octets (integer low high) w) ≤ 17) (sym e) (int_bound (integer low high) z (within_128 z (wide low high z r)))

pub item_most : (numbers : List NamedNumber) (extensible : Bool) → HasMost (enumerated numbers extensible) (Some 17)
item_most numbers extensible = λ v (z, e, r, _). subst (λ w. length (canonical_octets (enumerated numbers extensible) w) ≤ 17) (sym e) (item_bound (enumerated numbers extensible) z (within_64 z r))

pub string_most : (size : Size) (o : Option ℕ) (h : ℕ) → size.high ≡ Some h → IfSome o (λ n. n ≡ h + 9) → StringsHaveMost size o
string_most size None h is m = m
string_most size (Some n) h is m = λ w e.
    let k = length w in
    let two = both_true (leb size.low k && at_most size.high k) (leb k 18446744073709551615) e in
    let few : k ≤ 18446744073709551615 = leb-true k 18446744073709551615 two.1 in
    let most : k ≤ h = leb-true k h (ap (λ o. at_most o k) (sym is) ∙ (both_true (leb size.low k) (at_most size.high k) two.0).1) in
    omega (arith, m, most, string_few (fixed size) w (omega (arith, few)))

pub octets_most : (size : Size) (o : Option ℕ) → StringsHaveMost size o → HasMost (octet_string size) o
octets_most size None h = h
octets_most size (Some n) h = λ v (w, e, f). subst (λ x. length (canonical_octets (octet_string size) x) ≤ n) (sym e) (h w f.1)

-- ---- components

-- each has so many octets at most
Few : Fields → ℕ → Type 0
Few fs k = (ps : Places) → FitsFields fs ps → length (field_octets fs ps) ≤ k

fields_first : (n : List ℕ) (need : Need) (T : AsnType) (fs : Fields) (m k : ℕ) → ((v : AsnValue) → Fits T v → length (canonical_octets T v) ≤ m) → ((ps : Places) → FitsFields fs ps → length (field_octets fs ps) ≤ k) → (ps : Places) → FitsFields (field n need T fs) ps → length (field_octets (field n need T fs) ps) ≤ m + k
fields_first n need T fs m k one rest = go need
  where
    Goal : Need → Places → Type 0
    Goal need ps = length (field_octets (field n need T fs) ps) ≤ m + k

    two : (v : AsnValue) (ps : Places) → Fits T v → FitsFields fs ps → length (canonical_octets T v ++ field_octets fs ps) ≤ m + k
    two v ps f g = omega (arith, length-append (canonical_octets T v) (field_octets fs ps), one v f, rest ps g)

    less : (ps : Places) → FitsFields fs ps → length (field_octets fs ps) ≤ m + k
    less ps g = omega (arith, rest ps g)

    by : (d v : AsnValue) (ps : Places) (b : Bool) → same (filled T v) (filled T d) ≡ b → Fits T v → FitsFields fs ps → length (field_octets (field n (default d) T fs) (present v ps)) ≤ m + k
    by d v ps true e f g = rw (e) (less ps g)
    by d v ps false e f g = rw (e) (two v ps f g)

    go : (need : Need) (ps : Places) → FitsFields (field n need T fs) ps → length (field_octets (field n need T fs) ps) ≤ m + k
    go must ps (v, qs, e, f, g) = subst (λ x. length (field_octets (field n must T fs) x) ≤ m + k) (sym e) (two v qs f g)
    go may ps (inl (v, qs, e, f, g)) = subst (λ x. length (field_octets (field n may T fs) x) ≤ m + k) (sym e) (two v qs f g)
    go may ps (inr (qs, e, g)) = subst (λ x. length (field_octets (field n may T fs) x) ≤ m + k) (sym e) (less qs g)
    go (default d) ps (inl (v, qs, e, f, g)) = subst (λ x. length (field_octets (field n (default d) T fs) x) ≤ m + k) (sym e) (by d v qs (same (filled T v) (filled T d)) refl f g)
    go (default d) ps (inr (qs, e, g)) = subst (λ x. length (field_octets (field n (default d) T fs) x) ≤ m + k) (sym e) (less qs g)

-- through a loop: with those of the components that are left
abbrev pub LeftMost : Fields → ℕ → Fields → Type 0
LeftMost fs done gs = (k : ℕ) → ((ps : Places) → FitsFields gs ps → length (field_octets gs ps) ≤ k) → (ps : Places) → FitsFields fs ps → length (field_octets fs ps) ≤ done + k

pub most_start : (fs : Fields) → LeftMost fs 0 fs
most_start fs = λ k h ps f. omega (arith, h ps f)

pub most_more : (fs : Fields) (done m n : ℕ) (xs : List Field) (i : ℕ) (x : Field) → i < length xs → x ≡ get_or xs i x → n ≡ done + m → HasMost (type_of x.shape) (Some m) → LeftMost fs done (fields_of (drop i xs)) → LeftMost fs n (fields_of (drop (i + 1) xs))
most_more fs done m n xs i x h is e one left = λ k few ps f.
    let rest = drop (i + 1) xs in
    let first = fields_first (seen_field x).name (seen_field x).need (type_of x.shape) (fields_of rest) m k one few in
    let all = subst (λ l. (qs : Places) → FitsFields (fields_of l) qs → length (field_octets (fields_of l) qs) ≤ m + k) (sym (drop_more xs i x h ∙ ap (λ y. y ∷ rest) (sym is))) first in
    omega (arith, e, left (m + k) all ps f)

pub most_end : (fs : Fields) (done : ℕ) (xs : List Field) (i : ℕ) → length xs ≤ i → LeftMost fs done (fields_of (drop i xs)) → FieldsHaveMost fs (Some done)
most_end fs done xs i h left = λ ps f.
    omega (arith, left 0 (subst (λ l. (qs : Places) → FitsFields (fields_of l) qs → length (field_octets (fields_of l) qs) ≤ 0) (sym (drop_all i xs h)) (λ qs g. nil 0)) ps f)

bits_most : (xs : List SeenField) (ps : Places) → length (field_bits (fields_from xs) ps) ≤ length xs
bits_most [] ps = nil 0
bits_most (x ∷ xs) ps = one x.need ps (bits_most xs)
  where
    by : (d v : AsnValue) (ps : Places) (b : Bool) → same (filled x.type v) (filled x.type d) ≡ b → length (field_bits (fields_from xs) ps) ≤ length xs → length (field_bits (field x.name (default d) x.type (fields_from xs)) (present v ps)) ≤ length (x ∷ xs)
    by d v ps true e h = rw (e) (omega (arith, h))
    by d v ps false e h = rw (e) (omega (arith, h))

    one : (need : Need) (ps : Places) → ((qs : Places) → length (field_bits (fields_from xs) qs) ≤ length xs) → length (field_bits (field x.name need x.type (fields_from xs)) ps) ≤ length (x ∷ xs)
    one must no_places h = nil (length (x ∷ xs))
    one may no_places h = nil (length (x ∷ xs))
    one (default d) no_places h = nil (length (x ∷ xs))
    one must (absent ps) h = omega (arith, h ps)
    one may (absent ps) h = omega (arith, h ps)
    one (default d) (absent ps) h = omega (arith, h ps)
    one must (present v ps) h = omega (arith, h ps)
    one may (present v ps) h = omega (arith, h ps)
    one (default d) (present v ps) h = by d v ps (same (filled x.type v) (filled x.type d)) refl (h ps)

pub root_most : (xs : List Field) (m : ℕ) (o : Option ℕ) → IfSome o (λ n. n ≡ m + (length xs / 8 + 1)) → FieldsHaveMost (fields_of xs) (Some m) → HasMost (sequence (fields_of xs)) o
unfolding octets_for
root_most xs m None is h = is
root_most xs m (Some n) is h = λ v (ps, e, f).
    let fs = fields_of xs in
    let b = field_bits fs ps in
    let bits : length b ≤ length xs = subst (λ k. length b ≤ k) (length-map xs seen_field) (bits_most (map seen_field xs) ps) in
    subst (λ w. length (canonical_octets (sequence fs) w) ≤ n) (sym e) (omega (arith, is, h ps f, bits, length-append (padded b) (field_octets fs ps), length-padded b))

-- ---- by the type and the value: components

after : Places → Places
after no_places = no_places
after (absent ps) = ps
after (present v ps) = ps

there : AsnValue → Places → AsnValue
there v (present w ps) = w
there v (absent ps) = v
there v no_places = v

fits_first : (n : List ℕ) (need : Need) (T : AsnType) (fs : Fields) (p : Option AsnValue) (ps : List (Option AsnValue)) → FitsFields (field n need T fs) (places_from (p ∷ ps)) → IfSome p (Fits T) × FitsFields fs (places_from ps)
unfolding there after
fits_first n need T fs p ps = go need p
  where
    Rest : Places → Type 0
    Rest qs = FitsFields fs qs

    is_there : (v w : AsnValue) (qs : Places) → present v (places_from ps) ≡ present w qs → Fits T w → FitsFields fs qs → Fits T v × FitsFields fs (places_from ps)
    is_there v w qs e f g = (subst (Fits T) (sym (ap (there v) e)) f, subst (λ x. FitsFields fs x) (sym (ap after e)) g)

    is_missing : (qs : Places) → absent (places_from ps) ≡ absent qs → FitsFields fs qs → FitsFields fs (places_from ps)
    is_missing qs e g = subst (λ x. FitsFields fs x) (sym (ap after e)) g

    go : (need : Need) (p : Option AsnValue) → FitsFields (field n need T fs) (places_from (p ∷ ps)) → IfSome p (Fits T) × FitsFields fs (places_from ps)
    go must None (w, qs, e, f, g) = absurd (cc)
    go must (Some v) (w, qs, e, f, g) = is_there v w qs e f g
    go may None (inl (w, qs, e, f, g)) = absurd (cc)
    go may None (inr (qs, e, g)) = (tt, is_missing qs e g)
    go may (Some v) (inl (w, qs, e, f, g)) = is_there v w qs e f g
    go may (Some v) (inr (qs, e, g)) = absurd (cc)
    go (default d) None (inl (w, qs, e, f, g)) = absurd (cc)
    go (default d) None (inr (qs, e, g)) = (tt, is_missing qs e g)
    go (default d) (Some v) (inl (w, qs, e, f, g)) = is_there v w qs e f g
    go (default d) (Some v) (inr (qs, e, g)) = absurd (cc)

-- through a loop
abbrev pub LeftFields : ℕ → Fields → Places → ℕ → Fields → Places → Type 0
LeftFields start fs ps done gs qs = FitsFields fs ps → FitsFields gs qs × (start + length (field_octets fs ps) ≤ done + length (field_octets gs qs))

pub fields_start : (start : ℕ) (fs : Fields) (ps : Places) → LeftFields start fs ps start fs ps
fields_start start fs ps = λ f. (f, omega arith)

pub fields_more : (start done n : ℕ) (fs : Fields) (ps : Places) (xs : List Field) (i : ℕ) (x : Field) (rest more : List (Option Value)) (p : Option Value) → i < length xs → x ≡ get_or xs i x → rest ≡ p ∷ more → LeftFields start fs ps done (fields_of (drop i xs)) (places_of rest) → BoundsPlaceIn (type_of x.shape) done (option_map value_of p) (Some n) → LeftFields start fs ps n (fields_of (drop (i + 1) xs)) (places_of more)
fields_more start done n fs ps xs i x rest more p h is e left one = λ f.
    let ys = drop (i + 1) xs in
    let q = option_map value_of p in
    let T = type_of x.shape in
    let now = left f in
    let here : FitsFields (fields_of (x ∷ ys)) (places_of (p ∷ more)) = subst (λ l. FitsFields (fields_of (x ∷ ys)) (places_of l)) e (subst (λ l. FitsFields (fields_of l) (places_of rest)) (drop_more xs i x h ∙ ap (λ y. y ∷ ys) (sym is)) now.0) in
    let two = fits_first (seen_field x).name (seen_field x).need T (fields_of ys) q (map (option_map value_of) more) here in
    (two.1, omega (arith, now.1, field_len xs i x rest more p h is e, kept_few (need_of x.need) T q, one two.0))

none_of : {A : Type 0} (xs : List A) → length xs ≡ 0 → xs ≡ []
none_of [] e = refl
none_of (x ∷ xs) e = absurd (omega (arith, e))

pub fields_none : (start done : ℕ) (fs : Fields) (ps : Places) (xs : List Field) (rest : List (Option Value)) → length rest ≡ 0 → LeftFields start fs ps done (fields_of xs) (places_of rest) → BoundsFieldsIn fs start ps (Some done)
fields_none start done fs ps xs rest e left = λ f. omega (arith, (left f).1, ap length (field_none xs rest (none_of rest e)))

pub fields_end : (start done : ℕ) (fs : Fields) (ps : Places) (xs : List Field) (i : ℕ) (rest : List (Option Value)) → length xs ≤ i → LeftFields start fs ps done (fields_of (drop i xs)) (places_of rest) → BoundsFieldsIn fs start ps (Some done)
fields_end start done fs ps xs i rest h left = λ f. omega (arith, (left f).1, ap length (field_end xs i rest h))

pub root_bounds : (o : Option ℕ) (done mid : ℕ) (fs : Fields) (xs : List (Option Value)) → mid ≡ done + (length xs / 8 + 1) → BoundsFieldsIn fs mid (places_of xs) o → BoundsRootIn fs done (places_of xs) o
root_bounds None done mid fs xs is h = λ f. tt
root_bounds (Some n) done mid fs xs is h = λ f first. omega (arith, is, root_few first fs xs, h f)

root_in : AsnValue → Places
root_in (seq ps qs us) = ps
root_in _ = no_places

pub sequence_bounds : (o : Option ℕ) (done mid : ℕ) (fs : List Field) (additions : Option (Vec Addition Global)) (ps qs : Places) (us : List Unknown) → BoundsRootIn (fields_of fs) done ps (Some mid) → BoundsAdditions mid qs us o → BoundsIn (sequence_with fs additions) done (seq ps qs us) o
unfolding root_in
sequence_bounds None done mid fs None ps qs us h a = λ f. tt
sequence_bounds None done mid fs (Some more) ps qs us h a = λ f. tt
sequence_bounds (Some n) done mid fs None ps qs us h a = λ (rs, e, f).
    let fit : FitsFields (fields_of fs) ps = subst (λ x. FitsFields (fields_of fs) x) (sym (ap root_in e)) f in
    omega (arith, h fit None, a no_additions)
sequence_bounds (Some n) done mid fs (Some more) ps qs us h a = λ (rs, bs, vs, e, f, _, _).
    let fit : FitsFields (fields_of fs) ps = subst (λ x. FitsFields (fields_of fs) x) (sym (ap root_in e)) f in
    let two = extended_few (fields_of fs) (additions_of more.items) ps qs us in
    omega (arith, two.1, h fit (Some two.0), a (additions_of more.items))

pub place_bounds : (T : AsnType) (done : ℕ) → BoundsPlaceIn T done None (Some done)
place_bounds T done = λ f. omega arith

-- ---- elements

suc_times : (k m : ℕ) → suc k * m ≡ m + k * m
suc_times k m = grind arith

each_most : (T : AsnType) (m : ℕ) → ((v : AsnValue) → Fits T v → length (canonical_octets T v) ≤ m) → (ws : List AsnValue) → AllFit (Fits T) ws → length (values_octets T (listed ws)) ≤ length ws * m
each_most T m h [] f = nil (0 * m)
each_most T m h (w ∷ ws) (f, fs) = omega (arith, suc_times (length ws) m, length-append (canonical_octets T w) (values_octets T (listed ws)), h w f, each_most T m h ws fs)

count_from : (xs : List AsnValue) → count (values_from xs) ≡ length xs
count_from [] = refl
count_from (x ∷ xs) = ap suc (count_from xs)

count_listed : (xs : List AsnValue) → count (listed xs) ≡ length xs
count_listed [] = refl
count_listed (x ∷ xs) = ap suc (count_listed xs)

pub elements_most : (T : AsnType) (done m k : ℕ) (vs : List Value) (o : Option ℕ) → HasMost T (Some m) → k ≡ length vs * m → IfSome o (λ n. n ≡ done + k) → BoundsValuesIn T done (values_of vs) o
elements_most T done m k vs None h is e = λ ws l f. tt
elements_most T done m k vs (Some n) h is e = λ ws l f.
    let long : length ws ≡ length vs = sym (count_listed ws) ∙ sym (ap count l) ∙ count_from (map value_of vs) ∙ length-map vs value_of in
    let all = each_most T m h ws f in
    omega (arith, e, is, ap (λ j. j * m) long, ap (λ x. length (values_octets T x)) l, all)

pub elements_none : (T : AsnType) (done : ℕ) (vs : List Value) → length vs ≡ 0 → BoundsValuesIn T done (values_of vs) (Some done)
elements_none T done vs e = λ ws l f. omega (arith, ap (λ x. length (values_octets T (values_of x))) (none_of vs e))

pub elements_given : (T : AsnType) (done : ℕ) (vs : Values) (o : Option ℕ) → IfSome o (λ n. (U : AsnType) → done + length (values_octets U vs) ≤ n) → BoundsValuesIn T done vs o
elements_given T done vs None h = λ ws l f. tt
elements_given T done vs (Some n) h = λ ws l f. h T

held : AsnValue → Values
held (items vs) = vs
held _ = no_values

pub list_in : (o : Option ℕ) (T : AsnType) (done mid : ℕ) (vs : List Value) → mid ≡ done + length (counted (unsigned_octets (length vs))) → BoundsValuesIn T mid (values_of vs) o → BoundsListIn T done (values_of vs) o
unfolding held
list_in None T done mid vs is h = λ size f. tt
list_in (Some n) T done mid vs is h = λ size (ws, e, _, f).
    let l : values_of vs ≡ listed ws = ap held e in
    let m = ap (λ k. length (counted (unsigned_octets k) ++ values_octets T (values_of vs))) (count_of T vs) in
    omega (arith, is, m, length-append (counted (unsigned_octets (length vs))) (values_octets T (values_of vs)), h ws l f)

pub any_given : (T : AsnType) (done : ℕ) (v : AsnValue) (o : Option ℕ) → IfSome o (λ n. (U : AsnType) → done + length (canonical_octets U v) ≤ n) → BoundsIn T done v o
any_given T done v None h = λ f. tt
any_given T done v (Some n) h = λ f. h T
