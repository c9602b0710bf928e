-- At most how many octets values have, by any type.
use Rattle.std.proofs.Common.{inl, inr, ◌≡◌, ⊎_elim, ℕ, zero, suc, ◌+◌, ◌-◌, ◌*◌, ◌/◌, ◌^◌, ◌<◌, ◌≤◌, List, [], ◌∷◌, ◌++◌, length, drop, get_or, map, Bool, true, false, ◌||◌, cond, nat_lt, if◌then◌else◌, ℤ, pos, negsuc, FitsSigned, Option, Some, None, IfSome, option_map, arith, rules, refl, sym, ap, ◌∙◌, length-append}
use Rattle.std.proofs.lemmas.Bool.{cases_lt}
use Rattle.std.proofs.lemmas.List.{drop_more, drop_all, length-map}
use Rattle.std.proofs.Math.Nat.{pow-suc}
use Rattle.std.specs.Int.{w128}
use Rattle.oer_units.specs.Least.{base128_octets, counted, enumerated_octets, length_octets, object_id_octets, signed_octets, subidentifier_octets, tag_octets, unsigned_octets}
use Rattle.oer_units.specs.declared.tagging.Tag.{Tag}
use Rattle.oer_units.proofs.Needed.{needed_sixteen}
use Rattle.oer_units.proofs.Numbers.{length-big_endian, length-signed_octets, length-unsigned_octets, length_octets_above, length_octets_below, needed_least}
use Rattle.oer_units.proofs.WrittenDigits.{count_first, count_step, upper}
use Rattle.oer_model.specs.LeafType as kind
use Rattle.oer_model.specs.LeafType.{LeafType}
use Rattle.oer_model.specs.LeafValue as leaf_kind
use Rattle.oer_model.specs.LeafValue.{LeafValue}
use Rattle.oer_model.specs.AsnType.{Additions, Alternatives, AsnType, Fields, Need, addition, alternative, choice, default, extensible_sequence, field, later, leaf, may, must, no_additions, no_alternatives, no_fields, sequence, sequence_of}
use Rattle.oer_model.specs.AsnValue.{AsnValue, Places, Unknown, Values, bit_list, bool, chosen, enum, foreign, int, items, leaf_value, no_places, nothing, octets, oid, seq, text}
use Rattle.oer_model.specs.Bits.{octets_for, padded, spare_bits}
use Rattle.oer_model.specs.Canonical.{any_present, any_unknown, bit_octets, bitmap_octets, canonical_octets, extension_octets, integer_octets, leaf_octets, string_octets, unknown_marks, unknown_octets}
use Rattle.oer_model.specs.Constraints.{Form, addition_count, fixed, form_of, high_to, low_from, same_tag, signed_counted, signed_fixed, signed_form, signed_within, unsigned_counted, unsigned_fixed, unsigned_form}
use Rattle.oer_values.specs.ValueView.{places_from, places_of, unknown_of, value_of, values_of}
use Rattle.oer_values.specs.declared.value.Unknown as rust_unknown
use Rattle.oer_values.specs.declared.value.Value as value
use Rattle.oer_values.specs.declared.value.Value.{Value}
use Rattle.oer_model.proofs.bits.LeastBits.{length-padded}
use Rattle.oer_writer.specs.Bounds.{Bounds, BoundsAdded, BoundsAdditions, BoundsPlaces, BoundsRoot, BoundsUnknown, BoundsValues}
use Rattle.oer_leaves.specs.Parts.{addition_octets, chosen_octets, counted_place, field_bits, field_octets, first_bits, is_kept, kept_place, known_bits, known_octets, place_bit, place_octets_of, root_octets, values_octets}
use Rattle.oer_leaves.proofs.Components.{count_of, extended_is, field_first, values_len}
use Rattle.oer_leaves.proofs.Places.{field_bits_first, marks_length, unknown_step}

pub nil : (n : ℕ) → 0 ≤ n
nil n = omega arith

-- ---- numbers and strings

short_length : (n : ℕ) → n < 2 ^ 64 → length (length_octets n) ≤ 9
short_length n h = ⊎_elim
    (λ l. omega (arith, ap length (length_octets_below n l)))
    (λ l. omega (arith, ap length (length_octets_above n l), length-unsigned_octets n, needed_least 8 n (omega arith) (omega arith)))
    (cases_lt n 128)

counted_few : (w : List ℕ) → length w < 2 ^ 64 → length (counted w) ≤ 9 + length w
counted_few w h = omega (arith, short_length (length w) h, length-append (length_octets (length w)) w)

counted_small : (w : List ℕ) → length w ≤ 16 → length (counted w) ≤ 17
counted_small w h = omega (arith, h, ap length (length_octets_below (length w) (omega arith)), length-append (length_octets (length w)) w)

signed_few : (z : ℤ) → FitsSigned w128 z → length (signed_octets z) ≤ 16
signed_few (pos n) h = let few : n < 2 ^ 127 = h.sfits in omega (arith, length-signed_octets (pos n) n (inl refl), needed_sixteen (2 * n) (omega (arith, few)))
signed_few (negsuc n) h = let few : n < 2 ^ 127 = h.sfits in omega (arith, length-signed_octets (negsuc n) n (inr refl), needed_sixteen (2 * n) (omega (arith, few)))

unsigned_few : (n : ℕ) → n < 2 ^ 128 → length (unsigned_octets n) ≤ 16
unsigned_few n h = omega (arith, length-unsigned_octets n, needed_sixteen n h)

-- a fixed form has few octets
abbrev IsSmall : Form → Type 0
IsSmall (unsigned_fixed k) = k ≤ 8
IsSmall (signed_fixed k) = k ≤ 8
IsSmall unsigned_counted = Unit {0}
IsSmall signed_counted = Unit {0}

either : (b : Bool) (f g : Form) → IsSmall f → IsSmall g → IsSmall (if b then f else g)
either true f g p q = p
either false f g p q = q

form_small : (low high : Option ℤ) → IsSmall (form_of low high)
unfolding form_of
form_small low high = either (low_from (pos 0) low) (unsigned_form high) (signed_form low high)
    (either (high_to (pos 255) high) _ _ (omega arith) (either (high_to (pos 65535) high) _ _ (omega arith) (either (high_to (pos 4294967295) high) _ _ (omega arith) (either (high_to (pos 18446744073709551615) high) _ _ (omega arith) tt))))
    (either (signed_within low high 7) _ _ (omega arith) (either (signed_within low high 15) _ _ (omega arith) (either (signed_within low high 31) _ _ (omega arith) (either (signed_within low high 63) _ _ (omega arith) tt))))

int_few : (f : Form) (z : ℤ) → IsSmall f → FitsSigned w128 z → length (integer_octets f z) ≤ 17
int_few (unsigned_fixed k) (pos n) s h = let e : length (integer_octets (unsigned_fixed k) (pos n)) ≡ k = length-big_endian k n in omega (arith, e, s)
int_few (unsigned_fixed k) (negsuc n) s h = nil 17
int_few (signed_fixed k) (pos n) s h = let e : length (integer_octets (signed_fixed k) (pos n)) ≡ k = length-big_endian k n in omega (arith, e, s)
int_few (signed_fixed k) (negsuc n) s h = let e : length (integer_octets (signed_fixed k) (negsuc n)) ≡ k = length-big_endian k (256 ^ k - suc n) in omega (arith, e, s)
int_few unsigned_counted (pos n) s h = let few : n < 2 ^ 127 = h.sfits in counted_small (unsigned_octets n) (unsigned_few n (omega (arith, few)))
int_few unsigned_counted (negsuc n) s h = nil 17
int_few signed_counted z s h = counted_small (signed_octets z) (signed_few z h)

either_few : (b : Bool) (n y : ℕ) (s : List ℕ) → length s ≤ 16 → length (cond b (n ∷ []) (y ∷ s)) ≤ 17
either_few true n y s h = omega arith
either_few false n y s h = omega (arith, h)

item_few : (z : ℤ) → FitsSigned w128 z → length (enumerated_octets z) ≤ 17
unfolding enumerated_octets
item_few (pos n) h = either_few (nat_lt n 128) n (128 + length (signed_octets (pos n))) (signed_octets (pos n)) (signed_few (pos n) h)
item_few (negsuc n) h = omega (arith, signed_few (negsuc n) h)

pub string_few : (o : Option ℕ) (w : List ℕ) → length w < 2 ^ 64 → length (string_octets o w) ≤ 9 + length w
string_few (Some n) w h = omega arith
string_few None w h = counted_few w h

-- a value that holds no other has no octets by a type that holds others
leaf_bound : (n : ℕ) (v : LeafValue) → ((kind : LeafType) → length (leaf_octets kind (leaf_value v)) ≤ n) → (T : AsnType) → length (canonical_octets T (leaf_value v)) ≤ n
leaf_bound n v h (leaf kind) = h kind
leaf_bound n v h (sequence fs) = nil n
leaf_bound n v h (extensible_sequence fs more) = nil n
leaf_bound n v h (sequence_of size U) = nil n
leaf_bound n v h (choice extensible more) = nil n

bool_leaf : (kind : LeafType) (x : Bool) → length (leaf_octets kind (bool x)) ≤ 1
bool_leaf kind.boolean x = omega arith
bool_leaf kind.object_id x = nil 1
bool_leaf _ x = nil 1

pub bool_bound : (T : AsnType) (x : Bool) → length (canonical_octets T (bool x)) ≤ 1
bool_bound T x = leaf_bound 1 (leaf_kind.bool x) (λ kind. bool_leaf kind x) T

null_leaf : (kind : LeafType) → length (leaf_octets kind nothing) ≤ 0
null_leaf kind.null = nil 0
null_leaf kind.object_id = nil 0
null_leaf _ = nil 0

pub null_bound : (T : AsnType) → length (canonical_octets T nothing) ≤ 0
null_bound T = leaf_bound 0 leaf_kind.nothing null_leaf T

int_leaf : (kind : LeafType) (z : ℤ) → FitsSigned w128 z → length (leaf_octets kind (int z)) ≤ 17
int_leaf (kind.integer low high) z h = int_few (form_of low high) z (form_small low high) h
int_leaf kind.object_id z h = nil 17
int_leaf _ z h = nil 17

pub int_bound : (T : AsnType) (z : ℤ) → FitsSigned w128 z → length (canonical_octets T (int z)) ≤ 17
int_bound T z h = leaf_bound 17 (leaf_kind.int z) (λ kind. int_leaf kind z h) T

item_leaf : (kind : LeafType) (z : ℤ) → FitsSigned w128 z → length (leaf_octets kind (enum z)) ≤ 17
item_leaf (kind.enumerated numbers extensible) z h = item_few z h
item_leaf kind.object_id z h = nil 17
item_leaf _ z h = nil 17

pub item_bound : (T : AsnType) (z : ℤ) → FitsSigned w128 z → length (canonical_octets T (enum z)) ≤ 17
item_bound T z h = leaf_bound 17 (leaf_kind.enum z) (λ kind. item_leaf kind z h) T

octets_leaf : (kind : LeafType) (w : List ℕ) → length w < 2 ^ 64 → length (leaf_octets kind (octets w)) ≤ 9 + length w
octets_leaf (kind.octet_string size) w h = string_few (fixed size) w h
octets_leaf _ w h = nil (9 + length w)

bitmap_few : (s : List Bool) → length s / 8 + 2 < 2 ^ 64 → length (bitmap_octets s) ≤ 11 + length s / 8
unfolding bitmap_octets octets_for
bitmap_few s h =
    let w = spare_bits (length s) ∷ padded s in
    let is : length (padded s) ≡ octets_for (length s) = length-padded s in
    omega (arith, is, counted_few w (omega (arith, is)))

bits_few_octets : (o : Option ℕ) (s : List Bool) → length s < 2 ^ 64 → length (bit_octets o s) ≤ 11 + length s / 8
unfolding octets_for
bits_few_octets (Some n) s h = omega (arith, length-padded s)
bits_few_octets None s h = bitmap_few s (omega (arith, h))

bits_leaf : (kind : LeafType) (s : List Bool) → length s < 2 ^ 64 → length (leaf_octets kind (bit_list s)) ≤ 11 + length s / 8
bits_leaf (kind.bit_string size) s h = bits_few_octets (fixed size) s h
bits_leaf kind.object_id s h = nil (11 + length s / 8)
bits_leaf _ s h = nil (11 + length s / 8)

pub bits_bound : (T : AsnType) (s : List Bool) → length s < 2 ^ 64 → length (canonical_octets T (bit_list s)) ≤ 11 + length s / 8
bits_bound T s h = leaf_bound (11 + length s / 8) (leaf_kind.bit_list s) (λ kind. bits_leaf kind s h) T

pub octets_bound : (T : AsnType) (w : List ℕ) → length w < 2 ^ 64 → length (canonical_octets T (octets w)) ≤ 9 + length w
octets_bound T w h = leaf_bound (9 + length w) (leaf_kind.octets w) (λ kind. octets_leaf kind w h) T

text_leaf : (kind : LeafType) (w : List ℕ) → length w < 2 ^ 64 → length (leaf_octets kind (text w)) ≤ 9 + length w
text_leaf (kind.restricted_string letters size) w h = string_few (fixed size) w h
text_leaf (kind.utf8_string size) w h = counted_few w h
text_leaf _ w h = nil (9 + length w)

pub text_bound : (T : AsnType) (w : List ℕ) → length w < 2 ^ 64 → length (canonical_octets T (text w)) ≤ 9 + length w
text_bound T w h = leaf_bound (9 + length w) (leaf_kind.text w) (λ kind. text_leaf kind w h) T

-- ---- object identifiers

upper_few : (k n : ℕ) → n < 128 ^ k → length (upper n) ≤ k
upper_few zero n h = let none : n ≡ 0 = omega arith in omega (arith, ap (λ m. length (upper m)) none)
upper_few (suc k) zero h = nil (suc k)
upper_few (suc k) (suc m) h =
    let power : 128 ^ suc k ≡ 128 ^ k * 128 = pow-suc 128 k in
    omega (arith, count_step (suc m) (omega arith), upper_few k (suc m / 128) (omega (arith, power, h)))

arc_few : (k n : ℕ) → n / 128 < 128 ^ k → length (base128_octets n) ≤ suc k
arc_few k n h = omega (arith, count_first n, upper_few k (n / 128) h)

arcs_few : (xs : List ℕ) → ((k : ℕ) → get_or xs k 0 < 2 ^ 128) → length (subidentifier_octets xs) ≤ length xs * 19
arcs_few [] h = nil (0 * 19)
arcs_few (x ∷ xs) h =
    let one : x < 2 ^ 128 = h 0 in
    omega (arith, length-append (base128_octets x) (subidentifier_octets xs), arc_few 18 x (omega (arith, one)), arcs_few xs (λ k. h (suc k)))

object_few : (w : List ℕ) → ((k : ℕ) → get_or w k 0 < 2 ^ 128) → length (object_id_octets w) ≤ length w * 19
object_few [] h = nil (0 * 19)
object_few (a ∷ []) h = nil (1 * 19)
object_few (a ∷ b ∷ rest) h =
    let first : a < 2 ^ 128 = h 0 in
    let second : b < 2 ^ 128 = h 1 in
    omega (arith, length-append (base128_octets (40 * a + b)) (subidentifier_octets rest), arc_few 19 (40 * a + b) (omega (arith, first, second)), arcs_few rest (λ k. h (suc (suc k))))

oid_leaf : (kind : LeafType) (w : List ℕ) (m : ℕ) → length (object_id_octets w) ≤ m → m < 2 ^ 64 → length (leaf_octets kind (oid w)) ≤ 9 + m
oid_leaf kind.object_id w m h few = omega (arith, h, counted_few (object_id_octets w) (omega (arith, h, few)))
oid_leaf _ w m h few = nil (9 + m)

pub oid_bound : (T : AsnType) (w : List ℕ) (m : ℕ) → ((k : ℕ) → get_or w k 0 < 2 ^ 128) → m ≡ length w * 19 → m < 2 ^ 64 → length (canonical_octets T (oid w)) ≤ 9 + m
oid_bound T w m below is few = leaf_bound (9 + m) (leaf_kind.oid w) (λ kind. oid_leaf kind w m (omega (arith, is, object_few w below)) few) T

-- nor has a value that holds others, by a type that holds none
seq_none : (kind : LeafType) (ps qs : Places) (us : List Unknown) → leaf_octets kind (seq ps qs us) ≡ []
seq_none kind.null ps qs us = refl
seq_none _ ps qs us = refl

items_none : (kind : LeafType) (vs : Values) → leaf_octets kind (items vs) ≡ []
items_none kind.null vs = refl
items_none _ vs = refl

chosen_none : (kind : LeafType) (t : Tag) (v : AsnValue) → leaf_octets kind (chosen t v) ≡ []
chosen_none kind.null t v = refl
chosen_none _ t v = refl

foreign_none : (kind : LeafType) (t : Tag) (w : List ℕ) → leaf_octets kind (foreign t w) ≡ []
foreign_none kind.null t w = refl
foreign_none _ t w = refl

pub foreign_bound : (T : AsnType) (t : Tag) (w : List ℕ) → length w < 2 ^ 64 → length (canonical_octets T (foreign t w)) ≤ length (tag_octets t) + 9 + length w
foreign_bound (leaf kind) t w h = omega (arith, ap length (foreign_none kind t w))
foreign_bound (sequence fs) t w h = nil (length (tag_octets t) + 9 + length w)
foreign_bound (extensible_sequence fs more) t w h = nil (length (tag_octets t) + 9 + length w)
foreign_bound (sequence_of size U) t w h = nil (length (tag_octets t) + 9 + length w)
foreign_bound (choice extensible more) t w h = omega (arith, length-append (tag_octets t) (counted w), counted_few w h)

pub null_most : (done : ℕ) → Bounds done nothing (Some done)
null_most done = λ T. omega (arith, null_bound T)

-- by so many octets
pub most : (o : Option ℕ) (done k : ℕ) (v : AsnValue) → IfSome o (λ n. n ≡ done + k) → ((T : AsnType) → length (canonical_octets T v) ≤ k) → Bounds done v o
most None done k v is h = is
most (Some n) done k v is h = λ T. omega (arith, is, h T)

pub more_most : (o : Option ℕ) (done mid j k : ℕ) (v : AsnValue) → mid ≡ done + j → IfSome o (λ n. n ≡ mid + k) → ((T : AsnType) → length (canonical_octets T v) ≤ j + k) → Bounds done v o
more_most None done mid j k v e is h = is
more_most (Some n) done mid j k v e is h = λ T. omega (arith, e, is, h T)

-- ---- components

pub kept_few : (need : Need) (T : AsnType) (p : Option AsnValue) → length (place_octets_of T (kept_place need T p)) ≤ length (place_octets_of T p)
kept_few need T None = nil 0
kept_few need T (Some v) = by (is_kept need T v)
  where
    by : (b : Bool) → length (place_octets_of T (if b then Some v else None)) ≤ length (place_octets_of T (Some v))
    by true = omega arith
    by false = nil (length (place_octets_of T (Some v)))

bit_few : (need : Need) (p : Option AsnValue) → length (place_bit need p) ≤ 1
bit_few must p = nil 1
bit_few may p = omega arith
bit_few (default d) p = omega arith

bits_few : (fs : Fields) (ps : List (Option AsnValue)) → length (field_bits fs (places_from ps)) ≤ length ps
bits_few no_fields ps = nil (length ps)
bits_few (field n need T fs) [] = nil 0
bits_few (field n need T fs) (p ∷ ps) = omega (arith, ap length (field_bits_first n need T fs p ps), length-append (place_bit need (kept_place need T p)) (field_bits fs (places_from ps)), bit_few need (kept_place need T p), bits_few fs ps)

first_few : (first : Option Bool) → length (first_bits first) ≤ 1
first_few None = nil 1
first_few (Some x) = omega arith

pub root_few : (first : Option Bool) (fs : Fields) (xs : List (Option Value)) → length (root_octets first fs (places_of xs)) ≤ length xs / 8 + 1 + length (field_octets fs (places_of xs))
unfolding octets_for
root_few first fs xs =
    let a = first_bits first in
    let b = field_bits fs (places_of xs) in
    omega (arith, length-append (padded (a ++ b)) (field_octets fs (places_of xs)), length-padded (a ++ b), length-append a b, first_few first, bits_few fs (map (option_map value_of) xs), length-map xs (option_map value_of))

-- through a loop: by some of the components are those that are left
abbrev pub LeftPlaces : ℕ → Places → ℕ → Places → Type 0
LeftPlaces start whole done rest = (fs : Fields) → (gs : Fields) × (start + length (field_octets fs whole) ≤ done + length (field_octets gs rest))

pub places_start : (start : ℕ) (whole : Places) → LeftPlaces start whole start whole
places_start start whole = λ fs. (fs, omega arith)

pub places_more : (start done n : ℕ) (whole : Places) (xs : List (Option Value)) (i : ℕ) (p : Option Value) → i < length xs → p ≡ get_or xs i p → LeftPlaces start whole done (places_of (drop i xs)) → ((T : AsnType) → done + length (place_octets_of T (option_map value_of p)) ≤ n) → LeftPlaces start whole n (places_of (drop (i + 1) xs))
places_more start done n whole xs i p h is left more = λ fs. go fs (left fs).0 (left fs).1
  where
    rest : List (Option Value)
    rest = drop (i + 1) xs

    go : (fs gs : Fields) → start + length (field_octets fs whole) ≤ done + length (field_octets gs (places_of (drop i xs))) → (hs : Fields) × (start + length (field_octets fs whole) ≤ n + length (field_octets hs (places_of rest)))
    go fs no_fields k = let none : length (field_octets no_fields (places_of (drop i xs))) ≡ 0 = refl in (no_fields, omega (arith, k, none, more (leaf kind.null)))
    go fs (field name need T gs) k =
        let q = option_map value_of p in
        let is_first = ap (λ l. field_octets (field name need T gs) (places_of l)) (drop_more xs i p h ∙ ap (λ y. y ∷ rest) (sym is)) ∙ field_first name need T gs q (map (option_map value_of) rest) in
        (gs, omega (arith, k, ap length is_first, length-append (place_octets_of T (kept_place need T q)) (field_octets gs (places_of rest)), kept_few need T q, more T))

none_left : (gs : Fields) → field_octets gs no_places ≡ []
none_left no_fields = refl
none_left (field name need T gs) = refl

pub places_end : (start done : ℕ) (whole : Places) (xs : List (Option Value)) (i : ℕ) → length xs ≤ i → LeftPlaces start whole done (places_of (drop i xs)) → (fs : Fields) → start + length (field_octets fs whole) ≤ done
places_end start done whole xs i h left fs =
    let gs = (left fs).0 in
    let none : field_octets gs (places_of (drop i xs)) ≡ [] = ap (λ l. field_octets gs (places_of l)) (drop_all i xs h) ∙ none_left gs in
    omega (arith, (left fs).1, ap length none)

pub root_bounds : (o : Option ℕ) (done mid : ℕ) (xs : List (Option Value)) → mid ≡ done + (length xs / 8 + 1) → BoundsPlaces mid (places_of xs) o → BoundsRoot done (places_of xs) o
root_bounds None done mid xs is h = h
root_bounds (Some n) done mid xs is h = λ first fs. omega (arith, is, root_few first fs xs, h fs)

-- ---- additions

known_few : (more : Additions) (ps : List (Option AsnValue)) → length (known_bits more (places_from ps)) ≤ length ps
known_few no_additions ps = nil (length ps)
known_few (addition n T more) [] = nil 0
known_few (addition n T more) (None ∷ ps) = omega (arith, known_few more ps)
known_few (addition n T more) (Some v ∷ ps) = omega (arith, known_few more ps)

known_first : (n : List ℕ) (T : AsnType) (more : Additions) (p : Option AsnValue) (ps : List (Option AsnValue)) → known_octets (addition n T more) (places_from (p ∷ ps)) ≡ counted_place T p ++ known_octets more (places_from ps)
known_first n T more None ps = refl
known_first n T more (Some v) ps = refl

-- through a loop: by some of the additions are those that are left
abbrev pub LeftAdded : ℕ → Places → ℕ → Places → Type 0
LeftAdded start whole done rest = (more : Additions) → (less : Additions) × (start + length (known_octets more whole) ≤ done + length (known_octets less rest))

pub added_start : (start : ℕ) (whole : Places) → LeftAdded start whole start whole
added_start start whole = λ more. (more, omega arith)

pub added_more : (start done n : ℕ) (whole : Places) (xs : List (Option Value)) (i : ℕ) (p : Option Value) → i < length xs → p ≡ get_or xs i p → LeftAdded start whole done (places_of (drop i xs)) → ((T : AsnType) → done + length (counted_place T (option_map value_of p)) ≤ n) → LeftAdded start whole n (places_of (drop (i + 1) xs))
added_more start done n whole xs i p h is left more = λ all. go all (left all).0 (left all).1
  where
    rest : List (Option Value)
    rest = drop (i + 1) xs

    go : (all some : Additions) → start + length (known_octets all whole) ≤ done + length (known_octets some (places_of (drop i xs))) → (less : Additions) × (start + length (known_octets all whole) ≤ n + length (known_octets less (places_of rest)))
    go all no_additions k = let none : length (known_octets no_additions (places_of (drop i xs))) ≡ 0 = refl in (no_additions, omega (arith, k, none, more (leaf kind.null)))
    go all (addition name T less) k =
        let q = option_map value_of p in
        let is_first = ap (λ l. known_octets (addition name T less) (places_of l)) (drop_more xs i p h ∙ ap (λ y. y ∷ rest) (sym is)) ∙ known_first name T less q (map (option_map value_of) rest) in
        (less, omega (arith, k, ap length is_first, length-append (counted_place T q) (known_octets less (places_of rest)), more T))

no_more : (less : Additions) → known_octets less no_places ≡ []
no_more no_additions = refl
no_more (addition name T less) = refl

pub added_end : (start done : ℕ) (whole : Places) (xs : List (Option Value)) (i : ℕ) → length xs ≤ i → LeftAdded start whole done (places_of (drop i xs)) → (more : Additions) → start + length (known_octets more whole) ≤ done
added_end start done whole xs i h left more =
    let less = (left more).0 in
    let none : known_octets less (places_of (drop i xs)) ≡ [] = ap (λ l. known_octets less (places_of l)) (drop_all i xs h) ∙ no_more less in
    omega (arith, (left more).1, ap length none)

-- the value of an addition after its length
pub one_added : (done mid n : ℕ) (v : AsnValue) → mid ≡ done + 9 → n < 2 ^ 64 → ((T : AsnType) → mid + length (canonical_octets T v) ≤ n) → (T : AsnType) → done + length (counted (canonical_octets T v)) ≤ n
one_added done mid n v is few h T = omega (arith, is, h T, counted_few (canonical_octets T v) (omega (arith, h T, few)))

-- the bits and the octets of unknown additions from a place on, in bits
abbrev unknown_size : ℕ → List Unknown → ℕ
unknown_size next us = length (unknown_marks next us) + 8 * length (unknown_octets us)

-- through a loop: from some place on are those that are left
abbrev pub LeftUnknown : ℕ → List Unknown → ℕ → List Unknown → Type 0
LeftUnknown start whole done rest = (next : ℕ) → (after : ℕ) × (8 * start + unknown_size next whole ≤ 8 * done + unknown_size after rest)

pub unknown_start : (start : ℕ) (whole : List Unknown) → LeftUnknown start whole start whole
unknown_start start whole = λ next. (next, omega arith)

pub unknown_more : (start done n : ℕ) (whole : List Unknown) (xs : List rust_unknown.Unknown) (i : ℕ) (x : rust_unknown.Unknown) → i < length xs → x ≡ get_or xs i x → length x.octets.items < 2 ^ 64 → n ≡ done + (x.place / 8 + 10) + length x.octets.items → LeftUnknown start whole done (map unknown_of (drop i xs)) → LeftUnknown start whole n (map unknown_of (drop (i + 1) xs))
unknown_more start done n whole xs i x h is few e left = λ next.
    let rest = drop (i + 1) xs in
    let w = x.octets.items in
    let from = (left next).0 in
    let marks : length (unknown_marks from (map unknown_of (drop i xs))) ≡ (x.place - from) + suc (length (unknown_marks (suc x.place) (map unknown_of rest))) = marks_length xs i from x h ∙ ap (λ (y : rust_unknown.Unknown). (y.place - from) + suc (length (unknown_marks (suc y.place) (map unknown_of rest)))) (sym is) in
    let octs = ap length (unknown_step xs i x w h is refl) in
    (suc x.place, omega (arith, (left next).1, marks, e, octs, length-append (counted w) (unknown_octets (map unknown_of rest)), counted_few w few))

pub unknown_end : (start done : ℕ) (whole : List Unknown) (xs : List rust_unknown.Unknown) (i : ℕ) → length xs ≤ i → LeftUnknown start whole done (map unknown_of (drop i xs)) → (next : ℕ) → 8 * start + unknown_size next whole ≤ 8 * done
unknown_end start done whole xs i h left next =
    let none : unknown_size (left next).0 (map unknown_of (drop i xs)) ≡ 0 = ap (λ l. unknown_size (left next).0 (map unknown_of l)) (drop_all i xs h) in
    omega (arith, (left next).1, none)

pub additions_bounds : (o : Option ℕ) (done mid last : ℕ) (xs : List (Option Value)) (us : List Unknown) → IfSome o (λ n. n < 2 ^ 64) → mid ≡ done + (length xs / 8 + 11) → BoundsAdded mid (places_of xs) (Some last) → BoundsUnknown last us o → BoundsAdditions done (places_of xs) us o
additions_bounds None done mid last xs us few m a h = h
additions_bounds (Some n) done mid last xs us few m a h = λ more.
    let known = known_bits more (places_of xs) in
    let marks = unknown_marks (addition_count more) us in
    let octs = known_octets more (places_of xs) in
    let rest = unknown_octets us in
    let bits : length (known ++ marks) ≤ length xs + length marks = omega (arith, length-append known marks, known_few more (map (option_map value_of) xs), length-map xs (option_map value_of)) in
    let left : done + (length xs / 8 + 11) + length octs ≤ last = omega (arith, m, a more) in
    let map_few : length (bitmap_octets (known ++ marks)) ≤ 11 + length (known ++ marks) / 8 = bitmap_few (known ++ marks) (omega (arith, bits, left, few, h (addition_count more))) in
    omega (arith, bits, left, map_few, h (addition_count more), length-append (bitmap_octets (known ++ marks)) (octs ++ rest), length-append octs rest)

extension_few : (x : Bool) (w : List ℕ) → length (extension_octets x w) ≤ length w
extension_few true w = omega arith
extension_few false w = nil (length w)

pub extended_few : (fs : Fields) (more : Additions) (ps qs : Places) (us : List Unknown) → (x : Bool) × (length (canonical_octets (extensible_sequence fs more) (seq ps qs us)) ≤ length (root_octets (Some x) fs ps) + length (addition_octets more qs us))
extended_few fs more ps qs us =
    let x = any_present qs || any_unknown us in
    let octs = extension_octets x (addition_octets more qs us) in
    (x, omega (arith, ap length (extended_is fs more ps qs us x refl), length-append (root_octets (Some x) fs ps) octs, extension_few x (addition_octets more qs us)))

pub seq_bounds : (o : Option ℕ) (done mid : ℕ) (ps qs : Places) (us : List Unknown) → BoundsRoot done ps (Some mid) → BoundsAdditions mid qs us o → Bounds done (seq ps qs us) o
seq_bounds None done mid ps qs us h a = a
seq_bounds (Some n) done mid ps qs us h a = go
  where
    less : done + 0 ≤ n
    less = omega (arith, h None no_fields, a no_additions)

    go : (T : AsnType) → done + length (canonical_octets T (seq ps qs us)) ≤ n
    go (leaf kind) = omega (arith, less, ap length (seq_none kind ps qs us))
    go (sequence fs) = let e : length (canonical_octets (sequence fs) (seq ps qs us)) ≡ length (root_octets None fs ps) = refl in omega (arith, e, h None fs, a no_additions)
    go (extensible_sequence fs more) = let two = extended_few fs more ps qs us in omega (arith, two.1, h (Some two.0) fs, a more)
    go (sequence_of size U) = less
    go (choice extensible more) = less

-- ---- elements

-- through a loop
abbrev pub LeftValues : ℕ → Values → ℕ → Values → Type 0
LeftValues start whole done rest = (T : AsnType) → start + length (values_octets T whole) ≤ done + length (values_octets T rest)

pub values_more : (start done n : ℕ) (whole : Values) (vs : List Value) (i : ℕ) (v : Value) → i < length vs → v ≡ get_or vs i v → LeftValues start whole done (values_of (drop i vs)) → ((T : AsnType) → done + length (canonical_octets T (value_of v)) ≤ n) → LeftValues start whole n (values_of (drop (i + 1) vs))
values_more start done n whole vs i v h is left more = λ T. omega (arith, left T, more T, values_len T vs i v h is)

pub values_end : (start done : ℕ) (whole : Values) (vs : List Value) (i : ℕ) → length vs ≤ i → LeftValues start whole done (values_of (drop i vs)) → (T : AsnType) → start + length (values_octets T whole) ≤ done
values_end start done whole vs i h left T = omega (arith, left T, ap length (ap (λ l. values_octets T (values_of l)) (drop_all i vs h)))

pub value_of-Bool : (x : Bool) → value_of (value.Bool x) ≡ bool x
value_of-Bool x = search (rules, value.the_lemmas)

-- a BOOLEAN among them
pub boolean_more : (start : ℕ) (whole : Values) (vs : List Value) (i : ℕ) (v : Value) (x : Bool) → i < length vs → v ≡ get_or vs i v → v ≡ value.Bool x → LeftValues start whole (start + i) (values_of (drop i vs)) → LeftValues start whole (start + (i + 1)) (values_of (drop (i + 1) vs))
boolean_more start whole vs i v x h is e left =
    values_more start (start + i) (start + (i + 1)) whole vs i v h is left (λ T. omega (arith, ap (λ y. length (canonical_octets T y)) (ap value_of e ∙ value_of-Bool x), bool_bound T x))

pub list_bounds : (o : Option ℕ) (done mid : ℕ) (vs : List Value) → mid ≡ done + length (counted (unsigned_octets (length vs))) → BoundsValues mid (values_of vs) o → Bounds done (items (values_of vs)) o
list_bounds None done mid vs m h = h
list_bounds (Some n) done mid vs m h = go
  where
    less : done + 0 ≤ n
    less = omega (arith, m, h (leaf kind.null))

    go : (T : AsnType) → done + length (canonical_octets T (items (values_of vs))) ≤ n
    go (leaf kind) = omega (arith, less, ap length (items_none kind (values_of vs)))
    go (sequence fs) = less
    go (extensible_sequence fs more) = less
    go (sequence_of size U) = let e = ap (λ k. length (counted (unsigned_octets k) ++ values_octets U (values_of vs))) (count_of U vs) in omega (arith, e, m, length-append (counted (unsigned_octets (length vs))) (values_octets U (values_of vs)), h U)
    go (choice extensible more) = less

-- ---- alternatives

alternative_few : (more : Alternatives) (t : Tag) (v : AsnValue) (m : ℕ) → ((T : AsnType) → length (canonical_octets T v) ≤ m) → m < 2 ^ 64 → length (chosen_octets more t v) ≤ 9 + m
alternative_few no_alternatives t v m h few = nil (9 + m)
alternative_few (alternative name u T more) t v m h few = by (same_tag u t) refl (alternative_few more t v m h few)
  where
    by : (b : Bool) → same_tag u t ≡ b → length (chosen_octets more t v) ≤ 9 + m → length (chosen_octets (alternative name u T more) t v) ≤ 9 + m
    by true e k = rw (e) (omega (arith, h T))
    by false e k = rw (e) k
alternative_few (later name u T more) t v m h few = by (same_tag u t) refl (alternative_few more t v m h few)
  where
    by : (b : Bool) → same_tag u t ≡ b → length (chosen_octets more t v) ≤ 9 + m → length (chosen_octets (later name u T more) t v) ≤ 9 + m
    by true e k = rw (e) (omega (arith, h T, counted_few (canonical_octets T v) (omega (arith, h T, few))))
    by false e k = rw (e) k

pub chosen_bounds : (o : Option ℕ) (done mid : ℕ) (t : Tag) (v : AsnValue) → IfSome o (λ n. n < 2 ^ 64) → mid ≡ done + length (tag_octets t) + 9 → Bounds mid v o → Bounds done (chosen t v) o
chosen_bounds None done mid t v few m h = h
chosen_bounds (Some n) done mid t v few m h = go
  where
    less : done + 0 ≤ n
    less = omega (arith, m, h (leaf kind.null))

    go : (T : AsnType) → done + length (canonical_octets T (chosen t v)) ≤ n
    go (leaf kind) = omega (arith, less, ap length (chosen_none kind t v))
    go (sequence fs) = less
    go (extensible_sequence fs more) = less
    go (sequence_of size U) = less
    go (choice extensible more) = let e : length (canonical_octets (choice extensible more) (chosen t v)) ≡ length (tag_octets t ++ chosen_octets more t v) = refl in omega (arith, e, m, length-append (tag_octets t) (chosen_octets more t v), alternative_few more t v (n - mid) (λ T. omega (arith, h T)) (omega (arith, few)), h (leaf kind.null))
