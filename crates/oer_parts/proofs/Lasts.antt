-- What stands last takes all that is left.
use Rattle.std.proofs.Common.{◌≡◌, arith, ℕ, zero, suc, ◌+◌, ◌-◌, ◌<◌, Bool, true, false, not, ◌&&◌, List, [], ◌∷◌, length, take, drop, get_or, Some, refl, sym, ap, ap₂, ◌∙◌, add-one, eqb, length-drop, string_bytes}
use Rattle.std.proofs.lemmas.Bool.{eqb-true}
use Rattle.std.proofs.lemmas.List.{take_all}
use Rattle.oer_units.specs.declared.tagging.Tag.{Tag}
use Rattle.oer_units.specs.Reader.{Outcome, Place, Reader, at, got, refused}
use Rattle.oer_units.specs.Reading.{tag}
use Rattle.oer_units.proofs.Closure.{got_place}
use Rattle.oer_model.specs.AsnType.{Alternatives, AsnType, Fields, Need, choice, default, may, must, no_alternatives, sequence, sequence_of}
use Rattle.oer_model.specs.Canonical.{canonical_octets}
use Rattle.oer_model.specs.Checking.{check_alternative, check_fields, check_times, check_value}
use Rattle.oer_model.specs.Constraints.{optional}
use Rattle.oer_model.specs.Parts.{octets_of}
use Rattle.oer_model.specs.Reading.{preamble}
use Rattle.oer_model.specs.SharedSteps.{bits_left, is_there}
use Rattle.oer_values.specs.Lookup.{IsFirst}
use Rattle.oer_values.specs.ShapeView.{fields_of, need_of, root_of, type_of}
use Rattle.oer_values.specs.declared.shape.Alt.{Alt}
use Rattle.oer_values.specs.declared.shape.Field.{Field}
use Rattle.oer_model.specs.declared.size.Size.{Size}
use Rattle.oer_checker.specs.Steps.{and_after, between, check_if, check_there, got_both, sized_quantity}
use Rattle.oer_checker.proofs.FieldSteps.{field_is, items_then, sequence_then}
use Rattle.oer_checker.proofs.TagSteps.{choice_root, first_value}
use Rattle.oer_parts.specs.Last.{TakesAll, none_there}
use Rattle.oer_parts.specs.Walk.{IsGot, read_in}
use Rattle.oer_parts.proofs.Entries.{Ends, both_ends}
use Rattle.oer_parts.proofs.Pairs.{unlike_got, value_read}
use Rattle.oer_parts.proofs.Walks.{bits_after, nothing}

-- where the last octet is taken, something is read
abbrev pub was_read : {A : Type 0} (o : Outcome A) → TakesAll o → IsGot o
was_read o (x, e) = (x, at [] 0, e)

pub last_read : (c : Reader Bool) (p : Place) → TakesAll (c p) → Some p.input ≡ read_in (octets_of c p)
last_read c p (f, e) =
    let all : p.input ≡ between p (at [] 0) = sym (take_all (length p.input - 0) p.input (omega arith)) in
    value_read c p (at [] 0) f p.input e all

-- ---- components

pub not_true : (b : Bool) → not b ≡ true → b ≡ false
not_true true e = absurd (cc)
not_true false e = refl

not_left : (b x : Bool) → (not b && x) ≡ true → b ≡ false
not_left true x e = absurd (cc)
not_left false x e = refl

pub not_right : (b x : Bool) → (not b && x) ≡ true → x ≡ true
not_right true x e = absurd (cc)
not_right false x e = e

value_there : (need : Need) (T : AsnType) (p q : Place) (f : Bool) → got f q ≡ check_there need T p → Ends (check_value T p) q
value_there must T p q f e = (f, e)
value_there may T p q f e = (f, e)
value_there (default d) T p q f e = unlike_got (canonical_octets T d) (check_value T) p q f e

-- one component, and those after it
abbrev one : Field → List Bool → Reader Bool
one x s = check_if (is_there (need_of x.need) s) (check_there (need_of x.need) (type_of x.shape))

abbrev others : Field → List Field → List Bool → Reader Bool
others x xs s = check_fields (fields_of xs) (bits_left (need_of x.need) s)

first_ends : (x : Field) (xs : List Field) (s : List Bool) (p q : Place) (f : Bool) → got f q ≡ check_fields (fields_of (x ∷ xs)) s p
    → (g : Bool) × (r : Place) × (h : Bool) × (got g r ≡ one x s p) × (got h q ≡ others x xs s r)
first_ends x xs s p q f e = both_ends (one x s) (others x xs s) p q f (e ∙ sym (field_is (string_bytes x.name) (need_of x.need) (type_of x.shape) (fields_of xs) s p))

-- those that aren't there take nothing
none_taken : (xs : List Field) (s : List Bool) (p q : Place) (f : Bool) → none_there (fields_of xs) s ≡ true → got f q ≡ check_fields (fields_of xs) s p → p ≡ q
none_taken [] s p q f none e = nothing p q f e
none_taken (x ∷ xs) s p q f none e =
    let need = need_of x.need in
    let rest = none_there (fields_of xs) (bits_left need s) in
    let o = first_ends x xs s p q f e in
    let absent = not_left (is_there need s) rest none in
    let here : p ≡ o.1 = nothing p o.1 o.0 (o.3 ∙ ap (λ (b : Bool). check_if b (check_there need (type_of x.shape)) p) absent) in
    here ∙ none_taken xs (bits_left need s) o.1 q o.2 (not_right (is_there need s) rest none) o.4

-- the first one ends where all do, if no other is there
first_last : (x : Field) (xs : List Field) (s : List Bool) (p q : Place) (f : Bool) → got f q ≡ check_fields (fields_of (x ∷ xs)) s p → is_there (need_of x.need) s ≡ true → none_there (fields_of xs) (bits_left (need_of x.need) s) ≡ true
    → Ends (check_value (type_of x.shape) p) q
first_last x xs s p q f e there none =
    let o = first_ends x xs s p q f e in
    let end : o.1 ≡ q = none_taken xs (bits_left (need_of x.need) s) o.1 q o.2 none o.4 in
    let read : got o.0 o.1 ≡ check_there (need_of x.need) (type_of x.shape) p = o.3 ∙ ap (λ (b : Bool). check_if b (check_there (need_of x.need) (type_of x.shape)) p) there in
    value_there (need_of x.need) (type_of x.shape) p q o.0 (ap (λ (t : Place). got o.0 t) (sym end) ∙ read)

-- the bits from those of the component with the number i on
abbrev pub bits_from : List Field → ℕ → List Bool → List Bool
bits_from xs i s = drop (optional (fields_of (take i xs))) s

-- r: where those before it end
field_last : (xs : List Field) (i : ℕ) (s : List Bool) (x : Field) (p q r : Place) (f g : Bool) → got f q ≡ check_fields (fields_of xs) s p → got g r ≡ check_fields (fields_of (take i xs)) s p → i < length xs → x ≡ get_or xs i x
    → is_there (need_of x.need) (bits_from xs i s) ≡ true → none_there (fields_of (drop (suc i) xs)) (bits_left (need_of x.need) (bits_from xs i s)) ≡ true → Ends (check_value (type_of x.shape) r) q
field_last [] i s x p q r f g e h less is there none = absurd (omega arith)
field_last (y ∷ xs) zero s x p q r f g e h less is there none =
    let start : p ≡ r = nothing p r g h in
    let whole : got f q ≡ check_fields (fields_of (x ∷ xs)) s r = e ∙ ap₂ (λ (z : Field) (t : Place). check_fields (fields_of (z ∷ xs)) s t) (sym is) start in
    first_last x xs s r q f whole there none
field_last (y ∷ xs) (suc i) s x p q r f g e h less is there none =
    let t = bits_left (need_of y.need) s in
    let o = first_ends y xs s p q f e in
    let m = first_ends y (take i xs) s p r g h in
    let same : m.1 ≡ o.1 = got_place m.0 o.0 m.1 o.1 (m.3 ∙ sym o.3) in
    let front : got m.2 r ≡ check_fields (fields_of (take i xs)) t o.1 = m.4 ∙ ap (λ (z : Place). check_fields (fields_of (take i xs)) t z) same in
    let bits : bits_from (y ∷ xs) (suc i) s ≡ bits_from xs i t = bits_after (need_of y.need) (optional (fields_of (take i xs))) s in
    field_last xs i t x o.1 q r o.2 m.2 o.4 front (omega arith) is
    (sym (ap (λ (l : List Bool). is_there (need_of x.need) l) bits) ∙ there)
    (sym (ap (λ (l : List Bool). none_there (fields_of (drop (suc i) xs)) (bits_left (need_of x.need) l)) bits) ∙ none)

-- the same as the program finds it: bits: those from its own on; later: those after it
pub field_rest : (xs : List Field) (i : ℕ) (s : List Bool) (x : Field) (p r : Place) (g : Bool) (bits later : List Bool) → TakesAll (check_fields (fields_of xs) s p) → got g r ≡ check_fields (fields_of (take i xs)) s p → i < length xs → x ≡ get_or xs i x
    → bits ≡ bits_from xs i s → is_there (need_of x.need) bits ≡ true → later ≡ bits_left (need_of x.need) bits → true ≡ none_there (fields_of (take (length xs - (i + 1)) (drop (i + 1) xs))) later → TakesAll (check_value (type_of x.shape) r)
field_rest xs i s x p r g bits later (f, e) h less is from there left none =
    let after : take (length xs - (i + 1)) (drop (i + 1) xs) ≡ drop (suc i) xs = take_all (length xs - (i + 1)) (drop (i + 1) xs) (omega (arith, length-drop (i + 1) xs)) ∙ ap (λ (k : ℕ). drop k xs) (add-one i) in
    field_last xs i s x p (at [] 0) r f g e h less is
    (sym (ap (λ (l : List Bool). is_there (need_of x.need) l) from) ∙ there)
    (sym (ap₂ (λ (l : List Field) (b : List Bool). none_there (fields_of l) b) after (left ∙ ap (λ (l : List Bool). bits_left (need_of x.need) l) from)) ∙ sym none)

-- a root without an extension marker is all
pub closed_all : (T : AsnType) (fs : Fields) (is : T ≡ sequence fs) (p q : Place) (s : List Bool) → TakesAll (check_value T p) → got s q ≡ preamble (optional fs) p → TakesAll (check_fields fs s q)
closed_all T fs is p q s (f, e) h = (f, e ∙ ap (λ (U : AsnType). check_value U p) is ∙ sym (sequence_then fs p q s (check_fields fs s q) h refl))

-- ---- elements

-- r: where those before it end
item_last : (c : Reader Bool) (n i : ℕ) (p q r : Place) (f g : Bool) → got f q ≡ check_times n c p → got g r ≡ check_times i c p → suc i ≡ n → Ends (c r) q
item_last c zero i p q r f g e h is = absurd (omega (arith, is))
item_last c (suc n) zero p q r f g e h is =
    let o = both_ends c (check_times n c) p q f e in
    let none : 0 ≡ n = omega (arith, is) in
    let end : o.1 ≡ q = nothing o.1 q o.2 (o.4 ∙ ap (λ (k : ℕ). check_times k c o.1) (sym none)) in
    (o.0, ap (λ (t : Place). got o.0 t) (sym end) ∙ o.3 ∙ ap c (nothing p r g h))
item_last c (suc n) (suc i) p q r f g e h is =
    let o = both_ends c (check_times n c) p q f e in
    let m = both_ends c (check_times i c) p r g h in
    let same : m.1 ≡ o.1 = got_place m.0 o.0 m.1 o.1 (m.3 ∙ sym o.3) in
    item_last c n i o.1 q r o.2 m.2 o.4 (m.4 ∙ ap (λ (t : Place). check_times i c t) same) (omega (arith, is))

after_all : (f : Bool) (o : Outcome Bool) → TakesAll (and_after f o) → TakesAll o
after_all f (got g q) (x, e) = (g, ap (λ (t : Place). got g t) (got_place x (f && g) (at [] 0) q e))
after_all f (refused why rest) (x, e) = absurd (cc)

pub element_rest : (U : AsnType) (size : Size) (T : AsnType) (is : U ≡ sequence_of size T) (p q r : Place) (n i : ℕ) (f g : Bool) → TakesAll (check_value U p) → got_both n f q ≡ sized_quantity size p → got g r ≡ check_times i (check_value T) q → eqb (i + 1) n ≡ true → TakesAll (check_value T r)
element_rest U size T is p q r n i f g (x, e) h front last =
    let all = after_all f (check_times n (check_value T) q) (x, e ∙ ap (λ (V : AsnType). check_value V p) is ∙ sym (items_then size T p q n f h)) in
    item_last (check_value T) n i q (at [] 0) r all.0 g all.1 front (sym (add-one i) ∙ eqb-true (i + 1) n last)

-- ---- the alternative

pub root_last : (T : AsnType) (extensible : Bool) (xs : List Alt) (after : Alternatives) (is : T ≡ choice extensible (root_of xs after)) (p q : Place) (t : Tag) (a : Alt) → got t q ≡ tag p → IsFirst xs t (Some a) → TakesAll (check_value T p) → TakesAll (check_value (type_of a.shape) q)
root_last T extensible xs after is p q t a h (i, less, at, same, before) (f, e) =
    let v = first_value xs i a t less at same before in
    let whole = choice_root extensible xs after p q t (check_alternative (root_of xs no_alternatives) t q) h v.0 refl in
    (f, e ∙ ap (λ (U : AsnType). check_value U p) is ∙ sym whole ∙ sym (ap (λ (r : Reader Bool). r q) v.1))
