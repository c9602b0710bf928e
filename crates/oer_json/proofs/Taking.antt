-- What is taken, step by step.
use Rattle.std.proofs.Common.{◌≡◌, ℕ, List, [], ◌∷◌, ◌++◌, Bool, true, false, cond, Option, Some, None, option_map, Result, Ok, Err, refl, sym, ap, ◌∙◌, string_bytes}
use Rattle.std.specs.Str.{bytes_eq}
use Rattle.serde_json.specs.Data.{Data, Members}
use Rattle.serde_json.specs.Find.{get_member}
use Rattle.serde_json.specs.View.{items_view, view}
use Rattle.serde_json.specs.declared.value.Value as json
use Rattle.oer_model.specs.AsnType.{Alternatives, no_alternatives}
use Rattle.oer_model.specs.AsnValue.{AsnValue, Places, Values, no_places, no_values, value, chosen}
use Rattle.oer_values.specs.DefaultView.{place}
use Rattle.oer_model.specs.FitTest.{may_be_absent}
use Rattle.oer_values.specs.ShapeView.{additions_of, fields_of, later_of, need_of, root_of, type_of}
use Rattle.oer_values.specs.ValueView.{attached, places_of, value_of, values_of}
use Rattle.oer_values.specs.declared.shape.Field.{Field}
use Rattle.oer_values.specs.declared.shape.Addition.{Addition}
use Rattle.oer_values.specs.declared.shape.Alt.{Alt}
use Rattle.oer_values.specs.declared.value.Value.{Value}
use Rattle.oer_json.specs.Answer.{◌>>=◌}
use Rattle.oer_json.specs.Take.{take, take_additions, take_alternative, take_fields, take_items, take_place}
use Rattle.oer_json.specs.declared.fault.JsonFault.{JsonFault}

-- ---- components

pub attached_push : (xs : List (Option Value)) (v : Option Value) (ps : Places) → attached (xs ++ v ∷ []) ps ≡ attached xs (place (option_map value_of v) ps)
attached_push [] None ps = refl
attached_push [] (Some v) ps = refl
attached_push (None ∷ xs) v ps = ap (λ qs. place None qs) (attached_push xs v ps)
attached_push (Some x ∷ xs) v ps = ap (λ qs. place (Some (value_of x)) qs) (attached_push xs v ps)

pub attached_none : (xs : List (Option Value)) → attached xs no_places ≡ places_of xs
attached_none [] = refl
attached_none (None ∷ xs) = ap (λ qs. place None qs) (attached_none xs)
attached_none (Some x ∷ xs) = ap (λ qs. place (Some (value_of x)) qs) (attached_none xs)

pub places_push : (r : Result Places JsonFault) (xs ys : List (Option Value)) (v : Option Value) → ys ≡ xs ++ v ∷ []
    → ((r >>= λ ps. Ok (place (option_map value_of v) ps)) >>= λ ps. Ok (attached xs ps)) ≡ (r >>= λ ps. Ok (attached ys ps))
places_push (Ok ps) xs ys v e = ap Ok (sym (attached_push xs v ps) ∙ ap (λ zs. attached zs ps) (sym e))
places_push (Err e) xs ys v h = refl

pub field_err : (f : Field) (fs : List Field) (ms : Members) (e : JsonFault) → take_place (may_be_absent (need_of f.need)) (take (type_of f.shape)) (get_member (string_bytes f.name) ms) ≡ Err e → take_fields (fields_of (f ∷ fs)) ms ≡ Err e
field_err f fs ms e h = rw h refl

pub field_ok : (f : Field) (fs : List Field) (ms : Members) (p : Option AsnValue) → take_place (may_be_absent (need_of f.need)) (take (type_of f.shape)) (get_member (string_bytes f.name) ms) ≡ Ok p
    → take_fields (fields_of (f ∷ fs)) ms ≡ (take_fields (fields_of fs) ms >>= λ ps. Ok (place p ps))
field_ok f fs ms p h = rw h refl

pub addition_err : (a : Addition) (xs : List Addition) (ms : Members) (e : JsonFault) → take_place true (take (type_of a.shape)) (get_member (string_bytes a.name) ms) ≡ Err e → take_additions (additions_of (a ∷ xs)) ms ≡ Err e
addition_err a xs ms e h = rw h refl

pub addition_ok : (a : Addition) (xs : List Addition) (ms : Members) (p : Option AsnValue) → take_place true (take (type_of a.shape)) (get_member (string_bytes a.name) ms) ≡ Ok p
    → take_additions (additions_of (a ∷ xs)) ms ≡ (take_additions (additions_of xs) ms >>= λ ps. Ok (place p ps))
addition_ok a xs ms p h = rw h refl

-- what follows a fault is the fault
pub stopped : {A B : Type 0} (r : Result A JsonFault) (f : A → Result B JsonFault) (e : JsonFault) → r ≡ Err e → (r >>= f) ≡ Err e
stopped r f e h = rw h refl

pub went_on : {A B : Type 0} (r : Result A JsonFault) (f : A → Result B JsonFault) (x : A) → r ≡ Ok x → (r >>= f) ≡ f x
went_on r f x h = rw h refl

-- ---- items

-- these before the others
abbrev pub before_values : List Value → Values → Values
before_values [] vs = vs
before_values (x ∷ xs) vs = value (value_of x) (before_values xs vs)

before_push : (xs : List Value) (v : Value) (vs : Values) → before_values (xs ++ v ∷ []) vs ≡ before_values xs (value (value_of v) vs)
before_push [] v vs = refl
before_push (x ∷ xs) v vs = ap (value (value_of x)) (before_push xs v vs)

pub before_none : (xs : List Value) → before_values xs no_values ≡ values_of xs
before_none [] = refl
before_none (x ∷ xs) = ap (value (value_of x)) (before_none xs)

pub values_push : (r : Result Values JsonFault) (xs ys : List Value) (v : Value) → ys ≡ xs ++ v ∷ [] → ((r >>= λ vs. Ok (value (value_of v) vs)) >>= λ vs. Ok (before_values xs vs)) ≡ (r >>= λ vs. Ok (before_values ys vs))
values_push (Ok vs) xs ys v e = ap Ok (sym (before_push xs v vs) ∙ ap (λ zs. before_values zs vs) (sym e))
values_push (Err e) xs ys v h = refl

pub item_err : (f : Data → Result AsnValue JsonFault) (j : json.Value) (js : List json.Value) (e : JsonFault) → f (view j) ≡ Err e → take_items f (items_view (j ∷ js)) ≡ Err e
item_err f j js e h = rw h refl

pub item_ok : (f : Data → Result AsnValue JsonFault) (j : json.Value) (js : List json.Value) (v : AsnValue) → f (view j) ≡ Ok v → take_items f (items_view (j ∷ js)) ≡ (take_items f (items_view js) >>= λ vs. Ok (value v vs))
item_ok f j js v h = rw h refl

-- ---- alternatives

pub alternative_here : (o : Result AsnValue JsonFault) (x : Alt) (xs : List Alt) (after : Alternatives) (key : List ℕ) (j : Data) → bytes_eq (string_bytes x.name) key ≡ true
    → take_alternative o (root_of (x ∷ xs) after) key j ≡ (take (type_of x.shape) j >>= λ v. Ok (chosen x.tag v))
alternative_here o x xs after key j h = rw h refl

pub alternative_past : (o : Result AsnValue JsonFault) (x : Alt) (xs : List Alt) (after : Alternatives) (key : List ℕ) (j : Data) → bytes_eq (string_bytes x.name) key ≡ false
    → take_alternative o (root_of (x ∷ xs) after) key j ≡ take_alternative o (root_of xs after) key j
alternative_past o x xs after key j h = rw h refl

else_ap : (b : Bool) (r s t : Result AsnValue JsonFault) → s ≡ t → cond b r s ≡ cond b r t
else_ap b r s t e = ap (cond b r) e

-- those after the marker come behind those before it
pub later_same : (o : Result AsnValue JsonFault) (xs : List Alt) (key : List ℕ) (j : Data) → take_alternative o (later_of xs) key j ≡ take_alternative o (root_of xs no_alternatives) key j
later_same o [] key j = refl
later_same o (x ∷ xs) key j = else_ap (bytes_eq (string_bytes x.name) key) _ _ _ (later_same o xs key j)

pub root_first : (o : Result AsnValue JsonFault) (xs : List Alt) (after : Alternatives) (key : List ℕ) (j : Data)
    → take_alternative o (root_of xs after) key j ≡ take_alternative (take_alternative o after key j) (root_of xs no_alternatives) key j
root_first o [] after key j = refl
root_first o (x ∷ xs) after key j = else_ap (bytes_eq (string_bytes x.name) key) _ _ _ (root_first o xs after key j)
