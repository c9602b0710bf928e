-- Filling, part by part.
use Rattle.std.proofs.Common.{◌≡◌, ◌↔◌, ℕ, ◌==◌, List, [], ◌∷◌, ◌++◌, length, map, Bool, true, false, not, if◌then◌else◌, Option, Some, None, option_map, Vec, Global, IsTrue, eqb, ◌&&◌, refl, sym, ap, ◌∙◌, arith, rules}
use denote.Enum.Bare.{sameb}
use Rattle.std.proofs.lemmas.Grind.{common_steps}
use Rattle.std.proofs.Math.Dec.{eqb-suc-zero}
use Rattle.oer_units.specs.contracts.tagging.Class.{the_type}
use Rattle.oer_units.specs.declared.tagging.Tag.{Tag}
use Rattle.oer_model.specs.AsnType.{AsnType, Need, must, may, default, Fields, Additions, field, addition}
use Rattle.oer_model.specs.AsnValue.{AsnValue, Places, Values, absent, chosen, Unknown, items, no_places, no_values, present, seq, value}
use Rattle.oer_values.specs.DefaultView.{with_default, place}
use Rattle.oer_model.specs.Filling.{filled, filled_additions, filled_fields, map_values}
use Rattle.oer_values.specs.ShapeView.{additions_from, additions_of, fields_from, fields_of, known_additions, sequence_with, SeenAddition, SeenField}
use Rattle.oer_values.specs.ValueView.{attached, value_of, values_from, values_of, places_of}
use Rattle.oer_values.specs.declared.shape.Addition.{Addition}
use Rattle.oer_values.specs.declared.shape.Field.{Field}
use Rattle.oer_values.specs.declared.value.Value.{Value}
use Rattle.oer_values.proofs.Shapes.{shapes}
use Rattle.oer_values.proofs.Values.{values}

infixl 4 ◌then◌
pub ◌then◌ : {A B C : Type 0} → A ↔ B → B ↔ C → A ↔ C
f then g = (λ a. g.0 (f.0 a), λ c. f.1 (g.1 c))

pub filled_fields-place : (n : List ℕ) (need : Need) (T : AsnType) (fs : Fields) (p : Option AsnValue) (ps : Places) → filled_fields (field n need T fs) (place p ps) ≡ place (option_map (filled T) (with_default need p)) (filled_fields fs ps)
filled_fields-place n must T fs None ps = refl
filled_fields-place n may T fs None ps = refl
filled_fields-place n (default d) T fs None ps = refl
filled_fields-place n need T fs (Some v) ps = refl

pub filled_additions-place : (n : List ℕ) (T : AsnType) (more : Additions) (p : Option AsnValue) (ps : Places) → filled_additions (addition n T more) (place p ps) ≡ place (option_map (filled T) p) (filled_additions more ps)
filled_additions-place n T more None ps = refl
filled_additions-place n T more (Some v) ps = refl

pub places_of-cons : (p : Option Value) (ps : List (Option Value)) → places_of (p ∷ ps) ≡ place (option_map value_of p) (places_of ps)
places_of-cons None ps = refl
places_of-cons (Some v) ps = refl

place-not_none : (p : Option AsnValue) (ps : Places) → no_places ≡ place p ps → ⊥
place-not_none None ps e = cc
place-not_none (Some v) ps e = cc

place-same : (p q : Option AsnValue) (ps qs : Places) → (place p ps ≡ place q qs) ↔ ((p ≡ q) × (ps ≡ qs))
place-same None None ps qs = (λ e. (refl, cc), λ h. ap absent h.1)
place-same None (Some w) ps qs = (λ e. cc, λ h. cc)
place-same (Some v) None ps qs = (λ e. cc, λ h. cc)
place-same (Some v) (Some w) ps qs = (λ e. (cc, cc), λ h. cc)

-- where one side has nothing left for a component, the other is the same only if it has nothing left either
pub no_field_left : (k : SeenField) (ks : List SeenField) (ps qs : List (Option Value)) (b : Bool) → length ps ≡ 0 → b ≡ (length qs == 0)
    → IsTrue b ↔ (filled_fields (fields_from (k ∷ ks)) (places_of ps) ≡ filled_fields (fields_from (k ∷ ks)) (places_of qs))
no_field_left k ks [] [] b e h = (λ _. refl, λ _. h)
no_field_left k ks [] (q ∷ qs) b e h =
    let off : b ≡ false = h ∙ eqb-suc-zero (length qs) in (
      λ on. absurd (grind (arith, common_steps)),
      λ same. absurd (place-not_none _ _ (same ∙ ap (filled_fields (fields_from (k ∷ ks))) (places_of-cons q qs) ∙ filled_fields-place k.name k.need k.type (fields_from ks) (option_map value_of q) (places_of qs))),
    )
no_field_left k ks (p ∷ ps) qs b e h = absurd (omega arith)

pub no_addition_left : (k : SeenAddition) (ks : List SeenAddition) (ps qs : List (Option Value)) (b : Bool) → length ps ≡ 0 → b ≡ (length qs == 0)
    → IsTrue b ↔ (filled_additions (additions_from (k ∷ ks)) (places_of ps) ≡ filled_additions (additions_from (k ∷ ks)) (places_of qs))
no_addition_left k ks [] [] b e h = (λ _. refl, λ _. h)
no_addition_left k ks [] (q ∷ qs) b e h =
    let off : b ≡ false = h ∙ eqb-suc-zero (length qs) in (
      λ on. absurd (grind (arith, common_steps)),
      λ same. absurd (place-not_none _ _ (same ∙ ap (filled_additions (additions_from (k ∷ ks))) (places_of-cons q qs) ∙ filled_additions-place k.name k.type (additions_from ks) (option_map value_of q) (places_of qs))),
    )
no_addition_left k ks (p ∷ ps) qs b e h = absurd (omega arith)

pub no_values_left : (f : AsnValue → AsnValue) (ws : List Value) (b : Bool) → b ≡ (length ws == 0) → IsTrue b ↔ (no_values ≡ map_values f (values_of ws))
no_values_left f [] b h = (λ _. refl, λ _. h)
no_values_left f (w ∷ ws) b h =
    let off : b ≡ false = h ∙ eqb-suc-zero (length ws) in
    (λ on. absurd (grind (arith, common_steps)), λ same. cc)

pub items-same : (vs ws : Values) → (vs ≡ ws) ↔ (items vs ≡ items ws)
items-same vs ws = (ap items, λ e. cc)

chosen-same : (t : Tag) (v w : AsnValue) → (v ≡ w) ↔ (chosen t v ≡ chosen t w)
chosen-same t v w = (ap (chosen t), λ e. cc)

-- what the derived `==` of a tag says
pub tags_equal : (s t : Tag) (b : Bool) → b ≡ (sameb the_type s.class t.class && eqb s.number t.number) → b ≡ true → s ≡ t
tags_equal s t b is on = search rules

tag_off : (b : Bool) → not b ≡ false → b ≡ true
tag_off true h = refl
tag_off false h = cc

pub tags_differ_not : (s t : Tag) (b : Bool) → b ≡ not (sameb the_type s.class t.class && eqb s.number t.number) → b ≡ false → s ≡ t
tags_differ_not s t b is off = tags_equal s t (sameb the_type s.class t.class && eqb s.number t.number) refl (tag_off (sameb the_type s.class t.class && eqb s.number t.number) (sym is ∙ off))

-- a sequence, whose additions are none without an extension marker
pub sequence_filled : (fs : List Field) (a : Option (Vec Addition Global)) (p q : Places) (us : List Unknown) → filled (sequence_with fs a) (seq p q us) ≡ seq (filled_fields (fields_of fs) p) (filled_additions (additions_of (known_additions a)) q) us
sequence_filled fs None p q us = refl
sequence_filled fs (Some more) p q us = refl

-- two choices are the same exactly where their values are
pub same_chosen : (s t : Tag) (v w a b : AsnValue) (T : AsnType) → s ≡ t → filled T (chosen t v) ≡ chosen t a → filled T (chosen t w) ≡ chosen t b → (a ≡ b) ↔ (filled T (chosen s v) ≡ filled T (chosen t w))
same_chosen s t v w a b T e h k = rw (e, h, k) (chosen-same t a b)

pub ruleset levels = (shapes, values)

pub attached-none : (xs : List (Option Value)) → attached xs no_places ≡ places_of xs
attached-none [] = refl
attached-none (None ∷ xs) = ap absent (attached-none xs)
attached-none (Some v ∷ xs) = ap (present (value_of v)) (attached-none xs)

pub attached-push : (xs : List (Option Value)) (p : Option Value) (ps : Places) → attached (xs ++ p ∷ []) ps ≡ attached xs (place (option_map value_of p) ps)
attached-push [] None ps = refl
attached-push [] (Some v) ps = refl
attached-push (None ∷ xs) p ps = ap absent (attached-push xs p ps)
attached-push (Some v ∷ xs) p ps = ap (present (value_of v)) (attached-push xs p ps)

pub mapped_values : (f : AsnValue → AsnValue) (vs ws : List Value) → map value_of vs ≡ map (λ w. f (value_of w)) ws → values_of vs ≡ map_values f (values_of ws)
mapped_values f vs ws e = ap values_from e ∙ mapped f ws
  where
    mapped : (f : AsnValue → AsnValue) (ws : List Value) → values_from (map (λ w. f (value_of w)) ws) ≡ map_values f (values_of ws)
    mapped f [] = refl
    mapped f (w ∷ ws) = ap (value (f (value_of w))) (mapped f ws)

pub field_step : (k : SeenField) (ks : List SeenField) (p q : Option Value) (copies more : List (Option Value)) → option_map value_of q ≡ option_map (filled k.type) (with_default k.need (option_map value_of p))
    → attached (copies ++ q ∷ []) (filled_fields (fields_from ks) (places_of more)) ≡ attached copies (filled_fields (fields_from (k ∷ ks)) (places_of (p ∷ more)))
field_step k ks p q copies more e =
    attached-push copies q (filled_fields (fields_from ks) (places_of more))
    ∙ ap (attached copies) (ap (λ x. place x (filled_fields (fields_from ks) (places_of more))) e ∙ sym (filled_fields-place k.name k.need k.type (fields_from ks) (option_map value_of p) (places_of more)) ∙ ap (filled_fields (fields_from (k ∷ ks))) (sym (places_of-cons p more)))

pub addition_step : (k : SeenAddition) (ks : List SeenAddition) (p q : Option Value) (copies more : List (Option Value)) → option_map value_of q ≡ option_map (filled k.type) (option_map value_of p)
    → attached (copies ++ q ∷ []) (filled_additions (additions_from ks) (places_of more)) ≡ attached copies (filled_additions (additions_from (k ∷ ks)) (places_of (p ∷ more)))
addition_step k ks p q copies more e =
    attached-push copies q (filled_additions (additions_from ks) (places_of more))
    ∙ ap (attached copies) (ap (λ x. place x (filled_additions (additions_from ks) (places_of more))) e ∙ sym (filled_additions-place k.name k.type (additions_from ks) (option_map value_of p) (places_of more)) ∙ ap (filled_additions (additions_from (k ∷ ks))) (sym (places_of-cons p more)))

pub copy_step : (p q : Option Value) (copies more : List (Option Value)) → option_map value_of q ≡ option_map value_of p → attached (copies ++ q ∷ []) (places_of more) ≡ attached copies (places_of (p ∷ more))
copy_step p q copies more e = attached-push copies q (places_of more) ∙ ap (attached copies) (ap (λ x. place x (places_of more)) e ∙ sym (places_of-cons p more))

-- where no place is left
pub fields_done : (k : SeenField) (ks : List SeenField) (copies rest : List (Option Value)) → length rest ≡ 0 → places_of copies ≡ attached copies (filled_fields (fields_from (k ∷ ks)) (places_of rest))
fields_done k ks copies [] e = sym (attached-none copies)
fields_done k ks copies (p ∷ rest) e = absurd (omega arith)

pub additions_done : (k : SeenAddition) (ks : List SeenAddition) (copies rest : List (Option Value)) → length rest ≡ 0 → places_of copies ≡ attached copies (filled_additions (additions_from (k ∷ ks)) (places_of rest))
additions_done k ks copies [] e = sym (attached-none copies)
additions_done k ks copies (p ∷ rest) e = absurd (omega arith)
