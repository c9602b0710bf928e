-- What is made, step by step.
use Rattle.std.proofs.Common.{◌≡◌, ℕ, List, [], ◌∷◌, ◌++◌, map, Bool, true, false, if◌then◌else◌, Option, Some, None, Vec, Global, refl, sym, ap, ◌∙◌}
use Rattle.serde_json.specs.Data.{Data, Items, no_items, item, null}
use Rattle.serde_json.specs.View.{items_of, view}
use Rattle.serde_json.specs.declared.value.Value as json
use Rattle.std.proofs.lemmas.List.{map-append}
use Rattle.oer_units.specs.declared.tagging.Tag.{Tag}
use Rattle.oer_model.specs.LeafValue.{LeafValue}
use Rattle.oer_model.specs.AsnType.{Alternatives, AsnType, choice, extensible_sequence, leaf, no_alternatives, sequence, sequence_of}
use Rattle.oer_model.specs.AsnValue.{AsnValue, chosen, foreign, leaf_value}
use Rattle.oer_values.specs.Lookup.{alternative_with, first_with, or_else}
use Rattle.oer_values.specs.ShapeView.{choice_with, root_of, later_of, type_of, seen_alternative}
use Rattle.oer_model.specs.Constraints.{same_tag}
use Rattle.oer_values.specs.declared.shape.Alt.{Alt}
use Rattle.oer_json.specs.Keys.{tag_key}
use Rattle.oer_json.specs.Made.{made, made_alternative, made_leaf, made_octets, named_numbers, one_member}
use Rattle.oer_json.proofs.Levels.{levels}

-- whatever the type is
pub made-leaf_value : (T : AsnType) (v : LeafValue) → made T (leaf_value v) ≡ made_leaf (named_numbers T) v
made-leaf_value (leaf kind) v = refl
made-leaf_value (sequence fs) v = refl
made-leaf_value (extensible_sequence fs more) v = refl
made-leaf_value (sequence_of size T) v = refl
made-leaf_value (choice extensible more) v = refl

pub made-foreign : (T : AsnType) (t : Tag) (w : List ℕ) → made T (foreign t w) ≡ one_member (tag_key t) (made_octets w)
made-foreign (leaf kind) t w = refl
made-foreign (sequence fs) t w = refl
made-foreign (extensible_sequence fs more) t w = refl
made-foreign (sequence_of size T) t w = refl
made-foreign (choice extensible more) t w = refl

pub ruleset made_kinds = (levels, made-leaf_value, made-foreign)

-- these before the others
abbrev pub before_items : List Data → Items → Items
before_items [] js = js
before_items (d ∷ ds) js = item d (before_items ds js)

pub before_one : (ds : List Data) (d : Data) (js : Items) → before_items (ds ++ d ∷ []) js ≡ before_items ds (item d js)
before_one [] d js = refl
before_one (e ∷ ds) d js = ap (item e) (before_one ds d js)

pub before_none : (ds : List Data) → before_items ds no_items ≡ items_of ds
before_none [] = refl
before_none (d ∷ ds) = ap (item d) (before_none ds)

pub items_step : (js ks : List json.Value) (j : json.Value) (d : Data) (rest : Items) → ks ≡ js ++ j ∷ [] → view j ≡ d → before_items (map view js) (item d rest) ≡ before_items (map view ks) rest
items_step js ks j d rest e h =
    sym (before_one (map view js) d rest) ∙ ap (λ x. before_items (map view js ++ x ∷ []) rest) (sym h) ∙ ap (λ ds. before_items ds rest) (sym (map-append view js (j ∷ []))) ∙ ap (λ xs. before_items (map view xs) rest) (sym e)

-- ---- the alternative that has the tag

module _ (t : Tag) (v : AsnValue) where
  -- its object; where there is none, what is made by the others
  abbrev pub object_or : Option Alt → Data → Data
  object_or None d = d
  object_or (Some x) d = one_member (seen_alternative x).name (made (type_of x.shape) v)

  step : (b : Bool) (x : Alt) (p : Option Alt) (d e : Data) → d ≡ object_or p e → (if b then one_member (seen_alternative x).name (made (type_of x.shape) v) else d) ≡ object_or (if b then Some x else p) e
  step true x p d e h = refl
  step false x p d e h = h

  joined : (p q : Option Alt) → object_or p (object_or q null) ≡ object_or (or_else p q) null
  joined None q = refl
  joined (Some x) q = refl

  root_made : (xs : List Alt) (after : Alternatives) → made_alternative (root_of xs after) t v ≡ object_or (first_with t xs) (made_alternative after t v)
  root_made [] after = refl
  root_made (x ∷ xs) after = step (same_tag x.tag t) x (first_with t xs) _ _ (root_made xs after)

  later_made : (xs : List Alt) → made_alternative (later_of xs) t v ≡ object_or (first_with t xs) null
  later_made [] = refl
  later_made (x ∷ xs) = step (same_tag x.tag t) x (first_with t xs) _ _ (later_made xs)

  choice_made : (xs : List Alt) (a : Option (Vec Alt Global)) → made (choice_with xs a) (chosen t v) ≡ object_or (alternative_with t xs a) null
  choice_made xs None = root_made xs no_alternatives ∙ joined (first_with t xs) None
  choice_made xs (Some more) = root_made xs (later_of more.items) ∙ ap (object_or (first_with t xs)) (later_made more.items) ∙ joined (first_with t xs) (first_with t more.items)

  pub made_found : (xs : List Alt) (a : Option (Vec Alt Global)) (x : Alt) → Some x ≡ alternative_with t xs a → made (choice_with xs a) (chosen t v) ≡ one_member (seen_alternative x).name (made (type_of x.shape) v)
  made_found xs a x e = choice_made xs a ∙ ap (λ p. object_or p null) (sym e)

  pub made_nowhere : (xs : List Alt) (a : Option (Vec Alt Global)) → None ≡ alternative_with t xs a → made (choice_with xs a) (chosen t v) ≡ null
  made_nowhere xs a e = choice_made xs a ∙ ap (λ p. object_or p null) (sym e)
