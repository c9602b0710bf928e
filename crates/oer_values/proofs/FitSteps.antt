-- What fits, part by part.
use Rattle.std.proofs.Common.{◌≡◌, suc, ◌==◌, List, [], ◌∷◌, length, map, Bool, true, false, ◌&&◌, ◌||◌, Option, Some, None, refl, ap, ◌∙◌}
use Rattle.std.proofs.Math.Dec.{eqb-suc-zero}
use Rattle.oer_units.specs.declared.tagging.Tag.{Tag}
use Rattle.oer_model.specs.AsnType.{no_fields, no_additions, no_alternatives}
use Rattle.oer_model.specs.Constraints.{addition_count, has_tag, same_tag}
use Rattle.oer_model.specs.FitTest.{fields_fit, additions_fit, is_without, values_length}
use Rattle.oer_values.specs.ShapeView.{additions_of, later_of, root_of}
use Rattle.oer_values.specs.ValueView.{places_of, values_of, unknown_of}
use Rattle.oer_values.specs.declared.shape.Addition.{Addition}
use Rattle.oer_values.specs.declared.shape.Alt.{Alt}
use Rattle.oer_values.specs.declared.value.Value.{Value}
use Rattle.oer_values.specs.declared.value.Unknown as rust_unknown

pub no_fields_left : (ps : List (Option Value)) → (length ps == 0) ≡ fields_fit no_fields (places_of ps)
no_fields_left [] = refl
no_fields_left (None ∷ ps) = eqb-suc-zero (length ps)
no_fields_left (Some v ∷ ps) = eqb-suc-zero (length ps)

pub no_additions_left : (ps : List (Option Value)) → (length ps == 0) ≡ additions_fit no_additions (places_of ps)
no_additions_left [] = refl
no_additions_left (None ∷ ps) = eqb-suc-zero (length ps)
no_additions_left (Some v ∷ ps) = eqb-suc-zero (length ps)

pub without : (ps : List (Option Value)) (us : List rust_unknown.Unknown) → ((length ps == 0) && (length us == 0)) ≡ is_without (places_of ps) (map unknown_of us)
without [] [] = refl
without [] (u ∷ us) = eqb-suc-zero (length us)
without (None ∷ ps) us = ap (λ b. b && (length us == 0)) (eqb-suc-zero (length ps))
without (Some v ∷ ps) us = ap (λ b. b && (length us == 0)) (eqb-suc-zero (length ps))

pub not_without : (ps : List (Option Value)) (us : List rust_unknown.Unknown) (b : Bool) → b ≡ (length ps == 0) → b ≡ false → b ≡ is_without (places_of ps) (map unknown_of us)
not_without [] us b e h = absurd (cc)
not_without (None ∷ ps) us b e h = h
not_without (Some v ∷ ps) us b e h = h

pub counted_additions : (xs : List Addition) → addition_count (additions_of xs) ≡ length xs
counted_additions [] = refl
counted_additions (x ∷ xs) = ap suc (counted_additions xs)

pub counted_values : (vs : List Value) → values_length (values_of vs) ≡ length vs
counted_values [] = refl
counted_values (v ∷ vs) = ap suc (counted_values vs)

or_assoc : (a b c : Bool) → (a || (b || c)) ≡ ((a || b) || c)
or_assoc true b c = refl
or_assoc false b c = refl

module _ (t : Tag) where
  pub tag_in_root : (xs : List Alt) (more : List Alt) → has_tag t (root_of xs (later_of more)) ≡ (has_tag t (root_of xs no_alternatives) || has_tag t (root_of more no_alternatives))
  tag_in_root [] [] = refl
  tag_in_root [] (y ∷ more) = ap (λ b. same_tag y.tag t || b) (tag_in_root [] more)
  tag_in_root (x ∷ xs) more = ap (λ b. same_tag x.tag t || b) (tag_in_root xs more) ∙ or_assoc (same_tag x.tag t) (has_tag t (root_of xs no_alternatives)) (has_tag t (root_of more no_alternatives))
