-- What a shape's parts say of its type.
use Rattle.std.proofs.Common.{◌≡◌, ◌==◌, List, [], ◌∷◌, length, Bool, true, Option, Some, None, Vec, Global, map, refl, sym}
use Rattle.std.proofs.Math.Dec.{eqb-suc-zero}
use Rattle.oer_model.specs.AsnType.{choice, enumerated}
use Rattle.oer_model.specs.FaultTest.{any_misfit, has_misfit, has_no_items}
use Rattle.oer_values.specs.ShapeView.{choice_with, fields_of, later_of, named_number, sequence_with}
use Rattle.oer_values.specs.declared.shape.Addition.{Addition}
use Rattle.oer_values.specs.declared.shape.Alt.{Alt}
use Rattle.oer_values.specs.declared.shape.Field.{Field}
use Rattle.oer_values.specs.declared.shape.Item.{Item}
use Rattle.oer_values.proofs.Shapes.{type_of-Enumerated, type_of-Sequence, type_of-Choice, shapes}
use Rattle.oer_types.proofs.Alternatives.{sequence_names, choice_all_names, choice_tags, bad_in_both}

pub no_item : (xs : List Item) (e : Bool) → has_no_items (enumerated (map named_number xs) e) ≡ (length xs == 0)
no_item [] e = refl
no_item (x ∷ xs) e = sym (eqb-suc-zero (length xs))

pub no_alternative : (xs : List Alt) (a : Option (Vec Alt Global)) → has_no_items (choice_with xs a) ≡ (length xs == 0)
no_alternative [] None = refl
no_alternative [] (Some more) = none more.items
  where
    none : (ys : List Alt) → has_no_items (choice true (later_of ys)) ≡ true
    none [] = refl
    none (y ∷ ys) = refl
no_alternative (x ∷ xs) None = sym (eqb-suc-zero (length xs))
no_alternative (x ∷ xs) (Some more) = sym (eqb-suc-zero (length xs))

pub misfits_of : (fs : List Field) (a : Option (Vec Addition Global)) → has_misfit (sequence_with fs a) ≡ any_misfit (fields_of fs)
misfits_of fs None = refl
misfits_of fs (Some more) = refl

pub ruleset names_of = (shapes, sequence_names, choice_all_names, bad_in_both)

pub ruleset items_of = (shapes, no_item, no_alternative)

pub ruleset tags_of = (shapes, choice_tags)

pub ruleset defaults_of = (shapes, misfits_of)
