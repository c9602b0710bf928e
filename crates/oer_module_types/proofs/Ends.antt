-- The CHOICE that stands where nesting ends.
use Rattle.std.proofs.Common.{◌≡◌, List, [], ◌∷◌, ◌++◌, false, None, Vec, Global, String, string_bytes, codes, ap, ap₂, ◌∙◌, rules}
use Rattle.oer_model.specs.AsnType.{alternative, choice, no_alternatives, null}
use Rattle.oer_values.proofs.Shapes.{type_of-Choice}
use Rattle.oer_values.specs.ShapeView.{root_of, type_of}
use Rattle.oer_values.specs.declared.shape.Alt.{Alt}
use Rattle.oer_values.specs.declared.shape.Shape.{Choice, Null, the_lemmas}
use Rattle.oer_module_types.specs.Levels.{end_tag, end_type}

-- its alternative, by its name
abbrev pub end_alternative : String Global → Alt
end_alternative w = record { name = w; tag = end_tag; shape = Null }

null_is : type_of Null ≡ null
null_is = search (rules, the_lemmas)

pub end_is : (root : Vec Alt Global) (xs : List Alt) (w : String Global) → xs ≡ [] → root.items ≡ xs ++ end_alternative w ∷ []
    → string_bytes w ≡ codes "too-deep" → type_of (Choice root None) ≡ end_type
end_is root xs w none pushed is =
    type_of-Choice root None
    ∙ ap (λ alts. choice false (root_of alts no_alternatives)) (pushed ∙ ap (λ ys. ys ++ end_alternative w ∷ []) none)
    ∙ ap₂ (λ v t. choice false (alternative v end_tag t no_alternatives)) is null_is
