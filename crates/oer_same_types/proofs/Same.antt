-- The law of types, from the laws of what is in them.
use Rattle.oer_same_bounds.specs.Laws.{SameRange, SameSizes}
use Rattle.oer_same_defaults.specs.Laws.{SameDefault}
use Rattle.oer_same_items.specs.Laws.{SameEnumerated}
use Rattle.oer_same_names.specs.Laws.{AlternativesAreMeant, TagsAreTheirs, TypesAreMeant}
use Rattle.oer_same_types.specs.Laws.{SameType}
use Rattle.oer_same_types.proofs.Defaults.{defaults_said}
use Rattle.oer_same_types.proofs.Leaves.{leaves_said}
use Rattle.oer_same_types.proofs.Ordinary.{standard_behind}
use Rattle.oer_same_types.proofs.Types.{none_implied, type_same}

pub same_type : TypesAreMeant → AlternativesAreMeant → TagsAreTheirs → SameDefault → SameRange → SameSizes → SameEnumerated → SameType
same_type means choices tags same_default range sizes enumerated o ms ks known T t nesting levels r home rise front there says once_at_least ordinary =
    type_same o ms ks (λ on. (ordinary on).few)
    (defaults_said o same_default ms ks home (λ on. (ordinary on).few) (λ on. (ordinary on).standard) means)
    (leaves_said o range sizes enumerated ms (none_implied ms ks home) ks) means choices tags home rise nesting once_at_least (λ on. (ordinary on).standard)
    known T t levels r front there says
    (λ on. let x = ordinary on in (x.sound, x.widths, standard_behind ms home.home.assignments known t x.standard there))
