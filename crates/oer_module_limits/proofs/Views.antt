-- Elements and sets, level by level, beside what they stand for.
use Rattle.std.proofs.Common.{◌≡◌, List, [], ◌∷◌, refl, ap}
use Rattle.oer_module_bounds.proofs.Members.{set_of-Range, set_of-Union, set_of-Intersection, set_of-Except, set_of-Unknown}
use Rattle.oer_module_terms.proofs.Views.{constraint_of-Subtype, constraint_of-General, extension_of-Closed, extension_of-Open, extension_of-Extended}
use Rattle.oer_module_terms.proofs.Views.{elements_of-Union, elements_of-Intersection, elements_of-Except, elements_of-AllExcept, elements_of-Size}
use Rattle.oer_module_terms.proofs.Views.{elements_of-Alphabet, elements_of-Simple}
use Rattle.oer_module_terms.specs.Trees.{Elements, sets_from}
use Rattle.oer_module_limits.specs.Sets.{listed}

pub listed-sets_from : (es : List Elements) → listed (sets_from es) ≡ es
listed-sets_from [] = refl
listed-sets_from (e ∷ es) = ap (λ xs. e ∷ xs) (listed-sets_from es)

pub ruleset sets = (set_of-Range, set_of-Union, set_of-Intersection, set_of-Except, set_of-Unknown)

pub ruleset written = (constraint_of-Subtype, constraint_of-General, extension_of-Closed, extension_of-Open, extension_of-Extended)

pub ruleset levels = (
  set_of-Range,
  set_of-Union,
  set_of-Intersection,
  set_of-Except,
  set_of-Unknown,
  elements_of-Union,
  elements_of-Intersection,
  elements_of-Except,
  elements_of-AllExcept,
  elements_of-Size,
  elements_of-Alphabet,
  elements_of-Simple,
  listed-sets_from,
)
