use Rattle.std.proofs.Common.{◌≡◌, ◌∙◌, List, [], ◌∷◌, length, map, refl, arith}
use Rattle.oer_module_terms.specs.Trees.{Elements, elements_of, sets_from}
use Rattle.oer_module_limits.specs.Marks.{are_marked, are_mixed}
use Rattle.oer_module_limits.proofs.marks.+mixed.Goals as goal

several : {A : Type 0} (f : A → Elements) (xs : List A) → (length xs ≡ 1 → ⊥) → are_marked (sets_from (map f xs)) ≡ are_mixed (sets_from (map f xs))
several f [] h = refl
several f (x ∷ []) h = absurd (h refl)
several f (x ∷ y ∷ xs) h = refl

pub are_mixed-returns-in_default : goal.are_mixed-returns-in_default
are_mixed-returns-in_default t c = c.are_marked.ensures ∙ several elements_of c.args.members.now (λ one. omega arith)
