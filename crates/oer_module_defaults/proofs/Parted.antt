-- How many parts a member of braces has.
use Rattle.std.proofs.Common.{◌≡◌, List, [], ◌∷◌, length, map, None, refl}
use Rattle.oer_module_terms.specs.Trees.{parts_from, value_of}
use Rattle.oer_module_terms.specs.declared.tree.Value.{Value as RawValue}
use Rattle.oer_module_defaults.specs.Defaults.{only_part}
use Rattle.oer_module_defaults.specs.Slots.{entry_in}

pub no_only : (xs : List RawValue) → (length xs ≡ 1 → ⊥) → only_part (parts_from (map value_of xs)) ≡ None
no_only [] h = refl
no_only (x ∷ []) h = absurd (h refl)
no_only (x ∷ y ∷ xs) h = refl

pub no_entry : (xs : List RawValue) → (length xs ≡ 2 → ⊥) → entry_in (parts_from (map value_of xs)) ≡ None
no_entry [] h = refl
no_entry (x ∷ []) h = refl
no_entry (x ∷ y ∷ []) h = absurd (h refl)
no_entry (x ∷ y ∷ z ∷ xs) h = refl
