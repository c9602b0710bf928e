-- The loop over the components of a SEQUENCE, which takes entries in their order.
use Rattle.std.proofs.Common.{◌≡◌, ℕ, suc, ◌+◌, ◌<◌, List, [], ◌∷◌, ◌++◌, length, drop, get_or, drop-cons, map, Option, option_map, Ok}
use Rattle.std.proofs.Common.{ap, sym, ◌∙◌, add-one}
use Rattle.std.proofs.lemmas.List.{map_push}
use Rattle.std.specs.Prelude.{slice_get}
use Rattle.oer_module_names.specs.declared.error.Place.{Place}
use Rattle.oer_module_text.specs.Errors.{Read, ◌>>=◌}
use Rattle.oer_module_defaults.specs.Slots.{Entry, Slot, slot_at, slots_at, taken_by}
use Rattle.oer_module_defaults.specs.Views.{component_of, entry_of, slot_of}
use Rattle.oer_module_defaults.specs.declared.component.Component.{Component as RawComponent}
use Rattle.oer_module_defaults.specs.declared.slot.Entry.{Entry as RawEntry}
use Rattle.oer_module_defaults.specs.declared.slot.Slot.{Slot as RawSlot}

module _ (p : Place) (es : List Entry) (cs : List RawComponent) (i k : ℕ) (found : List RawSlot) (whole : Read (List Slot))
    (h : whole ≡ slots_at p es k (map component_of (drop i cs)) (map slot_of found)) where
  -- where that is what one component is given
  abbrev behind_one : Read Slot → Read (List Slot)
  behind_one r = r >>= λ s. slots_at p es (taken_by k s) (map component_of (drop (suc i) cs)) (map slot_of found ++ s ∷ [])

  pub slots_next : (c : RawComponent) (o : Option RawEntry) (s : RawSlot) (j : ℕ) (more : List RawSlot) → i < length cs → c ≡ get_or cs i c
      → option_map entry_of o ≡ slice_get es k → Ok (slot_of s) ≡ slot_at p (component_of c) (option_map entry_of o)
      → j ≡ taken_by k (slot_of s) → more ≡ found ++ s ∷ []
      → whole ≡ slots_at p es j (map component_of (drop (i + 1) cs)) (map slot_of more)
  slots_next c o s j more less e entry gives taken pushed =
      h ∙ ap (λ l. slots_at p es k (map component_of l) (map slot_of found)) (drop-cons cs i c less)
      ∙ ap (λ x. behind_one (slot_at p (component_of x) (slice_get es k))) (sym e)
      ∙ ap (λ q. behind_one (slot_at p (component_of c) q)) (sym entry)
      ∙ ap behind_one (sym gives)
      ∙ ap (λ n. slots_at p es n (map component_of (drop (suc i) cs)) (map slot_of found ++ slot_of s ∷ [])) (sym taken)
      ∙ ap (λ l. slots_at p es j (map component_of (drop (suc i) cs)) l) (sym (ap (map slot_of) pushed ∙ map_push slot_of found s))
      ∙ ap (λ n. slots_at p es j (map component_of (drop n cs)) (map slot_of more)) (sym (add-one i))
