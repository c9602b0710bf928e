-- What components are given are the members of braces, in their order; each has the next one that has its name.
use Rattle.std.proofs.Common.{◌≡◌, ℕ, zero, suc, List, [], ◌∷◌, ◌++◌, append_assoc, append-nil, drop, Bool, true, false, Option, Some, None}
use Rattle.std.proofs.Common.{Ok, refl, sym, ap, subst, ◌∙◌}
use Rattle.std.proofs.lemmas.Slice.Eq.{bytes_eq-Decides}
use Rattle.std.specs.Prelude.{slice_get, if◌then◌else◌}
use Rattle.std.specs.Str.{bytes_eq}
use Rattle.oer_module_defaults.specs.Atoms.{none_such}
use Rattle.oer_module_defaults.specs.Components.{Component}
use Rattle.oer_module_defaults.specs.Slots.{Entry, Slot, ended, entry_place, slot, slot_at, slot_by, slots_at, taken_by}
use Rattle.oer_module_names.specs.declared.error.Place.{Place}
use Rattle.oer_module_text.specs.Errors.{Read, ◌>>=◌}

-- the next entry has a name
abbrev pub StartWith : List ℕ → List Entry → Type 0
StartWith w [] = ⊥
StartWith w (e ∷ es) = e.name ≡ w

-- each component has the value of the next entry, if that has its name; else none, if it may be absent
pub data Give : List Entry → List Component → List Slot → Type 0 where
  nothing : Give [] [] []
  there : (e : Entry) (es : List Entry) (c : Component) (cs : List Component) (ss : List Slot) → e.name ≡ c.name → Give es cs ss
      → Give (e ∷ es) (c ∷ cs) (slot c (Some e.value) ∷ ss)
  left_out : (es : List Entry) (c : Component) (cs : List Component) (ss : List Slot) → c.optional ≡ true → ¬ StartWith c.name es
      → Give es cs ss → Give es (c ∷ cs) (slot c None ∷ ss)

none_left : (xs : List Entry) (k : ℕ) → slice_get xs k ≡ None → drop k xs ≡ []
none_left [] zero h = refl
none_left [] (suc k) h = refl
none_left (x ∷ xs) zero h = absurd (cc)
none_left (x ∷ xs) (suc k) h = none_left xs k h

one_left : (xs : List Entry) (k : ℕ) (x : Entry) → slice_get xs k ≡ Some x → drop k xs ≡ x ∷ drop (suc k) xs
one_left [] k x h = absurd (cc)
one_left (y ∷ xs) zero x h = let same : y ≡ x = cc in ap (λ z. z ∷ xs) same
one_left (y ∷ xs) (suc k) x h = one_left xs k x h

module _ (p : Place) (es : List Entry) where
  -- those found, and those that the entries that are left give
  abbrev IsSound : ℕ → List Component → List Slot → List Slot → Type 0
  IsSound k cs found ss = (rest : List Slot) × (ss ≡ found ++ rest) × Give (drop k es) cs rest

  ended_sound : (o : Option Entry) (k : ℕ) (found ss : List Slot) → slice_get es k ≡ o → ended p o found ≡ Ok ss → IsSound k [] found ss
  ended_sound None k found ss is h =
      let same : found ≡ ss = cc in
      ([], sym same ∙ sym (append-nil found), subst (λ l. Give l [] []) (sym (none_left es k is)) nothing)
  ended_sound (Some e) k found ss is h = absurd (cc)

  module _ (c : Component) (cs : List Component) (k : ℕ) (found ss : List Slot)
      (on : (j : ℕ) (more : List Slot) → slots_at p es j cs more ≡ Ok ss → IsSound j cs more ss) where
    abbrev Goes : Read Slot → Type 0
    Goes r = (r >>= λ s. slots_at p es (taken_by k s) cs (found ++ s ∷ [])) ≡ Ok ss

    absent_by : (q : Place) (b : Bool) → ¬ StartWith c.name (drop k es) → c.optional ≡ b
        → Goes (if b then Ok (slot c None) else none_such q) → IsSound k (c ∷ cs) found ss
    absent_by q true other e h =
        let r = on k (found ++ slot c None ∷ []) h in
        (slot c None ∷ r.0, r.1 ∙ append_assoc found (slot c None ∷ []) r.0, left_out (drop k es) c cs r.0 e other r.2)
    absent_by q false other e h = absurd (cc)

    named_by : (e : Entry) (b : Bool) → slice_get es k ≡ Some e → bytes_eq e.name c.name ≡ b
        → Goes (slot_by (entry_place p (Some e)) c (if b then Some e.value else None)) → IsSound k (c ∷ cs) found ss
    named_by e true is same h =
        let r = on (suc k) (found ++ slot c (Some e.value) ∷ []) h in (
          slot c (Some e.value) ∷ r.0,
          r.1 ∙ append_assoc found (slot c (Some e.value) ∷ []) r.0,
          subst (λ l. Give l (c ∷ cs) (slot c (Some e.value) ∷ r.0)) (sym (one_left es k e is))
              (there e (drop (suc k) es) c cs r.0 ((bytes_eq-Decides e.name c.name).0 same) r.2),
        )
    named_by e false is other h =
        let differ : ¬ (e.name ≡ c.name) = λ f. let same = (bytes_eq-Decides e.name c.name).1 f in cc in
        absent_by (entry_place p (Some e)) c.optional (subst (λ l. ¬ StartWith c.name l) (sym (one_left es k e is)) differ) refl h

    entry_sound : (o : Option Entry) → slice_get es k ≡ o → Goes (slot_at p c o) → IsSound k (c ∷ cs) found ss
    entry_sound None is h = absent_by p c.optional (subst (λ l. ¬ StartWith c.name l) (sym (none_left es k is)) (λ f. f)) refl h
    entry_sound (Some e) is h = named_by e (bytes_eq e.name c.name) is refl h

  sound : (cs : List Component) (k : ℕ) (found ss : List Slot) → slots_at p es k cs found ≡ Ok ss → IsSound k cs found ss
  sound [] k found ss h = ended_sound (slice_get es k) k found ss refl h
  sound (c ∷ cs) k found ss h = entry_sound c cs k found ss (λ j more. sound cs j more ss) (slice_get es k) refl h

  pub all_given : (cs : List Component) (ss : List Slot) → slots_at p es 0 cs [] ≡ Ok ss → Give es cs ss
  all_given cs ss h = let r = sound cs 0 [] ss h in subst (Give es cs) (sym r.1) r.2
