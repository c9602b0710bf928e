-- What trimming and filling do to each other.
use Rattle.std.proofs.Common.{◌≡◌, Bool, true, false, if◌then◌else◌, refl, ap, ap₂, sym, ◌∙◌}
use Rattle.oer_units.specs.declared.tagging.Tag.{Tag}
use Rattle.oer_model.proofs.filling.FillTwice.{fill_twice}
use Rattle.oer_model.proofs.filling.Same.{same-true, same-refl}
use Rattle.oer_model.specs.AsnType.{Need, must, may, default, AsnType, sequence, extensible_sequence, sequence_of, choice, Fields, no_fields, field, Additions, no_additions, addition, Alternatives, no_alternatives, alternative, later}
use Rattle.oer_model.specs.AsnValue.{AsnValue, seq, items, chosen, no_values, value, Places, no_places, absent, present}
use Rattle.oer_model.specs.Canonical.{same, trimmed_place, trimmed, trimmed_fields, trimmed_additions, trimmed_alternative}
use Rattle.oer_model.specs.Constraints.{same_tag}
use Rattle.oer_model.specs.Filling.{map_sequence, map_values, map_items, map_chosen, filled_place, filled_by_tag, filled, filled_fields, filled_additions, filled_alternative}

-- f after g is h
abbrev Makes : {A : Type 0} → (A → A) → (A → A) → (A → A) → Type 0
Makes {A} f g h = (x : A) → f (g x) ≡ h x

seq_makes : (f g h f' g' h' : Places → Places) → Makes f g h → Makes f' g' h' → Makes (map_sequence f f') (map_sequence g g') (map_sequence h h')
seq_makes f g h f' g' h' i j (seq a b us) = ap₂ (λ a b. seq a b us) (i a) (j b)
seq_makes f g h f' g' h' i j _ = refl

vals_make : (f g h : AsnValue → AsnValue) → Makes f g h → Makes (map_values f) (map_values g) (map_values h)
vals_make f g h i no_values = refl
vals_make f g h i (value v vs) = ap₂ value (i v) (vals_make f g h i vs)

items_make : (f g h : AsnValue → AsnValue) → Makes f g h → Makes (map_items f) (map_items g) (map_items h)
items_make f g h i (items vs) = ap items (vals_make f g h i vs)
items_make f g h i _ = refl

choice_makes : (f g h : Tag → AsnValue → AsnValue) → ((t : Tag) → Makes (f t) (g t) (h t)) → Makes (map_chosen f) (map_chosen g) (map_chosen h)
choice_makes f g h i (chosen t v) = ap (chosen t) (i t v)
choice_makes f g h i _ = refl

by_tag_makes : (same : Bool) (f g h f' g' h' : AsnValue → AsnValue) → Makes f g h → Makes f' g' h' → Makes (filled_by_tag same f f') (filled_by_tag same g g') (filled_by_tag same h h')
by_tag_makes true f g h f' g' h' i j = i
by_tag_makes false f g h f' g' h' i j = j

module _ (h f : AsnValue → AsnValue) (k g : Places → Places) where
  -- filling what is trimmed
  default_filled : (d v : AsnValue) (ps : Places) (c : Bool) → same (h v) (h d) ≡ c → h (f v) ≡ h v → k (g ps) ≡ k ps → filled_place (default d) h k (if c then absent (g ps) else present (f v) (g ps)) ≡ present (h v) (k ps)
  default_filled d v ps true e i j = ap₂ present (sym (same-true (h v) (h d) e)) j
  default_filled d v ps false e i j = ap₂ present i j

  place_filled : (need : Need) → Makes h f h → Makes k g k → Makes (filled_place need h k) (trimmed_place need h f g) (filled_place need h k)
  place_filled need i j no_places = refl
  place_filled must i j (absent ps) = ap absent (j ps)
  place_filled may i j (absent ps) = ap absent (j ps)
  place_filled (default d) i j (absent ps) = ap (present (h d)) (j ps)
  place_filled must i j (present v ps) = ap₂ present (i v) (j ps)
  place_filled may i j (present v ps) = ap₂ present (i v) (j ps)
  place_filled (default d) i j (present v ps) = default_filled d v ps (same (h v) (h d)) refl (i v) (j ps)

  -- trimming what is filled
  place_trimmed : (need : Need) → Makes h h h → Makes f h f → Makes g k g → Makes (trimmed_place need h f g) (filled_place need h k) (trimmed_place need h f g)
  place_trimmed need t i j no_places = refl
  place_trimmed must t i j (absent ps) = ap absent (j ps)
  place_trimmed may t i j (absent ps) = ap absent (j ps)
  place_trimmed (default d) t i j (absent ps) = ap (λ (c : Bool). if c then absent (g (k ps)) else present (f (h d)) (g (k ps))) (ap (λ v. same v (h d)) (t d) ∙ same-refl (h d)) ∙ ap absent (j ps)
  place_trimmed must t i j (present v ps) = ap₂ present (i v) (j ps)
  place_trimmed may t i j (present v ps) = ap₂ present (i v) (j ps)
  place_trimmed (default d) t i j (present v ps) = ap₂ (λ (w : AsnValue) (c : Bool). if c then absent (g (k ps)) else present w (g (k ps))) (i v) (ap (λ v. same v (h d)) (t v)) ∙ ap (λ qs. if same (h v) (h d) then absent qs else present (f v) qs) (j ps)

mutual
  pub fill_trimmed : (T : AsnType) → Makes (filled T) (trimmed T) (filled T)
  fill_trimmed (sequence fs) v = seq_makes (filled_fields fs) (trimmed_fields fs) (filled_fields fs) (λ ps. ps) (λ ps. ps) (λ ps. ps) (fields_filled fs) (λ ps. refl) v
  fill_trimmed (extensible_sequence fs more) v = seq_makes (filled_fields fs) (trimmed_fields fs) (filled_fields fs) (filled_additions more) (trimmed_additions more) (filled_additions more) (fields_filled fs) (adds_filled more) v
  fill_trimmed (sequence_of s T) v = items_make (filled T) (trimmed T) (filled T) (fill_trimmed T) v
  fill_trimmed (choice extensible more) v = choice_makes (filled_alternative more) (trimmed_alternative more) (filled_alternative more) (alts_filled more) v
  fill_trimmed _ v = refl

  fields_filled : (fs : Fields) → Makes (filled_fields fs) (trimmed_fields fs) (filled_fields fs)
  fields_filled no_fields ps = refl
  fields_filled (field name need T fs) ps = place_filled (filled T) (trimmed T) (filled_fields fs) (trimmed_fields fs) need (fill_trimmed T) (fields_filled fs) ps

  adds_filled : (more : Additions) → Makes (filled_additions more) (trimmed_additions more) (filled_additions more)
  adds_filled no_additions ps = refl
  adds_filled (addition name T more) ps = place_filled (filled T) (trimmed T) (filled_additions more) (trimmed_additions more) may (fill_trimmed T) (adds_filled more) ps

  alts_filled : (more : Alternatives) (t : Tag) → Makes (filled_alternative more t) (trimmed_alternative more t) (filled_alternative more t)
  alts_filled no_alternatives t v = refl
  alts_filled (alternative name u T more) t v = by_tag_makes (same_tag u t) (filled T) (trimmed T) (filled T) (filled_alternative more t) (trimmed_alternative more t) (filled_alternative more t) (fill_trimmed T) (alts_filled more t) v
  alts_filled (later name u T more) t v = by_tag_makes (same_tag u t) (filled T) (trimmed T) (filled T) (filled_alternative more t) (trimmed_alternative more t) (filled_alternative more t) (fill_trimmed T) (alts_filled more t) v

mutual
  pub trim_filled : (T : AsnType) → Makes (trimmed T) (filled T) (trimmed T)
  trim_filled (sequence fs) v = seq_makes (trimmed_fields fs) (filled_fields fs) (trimmed_fields fs) (λ ps. ps) (λ ps. ps) (λ ps. ps) (fields_trimmed fs) (λ ps. refl) v
  trim_filled (extensible_sequence fs more) v = seq_makes (trimmed_fields fs) (filled_fields fs) (trimmed_fields fs) (trimmed_additions more) (filled_additions more) (trimmed_additions more) (fields_trimmed fs) (adds_trimmed more) v
  trim_filled (sequence_of s T) v = items_make (trimmed T) (filled T) (trimmed T) (trim_filled T) v
  trim_filled (choice extensible more) v = choice_makes (trimmed_alternative more) (filled_alternative more) (trimmed_alternative more) (alts_trimmed more) v
  trim_filled _ v = refl

  fields_trimmed : (fs : Fields) → Makes (trimmed_fields fs) (filled_fields fs) (trimmed_fields fs)
  fields_trimmed no_fields ps = refl
  fields_trimmed (field name need T fs) ps = place_trimmed (filled T) (trimmed T) (filled_fields fs) (trimmed_fields fs) need (fill_twice T) (trim_filled T) (fields_trimmed fs) ps

  adds_trimmed : (more : Additions) → Makes (trimmed_additions more) (filled_additions more) (trimmed_additions more)
  adds_trimmed no_additions ps = refl
  adds_trimmed (addition name T more) ps = place_trimmed (filled T) (trimmed T) (filled_additions more) (trimmed_additions more) may (fill_twice T) (trim_filled T) (adds_trimmed more) ps

  alts_trimmed : (more : Alternatives) (t : Tag) → Makes (trimmed_alternative more t) (filled_alternative more t) (trimmed_alternative more t)
  alts_trimmed no_alternatives t v = refl
  alts_trimmed (alternative name u T more) t v = by_tag_makes (same_tag u t) (trimmed T) (filled T) (trimmed T) (trimmed_alternative more t) (filled_alternative more t) (trimmed_alternative more t) (trim_filled T) (alts_trimmed more t) v
  alts_trimmed (later name u T more) t v = by_tag_makes (same_tag u t) (trimmed T) (filled T) (trimmed T) (trimmed_alternative more t) (filled_alternative more t) (trimmed_alternative more t) (trim_filled T) (alts_trimmed more t) v

-- values with the same fill are the same when trimmed
pub trims_from_fills : (T : AsnType) (v w : AsnValue) → filled T v ≡ filled T w → trimmed T v ≡ trimmed T w
trims_from_fills T v w e = sym (trim_filled T v) ∙ ap (trimmed T) e ∙ trim_filled T w
