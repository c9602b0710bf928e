-- Filling twice is filling once.
use Rattle.std.proofs.Common.{◌≡◌, Bool, true, false, refl, ap, ap₂}
use Rattle.oer_units.specs.declared.tagging.Tag.{Tag}
use Rattle.oer_model.specs.AsnType.{Need, must, may, default, AsnType, sequence, extensible_sequence, sequence_of, choice, Fields, no_fields, field, Additions, no_additions, addition, Alternatives, no_alternatives, alternative, later}
use Rattle.oer_model.specs.AsnValue.{AsnValue, seq, items, chosen, no_values, value, Places, no_places, absent, present}
use Rattle.oer_model.specs.Constraints.{same_tag}
use Rattle.oer_model.specs.Filling.{map_sequence, map_values, map_items, map_chosen, filled_place, filled_by_tag, filled, filled_fields, filled_additions, filled_alternative}

abbrev Twice : {A : Type 0} → (A → A) → Type 0
Twice {A} f = (x : A) → f (f x) ≡ f x

place_twice : (need : Need) (f : AsnValue → AsnValue) (g : Places → Places) → Twice f → Twice g → Twice (filled_place need f g)
place_twice need f g i j no_places = refl
place_twice need f g i j (present v ps) = ap₂ present (i v) (j ps)
place_twice must f g i j (absent ps) = ap absent (j ps)
place_twice may f g i j (absent ps) = ap absent (j ps)
place_twice (default d) f g i j (absent ps) = ap₂ present (i d) (j ps)

seq_twice : (f g : Places → Places) → Twice f → Twice g → Twice (map_sequence f g)
seq_twice f g i j (seq a b us) = ap₂ (λ a b. seq a b us) (i a) (j b)
seq_twice f g i j _ = refl

vals_twice : (f : AsnValue → AsnValue) → Twice f → Twice (map_values f)
vals_twice f i no_values = refl
vals_twice f i (value v vs) = ap₂ value (i v) (vals_twice f i vs)

items_twice : (f : AsnValue → AsnValue) → Twice f → Twice (map_items f)
items_twice f i (items vs) = ap items (vals_twice f i vs)
items_twice f i _ = refl

choice_twice : (f : Tag → AsnValue → AsnValue) → ((t : Tag) → Twice (f t)) → Twice (map_chosen f)
choice_twice f i (chosen t v) = ap (chosen t) (i t v)
choice_twice f i _ = refl

by_tag_twice : (same : Bool) (f g : AsnValue → AsnValue) → Twice f → Twice g → Twice (filled_by_tag same f g)
by_tag_twice true f g i j = i
by_tag_twice false f g i j = j

mutual
  pub fill_twice : (T : AsnType) → Twice (filled T)
  fill_twice (sequence fs) v = seq_twice (filled_fields fs) (λ ps. ps) (fields_twice fs) (λ ps. refl) v
  fill_twice (extensible_sequence fs more) v = seq_twice (filled_fields fs) (filled_additions more) (fields_twice fs) (adds_twice more) v
  fill_twice (sequence_of s T) v = items_twice (filled T) (fill_twice T) v
  fill_twice (choice extensible more) v = choice_twice (filled_alternative more) (alts_twice more) v
  fill_twice _ v = refl

  fields_twice : (fs : Fields) → Twice (filled_fields fs)
  fields_twice no_fields ps = refl
  fields_twice (field name need T fs) ps = place_twice need (filled T) (filled_fields fs) (fill_twice T) (fields_twice fs) ps

  adds_twice : (more : Additions) → Twice (filled_additions more)
  adds_twice no_additions ps = refl
  adds_twice (addition name T more) ps = place_twice may (filled T) (filled_additions more) (fill_twice T) (adds_twice more) ps

  alts_twice : (more : Alternatives) (t : Tag) → Twice (filled_alternative more t)
  alts_twice no_alternatives t v = refl
  alts_twice (alternative name u T more) t v = by_tag_twice (same_tag u t) (filled T) (filled_alternative more t) (fill_twice T) (alts_twice more t) v
  alts_twice (later name u T more) t v = by_tag_twice (same_tag u t) (filled T) (filled_alternative more t) (fill_twice T) (alts_twice more t) v
