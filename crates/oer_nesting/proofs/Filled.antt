-- A value that meets no end is filled alike where ends are replaced. Filled, it meets none, and what meets none when it is
-- filled met none before.
use Rattle.std.proofs.Common.{◌≡◌, inl, inr, Bool, true, false, refl, ap, ap₂, sym, subst}
use Rattle.oer_units.specs.declared.tagging.Tag.{Tag}
use Rattle.oer_model.specs.AsnType.{Additions, Alternatives, AsnType, Fields, Need, addition, alternative, choice, default, extensible_sequence, field, later, leaf, may, must, no_additions, no_alternatives, no_fields, sequence, sequence_of}
use Rattle.oer_model.specs.AsnValue.{AsnValue, Places, absent, chosen, items, no_places, no_values, present, seq, value}
use Rattle.oer_model.specs.Constraints.{same_tag}
use Rattle.oer_model.specs.Filling.{filled, filled_additions, filled_alternative, filled_by_tag, filled_fields, filled_place, map_chosen, map_items, map_sequence, map_values}
use Rattle.oer_model.specs.Fits.{DefaultFits, FitsByTag}
use Rattle.oer_nesting.specs.Deeper.{AdditionsHaveNoEnd, AlternativeHasNoEnd, Deeper, DeeperAdditions, DeeperAlternatives, DeeperFields, FieldsHaveNoEnd, HasNoEnd, OfChosen, OfItems, OfPlaces, OfSequence, OfValues}
use Rattle.oer_nesting.specs.Defaults.{AdditionDefaultsHaveNoEnd, AlternativeDefaultsHaveNoEnd, DefaultsHaveNoEnd, FieldDefaultsHaveNoEnd}

-- ---- filled alike

-- of what has P, f and g make the same
abbrev Makes : {A : Type 0} → (A → Type 0) → (A → A) → (A → A) → Type 0
Makes {A} P f g = (x : A) → P x → f x ≡ g x

abbrev Anything : Places → Type 0
Anything ps = Unit {0}

sequence_same : (P Q : Places → Type 0) (f f' g g' : Places → Places) → Makes P f f' → Makes Q g g'
    → Makes (OfSequence P Q) (map_sequence f g) (map_sequence f' g')
sequence_same P Q f f' g g' i j (seq a b us) n = ap₂ (λ a b. seq a b us) (i a n.0) (j b n.1)
sequence_same P Q f f' g g' i j _ n = refl

values_same : (P : AsnValue → Type 0) (f f' : AsnValue → AsnValue) → Makes P f f' → Makes (OfValues P) (map_values f) (map_values f')
values_same P f f' i no_values n = refl
values_same P f f' i (value v vs) n = ap₂ value (i v n.0) (values_same P f f' i vs n.1)

items_same : (P : AsnValue → Type 0) (f f' : AsnValue → AsnValue) → Makes P f f' → Makes (OfItems P) (map_items f) (map_items f')
items_same P f f' i (items vs) n = ap items (values_same P f f' i vs n)
items_same P f f' i _ n = refl

chosen_same : (P : Tag → AsnValue → Type 0) (f f' : Tag → AsnValue → AsnValue) → ((t : Tag) → Makes (P t) (f t) (f' t))
    → Makes (OfChosen P) (map_chosen f) (map_chosen f')
chosen_same P f f' i (chosen t v) n = ap (chosen t) (i t v n)
chosen_same P f f' i _ n = refl

place_same : (need : Need) (P : AsnValue → Type 0) (Q : Places → Type 0) (f f' : AsnValue → AsnValue) (g g' : Places → Places)
    → DefaultFits need P → Makes P f f' → Makes Q g g' → Makes (OfPlaces P Q) (filled_place need f g) (filled_place need f' g')
place_same need P Q f f' g g' has i j no_places n = refl
place_same need P Q f f' g g' has i j (present v ps) n = ap₂ present (i v n.0) (j ps n.1)
place_same must P Q f f' g g' has i j (absent ps) n = ap absent (j ps n)
place_same may P Q f f' g g' has i j (absent ps) n = ap absent (j ps n)
place_same (default d) P Q f f' g g' has i j (absent ps) n = ap₂ present (i d has) (j ps n)

tag_same : (same : Bool) (P O : AsnValue → Type 0) (f f' g g' : AsnValue → AsnValue) → Makes P f f' → Makes O g g'
    → Makes (FitsByTag same P O) (filled_by_tag same f g) (filled_by_tag same f' g')
tag_same true P O f f' g g' i j = i
tag_same false P O f f' g g' i j = j

mutual
  pub filled_same : (T U : AsnType) → Deeper T U → DefaultsHaveNoEnd T → (v : AsnValue) → HasNoEnd T v → filled T v ≡ filled U v
  filled_same (leaf kind) U is has v n = ap (λ X. filled X v) (sym is)
  filled_same (sequence fs) U (gs, is, d) has v n =
      subst (λ X. filled (sequence fs) v ≡ filled X v) (sym is)
      (sequence_same (FieldsHaveNoEnd fs) Anything (filled_fields fs) (filled_fields gs) (λ ps. ps) (λ ps. ps) (fields_same fs gs d has) (λ ps n. refl) v n)
  filled_same (extensible_sequence fs more) U (gs, others, is, d, a) has v n =
      subst (λ X. filled (extensible_sequence fs more) v ≡ filled X v) (sym is)
      (sequence_same (FieldsHaveNoEnd fs) (AdditionsHaveNoEnd more) (filled_fields fs) (filled_fields gs) (filled_additions more) (filled_additions others)
      (fields_same fs gs d has.0) (additions_same more others a has.1) v n)
  filled_same (sequence_of size T) U (X, is, d) has v n =
      subst (λ Y. filled (sequence_of size T) v ≡ filled Y v) (sym is)
      (items_same (HasNoEnd T) (filled T) (filled X) (filled_same T X d has) v n)
  filled_same (choice extensible more) U (inl end) has v n = absurd (n.0 end)
  filled_same (choice extensible more) U (inr (others, is, d)) has v n =
      subst (λ X. filled (choice extensible more) v ≡ filled X v) (sym is)
      (chosen_same (AlternativeHasNoEnd more) (filled_alternative more) (filled_alternative others) (alternatives_same more others d has) v n.1)

  fields_same : (fs gs : Fields) → DeeperFields fs gs → FieldDefaultsHaveNoEnd fs → (ps : Places) → FieldsHaveNoEnd fs ps
      → filled_fields fs ps ≡ filled_fields gs ps
  fields_same no_fields gs is has ps n = ap (λ hs. filled_fields hs ps) (sym is)
  fields_same (field name need T fs) gs (X, rest, is, d, ds) has ps n =
      subst (λ hs. filled_fields (field name need T fs) ps ≡ filled_fields hs ps) (sym is)
      (place_same need (HasNoEnd T) (FieldsHaveNoEnd fs) (filled T) (filled X) (filled_fields fs) (filled_fields rest) has.1
      (filled_same T X d has.0) (fields_same fs rest ds has.2) ps n)

  additions_same : (more others : Additions) → DeeperAdditions more others → AdditionDefaultsHaveNoEnd more → (ps : Places)
      → AdditionsHaveNoEnd more ps → filled_additions more ps ≡ filled_additions others ps
  additions_same no_additions others is has ps n = ap (λ hs. filled_additions hs ps) (sym is)
  additions_same (addition name T more) others (X, rest, is, d, ds) has ps n =
      subst (λ hs. filled_additions (addition name T more) ps ≡ filled_additions hs ps) (sym is)
      (place_same may (HasNoEnd T) (AdditionsHaveNoEnd more) (filled T) (filled X) (filled_additions more) (filled_additions rest) tt
      (filled_same T X d has.0) (additions_same more rest ds has.1) ps n)

  alternatives_same : (more others : Alternatives) → DeeperAlternatives more others → AlternativeDefaultsHaveNoEnd more → (t : Tag)
      (v : AsnValue) → AlternativeHasNoEnd more t v → filled_alternative more t v ≡ filled_alternative others t v
  alternatives_same no_alternatives others is has t v n = ap (λ hs. filled_alternative hs t v) (sym is)
  alternatives_same (alternative name u T more) others (X, rest, is, d, ds) has t v n =
      subst (λ hs. filled_alternative (alternative name u T more) t v ≡ filled_alternative hs t v) (sym is)
      (tag_same (same_tag u t) (HasNoEnd T) (AlternativeHasNoEnd more t) (filled T) (filled X) (filled_alternative more t) (filled_alternative rest t)
      (filled_same T X d has.0) (alternatives_same more rest ds has.1 t) v n)
  alternatives_same (later name u T more) others (X, rest, is, d, ds) has t v n =
      subst (λ hs. filled_alternative (later name u T more) t v ≡ filled_alternative hs t v) (sym is)
      (tag_same (same_tag u t) (HasNoEnd T) (AlternativeHasNoEnd more t) (filled T) (filled X) (filled_alternative more t) (filled_alternative rest t)
      (filled_same T X d has.0) (alternatives_same more rest ds has.1 t) v n)

-- ---- filled, it meets no end

-- f keeps P
abbrev Keeps : {A : Type 0} → (A → A) → (A → Type 0) → Type 0
Keeps {A} f P = (x : A) → P x → P (f x)

sequence_keeps : (P Q : Places → Type 0) (f g : Places → Places) → Keeps f P → Keeps g Q → Keeps (map_sequence f g) (OfSequence P Q)
sequence_keeps P Q f g i j (seq a b us) n = (i a n.0, j b n.1)
sequence_keeps P Q f g i j _ n = n

values_keep : (P : AsnValue → Type 0) (f : AsnValue → AsnValue) → Keeps f P → Keeps (map_values f) (OfValues P)
values_keep P f i no_values n = tt
values_keep P f i (value v vs) n = (i v n.0, values_keep P f i vs n.1)

items_keep : (P : AsnValue → Type 0) (f : AsnValue → AsnValue) → Keeps f P → Keeps (map_items f) (OfItems P)
items_keep P f i (items vs) n = values_keep P f i vs n
items_keep P f i _ n = n

chosen_keeps : (P : Tag → AsnValue → Type 0) (f : Tag → AsnValue → AsnValue) → ((t : Tag) → Keeps (f t) (P t))
    → Keeps (map_chosen f) (OfChosen P)
chosen_keeps P f i (chosen t v) n = i t v n
chosen_keeps P f i _ n = n

place_keeps : (need : Need) (P : AsnValue → Type 0) (Q : Places → Type 0) (f : AsnValue → AsnValue) (g : Places → Places)
    → DefaultFits need P → Keeps f P → Keeps g Q → Keeps (filled_place need f g) (OfPlaces P Q)
place_keeps need P Q f g has i j no_places n = tt
place_keeps need P Q f g has i j (present v ps) n = (i v n.0, j ps n.1)
place_keeps must P Q f g has i j (absent ps) n = j ps n
place_keeps may P Q f g has i j (absent ps) n = j ps n
place_keeps (default d) P Q f g has i j (absent ps) n = (i d has, j ps n)

tag_keeps : (same : Bool) (P O : AsnValue → Type 0) (f g : AsnValue → AsnValue) → Keeps f P → Keeps g O
    → Keeps (filled_by_tag same f g) (FitsByTag same P O)
tag_keeps true P O f g i j = i
tag_keeps false P O f g i j = j

mutual
  pub filled_meets_none : (T : AsnType) → DefaultsHaveNoEnd T → (v : AsnValue) → HasNoEnd T v → HasNoEnd T (filled T v)
  filled_meets_none (leaf kind) has v n = tt
  filled_meets_none (sequence fs) has v n =
      sequence_keeps (FieldsHaveNoEnd fs) Anything (filled_fields fs) (λ ps. ps) (fields_meet_none fs has) (λ ps m. tt) v n
  filled_meets_none (extensible_sequence fs more) has v n =
      sequence_keeps (FieldsHaveNoEnd fs) (AdditionsHaveNoEnd more) (filled_fields fs) (filled_additions more)
      (fields_meet_none fs has.0) (additions_meet_none more has.1) v n
  filled_meets_none (sequence_of size T) has v n = items_keep (HasNoEnd T) (filled T) (filled_meets_none T has) v n
  filled_meets_none (choice extensible more) has v n =
      (n.0, chosen_keeps (AlternativeHasNoEnd more) (filled_alternative more) (alternatives_meet_none more has) v n.1)

  fields_meet_none : (fs : Fields) → FieldDefaultsHaveNoEnd fs → (ps : Places) → FieldsHaveNoEnd fs ps → FieldsHaveNoEnd fs (filled_fields fs ps)
  fields_meet_none no_fields has ps n = tt
  fields_meet_none (field name need T fs) has ps n =
      place_keeps need (HasNoEnd T) (FieldsHaveNoEnd fs) (filled T) (filled_fields fs) has.1 (filled_meets_none T has.0) (fields_meet_none fs has.2) ps n

  additions_meet_none : (more : Additions) → AdditionDefaultsHaveNoEnd more → (ps : Places) → AdditionsHaveNoEnd more ps
      → AdditionsHaveNoEnd more (filled_additions more ps)
  additions_meet_none no_additions has ps n = tt
  additions_meet_none (addition name T more) has ps n =
      place_keeps may (HasNoEnd T) (AdditionsHaveNoEnd more) (filled T) (filled_additions more) tt (filled_meets_none T has.0) (additions_meet_none more has.1) ps n

  alternatives_meet_none : (more : Alternatives) → AlternativeDefaultsHaveNoEnd more → (t : Tag) (v : AsnValue) → AlternativeHasNoEnd more t v
      → AlternativeHasNoEnd more t (filled_alternative more t v)
  alternatives_meet_none no_alternatives has t v n = tt
  alternatives_meet_none (alternative name u T more) has t v n =
      tag_keeps (same_tag u t) (HasNoEnd T) (AlternativeHasNoEnd more t) (filled T) (filled_alternative more t)
      (filled_meets_none T has.0) (alternatives_meet_none more has.1 t) v n
  alternatives_meet_none (later name u T more) has t v n =
      tag_keeps (same_tag u t) (HasNoEnd T) (AlternativeHasNoEnd more t) (filled T) (filled_alternative more t)
      (filled_meets_none T has.0) (alternatives_meet_none more has.1 t) v n

-- ---- what meets no end when it is filled met none before

-- x had P where f x has it
abbrev Had : {A : Type 0} → (A → A) → (A → Type 0) → Type 0
Had {A} f P = (x : A) → P (f x) → P x

sequence_had : (P Q : Places → Type 0) (f g : Places → Places) → Had f P → Had g Q → Had (map_sequence f g) (OfSequence P Q)
sequence_had P Q f g i j (seq a b us) n = (i a n.0, j b n.1)
sequence_had P Q f g i j _ n = n

values_had : (P : AsnValue → Type 0) (f : AsnValue → AsnValue) → Had f P → Had (map_values f) (OfValues P)
values_had P f i no_values n = tt
values_had P f i (value v vs) n = (i v n.0, values_had P f i vs n.1)

items_had : (P : AsnValue → Type 0) (f : AsnValue → AsnValue) → Had f P → Had (map_items f) (OfItems P)
items_had P f i (items vs) n = values_had P f i vs n
items_had P f i _ n = n

chosen_had : (P : Tag → AsnValue → Type 0) (f : Tag → AsnValue → AsnValue) → ((t : Tag) → Had (f t) (P t)) → Had (map_chosen f) (OfChosen P)
chosen_had P f i (chosen t v) n = i t v n
chosen_had P f i _ n = n

place_had : (need : Need) (P : AsnValue → Type 0) (Q : Places → Type 0) (f : AsnValue → AsnValue) (g : Places → Places)
    → Had f P → Had g Q → Had (filled_place need f g) (OfPlaces P Q)
place_had need P Q f g i j no_places n = tt
place_had need P Q f g i j (present v ps) n = (i v n.0, j ps n.1)
place_had must P Q f g i j (absent ps) n = j ps n
place_had may P Q f g i j (absent ps) n = j ps n
place_had (default d) P Q f g i j (absent ps) n = j ps n.1

tag_had : (same : Bool) (P O : AsnValue → Type 0) (f g : AsnValue → AsnValue) → Had f P → Had g O
    → Had (filled_by_tag same f g) (FitsByTag same P O)
tag_had true P O f g i j = i
tag_had false P O f g i j = j

-- W: T, or what it is with ends replaced
mutual
  pub met_none : (T W : AsnType) → Deeper T W → (v : AsnValue) → HasNoEnd T (filled W v) → HasNoEnd T v
  met_none (leaf kind) W is v n = tt
  met_none (sequence fs) W (gs, is, d) v n =
      sequence_had (FieldsHaveNoEnd fs) Anything (filled_fields gs) (λ ps. ps) (fields_met_none fs gs d) (λ ps m. tt) v
      (subst (λ X. HasNoEnd (sequence fs) (filled X v)) is n)
  met_none (extensible_sequence fs more) W (gs, others, is, d, a) v n =
      sequence_had (FieldsHaveNoEnd fs) (AdditionsHaveNoEnd more) (filled_fields gs) (filled_additions others)
      (fields_met_none fs gs d) (additions_met_none more others a) v (subst (λ X. HasNoEnd (extensible_sequence fs more) (filled X v)) is n)
  met_none (sequence_of size T) W (X, is, d) v n =
      items_had (HasNoEnd T) (filled X) (met_none T X d) v (subst (λ Y. HasNoEnd (sequence_of size T) (filled Y v)) is n)
  met_none (choice extensible more) W (inl end) v n = absurd (n.0 end)
  met_none (choice extensible more) W (inr (others, is, d)) v n =
      let m : HasNoEnd (choice extensible more) (filled (choice extensible others) v)
      = subst (λ X. HasNoEnd (choice extensible more) (filled X v)) is n in
      (m.0, chosen_had (AlternativeHasNoEnd more) (filled_alternative others) (alternatives_met_none more others d) v m.1)

  fields_met_none : (fs gs : Fields) → DeeperFields fs gs → (ps : Places) → FieldsHaveNoEnd fs (filled_fields gs ps) → FieldsHaveNoEnd fs ps
  fields_met_none no_fields gs is ps n = tt
  fields_met_none (field name need T fs) gs (X, rest, is, d, ds) ps n =
      place_had need (HasNoEnd T) (FieldsHaveNoEnd fs) (filled X) (filled_fields rest) (met_none T X d) (fields_met_none fs rest ds) ps
      (subst (λ hs. FieldsHaveNoEnd (field name need T fs) (filled_fields hs ps)) is n)

  additions_met_none : (more others : Additions) → DeeperAdditions more others → (ps : Places)
      → AdditionsHaveNoEnd more (filled_additions others ps) → AdditionsHaveNoEnd more ps
  additions_met_none no_additions others is ps n = tt
  additions_met_none (addition name T more) others (X, rest, is, d, ds) ps n =
      place_had may (HasNoEnd T) (AdditionsHaveNoEnd more) (filled X) (filled_additions rest) (met_none T X d) (additions_met_none more rest ds) ps
      (subst (λ hs. AdditionsHaveNoEnd (addition name T more) (filled_additions hs ps)) is n)

  alternatives_met_none : (more others : Alternatives) → DeeperAlternatives more others → (t : Tag) (v : AsnValue)
      → AlternativeHasNoEnd more t (filled_alternative others t v) → AlternativeHasNoEnd more t v
  alternatives_met_none no_alternatives others is t v n = tt
  alternatives_met_none (alternative name u T more) others (X, rest, is, d, ds) t v n =
      tag_had (same_tag u t) (HasNoEnd T) (AlternativeHasNoEnd more t) (filled X) (filled_alternative rest t)
      (met_none T X d) (alternatives_met_none more rest ds t) v
      (subst (λ hs. AlternativeHasNoEnd (alternative name u T more) t (filled_alternative hs t v)) is n)
  alternatives_met_none (later name u T more) others (X, rest, is, d, ds) t v n =
      tag_had (same_tag u t) (HasNoEnd T) (AlternativeHasNoEnd more t) (filled X) (filled_alternative rest t)
      (met_none T X d) (alternatives_met_none more rest ds t) v
      (subst (λ hs. AlternativeHasNoEnd (later name u T more) t (filled_alternative hs t v)) is n)
