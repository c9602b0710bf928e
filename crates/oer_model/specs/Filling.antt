-- Values with their defaults filled in.
use Rattle.std.specs.Prelude.{Bool, true, false}
use Rattle.oer_units.specs.declared.tagging.Tag.{Tag}
use Rattle.oer_model.specs.AsnType.{Additions, Alternatives, AsnType, Fields, Need, addition, alternative, choice, default, extensible_sequence, field, later, leaf, may, must, no_additions, no_alternatives, no_fields, sequence, sequence_of}
use Rattle.oer_model.specs.AsnValue.{AsnValue, Places, Values, absent, chosen, items, no_places, no_values, present, seq, value}
use Rattle.oer_model.specs.Constraints.{same_tag}

-- f of the root's components and g of the additions
abbrev pub map_sequence : (Places → Places) → (Places → Places) → AsnValue → AsnValue
map_sequence f g (seq a b us) = seq (f a) (g b) us
map_sequence f g v = v

-- f of each value
abbrev pub map_values : (AsnValue → AsnValue) → Values → Values
map_values f no_values = no_values
map_values f (value v vs) = value (f v) (map_values f vs)

-- f of each element
abbrev pub map_items : (AsnValue → AsnValue) → AsnValue → AsnValue
map_items f (items vs) = items (map_values f vs)
map_items f v = v

-- f of the alternative's value
abbrev pub map_chosen : (Tag → AsnValue → AsnValue) → AsnValue → AsnValue
map_chosen f (chosen t v) = chosen t (f t v)
map_chosen f v = v

-- in the place of an absent component its default, if it has one, filled by f
abbrev pub filled_absent : Need → (AsnValue → AsnValue) → Places → Places
filled_absent must f ps = absent ps
filled_absent may f ps = absent ps
filled_absent (default d) f ps = present (f d) ps

-- by f where the component is there; g: the components after it
abbrev pub filled_place : Need → (AsnValue → AsnValue) → (Places → Places) → Places → Places
filled_place need f g no_places = no_places
filled_place need f g (absent ps) = filled_absent need f (g ps)
filled_place need f g (present v ps) = present (f v) (g ps)

-- by the first alternative that has the tag
abbrev pub filled_by_tag : Bool → (AsnValue → AsnValue) → (AsnValue → AsnValue) → AsnValue → AsnValue
filled_by_tag true f g v = f v
filled_by_tag false f g v = g v

-- v with every absent root DEFAULT component replaced by its default, filled too, at every depth
abbrev mutual
  pub filled : AsnType → AsnValue → AsnValue
  filled (leaf kind) v = v
  filled (sequence fs) v = map_sequence (filled_fields fs) (λ ps. ps) v
  filled (extensible_sequence fs more) v = map_sequence (filled_fields fs) (filled_additions more) v
  filled (sequence_of s T) v = map_items (filled T) v
  filled (choice extensible more) v = map_chosen (filled_alternative more) v

  pub filled_fields : Fields → Places → Places
  filled_fields no_fields ps = ps
  filled_fields (field name need T fs) ps = filled_place need (filled T) (filled_fields fs) ps

  pub filled_additions : Additions → Places → Places
  filled_additions no_additions ps = ps
  filled_additions (addition name T more) ps = filled_place may (filled T) (filled_additions more) ps

  pub filled_alternative : Alternatives → Tag → AsnValue → AsnValue
  filled_alternative no_alternatives t v = v
  filled_alternative (alternative name u T more) t v = filled_by_tag (same_tag u t) (filled T) (filled_alternative more t) v
  filled_alternative (later name u T more) t v = filled_by_tag (same_tag u t) (filled T) (filled_alternative more t) v
