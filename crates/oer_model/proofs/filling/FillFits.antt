-- What is filled fits, where the defaults do.
use Rattle.std.proofs.Common.{◌≡◌, inl, inr, List, [], ◌∷◌, map, Bool, true, false, refl, ap, ◌∙◌}
use Rattle.std.proofs.lemmas.List.{length-map}
use Rattle.oer_units.specs.declared.tagging.Tag.{Tag}
use Rattle.oer_model.specs.AsnType.{Need, must, may, default, AsnType, sequence, extensible_sequence, sequence_of, choice, Fields, no_fields, field, Additions, no_additions, addition, Alternatives, no_alternatives, alternative, later}
use Rattle.oer_model.specs.AsnValue.{AsnValue, items, value, Places}
use Rattle.oer_model.specs.Constraints.{same_tag, size_fits}
use Rattle.oer_model.specs.Filling.{map_values, filled_place, filled_by_tag, filled, filled_fields, filled_additions, filled_alternative}
use Rattle.oer_model.specs.Fits.{listed, AllFit, FitsPlace, FitsByTag, DefaultFits, Fits, FitsFields, FitsAdditions, FitsAlternative, DefaultsFit, FieldDefaultsFit, AdditionDefaultsFit, AlternativeDefaultsFit}

-- f keeps P
abbrev pub Keeps : {A : Type 0} → (A → A) → (A → Type 0) → Type 0
Keeps {A} f P = (x : A) → P x → P (f x)

place_keeps : (need : Need) (f : AsnValue → AsnValue) (g : Places → Places) (P : AsnValue → Type 0) (Q : Places → Type 0) → Keeps f P → Keeps g Q → DefaultFits need P → Keeps (filled_place need f g) (FitsPlace need P Q)
place_keeps must f g P Q i j d ps (v, rest, is, p, q) = (f v, g rest, ap (filled_place must f g) is, i v p, j rest q)
place_keeps may f g P Q i j d ps (inl (v, rest, is, p, q)) = inl (f v, g rest, ap (filled_place may f g) is, i v p, j rest q)
place_keeps may f g P Q i j d ps (inr (rest, is, q)) = inr (g rest, ap (filled_place may f g) is, j rest q)
place_keeps (default x) f g P Q i j d ps (inl (v, rest, is, p, q)) = inl (f v, g rest, ap (filled_place (default x) f g) is, i v p, j rest q)
place_keeps (default x) f g P Q i j d ps (inr (rest, is, q)) = inl (f x, g rest, ap (filled_place (default x) f g) is, i x d, j rest q)

pub tag_keeps : (same : Bool) (f g : AsnValue → AsnValue) (P Q : AsnValue → Type 0) → Keeps f P → Keeps g Q → Keeps (filled_by_tag same f g) (FitsByTag same P Q)
tag_keeps true f g P Q i j = i
tag_keeps false f g P Q i j = j

pub fill_listed : (f : AsnValue → AsnValue) (vs : List AsnValue) → map_values f (listed vs) ≡ listed (map f vs)
fill_listed f [] = refl
fill_listed f (v ∷ vs) = ap (value (f v)) (fill_listed f vs)

pub all_keep : (f : AsnValue → AsnValue) (P : AsnValue → Type 0) → Keeps f P → (vs : List AsnValue) → AllFit P vs → AllFit P (map f vs)
all_keep f P i [] a = tt
all_keep f P i (v ∷ vs) (p, a) = (i v p, all_keep f P i vs a)

mutual
  pub fill_fits : (T : AsnType) → DefaultsFit T → Keeps (filled T) (Fits T)
  fill_fits (sequence fs) d v (root, is, p) = (filled_fields fs root, ap (filled (sequence fs)) is, fields_keep fs d root p)
  fill_fits (extensible_sequence fs more) d v (root, added, us, is, p, q, u) = (filled_fields fs root, filled_additions more added, us, ap (filled (extensible_sequence fs more)) is, fields_keep fs d.0 root p, adds_keep more d.1 added q, u)
  fill_fits (sequence_of size T) d v (vs, is, n, a) =
      (map (filled T) vs, ap (filled (sequence_of size T)) is ∙ ap items (fill_listed (filled T) vs), ap (size_fits size) (length-map vs (filled T)) ∙ n, all_keep (filled T) (Fits T) (fill_fits T d) vs a)
  fill_fits (choice extensible more) d v (inl (t, x, is, p)) = inl (t, filled_alternative more t x, ap (filled (choice extensible more)) is, alts_keep more d t x p)
  fill_fits (choice extensible more) d v (inr (t, w, is, o, none, tag, octets)) = inr (t, w, ap (filled (choice extensible more)) is, o, none, tag, octets)
  fill_fits _ d v p = p

  fields_keep : (fs : Fields) → FieldDefaultsFit fs → Keeps (filled_fields fs) (FitsFields fs)
  fields_keep no_fields d ps p = p
  fields_keep (field name need T fs) d ps p = place_keeps need (filled T) (filled_fields fs) (Fits T) (FitsFields fs) (fill_fits T d.0) (fields_keep fs d.2) d.1 ps p

  adds_keep : (more : Additions) → AdditionDefaultsFit more → Keeps (filled_additions more) (FitsAdditions more)
  adds_keep no_additions d ps p = p
  adds_keep (addition name T more) d ps p = place_keeps may (filled T) (filled_additions more) (Fits T) (FitsAdditions more) (fill_fits T d.0) (adds_keep more d.1) tt ps p

  alts_keep : (more : Alternatives) → AlternativeDefaultsFit more → (t : Tag) → Keeps (filled_alternative more t) (FitsAlternative more t)
  alts_keep no_alternatives d t v p = p
  alts_keep (alternative name u T more) d t v p = tag_keeps (same_tag u t) (filled T) (filled_alternative more t) (Fits T) (FitsAlternative more t) (fill_fits T d.0) (alts_keep more d.1 t) v p
  alts_keep (later name u T more) d t v p = tag_keeps (same_tag u t) (filled T) (filled_alternative more t) (Fits T) (FitsAlternative more t) (fill_fits T d.0) (alts_keep more d.1 t) v p
