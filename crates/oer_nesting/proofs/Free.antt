-- A value in which no CHOICE has chosen the tag of an end meets no end of a type that it fits.
use Rattle.std.proofs.Common.{◌≡◌, inl, inr, List, [], ◌∷◌, Bool, true, false, sym, subst}
use Rattle.oer_units.specs.declared.tagging.Tag.{Tag}
use Rattle.oer_model.specs.AsnType.{Additions, Alternatives, AsnType, Fields, Need, addition, alternative, choice, default, extensible_sequence, field, later, leaf, may, must, no_additions, no_alternatives, no_fields, null, sequence, sequence_of}
use Rattle.oer_model.specs.AsnValue.{AsnValue, Places}
use Rattle.oer_model.specs.Constraints.{same_tag}
use Rattle.oer_model.specs.Fits.{AllFit, Fits, FitsAdditions, FitsAlternative, FitsByTag, FitsChosen, FitsFields, FitsPlace, IsMissing, IsThere, listed}
use Rattle.oer_nesting.proofs.Moved.{OfEach}
use Rattle.oer_nesting.specs.Deeper.{AdditionsHaveNoEnd, AlternativeHasNoEnd, FieldsHaveNoEnd, HasNoEnd, IsEnd, OfChosen, OfPlaces, end_tag}
use Rattle.oer_nesting.specs.Free.{ArePlacesFree, AreValuesFree, IsFree}

-- what is F and free has P
abbrev Shows : (AsnValue → Type 0) → (AsnValue → Type 0) → Type 0
Shows F P = (v : AsnValue) → F v → IsFree v → P v

abbrev ShowsPlaces : (Places → Type 0) → (Places → Type 0) → Type 0
ShowsPlaces G Q = (ps : Places) → G ps → ArePlacesFree ps → Q ps

there_shows : (F P : AsnValue → Type 0) (G Q : Places → Type 0) → Shows F P → ShowsPlaces G Q → ShowsPlaces (IsThere F G) (OfPlaces P Q)
there_shows F P G Q f g ps (v, rest, is, p, q) free =
    let m : IsFree v × ArePlacesFree rest = subst ArePlacesFree is free in
    subst (OfPlaces P Q) (sym is) (f v p m.0, g rest q m.1)

missing_shows : (P : AsnValue → Type 0) (G Q : Places → Type 0) → ShowsPlaces G Q → ShowsPlaces (IsMissing G) (OfPlaces P Q)
missing_shows P G Q g ps (rest, is, q) free = subst (OfPlaces P Q) (sym is) (g rest q (subst ArePlacesFree is free))

place_shows : (need : Need) (F P : AsnValue → Type 0) (G Q : Places → Type 0) → Shows F P → ShowsPlaces G Q
    → ShowsPlaces (FitsPlace need F G) (OfPlaces P Q)
place_shows must F P G Q f g ps x free = there_shows F P G Q f g ps x free
place_shows may F P G Q f g ps (inl x) free = there_shows F P G Q f g ps x free
place_shows may F P G Q f g ps (inr x) free = missing_shows P G Q g ps x free
place_shows (default d) F P G Q f g ps (inl x) free = there_shows F P G Q f g ps x free
place_shows (default d) F P G Q f g ps (inr x) free = missing_shows P G Q g ps x free

tag_shows : (same : Bool) (F P F' P' : AsnValue → Type 0) → Shows F P → Shows F' P' → Shows (FitsByTag same F F') (FitsByTag same P P')
tag_shows true F P F' P' f g = f
tag_shows false F P F' P' f g = g

all_show : (F P : AsnValue → Type 0) → Shows F P → (vs : List AsnValue) → AllFit F vs → AreValuesFree (listed vs) → OfEach P vs
all_show F P f [] a free = tt
all_show F P f (v ∷ vs) (p, a) free = (f v p free.0, all_show F P f vs a free.1)

chosen_shows : (extensible : Bool) (more : Alternatives) (F P : Tag → AsnValue → Type 0) → ((t : Tag) → Shows (F t) (P t))
    → Shows (FitsChosen extensible more F) (OfChosen P)
chosen_shows extensible more F P f v (inl (t, x, is, p)) free =
    let m : (same_tag end_tag t ≡ false) × IsFree x = subst IsFree is free in
    subst (OfChosen P) (sym is) (f t x p m.1)
chosen_shows extensible more F P f v (inr (t, w, is, may_be, none, number, octets)) free = subst (OfChosen P) (sym is) tt

-- what fits an end has chosen its tag
not_of_an_end : (T : AsnType) (v : AsnValue) → Fits T v → IsFree v → IsEnd T → ⊥
not_of_an_end T v fit free (name, is) = of_end (subst (λ X. Fits X v) is fit)
  where
    of_end : Fits (choice false (alternative name end_tag null no_alternatives)) v → ⊥
    of_end (inl (t, x, e, p)) =
        let m : (same_tag end_tag t ≡ false) × IsFree x = subst IsFree e free in
        subst (λ same. FitsByTag same (Fits null) (FitsAlternative no_alternatives t) x) m.0 p
    of_end (inr (t, w, e, may_be, none, number, octets)) = cc

mutual
  pub free_meets_none : (T : AsnType) (v : AsnValue) → Fits T v → IsFree v → HasNoEnd T v
  free_meets_none (leaf kind) v fit free = tt
  free_meets_none (sequence fs) v (root, is, p) free =
      let m : ArePlacesFree root × Unit {0} = subst IsFree is free in
      subst (HasNoEnd (sequence fs)) (sym is) (fields_meet_none fs root p m.0, tt)
  free_meets_none (extensible_sequence fs more) v (root, added, us, is, p, q, u) free =
      let m : ArePlacesFree root × ArePlacesFree added = subst IsFree is free in
      subst (HasNoEnd (extensible_sequence fs more)) (sym is) (fields_meet_none fs root p m.0, additions_meet_none more added q m.1)
  free_meets_none (sequence_of size T) v (vs, is, k, a) free =
      subst (HasNoEnd (sequence_of size T)) (sym is) (all_show (Fits T) (HasNoEnd T) (free_meets_none T) vs a (subst IsFree is free))
  free_meets_none (choice extensible more) v fit free = (
    not_of_an_end (choice extensible more) v fit free,
    chosen_shows extensible more (FitsAlternative more) (AlternativeHasNoEnd more) (alternatives_meet_none more) v fit free,
  )

  fields_meet_none : (fs : Fields) (ps : Places) → FitsFields fs ps → ArePlacesFree ps → FieldsHaveNoEnd fs ps
  fields_meet_none no_fields ps p free = tt
  fields_meet_none (field name need T fs) ps p free =
      place_shows need (Fits T) (HasNoEnd T) (FitsFields fs) (FieldsHaveNoEnd fs) (free_meets_none T) (fields_meet_none fs) ps p free

  additions_meet_none : (more : Additions) (ps : Places) → FitsAdditions more ps → ArePlacesFree ps → AdditionsHaveNoEnd more ps
  additions_meet_none no_additions ps p free = tt
  additions_meet_none (addition name T more) ps p free =
      place_shows may (Fits T) (HasNoEnd T) (FitsAdditions more) (AdditionsHaveNoEnd more) (free_meets_none T) (additions_meet_none more) ps p free

  alternatives_meet_none : (more : Alternatives) (t : Tag) (v : AsnValue) → FitsAlternative more t v → IsFree v → AlternativeHasNoEnd more t v
  alternatives_meet_none no_alternatives t v p free = tt
  alternatives_meet_none (alternative name u T more) t v p free =
      tag_shows (same_tag u t) (Fits T) (HasNoEnd T) (FitsAlternative more t) (AlternativeHasNoEnd more t)
      (free_meets_none T) (alternatives_meet_none more t) v p free
  alternatives_meet_none (later name u T more) t v p free =
      tag_shows (same_tag u t) (Fits T) (HasNoEnd T) (FitsAlternative more t) (AlternativeHasNoEnd more t)
      (free_meets_none T) (alternatives_meet_none more t) v p free
