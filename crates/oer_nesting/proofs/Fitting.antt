-- Values that meet no end fit alike where ends are replaced.
use Rattle.std.proofs.Common.{◌≡◌, inl, inr, [], ◌∷◌, Bool, true, false, sym, ◌∙◌, subst}
use Rattle.oer_units.specs.declared.tagging.Tag.{Tag}
use Rattle.oer_model.specs.LeafType.{LeafType}
use Rattle.oer_model.specs.AsnType.{Additions, Alternatives, AsnType, Fields, Need, addition, alternative, choice, default, extensible_sequence, field, later, leaf, may, must, no_additions, no_alternatives, no_fields, sequence, sequence_of}
use Rattle.oer_model.specs.AsnValue.{AsnValue, Places}
use Rattle.oer_model.specs.Constraints.{addition_count, has_tag, same_tag}
use Rattle.oer_model.specs.Fits.{AllFit, Fits, FitsAdditions, FitsAlternative, FitsByTag, FitsFields, FitsPlace, FitsUnknown, IsMissing, IsThere}
use Rattle.oer_model.specs.declared.size.Size.{Size}
use Rattle.oer_nesting.proofs.Counted.{same_count, same_tags}
use Rattle.oer_nesting.proofs.Moved.{OfEach}
use Rattle.oer_nesting.proofs.Spelled.{Anything}
use Rattle.oer_nesting.specs.Deeper.{AdditionsHaveNoEnd, AlternativeHasNoEnd, Deeper, DeeperAdditions, DeeperAlternatives, DeeperFields, FieldsHaveNoEnd, HasNoEnd, OfChosen, OfItems, OfPlaces, OfSequence}

-- of what has P, all that has F has G
abbrev Moves : {A : Type 0} → (A → Type 0) → (A → Type 0) → (A → Type 0) → Type 0
Moves {A} P F G = (x : A) → P x → F x → G x

-- of what has P, F and G hold of the same
pub record Agree {A : Type 0} (P F G : A → Type 0) : Type 0 where
  pub there : (x : A) → P x → F x → G x
  pub back : (x : A) → P x → G x → F x

there_moves : (P F F' : AsnValue → Type 0) (Q G G' : Places → Type 0) → Moves P F F' → Moves Q G G'
    → Moves (OfPlaces P Q) (IsThere F G) (IsThere F' G')
there_moves P F F' Q G G' f g ps n (v, rest, is, p, q) =
    let m : P v × Q rest = subst (OfPlaces P Q) is n in
    (v, rest, is, f v m.0 p, g rest m.1 q)

missing_moves : (P : AsnValue → Type 0) (Q G G' : Places → Type 0) → Moves Q G G' → Moves (OfPlaces P Q) (IsMissing G) (IsMissing G')
missing_moves P Q G G' g ps n (rest, is, q) = (rest, is, g rest (subst (OfPlaces P Q) is n) q)

place_moves : (need : Need) (P F F' : AsnValue → Type 0) (Q G G' : Places → Type 0) → Moves P F F' → Moves Q G G'
    → Moves (OfPlaces P Q) (FitsPlace need F G) (FitsPlace need F' G')
place_moves must P F F' Q G G' f g ps n x = there_moves P F F' Q G G' f g ps n x
place_moves may P F F' Q G G' f g ps n (inl x) = inl (there_moves P F F' Q G G' f g ps n x)
place_moves may P F F' Q G G' f g ps n (inr x) = inr (missing_moves P Q G G' g ps n x)
place_moves (default d) P F F' Q G G' f g ps n (inl x) = inl (there_moves P F F' Q G G' f g ps n x)
place_moves (default d) P F F' Q G G' f g ps n (inr x) = inr (missing_moves P Q G G' g ps n x)

tag_moves : (same : Bool) (P O F F' G G' : AsnValue → Type 0) → Moves P F F' → Moves O G G'
    → Moves (FitsByTag same P O) (FitsByTag same F G) (FitsByTag same F' G')
tag_moves true P O F F' G G' f g = f
tag_moves false P O F F' G G' f g = g

all_move : (P F F' : AsnValue → Type 0) → Moves P F F' → Moves (OfEach P) (AllFit F) (AllFit F')
all_move P F F' f [] n a = tt
all_move P F F' f (v ∷ vs) n (p, a) = (f v n.0 p, all_move P F F' f vs n.1 a)

sequence_moves : (fs gs : Fields) (Q : Places → Type 0) → Moves Q (FitsFields fs) (FitsFields gs)
    → Moves (OfSequence Q Anything) (Fits (sequence fs)) (Fits (sequence gs))
sequence_moves fs gs Q f v n (root, is, p) =
    let m : Q root × Unit {0} = subst (OfSequence Q Anything) is n in
    (root, is, f root m.0 p)

extensible_moves : (fs gs : Fields) (more others : Additions) → addition_count more ≡ addition_count others → (Q O : Places → Type 0)
    → Moves Q (FitsFields fs) (FitsFields gs) → Moves O (FitsAdditions more) (FitsAdditions others)
    → Moves (OfSequence Q O) (Fits (extensible_sequence fs more)) (Fits (extensible_sequence gs others))
extensible_moves fs gs more others count Q O f g v n (root, added, us, is, p, q, u) =
    let m : Q root × O added = subst (OfSequence Q O) is n in
    (root, added, us, is, f root m.0 p, g added m.1 q, subst (λ i. FitsUnknown i us) count u)

items_moves : (size : Size) (T X : AsnType) (P : AsnValue → Type 0) → Moves P (Fits T) (Fits X)
    → Moves (OfItems P) (Fits (sequence_of size T)) (Fits (sequence_of size X))
items_moves size T X P f v n (vs, is, k, a) = (vs, is, k, all_move P (Fits T) (Fits X) f vs (subst (OfItems P) is n) a)

choice_moves : (extensible : Bool) (more others : Alternatives) → ((t : Tag) → has_tag t more ≡ has_tag t others)
    → (O : Tag → AsnValue → Type 0) → ((t : Tag) → Moves (O t) (FitsAlternative more t) (FitsAlternative others t))
    → Moves (OfChosen O) (Fits (choice extensible more)) (Fits (choice extensible others))
choice_moves extensible more others tags O f v n (inl (t, x, is, p)) = inl (t, x, is, f t x (subst (OfChosen O) is n) p)
choice_moves extensible more others tags O f v n (inr (t, w, is, may_be, none, number, octets)) =
    inr (t, w, is, may_be, sym (tags t) ∙ none, number, octets)

abbrev TypesAgree : AsnType → AsnType → Type 0
TypesAgree T X = Agree (HasNoEnd T) (Fits T) (Fits X)

abbrev FieldsAgree : Fields → Fields → Type 0
FieldsAgree fs gs = Agree (FieldsHaveNoEnd fs) (FitsFields fs) (FitsFields gs)

abbrev AdditionsAgree : Additions → Additions → Type 0
AdditionsAgree more others = Agree (AdditionsHaveNoEnd more) (FitsAdditions more) (FitsAdditions others)

abbrev AlternativesAgree : Alternatives → Alternatives → Type 0
AlternativesAgree more others = (t : Tag) → Agree (AlternativeHasNoEnd more t) (FitsAlternative more t) (FitsAlternative others t)

leaf_agrees : (kind : LeafType) → TypesAgree (leaf kind) (leaf kind)
leaf_agrees kind = record { there = λ v n p. p; back = λ v n p. p }

sequence_agrees : (fs gs : Fields) → FieldsAgree fs gs → TypesAgree (sequence fs) (sequence gs)
sequence_agrees fs gs f = record {
  there = sequence_moves fs gs (FieldsHaveNoEnd fs) f.there;
  back = sequence_moves gs fs (FieldsHaveNoEnd fs) f.back;
}

extensible_agrees : (fs gs : Fields) (more others : Additions) → DeeperAdditions more others → FieldsAgree fs gs → AdditionsAgree more others
    → TypesAgree (extensible_sequence fs more) (extensible_sequence gs others)
extensible_agrees fs gs more others a f g =
    let count = same_count more others a in
    record {
      there = extensible_moves fs gs more others count (FieldsHaveNoEnd fs) (AdditionsHaveNoEnd more) f.there g.there;
      back = extensible_moves gs fs others more (sym count) (FieldsHaveNoEnd fs) (AdditionsHaveNoEnd more) f.back g.back;
    }

items_agree : (size : Size) (T X : AsnType) → TypesAgree T X → TypesAgree (sequence_of size T) (sequence_of size X)
items_agree size T X f = record {
  there = items_moves size T X (HasNoEnd T) f.there;
  back = items_moves size X T (HasNoEnd T) f.back;
}

choice_agrees : (extensible : Bool) (more others : Alternatives) → DeeperAlternatives more others → AlternativesAgree more others
    → TypesAgree (choice extensible more) (choice extensible others)
choice_agrees extensible more others d f =
    let tags = same_tags more others d in
    let O = AlternativeHasNoEnd more in
    record {
      there = λ v n. choice_moves extensible more others tags O (λ t. (f t).there) v n.1;
      back = λ v n. choice_moves extensible others more (λ t. sym (tags t)) O (λ t. (f t).back) v n.1;
    }

-- no value meets no end of an end
end_agrees : (T U : AsnType) → ((v : AsnValue) → HasNoEnd T v → ⊥) → TypesAgree T U
end_agrees T U ends = record { there = λ v n p. absurd (ends v n); back = λ v n p. absurd (ends v n) }

place_agrees : (need : Need) (P F F' : AsnValue → Type 0) (Q G G' : Places → Type 0) → Agree P F F' → Agree Q G G'
    → Agree (OfPlaces P Q) (FitsPlace need F G) (FitsPlace need F' G')
place_agrees need P F F' Q G G' f g = record {
  there = place_moves need P F F' Q G G' f.there g.there;
  back = place_moves need P F' F Q G' G f.back g.back;
}

tag_agrees : (same : Bool) (P O F F' G G' : AsnValue → Type 0) → Agree P F F' → Agree O G G'
    → Agree (FitsByTag same P O) (FitsByTag same F G) (FitsByTag same F' G')
tag_agrees same P O F F' G G' f g = record {
  there = tag_moves same P O F F' G G' f.there g.there;
  back = tag_moves same P O F' F G' G f.back g.back;
}

mutual
  pub types_agree : (T U : AsnType) → Deeper T U → TypesAgree T U
  types_agree (leaf kind) U is = subst (TypesAgree (leaf kind)) (sym is) (leaf_agrees kind)
  types_agree (sequence fs) U (gs, is, d) = subst (TypesAgree (sequence fs)) (sym is) (sequence_agrees fs gs (fields_agree fs gs d))
  types_agree (extensible_sequence fs more) U (gs, others, is, d, a) =
      subst (TypesAgree (extensible_sequence fs more)) (sym is)
      (extensible_agrees fs gs more others a (fields_agree fs gs d) (additions_agree more others a))
  types_agree (sequence_of size T) U (X, is, d) = subst (TypesAgree (sequence_of size T)) (sym is) (items_agree size T X (types_agree T X d))
  types_agree (choice extensible more) U (inl end) = end_agrees (choice extensible more) U (λ v n. n.0 end)
  types_agree (choice extensible more) U (inr (others, is, d)) =
      subst (TypesAgree (choice extensible more)) (sym is) (choice_agrees extensible more others d (alternatives_agree more others d))

  fields_agree : (fs gs : Fields) → DeeperFields fs gs → FieldsAgree fs gs
  fields_agree no_fields gs is = subst (FieldsAgree no_fields) (sym is) (record { there = λ ps n p. p; back = λ ps n p. p })
  fields_agree (field name need T fs) gs (X, rest, is, d, ds) =
      subst (FieldsAgree (field name need T fs)) (sym is)
      (place_agrees need (HasNoEnd T) (Fits T) (Fits X) (FieldsHaveNoEnd fs) (FitsFields fs) (FitsFields rest) (types_agree T X d) (fields_agree fs rest ds))

  additions_agree : (more others : Additions) → DeeperAdditions more others → AdditionsAgree more others
  additions_agree no_additions others is = subst (AdditionsAgree no_additions) (sym is) (record { there = λ ps n p. p; back = λ ps n p. p })
  additions_agree (addition name T more) others (X, rest, is, d, ds) =
      subst (AdditionsAgree (addition name T more)) (sym is)
      (place_agrees may (HasNoEnd T) (Fits T) (Fits X) (AdditionsHaveNoEnd more) (FitsAdditions more) (FitsAdditions rest)
      (types_agree T X d) (additions_agree more rest ds))

  alternatives_agree : (more others : Alternatives) → DeeperAlternatives more others → AlternativesAgree more others
  alternatives_agree no_alternatives others is =
      subst (AlternativesAgree no_alternatives) (sym is) (λ t. record { there = λ v n p. p; back = λ v n p. p })
  alternatives_agree (alternative name u T more) others (X, rest, is, d, ds) =
      subst (AlternativesAgree (alternative name u T more)) (sym is)
      (λ t. tag_agrees (same_tag u t) (HasNoEnd T) (AlternativeHasNoEnd more t) (Fits T) (Fits X) (FitsAlternative more t) (FitsAlternative rest t)
      (types_agree T X d) (alternatives_agree more rest ds t))
  alternatives_agree (later name u T more) others (X, rest, is, d, ds) =
      subst (AlternativesAgree (later name u T more)) (sym is)
      (λ t. tag_agrees (same_tag u t) (HasNoEnd T) (AlternativeHasNoEnd more t) (Fits T) (Fits X) (FitsAlternative more t) (FitsAlternative rest t)
      (types_agree T X d) (alternatives_agree more rest ds t))
