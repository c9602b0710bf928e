-- Skeletons meet no end of a nesting.
use Rattle.std.proofs.Common.{◌≡◌, inl, inr, ℕ, zero, suc, List, Bool, true, false, not, ◌&&◌, ◌||◌, eqb, if◌then◌else◌, refl, sym, ap, ◌∙◌, subst}
use Rattle.std.proofs.Math.ListN.{replicate}
use Rattle.std.proofs.lemmas.Bool.{eqb-true}
use Rattle.oer_units.specs.declared.tagging.Tag.{Tag}
use Rattle.oer_model.specs.AsnType.{Additions, Alternatives, AsnType, Fields, Need, addition, alternative, choice, default, extensible_sequence}
use Rattle.oer_model.specs.AsnType.{field, later, leaf, may, must, no_additions, no_alternatives, no_fields, sequence, sequence_of}
use Rattle.oer_model.specs.AsnValue.{AsnValue, Places, chosen}
use Rattle.oer_model.specs.Constraints.{has_tag, same_tag}
use Rattle.oer_model.specs.FaultTest.{tags_repeat}
use Rattle.oer_model.specs.Fits.{DefaultFits, listed}
use Rattle.oer_model.specs.WellFormed.{HasRepeatedTag, InAdditions, InAlternatives, InFields, Somewhere}
use Rattle.oer_model.specs.declared.fault.SchemaFault.TheVariants.{RepeatedTag}
use Rattle.oer_model.specs.declared.size.Size.{Size}
use Rattle.oer_model.proofs.fitting.Tests.{both, or_right}
use Rattle.oer_nesting.specs.Deeper.{AdditionsHaveNoEnd, AlternativeHasNoEnd, FieldsHaveNoEnd, HasNoEnd, IsEnd, OfChosen, OfPlaces, OfValues, end_tag}
use Rattle.oer_nesting.specs.Defaults.{AdditionDefaultsHaveNoEnd, AlternativeDefaultsHaveNoEnd, DefaultsHaveNoEnd, FieldDefaultsHaveNoEnd}
use Rattle.oer_values.specs.DefaultView.{place}
use Rattle.oer_skeleton.specs.Laws.{SkeletonsMeetNoEnd}
use Rattle.oer_skeleton.specs.Skeleton.{any_legal, are_legal, elements, is_legal, may_be_left_out}
use Rattle.oer_skeleton.specs.Skeleton.{optional_part, part, skeleton, skeleton_additions, skeleton_chosen, skeleton_fields}
use Rattle.oer_skeleton.specs.declared.parts.Parts.{Parts}
use Rattle.oer_skeleton.specs.declared.parts.Parts.TheVariants.{Needed, All}
use Rattle.oer_skeleton.proofs.Fitting.{apart, first_of_tag, neither, other_tag, same_self, tags_apart}

-- ---- lists

each : (P : AsnValue → Type 0) (n : ℕ) (v : AsnValue) → P v → OfValues P (listed (replicate n v))
each P zero v h = tt
each P (suc n) v h = (h, each P n v h)

none : (P : AsnValue → Type 0) (n : ℕ) (v : AsnValue) → n ≡ 0 → OfValues P (listed (replicate n v))
none P n v e = subst (λ (k : ℕ). OfValues P (listed (replicate k v))) (sym e) tt

few : (parts : Parts) (s : Size) → elements parts false s ≡ s.low
few Needed s = refl
few All s = refl

pub either : (a b : Bool) → (a || b) ≡ true → (b ≡ false → a ≡ true)
either true b h e = refl
either false b h e = cc

-- no element meets an end, or there is none
list_by : (P : AsnValue → Type 0) (parts : Parts) (s : Size) (v : AsnValue) (legal : Bool) → (legal ≡ true → P v) → (legal ≡ false → eqb s.low 0 ≡ true)
    → OfValues P (listed (replicate (elements parts legal s) v))
list_by P parts s v true h k = each P (elements parts true s) v (h refl)
list_by P parts s v false h k = none P (elements parts false s) v (few parts s ∙ eqb-true s.low 0 (k refl))

-- ---- components

module _ (P : AsnValue → Type 0) (Q : Places → Type 0) (v : AsnValue) (ps : Places) (q : Q ps) where
  optional_by : (parts : Parts) (legal : Bool) → (legal ≡ true → P v) → OfPlaces P Q (place (optional_part parts legal v) ps)
  optional_by Needed legal h = q
  optional_by All true h = (h refl, q)
  optional_by All false h = q

  part_by : (parts : Parts) (need : Need) (legal : Bool) → may_be_left_out need legal ≡ true → (legal ≡ true → P v) → DefaultFits need P
      → OfPlaces P Q (place (part parts need legal v) ps)
  part_by parts must legal e h d = (h e, q)
  part_by parts may legal e h d = optional_by parts legal h
  part_by Needed (default x) legal e h d = q
  part_by All (default x) legal e h d = (d, q)

-- ---- alternatives

abbrev IsOf : Alternatives → AsnValue → Type 0
IsOf more v = (t : Tag) × (x : AsnValue) × (v ≡ chosen t x) × AlternativeHasNoEnd more t x × (has_tag t more ≡ true)

taken_by : (b : Bool) (name : List ℕ) (u : Tag) (T : AsnType) (more : Alternatives) (x rest : AsnValue) → (b ≡ true → HasNoEnd T x) → has_tag u more ≡ false
    → (b || any_legal more) ≡ true
    → (any_legal more ≡ true → IsOf more rest) → IsOf (alternative name u T more) (if b then chosen u x else rest)
taken_by true name u T more x rest f free some k =
    (u, x, refl, first_of_tag (same_tag u u) (HasNoEnd T) (AlternativeHasNoEnd more u) x (same_self u) (f refl), ap (λ b. b || has_tag u more) (same_self u))
taken_by false name u T more x rest f free some k =
    let h = k some in
    let t = h.0 in
    (t, h.1, h.2, other_tag (same_tag u t) (HasNoEnd T) (AlternativeHasNoEnd more t) h.1 (apart u t more free h.4) h.3, or_right (same_tag u t) (has_tag t more) h.4)

-- a CHOICE with a legal alternative is no end
pub no_end : (e : Bool) (more : Alternatives) → any_legal more ≡ true → IsEnd (choice e more) → ⊥
no_end e more some (name, is) = let same : is_legal (choice e more) ≡ false = ap is_legal is in cc

chosen_by : (P : Tag → AsnValue → Type 0) (any : Bool) (v : Bool → AsnValue) → any ≡ true → OfChosen P (v true) → OfChosen P (v any)
chosen_by P any v e h = subst (λ (b : Bool). OfChosen P (v b)) (sym e) h

of_chosen : (more : Alternatives) (v : AsnValue) → IsOf more v → OfChosen (AlternativeHasNoEnd more) v
of_chosen more v (t, x, is, h, has) = subst (OfChosen (AlternativeHasNoEnd more)) (sym is) h

module _ (parts : Parts) where
  mutual
    type_by : (T : AsnType) → (Somewhere HasRepeatedTag T → ⊥) → DefaultsHaveNoEnd T → is_legal T ≡ true → HasNoEnd T (skeleton parts T)
    type_by (leaf kind) ok d e = tt
    type_by (sequence fs) ok d e = (fields_by fs (λ s. ok (inr s)) d e, tt)
    type_by (extensible_sequence fs more) ok d e = (fields_by fs (λ s. ok (inr (inl s))) d.0 e, additions_by more (λ s. ok (inr (inr s))) d.1)
    type_by (sequence_of s T) ok d e =
        list_by (HasNoEnd T) parts s (skeleton parts T) (is_legal T) (λ l. type_by T (λ s. ok (inr s)) d l) (either (eqb s.low 0) (is_legal T) e)
    type_by (choice e more) ok d some = (
      no_end e more some,
      chosen_by (AlternativeHasNoEnd more) (any_legal more) (λ any. skeleton_chosen parts any more) some
          (of_chosen more (skeleton_chosen parts true more) (alternatives_by more some (λ s. ok (inr s)) (tags_apart e more ok) d)),
    )

    fields_by : (fs : Fields) → (InFields HasRepeatedTag fs → ⊥) → FieldDefaultsHaveNoEnd fs → are_legal fs ≡ true → FieldsHaveNoEnd fs (skeleton_fields parts fs)
    fields_by no_fields ok d e = tt
    fields_by (field name need T fs) ok d e =
        let k = both (may_be_left_out need (is_legal T)) (are_legal fs) e in
        part_by (HasNoEnd T) (FieldsHaveNoEnd fs) (skeleton parts T) (skeleton_fields parts fs)
        (fields_by fs (λ s. ok (inr s)) d.2 k.1) parts need (is_legal T) k.0 (λ l. type_by T (λ s. ok (inl s)) d.0 l) d.1

    additions_by : (more : Additions) → (InAdditions HasRepeatedTag more → ⊥) → AdditionDefaultsHaveNoEnd more → AdditionsHaveNoEnd more (skeleton_additions parts more)
    additions_by no_additions ok d = tt
    additions_by (addition name T more) ok d =
        optional_by (HasNoEnd T) (AdditionsHaveNoEnd more) (skeleton parts T) (skeleton_additions parts more)
        (additions_by more (λ s. ok (inr s)) d.1) parts (is_legal T) (λ l. type_by T (λ s. ok (inl s)) d.0 l)

    alternatives_by : (more : Alternatives) → any_legal more ≡ true → (InAlternatives HasRepeatedTag more → ⊥) → tags_repeat more ≡ false
        → AlternativeDefaultsHaveNoEnd more
        → IsOf more (skeleton_chosen parts true more)
    alternatives_by no_alternatives some ok tags d = absurd (cc)
    alternatives_by (later name t T more) some ok tags d = absurd (cc)
    alternatives_by (alternative name t T more) some ok tags d =
        let k = neither (has_tag t more) (tags_repeat more) tags in
        taken_by (not (same_tag t end_tag) && is_legal T) name t T more (skeleton parts T) (skeleton_chosen parts true more)
        (λ l. type_by T (λ s. ok (inl s)) d.0 (both (not (same_tag t end_tag)) (is_legal T) l).1) k.0 some
        (λ some. alternatives_by more some (λ s. ok (inr s)) k.1 d.1)

pub skeletons_meet_no_end : SkeletonsMeetNoEnd
skeletons_meet_no_end parts T w d e = type_by parts T (w.faultless RepeatedTag) d e
