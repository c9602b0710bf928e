-- The values that seeds give meet no end of a nesting.
use Rattle.std.proofs.Common.{◌≡◌, inl, inr, ℕ, ◌-◌, ◌<◌, ◌%◌, List, [], ◌∷◌, map, Bool, true, false, not, ◌&&◌, ◌||◌, eqb, if◌then◌else◌, Option, Some, None, refl, sym, ap, subst, arith}
use Rattle.std.proofs.lemmas.Bool.{eqb-true}
use Rattle.std.proofs.lemmas.Nat.{mod_below}
use Rattle.oer_units.specs.declared.tagging.Tag.{Tag}
use Rattle.oer_model.specs.AsnType.{Additions, Alternatives, AsnType, Fields, Need, addition, alternative, choice, default, extensible_sequence}
use Rattle.oer_model.specs.AsnType.{field, later, leaf, may, must, no_additions, no_alternatives, no_fields, sequence, sequence_of}
use Rattle.oer_model.specs.AsnValue.{AsnValue, Places, chosen}
use Rattle.oer_model.specs.Constraints.{has_tag, same_tag}
use Rattle.oer_model.specs.FaultTest.{tags_repeat}
use Rattle.oer_model.specs.Fits.{DefaultFits, listed}
use Rattle.oer_model.specs.WellFormed.{HasRepeatedTag, InAdditions, InAlternatives, InFields, Somewhere}
use Rattle.oer_model.specs.declared.fault.SchemaFault.TheVariants.{RepeatedTag}
use Rattle.oer_model.specs.declared.size.Size.{Size}
use Rattle.oer_model.proofs.fitting.Tests.{both, or_right}
use Rattle.oer_nesting.specs.Deeper.{AdditionsHaveNoEnd, AlternativeHasNoEnd, FieldsHaveNoEnd, HasNoEnd, OfChosen, OfPlaces, OfValues, end_tag}
use Rattle.oer_nesting.specs.Defaults.{AdditionDefaultsHaveNoEnd, AlternativeDefaultsHaveNoEnd, DefaultsHaveNoEnd, FieldDefaultsHaveNoEnd}
use Rattle.oer_values.specs.DefaultView.{place}
use Rattle.oer_skeleton.specs.Skeleton.{are_legal, is_legal, may_be_left_out}
use Rattle.oer_skeleton.proofs.Fitting.{apart, first_of_tag, neither, other_tag, same_self, tags_apart}
use Rattle.oer_skeleton.proofs.NoEnds.{either, no_end}
use Rattle.oer_random.specs.Drawn.{drawn, drawn_additions, drawn_chosen, drawn_fields, elements, most_room, one_if, optional_part, part, pick, taken_count}
use Rattle.oer_random.specs.Laws.{RandomValuesMeetNoEnd}
use Rattle.oer_random.specs.Words.{after, turned, word, words}
use Rattle.oer_random.proofs.Picking.{pick_both, some_legal}

-- ---- lists

each : (P : AsnValue → Type 0) (f : ℕ → AsnValue) (xs : List ℕ) → ((x : ℕ) → P (f x)) → OfValues P (listed (map f xs))
each P f [] h = tt
each P f (x ∷ xs) h = (h x, each P f xs h)

-- no element meets an end, or there is none
list_by : (P : AsnValue → Type 0) (f : ℕ → AsnValue) (room seed : ℕ) (s : Size) (legal : Bool) → (legal ≡ true → (x : ℕ) → P (f x))
    → (legal ≡ false → eqb s.low 0 ≡ true) → OfValues P (listed (map f (words (elements room legal s seed) seed)))
list_by P f room seed s true h k = each P f (words (elements room true s seed) seed) (h refl)
list_by P f room seed s false h k = subst (λ n. OfValues P (listed (map f (words n seed)))) (sym (eqb-true s.low 0 (k refl))) tt

-- ---- components

module _ (P : AsnValue → Type 0) (Q : Places → Type 0) (v : AsnValue) (ps : Places) (q : Q ps) where
  either_by : (b : Bool) (o p : Option AsnValue) → (b ≡ true → OfPlaces P Q (place o ps)) → (b ≡ false → OfPlaces P Q (place p ps))
      → OfPlaces P Q (place (if b then o else p) ps)
  either_by true o p h k = h refl
  either_by false o p h k = k refl

  optional_by : (legal : Bool) (seed : ℕ) → (legal ≡ true → P v) → OfPlaces P Q (place (optional_part legal seed v) ps)
  optional_by legal seed h = either_by (legal && eqb (seed % 2) 0) (Some v) None (λ e. (h (both legal (eqb (seed % 2) 0) e).0, q)) (λ _. q)

  part_by : (need : Need) (legal : Bool) (seed : ℕ) → may_be_left_out need legal ≡ true → (legal ≡ true → P v) → DefaultFits need P
      → OfPlaces P Q (place (part need legal seed v) ps)
  part_by must legal seed e h d = (h e, q)
  part_by may legal seed e h d = optional_by legal seed h
  part_by (default x) legal seed e h d =
      either_by (eqb (seed % 3) 0) None _ (λ _. q)
      (λ _. either_by (eqb (seed % 3) 1) (Some x) _ (λ _. (d, q)) (λ _. either_by legal (Some v) None (λ l. (h l, q)) (λ _. q)))

-- ---- alternatives

abbrev IsOf : Alternatives → AsnValue → Type 0
IsOf more v = (t : Tag) × (x : AsnValue) × (v ≡ chosen t x) × AlternativeHasNoEnd more t x × (has_tag t more ≡ true)

first_by : (name : List ℕ) (u : Tag) (T : AsnType) (more : Alternatives) (x : AsnValue) → HasNoEnd T x → IsOf (alternative name u T more) (chosen u x)
first_by name u T more x f =
    (u, x, refl, first_of_tag (same_tag u u) (HasNoEnd T) (AlternativeHasNoEnd more u) x (same_self u) f, ap (λ b. b || has_tag u more) (same_self u))

other_by : (name : List ℕ) (u : Tag) (T : AsnType) (more : Alternatives) (v : AsnValue) → has_tag u more ≡ false → IsOf more v → IsOf (alternative name u T more) v
other_by name u T more v free h =
    let t = h.0 in
    (t, h.1, h.2, other_tag (same_tag u t) (HasNoEnd T) (AlternativeHasNoEnd more t) h.1 (apart u t more free h.4) h.3, or_right (same_tag u t) (has_tag t more) h.4)

one_by : (name : List ℕ) (u : Tag) (T : AsnType) (more : Alternatives) (b : Bool) (k n : ℕ) (x : AsnValue) (f : ℕ → AsnValue) → has_tag u more ≡ false
    → (b ≡ true → HasNoEnd T x) → ((l : ℕ) → l < n → IsOf more (f l)) → k < one_if b n → IsOf (alternative name u T more) (pick b k (chosen u x) f)
one_by name u T more b k n x f free fit h l =
    pick_both (λ (v : AsnValue) (z : ℕ). IsOf (alternative name u T more) v) b k n (chosen u x) 0 f (λ m. 0) l (λ e. first_by name u T more x (fit e))
    (λ m s. other_by name u T more (f m) free (h m s))

of_chosen : (more : Alternatives) (v : AsnValue) → IsOf more v → OfChosen (AlternativeHasNoEnd more) v
of_chosen more v (t, x, is, h, has) = subst (OfChosen (AlternativeHasNoEnd more)) (sym is) h

mutual
  type_by : (room seed : ℕ) (T : AsnType) → (Somewhere HasRepeatedTag T → ⊥) → DefaultsHaveNoEnd T → is_legal T ≡ true → HasNoEnd T (drawn room seed T)
  type_by room seed (leaf kind) ok d e = tt
  type_by room seed (sequence fs) ok d e = (fields_by room seed fs (λ s. ok (inr s)) d e, tt)
  type_by room seed (extensible_sequence fs more) ok d e =
      (fields_by room seed fs (λ s. ok (inr (inl s))) d.0 e, additions_by room (turned seed) more (λ s. ok (inr (inr s))) d.1)
  type_by room seed (sequence_of s T) ok d e =
      list_by (HasNoEnd T) (λ x. drawn (room - 1) x T) room seed s (is_legal T) (λ l x. type_by (room - 1) x T (λ s. ok (inr s)) d l)
      (either (eqb s.low 0) (is_legal T) e)
  type_by room seed (choice e more) ok d some =
      let l = mod_below seed (taken_count true more) (some_legal more some) in (
        no_end e more some,
        subst (λ b. OfChosen (AlternativeHasNoEnd more) (drawn_chosen room (word seed) b (seed % taken_count b more) more)) (sym some)
            (of_chosen more _ (alternatives_by room (word seed) (seed % taken_count true more) more l (λ s. ok (inr s)) (tags_apart e more ok) d)),
      )

  fields_by : (room seed : ℕ) (fs : Fields) → (InFields HasRepeatedTag fs → ⊥) → FieldDefaultsHaveNoEnd fs → are_legal fs ≡ true → FieldsHaveNoEnd fs (drawn_fields room seed fs)
  fields_by room seed no_fields ok d e = tt
  fields_by room seed (field name need T fs) ok d e =
      let k = both (may_be_left_out need (is_legal T)) (are_legal fs) e in
      part_by (HasNoEnd T) (FieldsHaveNoEnd fs) (drawn room (word (word seed)) T) (drawn_fields room (after seed) fs)
      (fields_by room (after seed) fs (λ s. ok (inr s)) d.2 k.1) need (is_legal T) (word seed) k.0
      (λ l. type_by room (word (word seed)) T (λ s. ok (inl s)) d.0 l) d.1

  additions_by : (room seed : ℕ) (more : Additions) → (InAdditions HasRepeatedTag more → ⊥) → AdditionDefaultsHaveNoEnd more
      → AdditionsHaveNoEnd more (drawn_additions room seed more)
  additions_by room seed no_additions ok d = tt
  additions_by room seed (addition name T more) ok d =
      optional_by (HasNoEnd T) (AdditionsHaveNoEnd more) (drawn room (word (word seed)) T) (drawn_additions room (after seed) more)
      (additions_by room (after seed) more (λ s. ok (inr s)) d.1) (is_legal T) (word seed)
      (λ l. type_by room (word (word seed)) T (λ s. ok (inl s)) d.0 l)

  alternatives_by : (room seed k : ℕ) (more : Alternatives) → k < taken_count true more → (InAlternatives HasRepeatedTag more → ⊥) → tags_repeat more ≡ false
      → AlternativeDefaultsHaveNoEnd more → IsOf more (drawn_chosen room seed true k more)
  alternatives_by room seed k no_alternatives l ok tags d = absurd (omega arith)
  alternatives_by room seed k (alternative name t T more) l ok tags d =
      let g = neither (has_tag t more) (tags_repeat more) tags in
      one_by name t T more (not (same_tag t end_tag) && is_legal T) k (taken_count true more) (drawn room seed T) (λ m. drawn_chosen room seed true m more) g.0
      (λ e. type_by room seed T (λ s. ok (inl s)) d.0 (both (not (same_tag t end_tag)) (is_legal T) e).1)
      (λ m s. alternatives_by room seed m more s (λ s. ok (inr s)) g.1 d.1) l
  alternatives_by room seed k (later name t T more) l ok tags d =
      let g = neither (has_tag t more) (tags_repeat more) tags in
      one_by name t T more (not (same_tag t end_tag) && is_legal T) k (taken_count true more) (drawn room seed T) (λ m. drawn_chosen room seed true m more) g.0
      (λ e. type_by room seed T (λ s. ok (inl s)) d.0 (both (not (same_tag t end_tag)) (is_legal T) e).1)
      (λ m s. alternatives_by room seed m more s (λ s. ok (inr s)) g.1 d.1) l

pub drawn_meet_no_end : RandomValuesMeetNoEnd
drawn_meet_no_end seed T w d e = type_by most_room (word seed) T (w.faultless RepeatedTag) d e
