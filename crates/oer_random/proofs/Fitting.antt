-- The values that seeds give fit.
use Rattle.std.proofs.Common.{◌≡◌, inl, inr, ℕ, ◌-◌, ◌<◌, ◌%◌, List, [], ◌∷◌, map, Bool, true, false, ◌&&◌, ◌||◌, eqb, if◌then◌else◌, refl, ap, ◌∙◌, arith, Option, Some, None}
use Rattle.std.proofs.lemmas.List.{length-map}
use Rattle.std.proofs.lemmas.Nat.{mod_below}
use Rattle.oer_units.specs.declared.tagging.Tag.{Tag}
use Rattle.oer_model.specs.AsnType.{Additions, Alternatives, AsnType, Fields, Need, addition, alternative, choice, default, extensible_sequence, field}
use Rattle.oer_model.specs.AsnType.{later, leaf, may, must, no_additions, no_alternatives, no_fields, sequence, sequence_of}
use Rattle.oer_model.specs.AsnValue.{AsnValue, Places, chosen, leaf_value}
use Rattle.oer_model.specs.Constraints.{has_tag, same_tag, size_fits}
use Rattle.oer_model.specs.ContentType.{ContentType, object_id, octet_string, restricted_string, utf8_string}
use Rattle.oer_model.specs.Contents.{FitsContent}
use Rattle.oer_model.specs.FaultTest.{tags_repeat}
use Rattle.oer_model.specs.Fits.{AdditionDefaultsFit, AllFit, AlternativeDefaultsFit, DefaultFits, DefaultsFit, FieldDefaultsFit}
use Rattle.oer_model.specs.Fits.{Fits, FitsAdditions, FitsAlternative, FitsFields, FitsLeaf, FitsPlace}
use Rattle.oer_model.specs.LeafType.{LeafType, bit_string, boolean, content, enumerated, integer, null}
use Rattle.oer_model.specs.WellFormed.{HasCrossedBounds, HasCrossedSize, HasNoItems, InAdditions, InAlternatives, InFields, Somewhere}
use Rattle.oer_model.specs.Widths.{AdditionsHaveWidths, AlternativesHaveWidths, FieldsHaveWidths, HasWidths, LeafHasWidths}
use Rattle.oer_model.proofs.faults.Faults.{defaults_fit}
use Rattle.oer_model.proofs.fitting.Ranges.{is_64_bits}
use Rattle.oer_model.proofs.fitting.Tests.{or_right}
use Rattle.oer_values.specs.DefaultView.{place}
use Rattle.oer_skeleton.specs.Skeleton.{any_legal, is_legal, is_taken}
use Rattle.oer_skeleton.proofs.Fitting.{Bad, apart, bad, crossed_bounds, crossed_size, first_of_tag, neither, no_items, other_tag, repeated_tag, same_self, sound, tags_apart}
use Rattle.oer_random.specs.Drawn.{drawn, drawn_additions, drawn_chosen, drawn_fields, elements, most_room, one_if, optional_part, part, pick, taken_count}
use Rattle.oer_random.specs.Laws.{RandomValuesFit}
use Rattle.oer_random.specs.Leaves.{count_in, drawn_content, drawn_leaf, item_number, more_letters}
use Rattle.oer_random.specs.Words.{after, turned, word, words}
use Rattle.oer_random.proofs.Bounds.{count_fits, elements_fit, item_listed, item_width, number_fits}
use Rattle.oer_random.proofs.Picking.{pick_both, some_taken}
use Rattle.oer_random.proofs.Strings.{arcs_fit, drawn_bits_counted, octets_counted, octets_fit, text_fits, utf8_fits, words_counted}

-- ---- values that hold no other

content_fits : (kind : ContentType) (seed : ℕ) → (HasCrossedSize (leaf (content kind)) → ⊥) → LeafHasWidths (content kind) → FitsContent kind (drawn_content kind seed)
content_fits (octet_string s) seed free w =
    let n = count_in s more_letters seed in (octets_fit n seed, ap (size_fits s) (octets_counted n seed) ∙ count_fits s more_letters seed free w.0)
content_fits object_id seed free w = arcs_fit seed
content_fits (restricted_string letters s) seed free w =
    let n = count_in s more_letters seed in
    let k = text_fits letters n seed in (k.0, k.1, ap (size_fits s) k.2 ∙ count_fits s more_letters seed free w.0)
content_fits (utf8_string s) seed free w =
    let n = count_in s more_letters seed in let k = utf8_fits n seed in (k.0, k.1, ap (size_fits s) k.2 ∙ count_fits s more_letters seed free w.0)

leaf_fits : (kind : LeafType) (seed : ℕ) → (HasNoItems (leaf kind) → ⊥) → (HasCrossedBounds (leaf kind) → ⊥) → (HasCrossedSize (leaf kind) → ⊥) → LeafHasWidths kind
    → FitsLeaf kind (leaf_value (drawn_leaf kind seed))
leaf_fits boolean seed i b s w = (eqb (seed % 2) 1, refl)
leaf_fits null seed i b s w = refl
leaf_fits (integer low high) seed i b s w = (_, refl, number_fits low high seed b w.0 w.1)
leaf_fits (enumerated [] extensible) seed i b s w = absurd (i tt)
leaf_fits (enumerated (x ∷ xs) extensible) seed i b s w =
    (item_number (x ∷ xs) seed, refl, is_64_bits (item_number (x ∷ xs) seed) (item_width x xs seed w), or_right extensible _ (item_listed x xs seed))
leaf_fits (bit_string size) seed i b s w =
    let n = count_in size more_letters seed in (_, refl, ap (size_fits size) (drawn_bits_counted n seed) ∙ count_fits size more_letters seed s w.0)
leaf_fits (content kind) seed i b s w = (drawn_content kind seed, refl, content_fits kind seed s w)

-- ---- values that hold others

all_fit : (P : AsnValue → Type 0) (f : ℕ → AsnValue) (xs : List ℕ) → ((x : ℕ) → P (f x)) → AllFit P (map f xs)
all_fit P f [] h = tt
all_fit P f (x ∷ xs) h = (h x, all_fit P f xs h)

module _ (P : AsnValue → Type 0) (R : Places → Type 0) (v : AsnValue) (ps : Places) (f : P v) (r : R ps) where
  there : (d : AsnValue) → P d → FitsPlace may P R (place (Some d) ps)
  there d k = inl (d, ps, refl, k, r)

  either_fits : (b : Bool) (p q : Option AsnValue) → FitsPlace may P R (place p ps) → FitsPlace may P R (place q ps) → FitsPlace may P R (place (if b then p else q) ps)
  either_fits true p q h k = h
  either_fits false p q h k = k

  optional_fits : (legal : Bool) (seed : ℕ) → FitsPlace may P R (place (optional_part legal seed v) ps)
  optional_fits legal seed = either_fits (legal && eqb (seed % 2) 0) (Some v) None (there v f) (inr (ps, refl, r))

  part_fits : (need : Need) (legal : Bool) (seed : ℕ) → DefaultFits need P → FitsPlace need P R (place (part need legal seed v) ps)
  part_fits must legal seed d = (v, ps, refl, f, r)
  part_fits may legal seed d = optional_fits legal seed
  part_fits (default x) legal seed d =
      either_fits (eqb (seed % 3) 0) None _ (inr (ps, refl, r))
      (either_fits (eqb (seed % 3) 1) (Some x) _ (there x d) (either_fits legal (Some v) None (there v f) (inr (ps, refl, r))))

-- ---- the alternative that is taken

-- v is that of an alternative which it fits
abbrev IsOf : Alternatives → AsnValue → Type 0
IsOf more v = (t : Tag) × (x : AsnValue) × (v ≡ chosen t x) × FitsAlternative more t x × (has_tag t more ≡ true)

-- the first of these, or one of the others
first_fits : (name : List ℕ) (u : Tag) (T : AsnType) (more : Alternatives) (x : AsnValue) → Fits T x → IsOf (alternative name u T more) (chosen u x)
first_fits name u T more x f =
    (u, x, refl, first_of_tag (same_tag u u) (Fits T) (FitsAlternative more u) x (same_self u) f, ap (λ b. b || has_tag u more) (same_self u))

other_fits : (name : List ℕ) (u : Tag) (T : AsnType) (more : Alternatives) (v : AsnValue) → has_tag u more ≡ false → IsOf more v → IsOf (alternative name u T more) v
other_fits name u T more v free h =
    let t = h.0 in
    (t, h.1, h.2, other_tag (same_tag u t) (Fits T) (FitsAlternative more t) h.1 (apart u t more free h.4) h.3, or_right (same_tag u t) (has_tag t more) h.4)

one_fits : (name : List ℕ) (u : Tag) (T : AsnType) (more : Alternatives) (b : Bool) (k n : ℕ) (x : AsnValue) (f : ℕ → AsnValue) → has_tag u more ≡ false
    → Fits T x → ((l : ℕ) → l < n → IsOf more (f l)) → k < one_if b n → IsOf (alternative name u T more) (pick b k (chosen u x) f)
one_fits name u T more b k n x f free fit h l =
    pick_both (λ (v : AsnValue) (z : ℕ). IsOf (alternative name u T more) v) b k n (chosen u x) 0 f (λ m. 0) l (λ _. first_fits name u T more x fit)
    (λ m s. other_fits name u T more (f m) free (h m s))

mutual
  type_fits : (room seed : ℕ) (T : AsnType) → ((q : Bad) → Somewhere (bad q) T → ⊥) → DefaultsFit T → HasWidths T → Fits T (drawn room seed T)
  type_fits room seed (leaf kind) ok d w = leaf_fits kind seed (ok no_items) (ok crossed_bounds) (ok crossed_size) w
  type_fits room seed (sequence fs) ok d w = (drawn_fields room seed fs, refl, fields_fit room seed fs (λ q s. ok q (inr s)) d w)
  type_fits room seed (extensible_sequence fs more) ok d w = (
    drawn_fields room seed fs,
    drawn_additions room (turned seed) more,
    [],
    refl,
    fields_fit room seed fs (λ q s. ok q (inr (inl s))) d.0 w.0,
    additions_fit room (turned seed) more (λ q s. ok q (inr (inr s))) d.1 w.1,
    tt,
  )
  type_fits room seed (sequence_of s T) ok d w =
      let n = elements room (is_legal T) s seed in
      let f : ℕ → AsnValue = λ x. drawn (room - 1) x T in (
        map f (words n seed),
        refl,
        ap (size_fits s) (length-map (words n seed) f ∙ words_counted n seed) ∙ elements_fit room seed (is_legal T) s (λ h. ok crossed_size (inl h)) w.0.0,
        all_fit (Fits T) f (words n seed) (λ x. type_fits (room - 1) x T (λ q s. ok q (inr s)) d w.1),
      )
  type_fits room seed (choice e more) ok d w =
      let any = any_legal more in
      let some = some_taken e any more refl (λ h. ok no_items (inl h)) in
      let h = alternatives_fit room (word seed) any (seed % taken_count any more) more (mod_below seed (taken_count any more) some)
      (λ q s. ok q (inr s)) (tags_apart e more (ok repeated_tag)) d w.1 in
      inl (h.0, h.1, h.2, h.3)

  fields_fit : (room seed : ℕ) (fs : Fields) → ((q : Bad) → InFields (bad q) fs → ⊥) → FieldDefaultsFit fs → FieldsHaveWidths fs → FitsFields fs (drawn_fields room seed fs)
  fields_fit room seed no_fields ok d w = refl
  fields_fit room seed (field name need T fs) ok d w =
      part_fits (Fits T) (FitsFields fs) (drawn room (word (word seed)) T) (drawn_fields room (after seed) fs)
      (type_fits room (word (word seed)) T (λ q s. ok q (inl s)) d.0 w.0)
      (fields_fit room (after seed) fs (λ q s. ok q (inr s)) d.2 w.1) need (is_legal T) (word seed) d.1

  additions_fit : (room seed : ℕ) (more : Additions) → ((q : Bad) → InAdditions (bad q) more → ⊥) → AdditionDefaultsFit more → AdditionsHaveWidths more
      → FitsAdditions more (drawn_additions room seed more)
  additions_fit room seed no_additions ok d w = refl
  additions_fit room seed (addition name T more) ok d w =
      optional_fits (Fits T) (FitsAdditions more) (drawn room (word (word seed)) T) (drawn_additions room (after seed) more)
      (type_fits room (word (word seed)) T (λ q s. ok q (inl s)) d.0 w.0)
      (additions_fit room (after seed) more (λ q s. ok q (inr s)) d.1 w.1) (is_legal T) (word seed)

  alternatives_fit : (room seed : ℕ) (any : Bool) (k : ℕ) (more : Alternatives) → k < taken_count any more → ((q : Bad) → InAlternatives (bad q) more → ⊥)
      → tags_repeat more ≡ false → AlternativeDefaultsFit more → AlternativesHaveWidths more → IsOf more (drawn_chosen room seed any k more)
  alternatives_fit room seed any k no_alternatives l ok tags d w = absurd (omega arith)
  alternatives_fit room seed any k (alternative name t T more) l ok tags d w =
      let g = neither (has_tag t more) (tags_repeat more) tags in
      one_fits name t T more (is_taken any t (is_legal T)) k (taken_count any more) (drawn room seed T) (λ m. drawn_chosen room seed any m more) g.0
      (type_fits room seed T (λ q s. ok q (inl s)) d.0 w.1)
      (λ m s. alternatives_fit room seed any m more s (λ q s. ok q (inr s)) g.1 d.1 w.2) l
  alternatives_fit room seed any k (later name t T more) l ok tags d w =
      let g = neither (has_tag t more) (tags_repeat more) tags in
      one_fits name t T more (is_taken any t (is_legal T)) k (taken_count any more) (drawn room seed T) (λ m. drawn_chosen room seed any m more) g.0
      (type_fits room seed T (λ q s. ok q (inl s)) d.0 w.1)
      (λ m s. alternatives_fit room seed any m more s (λ q s. ok q (inr s)) g.1 d.1 w.2) l

pub drawn_fit : RandomValuesFit
drawn_fit seed T w = type_fits most_room (word seed) T (sound T w) (defaults_fit T w) w.widths
