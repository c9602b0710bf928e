-- Skeletons fit.
use Rattle.std.proofs.Common.{◌≡◌, inl, inr, ℕ, zero, suc, ◌<◌, List, [], ◌∷◌, length, Bool}
use Rattle.std.proofs.Common.{true, false, not, ◌&&◌, ◌||◌, eqb, if◌then◌else◌, refl, ap, ap₂, ◌∙◌, lit<, lit≤}
use Rattle.std.proofs.Math.ListN.{replicate}
use Rattle.std.proofs.lemmas.Bool.{eq-eqb, eqb-true}
use Rattle.std.proofs.lemmas.List.{length-replicate}
use Rattle.std.proofs.lemmas.List.Elements.{All-replicate}
use Rattle.std.proofs.lemmas.Str.{IsUtf8-from_ascii, chars-IsAscii, is_utf8-from_IsUtf8}
use Rattle.std.proofs.lemmas.Str.Ascii.{IsAscii-from_all}
use Rattle.std.specs.Str.{IsAscii}
use Rattle.oer_units.specs.Octets.{IsOctets}
use Rattle.oer_units.specs.Spelling.{class_number}
use Rattle.oer_units.specs.declared.tagging.Tag.{Tag}
use Rattle.oer_model.specs.AsnType.{Additions, Alphabet, Alternatives, AsnType, Fields, Need, addition, alternative, choice, default, extensible_sequence, field}
use Rattle.oer_model.specs.AsnType.{ia5, later, leaf, may, must, no_additions, no_alternatives, no_fields, numeric, printable, sequence, sequence_of, visible}
use Rattle.oer_model.specs.AsnValue.{AsnValue, Places, chosen, leaf_value}
use Rattle.oer_model.specs.Constraints.{all_characters, has_tag, is_character, same_tag, size_fits}
use Rattle.oer_model.specs.ContentType.{ContentType, object_id, octet_string, restricted_string, utf8_string}
use Rattle.oer_model.specs.Contents.{FitsContent}
use Rattle.oer_model.specs.FaultTest.{has_fault, has_repeated_tag, in_alternatives, tags_repeat}
use Rattle.oer_model.specs.Fits.{AdditionDefaultsFit, AllFit, AlternativeDefaultsFit, DefaultFits, DefaultsFit, FieldDefaultsFit}
use Rattle.oer_model.specs.Fits.{Fits, FitsAdditions, FitsAlternative, FitsByTag, FitsFields, FitsLeaf, FitsPlace}
use Rattle.oer_model.specs.LeafType.{LeafType, bit_string, boolean, content, enumerated, integer, null}
use Rattle.oer_model.specs.WellFormed.{HasCrossedBounds, HasCrossedSize, HasNoItems, HasRepeatedTag, InAdditions, InAlternatives, InFields, IsWellFormed, Somewhere}
use Rattle.oer_model.specs.Widths.{AdditionsHaveWidths, AlternativesHaveWidths, FieldsHaveWidths, HasWidths, LeafHasWidths}
use Rattle.oer_model.specs.declared.fault.SchemaFault.TheVariants.{BoundOrder, NoItems, RepeatedTag, SizeOrder}
use Rattle.oer_model.proofs.faults.FaultTests.{fault_decides}
use Rattle.oer_model.proofs.faults.Faults.{defaults_fit}
use Rattle.oer_model.proofs.fitting.Ranges.{is_64_bits}
use Rattle.oer_model.proofs.fitting.Tests.{and_true, both, or_right}
use Rattle.oer_nesting.specs.Deeper.{end_tag}
use Rattle.oer_values.specs.DefaultView.{place}
use Rattle.oer_skeleton.specs.Laws.{SkeletonsFit}
use Rattle.oer_skeleton.specs.Skeleton.{any_legal, elements, is_legal, optional_part, part}
use Rattle.oer_skeleton.specs.Skeleton.{skeleton, skeleton_additions, skeleton_chosen, skeleton_fields, smallest_content, smallest_leaf}
use Rattle.oer_skeleton.specs.declared.parts.Parts.{Parts}
use Rattle.oer_skeleton.specs.declared.parts.Parts.TheVariants.{Needed, All}
use Rattle.oer_skeleton.proofs.Numbers.{elements_fit, first_is_one, low_fits, nearest_fits}

-- ---- values that hold free other

octets_of : (n k : ℕ) → k < 256 → IsOctets (replicate n k)
octets_of zero k l = tt
octets_of (suc n) k l = (l, octets_of n k l)

is_digit : (letters : Alphabet) → is_character letters 48 ≡ true
is_digit ia5 = refl
is_digit visible = refl
is_digit numeric = refl
is_digit printable = refl

are_digits : (letters : Alphabet) (n : ℕ) → all_characters letters (replicate n 48) ≡ true
are_digits letters zero = refl
are_digits letters (suc n) = and_true (is_character letters 48) (all_characters letters (replicate n 48)) (is_digit letters) (are_digits letters n)

are_ascii : (n : ℕ) → IsAscii (replicate n 48)
are_ascii n = let small : 48 < 128 = lit< tt in IsAscii-from_all (replicate n 48) (All-replicate (λ b. b < 128) n 48 small)

content_fits : (kind : ContentType) → (HasCrossedSize (leaf (content kind)) → ⊥) → LeafHasWidths (content kind) → FitsContent kind (smallest_content kind)
content_fits (octet_string s) free w = (octets_of s.low 0 (lit< tt), ap (size_fits s) (length-replicate s.low 0) ∙ low_fits s free w.0)
content_fits object_id free w = (0, 0, [], refl, lit≤ tt, (λ h. lit< tt), lit< tt, tt)
content_fits (restricted_string letters s) free w =
    (octets_of s.low 48 (lit< tt), are_digits letters s.low, ap (size_fits s) (length-replicate s.low 48) ∙ low_fits s free w.0)
content_fits (utf8_string s) free w =
    let a = are_ascii s.low in (
      octets_of s.low 48 (lit< tt),
      is_utf8-from_IsUtf8 (replicate s.low 48) (IsUtf8-from_ascii (replicate s.low 48) a),
      ap (λ v. size_fits s (length v)) (chars-IsAscii (replicate s.low 48) a) ∙ ap (size_fits s) (length-replicate s.low 48) ∙ low_fits s free w.0,
    )

leaf_fits : (kind : LeafType) → (HasNoItems (leaf kind) → ⊥) → (HasCrossedBounds (leaf kind) → ⊥) → (HasCrossedSize (leaf kind) → ⊥) → LeafHasWidths kind
    → FitsLeaf kind (leaf_value (smallest_leaf kind))
leaf_fits boolean i b s w = (false, refl)
leaf_fits null i b s w = refl
leaf_fits (integer low high) i b s w = (_, refl, nearest_fits low high b w.0 w.1)
leaf_fits (enumerated [] extensible) i b s w = absurd (i tt)
leaf_fits (enumerated (x ∷ xs) extensible) i b s w = (x.number, refl, is_64_bits x.number w.0, or_right extensible _ (first_is_one x xs))
leaf_fits (bit_string size) i b s w = (replicate size.low false, refl, ap (size_fits size) (length-replicate size.low false) ∙ low_fits size s w.0)
leaf_fits (content kind) i b s w = (smallest_content kind, refl, content_fits kind s w)

-- ---- values that hold others

all_fit : (P : AsnValue → Type 0) (n : ℕ) (v : AsnValue) → P v → AllFit P (replicate n v)
all_fit P zero v f = tt
all_fit P (suc n) v f = (f, all_fit P n v f)

module _ (P : AsnValue → Type 0) (R : Places → Type 0) (v : AsnValue) (ps : Places) (f : P v) (r : R ps) where
  optional_fits : (parts : Parts) (legal : Bool) → FitsPlace may P R (place (optional_part parts legal v) ps)
  optional_fits Needed legal = inr (ps, refl, r)
  optional_fits All true = inl (v, ps, refl, f, r)
  optional_fits All false = inr (ps, refl, r)

  part_fits : (parts : Parts) (need : Need) (legal : Bool) → DefaultFits need P → FitsPlace need P R (place (part parts need legal v) ps)
  part_fits parts must legal d = (v, ps, refl, f, r)
  part_fits parts may legal d = optional_fits parts legal
  part_fits Needed (default x) legal d = inr (ps, refl, r)
  part_fits All (default x) legal d = inl (x, ps, refl, d, r)

-- ---- the alternative that is taken

pub same_self : (t : Tag) → same_tag t t ≡ true
same_self t = and_true (eqb (class_number t.class) (class_number t.class)) (eqb t.number t.number) (eq-eqb (class_number t.class) (class_number t.class) refl)
    (eq-eqb t.number t.number refl)

same_tags : (u t : Tag) → same_tag u t ≡ true → (class_number u.class ≡ class_number t.class) × (u.number ≡ t.number)
same_tags u t e =
    let k = both (eqb (class_number u.class) (class_number t.class)) (eqb u.number t.number) e in
    (eqb-true (class_number u.class) (class_number t.class) k.0, eqb-true u.number t.number k.1)

has_alike : (u t : Tag) → class_number u.class ≡ class_number t.class → u.number ≡ t.number → (more : Alternatives) → has_tag u more ≡ has_tag t more
has_alike u t c n no_alternatives = refl
has_alike u t c n (alternative name x T more) =
    ap₂ (λ a b. a || b) (ap₂ (λ k m. eqb (class_number x.class) k && eqb x.number m) c n) (has_alike u t c n more)
has_alike u t c n (later name x T more) =
    ap₂ (λ a b. a || b) (ap₂ (λ k m. eqb (class_number x.class) k && eqb x.number m) c n) (has_alike u t c n more)

pub apart : (u t : Tag) (more : Alternatives) → has_tag u more ≡ false → has_tag t more ≡ true → same_tag u t ≡ false
apart u t more free there = by (same_tag u t) refl
  where
    by : (b : Bool) → same_tag u t ≡ b → same_tag u t ≡ false
    by true e = let k = same_tags u t e in let s = has_alike u t k.0 k.1 more in absurd (cc)
    by false e = e

pub neither : (a b : Bool) → (a || b) ≡ false → (a ≡ false) × (b ≡ false)
neither true b e = cc
neither false b e = (refl, e)

pub tags_apart : (e : Bool) (more : Alternatives) → (Somewhere HasRepeatedTag (choice e more) → ⊥) → tags_repeat more ≡ false
tags_apart e more free = (neither (tags_repeat more) (in_alternatives has_repeated_tag more)
    (by (has_fault RepeatedTag (choice e more)) (λ h. free ((fault_decides (choice e more) RepeatedTag).0 h)))).0
  where
    by : (b : Bool) → (b ≡ true → ⊥) → b ≡ false
    by true h = absurd (h refl)
    by false h = refl

-- v is that of an alternative which it fits
abbrev IsOf : Alternatives → AsnValue → Type 0
IsOf more v = (t : Tag) × (x : AsnValue) × (v ≡ chosen t x) × FitsAlternative more t x × (has_tag t more ≡ true)

pub first_of_tag : (b : Bool) (P R : AsnValue → Type 0) (v : AsnValue) → b ≡ true → P v → FitsByTag b P R v
first_of_tag true P R v e f = f
first_of_tag false P R v e f = absurd (cc)

pub other_tag : (b : Bool) (P R : AsnValue → Type 0) (v : AsnValue) → b ≡ false → R v → FitsByTag b P R v
other_tag true P R v e f = absurd (cc)
other_tag false P R v e f = f

taken_by : (b : Bool) (name : List ℕ) (u : Tag) (T : AsnType) (more : Alternatives) (x rest : AsnValue) → Fits T x → has_tag u more ≡ false → (b || any_legal more) ≡ true
    → (any_legal more ≡ true → IsOf more rest) → IsOf (alternative name u T more) (if b then chosen u x else rest)
taken_by true name u T more x rest f free some k =
    (u, x, refl, first_of_tag (same_tag u u) (Fits T) (FitsAlternative more u) x (same_self u) f, ap (λ b. b || has_tag u more) (same_self u))
taken_by false name u T more x rest f free some k =
    let h = k some in
    let t = h.0 in
    (t, h.1, h.2, other_tag (same_tag u t) (Fits T) (FitsAlternative more t) h.1 (apart u t more free h.4) h.3, or_right (same_tag u t) (has_tag t more) h.4)

-- the value of the alternative that is taken fits it
abbrev IsTaken : Parts → Alternatives → Bool → Type 0
IsTaken parts more any = (t : Tag) × (x : AsnValue) × (skeleton_chosen parts any more ≡ chosen t x) × FitsAlternative more t x

by_taken : (parts : Parts) (more : Alternatives) (any : Bool) → (any ≡ true → IsOf more (skeleton_chosen parts true more)) → IsTaken parts more false
    → IsTaken parts more any
by_taken parts more true f g = let k = f refl in (k.0, k.1, k.2, k.3)
by_taken parts more false f g = g

-- ---- the faults that a skeleton needs to be absent

pub data Bad : Type 0 where
  no_items crossed_bounds crossed_size repeated_tag : Bad

abbrev pub bad : Bad → AsnType → Type 0
bad no_items = HasNoItems
bad crossed_bounds = HasCrossedBounds
bad crossed_size = HasCrossedSize
bad repeated_tag = HasRepeatedTag

module _ (parts : Parts) where
  mutual
    type_fits : (T : AsnType) → ((q : Bad) → Somewhere (bad q) T → ⊥) → DefaultsFit T → HasWidths T → Fits T (skeleton parts T)
    type_fits (leaf kind) ok d w = leaf_fits kind (ok no_items) (ok crossed_bounds) (ok crossed_size) w
    type_fits (sequence fs) ok d w = (skeleton_fields parts fs, refl, fields_fit fs (λ q s. ok q (inr s)) d w)
    type_fits (extensible_sequence fs more) ok d w = (
      skeleton_fields parts fs,
      skeleton_additions parts more,
      [],
      refl,
      fields_fit fs (λ q s. ok q (inr (inl s))) d.0 w.0,
      additions_fit more (λ q s. ok q (inr (inr s))) d.1 w.1,
      tt,
    )
    type_fits (sequence_of s T) ok d w =
        let n = elements parts (is_legal T) s in (
          replicate n (skeleton parts T),
          refl,
          ap (size_fits s) (length-replicate n (skeleton parts T))
              ∙ elements_fit parts (is_legal T) s (λ h. ok crossed_size (inl h)) w.0.0,
          all_fit (Fits T) n (skeleton parts T) (type_fits T (λ q s. ok q (inr s)) d w.1),
        )
    type_fits (choice e more) ok d w =
        let tags = tags_apart e more (ok repeated_tag) in
        inl (by_taken parts more (any_legal more) (λ any. legal_fits more any (λ q s. ok q (inr s)) tags d w.1)
        (first_fits e more (λ h. ok no_items (inl h)) (λ q s. ok q (inr s)) d w.1))

    fields_fit : (fs : Fields) → ((q : Bad) → InFields (bad q) fs → ⊥) → FieldDefaultsFit fs → FieldsHaveWidths fs → FitsFields fs (skeleton_fields parts fs)
    fields_fit no_fields ok d w = refl
    fields_fit (field name need T fs) ok d w =
        part_fits (Fits T) (FitsFields fs) (skeleton parts T) (skeleton_fields parts fs) (type_fits T (λ q s. ok q (inl s)) d.0 w.0)
        (fields_fit fs (λ q s. ok q (inr s)) d.2 w.1) parts need (is_legal T) d.1

    additions_fit : (more : Additions) → ((q : Bad) → InAdditions (bad q) more → ⊥) → AdditionDefaultsFit more → AdditionsHaveWidths more
        → FitsAdditions more (skeleton_additions parts more)
    additions_fit no_additions ok d w = refl
    additions_fit (addition name T more) ok d w =
        optional_fits (Fits T) (FitsAdditions more) (skeleton parts T) (skeleton_additions parts more) (type_fits T (λ q s. ok q (inl s)) d.0 w.0)
        (additions_fit more (λ q s. ok q (inr s)) d.1 w.1) parts (is_legal T)

    first_fits : (e : Bool) (more : Alternatives) → (HasNoItems (choice e more) → ⊥) → ((q : Bad) → InAlternatives (bad q) more → ⊥)
        → AlternativeDefaultsFit more → AlternativesHaveWidths more → IsTaken parts more false
    first_fits e no_alternatives some ok d w = absurd (some tt)
    first_fits e (later name t T more) some ok d w = absurd (some tt)
    first_fits e (alternative name t T more) some ok d w = (
      t,
      skeleton parts T,
      refl,
      first_of_tag (same_tag t t) (Fits T) (FitsAlternative more t) (skeleton parts T) (same_self t)
          (type_fits T (λ q s. ok q (inl s)) d.0 w.1),
    )

    legal_fits : (more : Alternatives) → any_legal more ≡ true → ((q : Bad) → InAlternatives (bad q) more → ⊥) → tags_repeat more ≡ false
        → AlternativeDefaultsFit more → AlternativesHaveWidths more
        → IsOf more (skeleton_chosen parts true more)
    legal_fits no_alternatives any ok tags d w = absurd (cc)
    legal_fits (later name t T more) any ok tags d w = absurd (cc)
    legal_fits (alternative name t T more) any ok tags d w =
        let k = neither (has_tag t more) (tags_repeat more) tags in
        taken_by (not (same_tag t end_tag) && is_legal T) name t T more (skeleton parts T) (skeleton_chosen parts true more)
        (type_fits T (λ q s. ok q (inl s)) d.0 w.1) k.0 any
        (λ some. legal_fits more some (λ q s. ok q (inr s)) k.1 d.1 w.2)

pub sound : (T : AsnType) → IsWellFormed T → (q : Bad) → Somewhere (bad q) T → ⊥
sound T w no_items = w.faultless NoItems
sound T w crossed_bounds = w.faultless BoundOrder
sound T w crossed_size = w.faultless SizeOrder
sound T w repeated_tag = w.faultless RepeatedTag

pub skeletons_fit : SkeletonsFit
skeletons_fit parts T w = type_fits parts T (sound T w) (defaults_fit T w) w.widths
