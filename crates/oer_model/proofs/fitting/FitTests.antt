-- The test says which values fit.
use Rattle.std.proofs.Common.{◌≡◌, ◌↔◌, ◌⊎◌, inl, inr, ℕ, suc, ◌^◌, List, [], ◌∷◌, length, Bool, true, false, not, ◌&&◌, ◌||◌, leb, ltb, if◌then◌else◌, refl, sym, ap, ap₂, ◌∙◌}
use Rattle.std.proofs.lemmas.Bool.{lt-ltb, ltb-true, leb-true, le-leb}
use Rattle.oer_units.specs.Reading.{is_int64}
use Rattle.oer_units.specs.declared.tagging.Tag.{Tag}
use Rattle.oer_model.proofs.fitting.Contents.{content_complete, content_sound, held_true, holds}
use Rattle.oer_model.proofs.fitting.Tests.{and_true, below_octets, not_true, octets_below}
pub use Rattle.oer_model.proofs.fitting.Tests.{below_all, both}
use Rattle.oer_model.specs.LeafType as kind
use Rattle.oer_model.specs.LeafType.{LeafType}
use Rattle.oer_model.specs.LeafValue.{LeafValue}
use Rattle.oer_model.specs.LeafValue as leaf_kind
use Rattle.oer_model.specs.AsnType.{Additions, Alternatives, AsnType, Fields, addition, alternative, bit_string, boolean, choice, default, enumerated, extensible_sequence, field, integer, later, leaf, may, must, no_additions, no_alternatives, no_fields, null, sequence, sequence_of}
use Rattle.oer_model.specs.AsnValue.{AsnValue, Places, Unknown, Values, absent, chosen, foreign, items, leaf_value, no_places, no_values, present, seq, unknown, value}
use Rattle.oer_model.specs.Constraints.{addition_count, has_number, has_tag, same_tag, size_fits}
use Rattle.oer_model.specs.Contents.{content_fits}
use Rattle.oer_model.specs.Fits.{AllFit, Fits, FitsAdditions, FitsAlternative, FitsByTag, FitsFields, FitsLeaf, FitsUnknown, listed}
use Rattle.oer_model.specs.FitTest.{additions_fit, all_below, all_fit, alternative_fits, fields_fit, is_fit, is_fit_leaf, is_without, unknown_fit, values_length}

unknown_sound : (n : ℕ) (us : List Unknown) → unknown_fit n us ≡ true → FitsUnknown n us
unknown_sound n [] h = tt
unknown_sound n (unknown place w ∷ us) h =
    let k = both (leb n place && leb place 65535 && all_below 256 w) (unknown_fit (suc place) us) h in
    let l = both (leb n place && leb place 65535) (all_below 256 w) k.0 in
    let m = both (leb n place) (leb place 65535) l.0 in
    (leb-true n place m.0, leb-true place 65535 m.1, below_octets w l.1, unknown_sound (suc place) us k.1)

unknown_complete : (n : ℕ) (us : List Unknown) → FitsUnknown n us → unknown_fit n us ≡ true
unknown_complete n [] h = refl
unknown_complete n (unknown place w ∷ us) (low, high, o, rest) =
    and_true (leb n place && leb place 65535 && all_below 256 w) (unknown_fit (suc place) us)
    (and_true (leb n place && leb place 65535) (all_below 256 w) (and_true (leb n place) (leb place 65535) (le-leb n place low) (le-leb place 65535 high)) (octets_below w o))
    (unknown_complete (suc place) us rest)

is_listed : Values → List AsnValue
is_listed no_values = []
is_listed (value v vs) = v ∷ is_listed vs

listed_is : (vs : Values) → vs ≡ listed (is_listed vs)
unfolding is_listed
listed_is no_values = refl
listed_is (value v vs) = ap (value v) (listed_is vs)

length_is : (vs : Values) → values_length vs ≡ length (is_listed vs)
unfolding is_listed
length_is no_values = refl
length_is (value v vs) = ap suc (length_is vs)

length-listed : (vs : List AsnValue) → values_length (listed vs) ≡ length vs
length-listed [] = refl
length-listed (v ∷ vs) = ap suc (length-listed vs)

all_sound : (f : AsnValue → Bool) (P : AsnValue → Type 0) → ((v : AsnValue) → f v ≡ true → P v) → (vs : Values) → all_fit f vs ≡ true → AllFit P (is_listed vs)
unfolding is_listed
all_sound f P s no_values h = tt
all_sound f P s (value v vs) h = let k = both (f v) (all_fit f vs) h in (s v k.0, all_sound f P s vs k.1)

all_complete : (f : AsnValue → Bool) (P : AsnValue → Type 0) → ((v : AsnValue) → P v → f v ≡ true) → (vs : List AsnValue) → AllFit P vs → all_fit f (listed vs) ≡ true
all_complete f P s [] h = refl
all_complete f P s (v ∷ vs) h = and_true (f v) (all_fit f (listed vs)) (s v h.0) (all_complete f P s vs h.1)

is_without_sound : (ps : Places) (us : List Unknown) → is_without ps us ≡ true → (ps ≡ no_places) × (us ≡ [])
is_without_sound no_places [] h = (refl, refl)
is_without_sound no_places (u ∷ us) h = cc
is_without_sound (absent ps) us h = cc
is_without_sound (present v ps) us h = cc

by_tag : (b : Bool) (x y : Bool) → (if b then x else y) ≡ true → ((b ≡ true) × (x ≡ true)) ⊎ ((b ≡ false) × (y ≡ true))
by_tag true x y h = inl (refl, h)
by_tag false x y h = inr (refl, h)

tag_sound : (b : Bool) (P R : AsnValue → Type 0) (v : AsnValue) (x y : Bool) → (x ≡ true → P v) → (y ≡ true → R v) → (if b then x else y) ≡ true → FitsByTag b P R v
tag_sound true P R v x y f g h = f h
tag_sound false P R v x y f g h = g h

tag_complete : (b : Bool) (P R : AsnValue → Type 0) (v : AsnValue) (x y : Bool) → (P v → x ≡ true) → (R v → y ≡ true) → FitsByTag b P R v → (if b then x else y) ≡ true
tag_complete true P R v x y f g h = f h
tag_complete false P R v x y f g h = g h

leaf_sound : (kind : LeafType) (v : LeafValue) → is_fit_leaf kind v ≡ true → FitsLeaf kind (leaf_value v)
leaf_sound kind.boolean (leaf_kind.bool x) h = (x, refl)
leaf_sound kind.null leaf_kind.nothing h = refl
leaf_sound (kind.integer low high) (leaf_kind.int z) h = (z, refl, h)
leaf_sound (kind.enumerated xs e) (leaf_kind.enum z) h = let k = both (is_int64 z) (e || has_number xs z) h in (z, refl, k.0, k.1)
leaf_sound (kind.bit_string s) (leaf_kind.bit_list bits) h = (bits, refl, h)
leaf_sound (kind.content inner) v h = let k = held_true inner (content_fits inner) v h in (k.0, ap leaf_value k.1, content_sound inner k.0 k.2)
leaf_sound kind v h = absurd (cc)

mutual
  pub fit_sound : (T : AsnType) (v : AsnValue) → is_fit T v ≡ true → Fits T v
  fit_sound (leaf kind) (leaf_value v) h = leaf_sound kind v h
  fit_sound (sequence fs) (seq root added us) h =
      let k = both (is_without added us) (fields_fit fs root) h in
      let e = is_without_sound added us k.0 in
      (root, ap₂ (λ a u. seq root a u) e.0 e.1, fields_sound fs root k.1)
  fit_sound (extensible_sequence fs more) (seq root added us) h =
      let k = both (fields_fit fs root) (additions_fit more added && unknown_fit (addition_count more) us) h in
      let l = both (additions_fit more added) (unknown_fit (addition_count more) us) k.1 in
      (root, added, us, refl, fields_sound fs root k.0, additions_sound more added l.0, unknown_sound (addition_count more) us l.1)
  fit_sound (sequence_of s T) (items vs) h =
      let k = both (size_fits s (values_length vs)) (all_fit (is_fit T) vs) h in
      (is_listed vs, ap items (listed_is vs), ap (size_fits s) (sym (length_is vs)) ∙ k.0, all_sound (is_fit T) (Fits T) (λ v. fit_sound T v) vs k.1)
  fit_sound (choice e more) (chosen t v) h = inl (t, v, refl, alternative_sound more t v h)
  fit_sound (choice e more) (foreign t w) h =
      let k = both e (not (has_tag t more) && (ltb t.number (2 ^ 32) && all_below 256 w)) h in
      let l = both (not (has_tag t more)) (ltb t.number (2 ^ 32) && all_below 256 w) k.1 in
      let m = both (ltb t.number (2 ^ 32)) (all_below 256 w) l.1 in
      inr (t, w, refl, k.0, not_true (has_tag t more) l.0, ltb-true t.number (2 ^ 32) m.0, below_octets w m.1)
  fit_sound T v h = absurd (cc)

  fields_sound : (fs : Fields) (ps : Places) → fields_fit fs ps ≡ true → FitsFields fs ps
  fields_sound no_fields no_places h = refl
  fields_sound no_fields (absent ps) h = absurd (cc)
  fields_sound no_fields (present v ps) h = absurd (cc)
  fields_sound (field name need T fs) no_places h = absurd (cc)
  fields_sound (field name must T fs) (absent ps) h = absurd (cc)
  fields_sound (field name may T fs) (absent ps) h = inr (ps, refl, fields_sound fs ps h)
  fields_sound (field name (default d) T fs) (absent ps) h = inr (ps, refl, fields_sound fs ps h)
  fields_sound (field name must T fs) (present v ps) h = let k = both (is_fit T v) (fields_fit fs ps) h in (v, ps, refl, fit_sound T v k.0, fields_sound fs ps k.1)
  fields_sound (field name may T fs) (present v ps) h = let k = both (is_fit T v) (fields_fit fs ps) h in inl (v, ps, refl, fit_sound T v k.0, fields_sound fs ps k.1)
  fields_sound (field name (default d) T fs) (present v ps) h = let k = both (is_fit T v) (fields_fit fs ps) h in inl (v, ps, refl, fit_sound T v k.0, fields_sound fs ps k.1)

  additions_sound : (more : Additions) (ps : Places) → additions_fit more ps ≡ true → FitsAdditions more ps
  additions_sound no_additions no_places h = refl
  additions_sound no_additions (absent ps) h = absurd (cc)
  additions_sound no_additions (present v ps) h = absurd (cc)
  additions_sound (addition name T more) no_places h = absurd (cc)
  additions_sound (addition name T more) (absent ps) h = inr (ps, refl, additions_sound more ps h)
  additions_sound (addition name T more) (present v ps) h = let k = both (is_fit T v) (additions_fit more ps) h in inl (v, ps, refl, fit_sound T v k.0, additions_sound more ps k.1)

  alternative_sound : (more : Alternatives) (t : Tag) (v : AsnValue) → alternative_fits more t v ≡ true → FitsAlternative more t v
  alternative_sound no_alternatives t v h = absurd (cc)
  alternative_sound (alternative name u T more) t v h = tag_sound (same_tag u t) (Fits T) (FitsAlternative more t) v (is_fit T v) (alternative_fits more t v) (fit_sound T v) (alternative_sound more t v) h
  alternative_sound (later name u T more) t v h = tag_sound (same_tag u t) (Fits T) (FitsAlternative more t) v (is_fit T v) (alternative_fits more t v) (fit_sound T v) (alternative_sound more t v) h

leaf_complete : (kind : LeafType) (v : AsnValue) → FitsLeaf kind v → is_fit (leaf kind) v ≡ true
leaf_complete kind.boolean v (x, e) = ap (is_fit boolean) e
leaf_complete kind.null v e = ap (is_fit null) e
leaf_complete (kind.integer low high) v (z, e, h) = ap (is_fit (integer low high)) e ∙ h
leaf_complete (kind.enumerated xs x) v (z, e, h, k) = ap (is_fit (enumerated xs x)) e ∙ and_true (is_int64 z) (x || has_number xs z) h k
leaf_complete (kind.bit_string s) v (bits, e, h) = ap (is_fit (bit_string s)) e ∙ h
leaf_complete (kind.content inner) v (w, e, h) = ap (is_fit (leaf (kind.content inner))) e ∙ holds inner false (content_fits inner) w ∙ content_complete inner w h

mutual
  pub fit_complete : (T : AsnType) (v : AsnValue) → Fits T v → is_fit T v ≡ true
  fit_complete (leaf kind) v f = leaf_complete kind v f
  fit_complete (sequence fs) v (root, e, f) = ap (is_fit (sequence fs)) e ∙ fields_complete fs root f
  fit_complete (extensible_sequence fs more) v (root, added, us, e, f, a, u) =
      ap (is_fit (extensible_sequence fs more)) e ∙ and_true (fields_fit fs root) (additions_fit more added && unknown_fit (addition_count more) us) (fields_complete fs root f)
      (and_true (additions_fit more added) (unknown_fit (addition_count more) us) (additions_complete more added a) (unknown_complete (addition_count more) us u))
  fit_complete (sequence_of s T) v (vs, e, h, f) =
      ap (is_fit (sequence_of s T)) e ∙ and_true (size_fits s (values_length (listed vs))) (all_fit (is_fit T) (listed vs)) (ap (size_fits s) (length-listed vs) ∙ h) (all_complete (is_fit T) (Fits T) (λ v. fit_complete T v) vs f)
  fit_complete (choice x more) v (inl (t, w, e, f)) = ap (is_fit (choice x more)) e ∙ alternative_complete more t w f
  fit_complete (choice x more) v (inr (t, w, e, h, k, n, o)) =
      ap (is_fit (choice x more)) e ∙ and_true x (not (has_tag t more) && (ltb t.number (2 ^ 32) && all_below 256 w)) h
      (and_true (not (has_tag t more)) (ltb t.number (2 ^ 32) && all_below 256 w) (ap not k) (and_true (ltb t.number (2 ^ 32)) (all_below 256 w) (lt-ltb t.number (2 ^ 32) n) (octets_below w o)))

  fields_complete : (fs : Fields) (ps : Places) → FitsFields fs ps → fields_fit fs ps ≡ true
  fields_complete no_fields ps e = ap (fields_fit no_fields) e
  fields_complete (field name must T fs) ps (v, rest, e, f, g) = ap (fields_fit (field name must T fs)) e ∙ and_true (is_fit T v) (fields_fit fs rest) (fit_complete T v f) (fields_complete fs rest g)
  fields_complete (field name may T fs) ps (inl (v, rest, e, f, g)) = ap (fields_fit (field name may T fs)) e ∙ and_true (is_fit T v) (fields_fit fs rest) (fit_complete T v f) (fields_complete fs rest g)
  fields_complete (field name may T fs) ps (inr (rest, e, g)) = ap (fields_fit (field name may T fs)) e ∙ fields_complete fs rest g
  fields_complete (field name (default d) T fs) ps (inl (v, rest, e, f, g)) = ap (fields_fit (field name (default d) T fs)) e ∙ and_true (is_fit T v) (fields_fit fs rest) (fit_complete T v f) (fields_complete fs rest g)
  fields_complete (field name (default d) T fs) ps (inr (rest, e, g)) = ap (fields_fit (field name (default d) T fs)) e ∙ fields_complete fs rest g

  additions_complete : (more : Additions) (ps : Places) → FitsAdditions more ps → additions_fit more ps ≡ true
  additions_complete no_additions ps e = ap (additions_fit no_additions) e
  additions_complete (addition name T more) ps (inl (v, rest, e, f, g)) = ap (additions_fit (addition name T more)) e ∙ and_true (is_fit T v) (additions_fit more rest) (fit_complete T v f) (additions_complete more rest g)
  additions_complete (addition name T more) ps (inr (rest, e, g)) = ap (additions_fit (addition name T more)) e ∙ additions_complete more rest g

  alternative_complete : (more : Alternatives) (t : Tag) (v : AsnValue) → FitsAlternative more t v → alternative_fits more t v ≡ true
  alternative_complete no_alternatives t v h = absurd h
  alternative_complete (alternative name u T more) t v h = tag_complete (same_tag u t) (Fits T) (FitsAlternative more t) v (is_fit T v) (alternative_fits more t v) (fit_complete T v) (alternative_complete more t v) h
  alternative_complete (later name u T more) t v h = tag_complete (same_tag u t) (Fits T) (FitsAlternative more t) v (is_fit T v) (alternative_fits more t v) (fit_complete T v) (alternative_complete more t v) h

-- the test decides
pub fit_decides : (T : AsnType) (v : AsnValue) → (is_fit T v ≡ true) ↔ Fits T v
fit_decides T v = (fit_sound T v, fit_complete T v)
