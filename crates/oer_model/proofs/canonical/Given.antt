-- What fits has canonical octets, unless these are too many.
use Rattle.std.proofs.Common.{◌≡◌, ℕ, suc, ◌^◌, ◌<◌, ◌≤◌, max, inl, inr, Bool, true, false, ◌&&◌, ◌||◌, leb, if◌then◌else◌, ℤ, List, [], ◌∷◌, ◌++◌, length, map, Option, Some, None, refl, sym, ap, ◌∙◌, subst, arith, length-append, leb-true, ap₂, le-leb}
use Rattle.std.proofs.lemmas.List.{length-map, drop_all}
use Rattle.oer_units.specs.Least.{octets_needed, length_octets, counted, unsigned_octets, enumerated_octets, tag_octets}
use Rattle.oer_units.specs.Octets.{IsShortest}
use Rattle.oer_units.specs.Reading.{is_int64}
use Rattle.oer_units.specs.Spelling.{IsEnumerated, IsJoined}
use Rattle.oer_units.specs.declared.tagging.Tag.{Tag}
use Rattle.oer_units.proofs.LeastDigits.{tag_exists}
use Rattle.oer_units.proofs.Leasts.{quantity_exists, enum_exists}
use Rattle.oer_units.proofs.Lengths.{both_true}
use Rattle.oer_units.proofs.Numbers.{needed_64}
use Rattle.oer_units.proofs.Ranges.{enum_within}
use Rattle.oer_model.proofs.canonical.Bridge.{strict_counted_exists, integer_exists}
use Rattle.oer_model.proofs.fitting.Contents.{content_strict, holds}
use Rattle.oer_model.proofs.filling.FillFits.{fill_listed}
use Rattle.oer_model.proofs.fitting.Forms.{form_fits}
use Rattle.oer_model.proofs.bits.LeastBits.{preamble_exists, bits_exist}
use Rattle.oer_model.proofs.reading.Parts.{fixed_is}
use Rattle.oer_model.proofs.filling.Same.{same-refl, same_tag-true}
use Rattle.oer_model.proofs.filling.Trimming.{fill_trimmed}
use Rattle.oer_model.proofs.bits.UnknownBits.{fits_rise, marks_length, AreShort, unknown_exists, marks_set, last_below}
use Rattle.oer_model.proofs.canonical.StrictOctets.{strict_octets}
use Rattle.oer_model.proofs.filling.TrimmedFits.{trim_fits}
use Rattle.oer_model.specs.LeafType as kind
use Rattle.oer_model.specs.LeafType.{LeafType}
use Rattle.oer_model.specs.AsnType.{Additions, Alternatives, AsnType, Fields, NamedNumber, Need, addition, alternative, bit_string, boolean, choice, default, enumerated, extensible_sequence, field, integer, later, leaf, may, must, no_additions, no_alternatives, no_fields, sequence, sequence_of}
use Rattle.oer_model.specs.AsnValue.{Unknown, unknown, AsnValue, int, enum, items, leaf_value, Places, absent, present}
use Rattle.oer_model.specs.Bits.{all_false, padded, spare_bits}
use Rattle.oer_model.specs.Canonical.{addition_bits, all_octets, any_present, any_unknown, bit_octets, bitmap_octets, by_tag_octets, canonical_octets, count, extension_octets, integer_octets, leaf_octets, place_bits, place_octets, plain_addition_octets, plain_alternative_octets, plain_field_octets, plain_octets, root_bits, same, string_octets, trimmed, trimmed_additions, trimmed_alternative, trimmed_fields, trimmed_place, unknown_marks, unknown_octets}
use Rattle.oer_units.specs.Laws.{HasTagNumber}
use Rattle.oer_model.specs.Constraints.{same_tag, size_fits, at_most, fixed, form_of, in_range, has_number, optional, optional_with, addition_count, KeepsLimits, FieldsKeepLimits, AdditionsKeepLimits, AlternativesKeepLimits, any_size}
use Rattle.oer_model.specs.ContentType.{ContentType}
use Rattle.oer_model.specs.Contents.{FitsContent, content_octets, content_value, fixed_content}
use Rattle.oer_model.specs.Encoding.{SpellsInteger, IsItself, IsPresent, IsAbsent, ByTag}
use Rattle.oer_model.specs.Filling.{filled_by_tag, filled}
use Rattle.oer_model.specs.Fits.{AllFit, Fits, FitsAdditions, FitsAlternative, FitsByTag, FitsFields, FitsLeaf, FitsPlace, FitsUnknown, after_last, all_absent, listed}
use Rattle.oer_model.specs.Laws.{CanonicalGiven}
use Rattle.oer_model.specs.Strict.{IsLeastSpelling, IsStrictLeafSpelling, IsStrictSpelling, SpellsAdditionsStrictly, SpellsAlternativeStrictly, SpellsFieldsStrictly, StrictBitString, StrictBits, StrictCounted, StrictExtension, StrictNeed, StrictQuantity}
use Rattle.oer_model.specs.declared.size.Size.{Size}

-- fewer than 2 ^ 64 octets
unfoldable pub Small : List ℕ → Type 0
Small b = length b < 2 ^ 64

small_left : (a b : List ℕ) → Small (a ++ b) → Small a
unfolding Small
small_left a b h = omega (arith, length-append a b)

small_right : (a b : List ℕ) → Small (a ++ b) → Small b
unfolding Small
small_right a b h = omega (arith, length-append a b)

small_needed : (c : List ℕ) → Small c → octets_needed (length c) ≤ 127
unfolding Small
small_needed c h = needed_64 (length c) h

small_counted : (c : List ℕ) → Small (counted c) → Small c
small_counted c h = small_right (length_octets (length c)) c h

size_below : (size : Size) (n : ℕ) → size_fits size n ≡ true → n < 2 ^ 64
size_below size n e = let small = leb-true n 18446744073709551615 (both_true (leb size.low n && at_most size.high n) (leb n 18446744073709551615) e).1 in omega arith

integer_leaf : (low high : Option ℤ) (z : ℤ) → in_range low high z ≡ true → IsLeastSpelling (integer low high) (int z) (integer_octets (form_of low high) z)
integer_leaf low high z ok = go (integer_exists (form_of low high) z (form_fits low high z ok))
  where
    go : IsShortest (SpellsInteger (form_of low high) z) (integer_octets (form_of low high) z) → IsLeastSpelling (integer low high) (int z) (integer_octets (form_of low high) z)
    go (o', s, least) = (o', (z, refl, ok, s), λ d od (x, is, ok', t). (let same : x ≡ z = cc in least d od (subst (λ x. SpellsInteger (form_of low high) x d) same t)))

enumerated_leaf : (numbers : List NamedNumber) (extensible : Bool) (z : ℤ) → is_int64 z ≡ true → (extensible || has_number numbers z) ≡ true → IsLeastSpelling (enumerated numbers extensible) (enum z) (enumerated_octets z)
enumerated_leaf numbers extensible z ok known = go (enum_exists z (enum_within z ok))
  where
    go : IsShortest (IsEnumerated z) (enumerated_octets z) → IsLeastSpelling (enumerated numbers extensible) (enum z) (enumerated_octets z)
    go (o', s, least) = (o', (z, refl, ok, known, s), λ d od (x, is, ok', known', t). (let same : x ≡ z = cc in least d od (subst (λ x. IsEnumerated x d) same t)))

pub bitmap_exists : (s : List Bool) → Small (bitmap_octets s) → StrictCounted StrictBits s (bitmap_octets s)
unfolding bitmap_octets
bitmap_exists s small = strict_counted_exists StrictBits s (spare_bits (length s) ∷ padded s) (bits_exist s) (small_needed (spare_bits (length s) ∷ padded s) (small_counted (spare_bits (length s) ∷ padded s) small))

bit_string_exists : (fix : Option ℕ) (size : Size) (s : List Bool) → fixed size ≡ fix → size_fits size (length s) ≡ true → Small (bit_octets fix s) → StrictBitString fix size s (bit_octets fix s)
bit_string_exists (Some n) size s e f small = (fixed_is size.low size.high n (length s) e f, preamble_exists s)
bit_string_exists None size s e f small = (f, bitmap_exists s small)

any_fits : (n : ℕ) → n < 2 ^ 64 → size_fits any_size n ≡ true
any_fits n l = ap₂ (λ a b. a && true && b) (le-leb 0 n (omega arith)) (le-leb n 18446744073709551615 (omega arith))

-- What has P is spelt as p tells once f has trimmed it.
abbrev AreGiven : (AsnValue → Type 0) → (AsnValue → AsnValue) → (AsnValue → List ℕ) → (AsnValue → List ℕ → Type 0) → Type 0
AreGiven P f p S = (v : AsnValue) → P v → Small (p (f v)) → S (f v) (p (f v))

abbrev PlacesGiven : (Places → Type 0) → (Places → Places) → (Places → List ℕ) → (Places → List Bool) → (List Bool → Places → List ℕ → Type 0) → Type 0
PlacesGiven Q g q bits Rest = (ps : Places) → Q ps → Small (q (g ps)) → Rest (bits (g ps)) (g ps) (q (g ps))

module _ (h f : AsnValue → AsnValue) (p : AsnValue → List ℕ) (g : Places → Places) (q : Places → List ℕ) (bits : Places → List Bool) (Rest : List Bool → Places → List ℕ → Type 0) (P : AsnValue → Type 0) (Q : Places → Type 0) (S : AsnValue → List ℕ → Type 0) (one : AreGiven P f p S) (more : PlacesGiven Q g q bits Rest) where
  abbrev NeedGiven : Need → Places → Type 0
  NeedGiven need ps = Small (place_octets p q (trimmed_place need h f g ps)) → StrictNeed need h S Rest (place_bits need bits (trimmed_place need h f g ps)) (trimmed_place need h f g ps) (place_octets p q (trimmed_place need h f g ps))

  there : (v : AsnValue) (rest : Places) → P v → Q rest → Small (p (f v) ++ q (g rest)) → IsPresent S (Rest (bits (g rest))) (present (f v) (g rest)) (p (f v) ++ q (g rest))
  there v rest a b s = (f v, g rest, p (f v), q (g rest), refl, refl, one v a (small_left (p (f v)) (q (g rest)) s), more rest b (small_right (p (f v)) (q (g rest)) s))

  missing : (rest : Places) → Q rest → Small (q (g rest)) → IsAbsent (Rest (bits (g rest))) (absent (g rest)) (q (g rest))
  missing rest b s = (g rest, refl, more rest b s)

  -- where the component is its default, and where it isn't
  default_there : (d v : AsnValue) (rest : Places) → h (f v) ≡ h v → P v → Q rest → (c : Bool) → same (h v) (h d) ≡ c
      → Small (place_octets p q (if c then absent (g rest) else present (f v) (g rest)))
      → StrictNeed (default d) h S Rest (place_bits (default d) bits (if c then absent (g rest) else present (f v) (g rest))) (if c then absent (g rest) else present (f v) (g rest)) (place_octets p q (if c then absent (g rest) else present (f v) (g rest)))
  default_there d v rest k a b true e s = missing rest b s
  default_there d v rest k a b false e s =
      (f v, g rest, p (f v), q (g rest), refl, refl, (one v a (small_left (p (f v)) (q (g rest)) s), λ eq. apart (sym e ∙ ap (λ x. same x (h d)) (sym k ∙ eq) ∙ same-refl (h d))), more rest b (small_right (p (f v)) (q (g rest)) s))
    where
      apart : false ≡ true → ⊥
      apart e = cc

  need_given : (need : Need) → ((v : AsnValue) → h (f v) ≡ h v) → (ps : Places) → FitsPlace need P Q ps → NeedGiven need ps
  need_given must k ps (v, rest, is, a, b) = subst (NeedGiven must) (sym is) (there v rest a b)
  need_given may k ps (inl (v, rest, is, a, b)) = subst (NeedGiven may) (sym is) (there v rest a b)
  need_given may k ps (inr (rest, is, b)) = subst (NeedGiven may) (sym is) (missing rest b)
  need_given (default d) k ps (inl (v, rest, is, a, b)) = subst (NeedGiven (default d)) (sym is) (default_there d v rest (k v) a b (same (h v) (h d)) refl)
  need_given (default d) k ps (inr (rest, is, b)) = subst (NeedGiven (default d)) (sym is) (missing rest b)

module _ (h f : AsnValue → AsnValue) (g : Places → Places) (bits : Places → List Bool) (P : AsnValue → Type 0) (Q : Places → Type 0) where
  -- the number of bits
  abbrev HasBits : Need → ℕ → Places → Type 0
  HasBits need n ps = length (place_bits need bits (trimmed_place need h f g ps)) ≡ optional_with need n

  default_bits : (d v : AsnValue) (rest : Places) (n : ℕ) → length (bits (g rest)) ≡ n → (c : Bool) → length (place_bits (default d) bits (if c then absent (g rest) else present (f v) (g rest))) ≡ suc n
  default_bits d v rest n e true = omega arith
  default_bits d v rest n e false = omega arith

  need_bits : (need : Need) (n : ℕ) → ((ps : Places) → Q ps → length (bits (g ps)) ≡ n) → (ps : Places) → FitsPlace need P Q ps → HasBits need n ps
  need_bits must n k ps (v, rest, is, a, b) = subst (HasBits must n) (sym is) (k rest b)
  need_bits may n k ps (inl (v, rest, is, a, b)) = subst (HasBits may n) (sym is) (let i = k rest b in omega arith)
  need_bits may n k ps (inr (rest, is, b)) = subst (HasBits may n) (sym is) (let i = k rest b in omega arith)
  need_bits (default d) n k ps (inl (v, rest, is, a, b)) = subst (HasBits (default d) n) (sym is) (default_bits d v rest n (k rest b) (same (h v) (h d)))
  need_bits (default d) n k ps (inr (rest, is, b)) = subst (HasBits (default d) n) (sym is) (let i = k rest b in omega arith)

fields_bits : (fs : Fields) (ps : Places) → FitsFields fs ps → length (root_bits fs (trimmed_fields fs ps)) ≡ optional fs
fields_bits no_fields ps f = refl
fields_bits (field name need T fs) ps f = need_bits (filled T) (trimmed T) (trimmed_fields fs) (root_bits fs) (Fits T) (FitsFields fs) need (optional fs) (fields_bits fs) ps f

adds_bits : (more : Additions) (ps : Places) → FitsAdditions more ps → length (addition_bits more (trimmed_additions more ps)) ≡ addition_count more
adds_bits no_additions ps f = refl
adds_bits (addition name T more) ps f = need_bits (filled T) (trimmed T) (trimmed_additions more) (addition_bits more) (Fits T) (FitsAdditions more) may (addition_count more) (adds_bits more) ps f

counted_given : (P : AsnValue → Type 0) (f : AsnValue → AsnValue) (p : AsnValue → List ℕ) (S : AsnValue → List ℕ → Type 0) → AreGiven P f p S → AreGiven P f (λ v. counted (p v)) (StrictCounted S)
counted_given P f p S one v a s =
    let small = small_counted (p (f v)) s in
    strict_counted_exists S (f v) (p (f v)) (one v a small) (small_needed (p (f v)) small)

by_tag_given : (same : Bool) (P P' : AsnValue → Type 0) (f f' : AsnValue → AsnValue) (p p' : AsnValue → List ℕ) (S S' : AsnValue → List ℕ → Type 0) → AreGiven P f p S → AreGiven P' f' p' S' → AreGiven (FitsByTag same P P') (filled_by_tag same f f') (by_tag_octets same p p') (ByTag same S S')
by_tag_given true P P' f f' p p' S S' i j = i
by_tag_given false P P' f f' p p' S S' i j = j

every_given : (P : AsnValue → Type 0) (f : AsnValue → AsnValue) (p : AsnValue → List ℕ) (S : AsnValue → List ℕ → Type 0) → AreGiven P f p S → (vs : List AsnValue) → AllFit P vs → Small (all_octets p (listed (map f vs))) → IsJoined S (map f vs) (all_octets p (listed (map f vs)))
every_given P f p S one [] a s = refl
every_given P f p S one (v ∷ vs) (a, b) s =
    (p (f v), all_octets p (listed (map f vs)), refl, one v a (small_left (p (f v)) (all_octets p (listed (map f vs))) s), every_given P f p S one vs b (small_right (p (f v)) (all_octets p (listed (map f vs))) s))

count_listed : (vs : List AsnValue) → count (listed vs) ≡ length vs
count_listed [] = refl
count_listed (v ∷ vs) = ap suc (count_listed vs)

short_contents : (us : List Unknown) → Small (unknown_octets us) → AreShort us
short_contents [] s = tt
short_contents (unknown n w ∷ us) s =
    (small_needed w (small_counted w (small_left (counted w) (unknown_octets us) s)), short_contents us (small_right (counted w) (unknown_octets us) s))

-- the tag of an alternative
tag_of : (more : Alternatives) → AlternativesKeepLimits more → (t : Tag) (x : AsnValue) → FitsAlternative more t x → HasTagNumber t
tag_of no_alternatives w t x f = absurd f
tag_of (alternative name u T more) w t x f = by_test u t (same_tag u t) refl w.2 (Fits T) (FitsAlternative more t) x (tag_of more w.1 t x) f
  where
    by_test : (u t : Tag) (c : Bool) → same_tag u t ≡ c → HasTagNumber u → (P Q : AsnValue → Type 0) (x : AsnValue) → (Q x → HasTagNumber t) → FitsByTag c P Q x → HasTagNumber t
    by_test u t true e i P Q x g f = subst HasTagNumber (same_tag-true u t e) i
    by_test u t false e i P Q x g f = g f
tag_of (later name u T more) w t x f = by_test u t (same_tag u t) refl w.2 (Fits T) (FitsAlternative more t) x (tag_of more w.1 t x) f
  where
    by_test : (u t : Tag) (c : Bool) → same_tag u t ≡ c → HasTagNumber u → (P Q : AsnValue → Type 0) (x : AsnValue) → (Q x → HasTagNumber t) → FitsByTag c P Q x → HasTagNumber t
    by_test u t true e i P Q x g f = subst HasTagNumber (same_tag-true u t e) i
    by_test u t false e i P Q x g f = g f

-- where no addition is there
none_there : (more : Additions) (ps : Places) → FitsAdditions more ps → any_present (trimmed_additions more ps) ≡ false → trimmed_additions more ps ≡ all_absent more
none_there no_additions ps f e = f
none_there (addition name T more) ps (inl (v, rest, is, a, b)) e = absurd (apart (sym (ap (λ ps. any_present (trimmed_additions (addition name T more) ps)) is) ∙ e))
  where
    apart : true ≡ false → ⊥
    apart e = cc
none_there (addition name T more) ps (inr (rest, is, b)) e = ap (trimmed_additions (addition name T more)) is ∙ ap absent (none_there more rest b (sym (ap (λ ps. any_present (trimmed_additions (addition name T more) ps)) is) ∙ e))

-- where one is there
one_there : (more : Additions) (ps : Places) → FitsAdditions more ps → any_present (trimmed_additions more ps) ≡ true → all_false (addition_bits more (trimmed_additions more ps)) ≡ false
one_there no_additions ps f e = absurd (apart (sym (ap any_present f) ∙ e))
  where
    apart : false ≡ true → ⊥
    apart e = cc
one_there (addition name T more) ps (inl (v, rest, is, a, b)) e = ap (λ ps. all_false (addition_bits (addition name T more) (trimmed_additions (addition name T more) ps))) is
one_there (addition name T more) ps (inr (rest, is, b)) e = ap (λ ps. all_false (addition_bits (addition name T more) (trimmed_additions (addition name T more) ps))) is ∙ one_there more rest b (sym (ap (λ ps. any_present (trimmed_additions (addition name T more) ps)) is) ∙ e)

set_left : (s z : List Bool) → all_false s ≡ false → all_false (s ++ z) ≡ false
set_left [] z e = absurd (cc)
set_left (true ∷ s) z e = refl
set_left (false ∷ s) z e = set_left s z e

set_right : (s z : List Bool) → all_false z ≡ false → all_false (s ++ z) ≡ false
set_right [] z e = e
set_right (true ∷ s) z e = refl
set_right (false ∷ s) z e = set_right s z e

some_set : (more : Additions) (ps : Places) (us : List Unknown) → FitsAdditions more ps → (any_present (trimmed_additions more ps) || any_unknown us) ≡ true → all_false (addition_bits more (trimmed_additions more ps) ++ unknown_marks (addition_count more) us) ≡ false
some_set more ps us f e = go (any_present (trimmed_additions more ps)) refl e
  where
    go : (c : Bool) → any_present (trimmed_additions more ps) ≡ c → (c || any_unknown us) ≡ true → all_false (addition_bits more (trimmed_additions more ps) ++ unknown_marks (addition_count more) us) ≡ false
    go true g e = set_left (addition_bits more (trimmed_additions more ps)) (unknown_marks (addition_count more) us) (one_there more ps f g)
    go false g e = set_right (addition_bits more (trimmed_additions more ps)) (unknown_marks (addition_count more) us) (marks_set (addition_count more) us e)

none_both : (a b : Bool) → (a || b) ≡ false → (a ≡ false) × (b ≡ false)
none_both true b e = absurd (cc)
none_both false b e = (refl, e)

none_unknown : (us : List Unknown) → any_unknown us ≡ false → us ≡ []
none_unknown [] e = refl
none_unknown (u ∷ us) e = absurd (cc)

abbrev body_of : Additions → Places → List Unknown → List ℕ
body_of more added us = bitmap_octets (addition_bits more added ++ unknown_marks (addition_count more) us) ++ (plain_addition_octets more added ++ unknown_octets us)

extension_given : (more : Additions) (added : Places) (us : List Unknown) → addition_count more ≤ 65536 → FitsAdditions more added → FitsUnknown (addition_count more) us → length (addition_bits more (trimmed_additions more added)) ≡ addition_count more
    → (Small (plain_addition_octets more (trimmed_additions more added)) → SpellsAdditionsStrictly more (addition_bits more (trimmed_additions more added)) (trimmed_additions more added) (plain_addition_octets more (trimmed_additions more added)))
    → (c : Bool) → (any_present (trimmed_additions more added) || any_unknown us) ≡ c → Small (extension_octets c (body_of more (trimmed_additions more added) us))
    → StrictExtension c more (SpellsAdditionsStrictly more) (trimmed_additions more added) us (extension_octets c (body_of more (trimmed_additions more added) us))
extension_given more added us few f u n one false e s =
    let both = none_both (any_present (trimmed_additions more added)) (any_unknown us) e in
    (none_there more added f both.0, none_unknown us both.1, refl)
extension_given more added us few f u n one true e s =
    let a : Places = trimmed_additions more added in
    let bits : List Bool = addition_bits more a in
    let marks : List Bool = unknown_marks (addition_count more) us in
    let rises = fits_rise (addition_count more) us u in
    let last = last_below (addition_count more) us u in
    let tail = small_right (bitmap_octets (bits ++ marks)) (plain_addition_octets more a ++ unknown_octets us) s in
    let whole : length (bits ++ marks) ≡ max (addition_count more) (after_last us) = omega (arith, marks_length (addition_count more) us rises, length-append bits marks) in (
      bits,
      marks,
      bitmap_octets (bits ++ marks),
      plain_addition_octets more a,
      unknown_octets us,
      refl,
      bit_string_exists None any_size (bits ++ marks) refl (any_fits (length (bits ++ marks)) (omega arith)) (small_left (bitmap_octets (bits ++ marks)) (plain_addition_octets more a ++ unknown_octets us) s),
      n,
      whole,
      some_set more added us f e,
      ap all_false (drop_all 65536 (bits ++ marks) (omega arith)),
      one (small_left (plain_addition_octets more a) (unknown_octets us) tail),
      unknown_exists (addition_count more) us rises (short_contents us (small_right (plain_addition_octets more a) (unknown_octets us) tail)),
    )

-- what is spelt of x as plain and strict
abbrev IsGiven : AsnType → AsnValue → Type 0
IsGiven T x = Small (plain_octets T x) → IsStrictSpelling T x (plain_octets T x)

items_given : (size : Size) (T : AsnType) (vs : List AsnValue) → size_fits size (length vs) ≡ true → AllFit (Fits T) vs → AreGiven (Fits T) (trimmed T) (plain_octets T) (IsStrictSpelling T) → IsGiven (sequence_of size T) (items (listed (map (trimmed T) vs)))
items_given size T vs f a one s =
    let ws : List AsnValue = map (trimmed T) vs in
    let n : length ws ≡ length vs = length-map vs (trimmed T) in
    let k = count_listed ws in
    let below = size_below size (length vs) f in (
      ws,
      counted (unsigned_octets (count (listed ws))),
      all_octets (plain_octets T) (listed ws),
      refl,
      refl,
      subst (λ m. StrictQuantity m (counted (unsigned_octets (count (listed ws))))) k (quantity_exists (count (listed ws)) (omega arith)),
      ap (size_fits size) n ∙ f,
      every_given (Fits T) (trimmed T) (plain_octets T) (IsStrictSpelling T) one vs a (small_right (counted (unsigned_octets (count (listed ws)))) (all_octets (plain_octets T) (listed ws)) s),
    )

small_content : (fix : Option ℕ) (d : List ℕ) → Small (string_octets fix d) → octets_needed (length d) ≤ 127
small_content (Some n) d s = small_needed d s
small_content None d s = small_needed d (small_counted d s)

content_given : (inner : ContentType) (w : List ℕ) → FitsContent inner w → IsGiven (leaf (kind.content inner)) (leaf_value (content_value inner w))
content_given inner w f s =
    let octets : List ℕ = content_octets inner w in
    let is : plain_octets (leaf (kind.content inner)) (leaf_value (content_value inner w)) ≡ string_octets (fixed_content inner) octets = holds inner [] (λ w. string_octets (fixed_content inner) (content_octets inner w)) w in
    subst (IsStrictSpelling (leaf (kind.content inner)) (leaf_value (content_value inner w))) (sym is) (content_strict inner w f (small_content (fixed_content inner) octets (subst Small is s)))

leaf_given : (kind : LeafType) → KeepsLimits (leaf kind) → AreGiven (FitsLeaf kind) (λ v. v) (leaf_octets kind) (IsStrictLeafSpelling kind)
leaf_given kind.boolean w v (x, is) = λ s. (x, is, ap (plain_octets boolean) is)
leaf_given kind.null w v is = λ s. (is, refl)
leaf_given (kind.integer low high) w v (z, is, ok) = subst (IsGiven (integer low high)) (sym is) (λ s. integer_leaf low high z ok)
leaf_given (kind.enumerated numbers extensible) w v (z, is, ok, known) = subst (IsGiven (enumerated numbers extensible)) (sym is) (λ s. enumerated_leaf numbers extensible z ok known)
leaf_given (kind.bit_string size) w v (b, is, f) = subst (IsGiven (bit_string size)) (sym is) (λ s. (b, refl, bit_string_exists (fixed size) size b refl f s))
leaf_given (kind.content inner) w v (x, is, f) = subst (IsGiven (leaf (kind.content inner))) (sym is) (content_given inner x f)

mutual
  pub value_given : (T : AsnType) → KeepsLimits T → AreGiven (Fits T) (trimmed T) (plain_octets T) (IsStrictSpelling T)
  value_given (leaf kind) w v f = leaf_given kind w v f
  value_given (sequence fs) w v (root, is, f) = subst (λ v. IsGiven (sequence fs) (trimmed (sequence fs) v)) (sym is)
      (λ s. (
        trimmed_fields fs root,
        root_bits fs (trimmed_fields fs root),
        padded (root_bits fs (trimmed_fields fs root)),
        plain_field_octets fs (trimmed_fields fs root),
        refl,
        refl,
        fields_bits fs root f,
        preamble_exists (root_bits fs (trimmed_fields fs root)),
        fields_given fs w root f (small_right (padded (root_bits fs (trimmed_fields fs root))) (plain_field_octets fs (trimmed_fields fs root)) s),
      ))
  value_given (extensible_sequence fs more) w v (root, added, us, is, f, g, u) = subst (λ v. IsGiven (extensible_sequence fs more) (trimmed (extensible_sequence fs more) v)) (sym is)
      (λ s.
      let r : Places = trimmed_fields fs root in
      let a : Places = trimmed_additions more added in
      let x : Bool = any_present a || any_unknown us in
      let e : List ℕ = extension_octets x (body_of more a us) in
      let body = small_right (padded (x ∷ root_bits fs r)) (plain_field_octets fs r ++ e) s in (
        r,
        a,
        us,
        x,
        root_bits fs r,
        padded (x ∷ root_bits fs r),
        plain_field_octets fs r,
        e,
        refl,
        refl,
        fields_bits fs root f,
        preamble_exists (x ∷ root_bits fs r),
        fields_given fs w.0 root f (small_left (plain_field_octets fs r) e body),
        extension_given more added us w.2 g u (adds_bits more added g) (λ k. adds_given more w.1 added g k) x refl (small_right (plain_field_octets fs r) e body),
      ))
  value_given (sequence_of size T) w v (vs, is, f, a) = subst (IsGiven (sequence_of size T)) (sym (ap (trimmed (sequence_of size T)) is ∙ ap items (fill_listed (trimmed T) vs))) (items_given size T vs f a (value_given T w.1))
  value_given (choice extensible more) w v (inl (t, x, is, f)) = subst (λ v. IsGiven (choice extensible more) (trimmed (choice extensible more) v)) (sym is)
      (λ s. (t, tag_octets t, plain_alternative_octets more t (trimmed_alternative more t x), refl, tag_exists t (tag_of more w t x f), inl (trimmed_alternative more t x, refl, alts_given more w t x f (small_right (tag_octets t) (plain_alternative_octets more t (trimmed_alternative more t x)) s))))
  value_given (choice extensible more) w v (inr (t, x, is, o, none, tag, octs)) = subst (λ v. IsGiven (choice extensible more) (trimmed (choice extensible more) v)) (sym is)
      (λ s. (t, tag_octets t, counted x, refl, tag_exists t tag, inr (x, refl, o, none, strict_counted_exists IsItself x x refl (small_needed x (small_counted x (small_right (tag_octets t) (counted x) s))))))

  fields_given : (fs : Fields) → FieldsKeepLimits fs → PlacesGiven (FitsFields fs) (trimmed_fields fs) (plain_field_octets fs) (root_bits fs) (SpellsFieldsStrictly fs)
  fields_given no_fields w ps f s = (f, refl)
  fields_given (field name need T fs) w ps f s = need_given (filled T) (trimmed T) (plain_octets T) (trimmed_fields fs) (plain_field_octets fs) (root_bits fs) (SpellsFieldsStrictly fs) (Fits T) (FitsFields fs) (IsStrictSpelling T) (value_given T w.0) (fields_given fs w.1) need (fill_trimmed T) ps f s

  adds_given : (more : Additions) → AdditionsKeepLimits more → PlacesGiven (FitsAdditions more) (trimmed_additions more) (plain_addition_octets more) (addition_bits more) (SpellsAdditionsStrictly more)
  adds_given no_additions w ps f s = (f, refl)
  adds_given (addition name T more) w ps f s = need_given (filled T) (trimmed T) (λ v. counted (plain_octets T v)) (trimmed_additions more) (plain_addition_octets more) (addition_bits more) (SpellsAdditionsStrictly more) (Fits T) (FitsAdditions more) (StrictCounted (IsStrictSpelling T)) (counted_given (Fits T) (trimmed T) (plain_octets T) (IsStrictSpelling T) (value_given T w.0)) (adds_given more w.1) may (fill_trimmed T) ps f s

  alts_given : (more : Alternatives) → AlternativesKeepLimits more → (t : Tag) → AreGiven (FitsAlternative more t) (trimmed_alternative more t) (plain_alternative_octets more t) (SpellsAlternativeStrictly more t)
  alts_given no_alternatives w t v f s = absurd f
  alts_given (alternative name u T more) w t v f s = by_tag_given (same_tag u t) (Fits T) (FitsAlternative more t) (trimmed T) (trimmed_alternative more t) (plain_octets T) (plain_alternative_octets more t) (IsStrictSpelling T) (SpellsAlternativeStrictly more t) (value_given T w.0) (alts_given more w.1 t) v f s
  alts_given (later name u T more) w t v f s = by_tag_given (same_tag u t) (Fits T) (FitsAlternative more t) (trimmed T) (trimmed_alternative more t) (λ v. counted (plain_octets T v)) (plain_alternative_octets more t) (StrictCounted (IsStrictSpelling T)) (SpellsAlternativeStrictly more t) (counted_given (Fits T) (trimmed T) (plain_octets T) (IsStrictSpelling T) (value_given T w.0)) (alts_given more w.1 t) v f s

pub small_from : (b : List ℕ) → length b < 2 ^ 64 → Small b
unfolding Small
small_from b h = h

-- what is trimmed is spelt so
pub strict_given : (T : AsnType) → KeepsLimits T → (v : AsnValue) → Fits T v → length (canonical_octets T v) < 2 ^ 64 → IsStrictSpelling T (trimmed T v) (canonical_octets T v)
strict_given T w v f s = value_given T w v f (small_from (canonical_octets T v) s)

pub canon_given : CanonicalGiven
canon_given T w v f s =
    let strict = strict_given T w v f s in
    let fits = trim_fits T v f in
    (f, trimmed T v, fill_trimmed T v, (strict_octets T (trimmed T v) (canonical_octets T v) fits strict, fits, strict))
