-- The computed octets are the canonical ones.
use Rattle.std.proofs.Common.{◌≡◌, ℕ, suc, inl, inr, Bool, true, false, ◌||◌, if◌then◌else◌, ℤ, List, [], ◌∷◌, ◌++◌, length, Option, Some, None, refl, sym, ap, ap₂, ◌∙◌, subst, arith, length-append}
use Rattle.oer_units.specs.Least.{counted, unsigned_octets, enumerated_octets, tag_octets}
use Rattle.oer_units.specs.Octets.{IsShortest}
use Rattle.oer_units.specs.Spelling.{IsTag, IsEnumerated, IsJoined}
use Rattle.oer_units.specs.declared.tagging.Tag.{Tag}
use Rattle.oer_units.proofs.Digits.{tag_one}
use Rattle.oer_units.proofs.LeastDigits.{tag_exists}
use Rattle.oer_units.proofs.Leasts.{quantity_only, enum_exists}
use Rattle.oer_units.proofs.Ranges.{enum_within}
use Rattle.oer_model.proofs.canonical.Bridge.{strict_counted_only, integer_exists}
use Rattle.oer_model.proofs.canonical.Canonical.{integer_one, enumerated_one}
use Rattle.oer_model.proofs.fitting.Contents.{content_plain}
use Rattle.oer_model.proofs.fitting.Fitting.{tag_is}
use Rattle.oer_model.proofs.fitting.Forms.{form_fits}
use Rattle.oer_model.proofs.bits.LeastBits.{preamble_exists, bits_exist}
use Rattle.oer_model.proofs.filling.Same.{same-true}
use Rattle.oer_model.proofs.filling.Trimming.{trims_from_fills}
use Rattle.oer_model.proofs.bits.Unique.{preamble_one, bits_one}
use Rattle.oer_model.proofs.bits.UnknownBits.{unknown_rises, marks_length, unknown_plain}
use Rattle.oer_model.proofs.canonical.CanonicalForms.{form_of_canonical}
use Rattle.oer_model.proofs.canonical.StrictEnc.{HasCanonicalForm}
use Rattle.oer_model.specs.LeafType as kind
use Rattle.oer_model.specs.LeafType.{LeafType}
use Rattle.oer_model.specs.AsnType.{Additions, Alternatives, AsnType, Fields, NamedNumber, Need, addition, alternative, bit_string, boolean, choice, default, enumerated, extensible_sequence, field, integer, later, leaf, may, must, no_additions, no_alternatives, no_fields, sequence, sequence_of}
use Rattle.oer_model.specs.AsnValue.{Unknown, AsnValue, int, enum, seq, items, chosen, value, Places, no_places, absent, present}
use Rattle.oer_model.specs.Bits.{all_false, padded, spare_bits}
use Rattle.oer_model.specs.Canonical.{addition_bits, all_octets, any_present, any_unknown, bit_octets, bitmap_octets, by_tag_octets, canonical_octets, count, extension_octets, integer_octets, leaf_octets, place_bits, place_octets, plain_addition_octets, plain_alternative_octets, plain_field_octets, plain_octets, root_bits, same, trimmed, trimmed_additions, trimmed_alternative, trimmed_fields, trimmed_place, trimmed_present, unknown_marks, unknown_octets}
use Rattle.oer_model.specs.Constraints.{same_tag, fixed, form_of, optional, optional_with, addition_count, any_size}
use Rattle.oer_model.specs.Encoding.{SpellsInteger, IsItself, IsPresent, IsAbsent, ByTag}
use Rattle.oer_model.specs.Filling.{map_values, filled_by_tag, filled}
use Rattle.oer_model.specs.Fits.{listed, all_absent}
use Rattle.oer_model.specs.Laws.{CanonicalComputed}
use Rattle.oer_model.specs.Strict.{IsLeastSpelling, IsStrictLeafSpelling, IsStrictSpelling, SpellsAdditionsStrictly, SpellsAlternativeStrictly, SpellsFieldsStrictly, StrictBitString, StrictBits, StrictCounted, StrictExtension, StrictNeed}
use Rattle.oer_model.specs.declared.size.Size.{Size}

integer_plain : (low high : Option ℤ) (v : AsnValue) (b : List ℕ) → IsLeastSpelling (integer low high) v b → b ≡ plain_octets (integer low high) v
integer_plain low high v b (o, (z, is, ok, s), least) = found (integer_exists (form_of low high) z (form_fits low high z ok))
  where
    found : IsShortest (SpellsInteger (form_of low high) z) (integer_octets (form_of low high) z) → b ≡ plain_octets (integer low high) v
    found (o', s', least') =
        let other : IsLeastSpelling (integer low high) v (integer_octets (form_of low high) z) = (o', (z, is, ok, s'), λ d od (y, is', ok', t). (let both : int z ≡ int y = sym is ∙ is' in let same : y ≡ z = cc in least' d od (subst (λ y. SpellsInteger (form_of low high) y d) same t))) in
        integer_one low high v b (integer_octets (form_of low high) z) (o, (z, is, ok, s), least) other ∙ sym (ap (plain_octets (integer low high)) is)

enumerated_plain : (numbers : List NamedNumber) (extensible : Bool) (v : AsnValue) (b : List ℕ) → IsLeastSpelling (enumerated numbers extensible) v b → b ≡ plain_octets (enumerated numbers extensible) v
enumerated_plain numbers extensible v b (o, (z, is, ok, known, s), least) = found (enum_exists z (enum_within z ok))
  where
    found : IsShortest (IsEnumerated z) (enumerated_octets z) → b ≡ plain_octets (enumerated numbers extensible) v
    found (o', s', least') =
        let other : IsLeastSpelling (enumerated numbers extensible) v (enumerated_octets z) = (o', (z, is, ok, known, s'), λ d od (y, is', ok', known', t). (let both : enum z ≡ enum y = sym is ∙ is' in let same : y ≡ z = cc in least' d od (subst (λ y. IsEnumerated y d) same t))) in
        enumerated_one numbers extensible v b (enumerated_octets z) (o, (z, is, ok, known, s), least) other ∙ sym (ap (plain_octets (enumerated numbers extensible)) is)

pub bitmap_plain : (s : List Bool) (b : List ℕ) → StrictCounted StrictBits s b → b ≡ bitmap_octets s
unfolding bitmap_octets
bitmap_plain s b p = strict_counted_only StrictBits s (spare_bits (length s) ∷ padded s) (λ c r. bits_one s c (spare_bits (length s) ∷ padded s) r (bits_exist s)) b p

pub bit_string_plain : (fix : Option ℕ) (size : Size) (s : List Bool) (b : List ℕ) → StrictBitString fix size s b → b ≡ bit_octets fix s
bit_string_plain (Some n) size s b (i, p) = preamble_one s b (padded s) p (preamble_exists s)
bit_string_plain None size s b (i, p) = bitmap_plain s b p

-- trimmed by f, and spelt as p tells
abbrev ArePlain : (AsnValue → AsnValue) → (AsnValue → List ℕ) → (AsnValue → List ℕ → Type 0) → Type 0
ArePlain f p S = (v : AsnValue) (b : List ℕ) → S v b → (f v ≡ v) × (b ≡ p v)

-- the same of places, with their bits
abbrev PlacesPlain : (Places → Places) → (Places → List ℕ) → (Places → List Bool) → ℕ → (List Bool → Places → List ℕ → Type 0) → Type 0
PlacesPlain g q bits n Rest = (s : List Bool) (ps : Places) (b : List ℕ) → length s ≡ n → Rest s ps b → (g ps ≡ ps) × (b ≡ q ps) × (s ≡ bits ps)

module _ (h f : AsnValue → AsnValue) (p : AsnValue → List ℕ) (g : Places → Places) (q : Places → List ℕ) (bits : Places → List Bool) (n : ℕ) (Rest : List Bool → Places → List ℕ → Type 0) (more : PlacesPlain g q bits n Rest) where
  present_plain : (need : Need) (S : AsnValue → List ℕ → Type 0) → ArePlain f p S → ((v : AsnValue) (b : List ℕ) (ps : Places) → S v b → trimmed_present need h f v ps ≡ present (f v) ps)
      → (s : List Bool) (ps : Places) (b : List ℕ) → length s ≡ n → IsPresent S (Rest s) ps b → (trimmed_place need h f g ps ≡ ps) × (b ≡ place_octets p q ps) × ((v : AsnValue) × (rest : Places) × (ps ≡ present v rest) × (s ≡ bits rest))
  present_plain need S one stays s ps b i (v, rest, b1, b2, is, e, x, r) =
      let o = one v b1 x in
      let m = more s rest b2 i r in
      (ap (trimmed_place need h f g) is ∙ stays v b1 (g rest) x ∙ ap₂ present o.0 m.0 ∙ sym is, e ∙ ap₂ (λ x y. x ++ y) o.1 m.1 ∙ sym (ap (place_octets p q) is), (v, rest, is, m.2))

  absent_plain : (need : Need) (s : List Bool) (ps : Places) (b : List ℕ) → length s ≡ n → IsAbsent (Rest s) ps b → (trimmed_place need h f g ps ≡ ps) × (b ≡ place_octets p q ps) × ((rest : Places) × (ps ≡ absent rest) × (s ≡ bits rest))
  absent_plain need s ps b i (rest, is, r) =
      let m = more s rest b i r in
      (ap (trimmed_place need h f g) is ∙ ap absent m.0 ∙ sym is, m.1 ∙ sym (ap (place_octets p q) is), (rest, is, m.2))

  not_default : (d v : AsnValue) (ps : Places) (c : Bool) → same (h v) (h d) ≡ c → (h v ≡ h d → ⊥) → (if c then absent ps else present (f v) ps) ≡ present (f v) ps
  not_default d v ps true e other = absurd (other (same-true (h v) (h d) e))
  not_default d v ps false e other = refl

  need_plain : (need : Need) (S : AsnValue → List ℕ → Type 0) → ArePlain f p S → PlacesPlain (trimmed_place need h f g) (place_octets p q) (place_bits need bits) (optional_with need n) (StrictNeed need h S Rest)
  need_plain must S one s ps b i x = let o = present_plain must S one (λ v b ps x. refl) s ps b i x in (o.0, o.1, o.2.3 ∙ sym (ap (place_bits must bits) o.2.2))
  need_plain may S one [] ps b i x = absurd (omega arith)
  need_plain may S one (true ∷ s) ps b i x = let o = present_plain may S one (λ v b ps x. refl) s ps b (omega arith) x in (o.0, o.1, ap (λ s. true ∷ s) o.2.3 ∙ sym (ap (place_bits may bits) o.2.2))
  need_plain may S one (false ∷ s) ps b i x = let o = absent_plain may s ps b (omega arith) x in (o.0, o.1, ap (λ s. false ∷ s) o.2.2 ∙ sym (ap (place_bits may bits) o.2.1))
  need_plain (default d) S one [] ps b i x = absurd (omega arith)
  need_plain (default d) S one (true ∷ s) ps b i x =
      let o = present_plain (default d) (λ v c. S v c × (h v ≡ h d → ⊥)) (λ v b y. one v b y.0) (λ v b ps y. not_default d v ps (same (h v) (h d)) refl y.1) s ps b (omega arith) x in
      (o.0, o.1, ap (λ s. true ∷ s) o.2.3 ∙ sym (ap (place_bits (default d) bits) o.2.2))
  need_plain (default d) S one (false ∷ s) ps b i x = let o = absent_plain (default d) s ps b (omega arith) x in (o.0, o.1, ap (λ s. false ∷ s) o.2.2 ∙ sym (ap (place_bits (default d) bits) o.2.1))

counted_plain : (f : AsnValue → AsnValue) (p : AsnValue → List ℕ) (S : AsnValue → List ℕ → Type 0) → ArePlain f p S → ArePlain f (λ v. counted (p v)) (StrictCounted S)
counted_plain f p S one v b (l, c, e, short, s) =
    let o = one v c s in
    (o.0, strict_counted_only S v (p v) (λ d r. (one v d r).1) b (l, c, e, short, s))

by_tag_plain : (same : Bool) (f g : AsnValue → AsnValue) (p q : AsnValue → List ℕ) (S Rest : AsnValue → List ℕ → Type 0) → ArePlain f p S → ArePlain g q Rest → ArePlain (filled_by_tag same f g) (by_tag_octets same p q) (ByTag same S Rest)
by_tag_plain true f g p q S Rest i j = i
by_tag_plain false f g p q S Rest i j = j

every_plain : (f : AsnValue → AsnValue) (p : AsnValue → List ℕ) (S : AsnValue → List ℕ → Type 0) → ArePlain f p S → (vs : List AsnValue) (b : List ℕ) → IsJoined S vs b → (map_values f (listed vs) ≡ listed vs) × (b ≡ all_octets p (listed vs)) × (length vs ≡ count (listed vs))
every_plain f p S one [] b e = (refl, e, refl)
every_plain f p S one (v ∷ vs) b (b1, b2, e, s, r) =
    let o = one v b1 s in
    let m = every_plain f p S one vs b2 r in
    (ap₂ value o.0 m.0, e ∙ ap₂ (λ x y. x ++ y) o.1 m.1, ap suc m.2)

-- no addition
none_trimmed : (more : Additions) → trimmed_additions more (all_absent more) ≡ all_absent more
none_trimmed no_additions = refl
none_trimmed (addition name T more) = ap absent (none_trimmed more)

none_present : (more : Additions) → any_present (all_absent more) ≡ false
none_present no_additions = refl
none_present (addition name T more) = none_present more

-- where a bit is set an addition is present
set_present : (more : Additions) (ps : Places) → any_present ps ≡ false → all_false (addition_bits more ps) ≡ true
set_present no_additions ps e = refl
set_present (addition name T more) no_places e = refl
set_present (addition name T more) (absent ps) e = set_present more ps e
set_present (addition name T more) (present v ps) e = absurd (cc)

set_known : (n : ℕ) (us : List Unknown) → any_unknown us ≡ false → all_false (unknown_marks n us) ≡ true
set_known n [] e = refl
set_known n (u ∷ us) e = absurd (cc)

zeros_both : (s z : List Bool) → all_false s ≡ true → all_false z ≡ true → all_false (s ++ z) ≡ true
zeros_both [] z e f = f
zeros_both (true ∷ s) z e f = absurd (cc)
zeros_both (false ∷ s) z e f = zeros_both s z e f

some_known : (more : Additions) (ps : Places) (us : List Unknown) → all_false (addition_bits more ps ++ unknown_marks (addition_count more) us) ≡ false → (any_present ps || any_unknown us) ≡ true
some_known more ps us e = go (any_present ps) (any_unknown us) refl refl
  where
    go : (c d : Bool) → any_present ps ≡ c → any_unknown us ≡ d → (c || d) ≡ true
    go true d f g = refl
    go false true f g = refl
    go false false f g = absurd (apart (sym (zeros_both (addition_bits more ps) (unknown_marks (addition_count more) us) (set_present more ps f) (set_known (addition_count more) us g)) ∙ e))
      where
        apart : true ≡ false → ⊥
        apart e = cc

abbrev extension_of : Additions → Places → List Unknown → List ℕ
extension_of more added us = extension_octets (any_present added || any_unknown us) (bitmap_octets (addition_bits more added ++ unknown_marks (addition_count more) us) ++ (plain_addition_octets more added ++ unknown_octets us))

extension_plain : (x : Bool) (more : Additions) → PlacesPlain (trimmed_additions more) (plain_addition_octets more) (addition_bits more) (addition_count more) (SpellsAdditionsStrictly more) → (ps : Places) (us : List Unknown) (b : List ℕ)
    → StrictExtension x more (SpellsAdditionsStrictly more) ps us b → (trimmed_additions more ps ≡ ps) × (b ≡ extension_of more ps us) × (x ≡ (any_present ps || any_unknown us))
extension_plain false more one ps us b (is, none, e) =
    let test : (any_present ps || any_unknown us) ≡ false = ap₂ (λ c d. c || d) (ap any_present is ∙ none_present more) (ap any_unknown none) in
    (ap (trimmed_additions more) is ∙ none_trimmed more ∙ sym is, e ∙ sym (ap (λ c. extension_octets c (bitmap_octets (addition_bits more ps ++ unknown_marks (addition_count more) us) ++ (plain_addition_octets more ps ++ unknown_octets us))) test), sym test)
extension_plain true more one ps us b (s, z, m, a, u, e, k, i, len, some, low, x, r) =
    let o = one s ps a i x in
    let rises = unknown_rises (addition_count more) z us u r in
    let q = unknown_plain (addition_count more) z us u r (omega (arith, marks_length (addition_count more) us rises, length-append s z, len)) in
    let bits : s ++ z ≡ addition_bits more ps ++ unknown_marks (addition_count more) us = ap₂ (λ x y. x ++ y) o.2 q.0 in
    let test = some_known more ps us (ap all_false (sym bits) ∙ some) in (
      o.0,
      e ∙ ap₂ (λ x y. x ++ y) (bit_string_plain None any_size (s ++ z) m k ∙ ap bitmap_octets bits) (ap₂ (λ x y. x ++ y) o.1 q.1) ∙ sym (ap (λ c. extension_octets c (bitmap_octets (addition_bits more ps ++ unknown_marks (addition_count more) us) ++ (plain_addition_octets more ps ++ unknown_octets us))) test),
      sym test,
    )

tag_plain : (t : Tag) (p : List ℕ) → IsTag t p → p ≡ tag_octets t
tag_plain t p h = tag_one t p (tag_octets t) h (tag_exists t (tag_is t p h))

nil_bits : (s : List Bool) → length s ≡ 0 → s ≡ []
nil_bits [] i = refl
nil_bits (x ∷ s) i = absurd (omega arith)

leaf_plain : (kind : LeafType) → ArePlain (λ v. v) (leaf_octets kind) (IsStrictLeafSpelling kind)
leaf_plain kind.boolean v b (x, is, e) = (refl, e ∙ sym (ap (plain_octets boolean) is))
leaf_plain kind.null v b (is, e) = (refl, e)
leaf_plain (kind.integer low high) v b s = (refl, integer_plain low high v b s)
leaf_plain (kind.enumerated numbers extensible) v b s = (refl, enumerated_plain numbers extensible v b s)
leaf_plain (kind.bit_string size) v b (s, is, x) = (refl, bit_string_plain (fixed size) size s b x ∙ sym (ap (plain_octets (bit_string size)) is))
leaf_plain (kind.content inner) v b s = (refl, content_plain inner v b s)

mutual
  pub value_plain : (T : AsnType) → ArePlain (trimmed T) (plain_octets T) (IsStrictSpelling T)
  value_plain (leaf kind) v b s = leaf_plain kind v b s
  value_plain (sequence fs) v b (root, s, p, r, is, e, i, pre, x) =
      let o = fields_plain fs s root r i x in (
        ap (trimmed (sequence fs)) is ∙ ap (λ root. seq root no_places []) o.0 ∙ sym is,
        e ∙ ap₂ (λ x y. x ++ y) (preamble_one s p (padded s) pre (preamble_exists s) ∙ ap padded o.2) o.1 ∙ sym (ap (plain_octets (sequence fs)) is),
      )
  value_plain (extensible_sequence fs more) v b (root, added, us, x, s, p, r, a, is, e, i, pre, f, ext) =
      let o = fields_plain fs s root r i f in
      let h = extension_plain x more (adds_plain more) added us a ext in (
        ap (trimmed (extensible_sequence fs more)) is ∙ ap₂ (λ root added. seq root added us) o.0 h.0 ∙ sym is,
        e ∙ ap₂ (λ x y. x ++ y) (preamble_one (x ∷ s) p (padded (x ∷ s)) pre (preamble_exists (x ∷ s)) ∙ ap₂ (λ x s. padded (x ∷ s)) h.2 o.2) (ap₂ (λ x y. x ++ y) o.1 h.1) ∙ sym (ap (plain_octets (extensible_sequence fs more)) is),
      )
  value_plain (sequence_of size T) v b (vs, q, es, is, e, k, fits, x) =
      let o = every_plain (trimmed T) (plain_octets T) (IsStrictSpelling T) (value_plain T) vs es x in (
        ap (trimmed (sequence_of size T)) is ∙ ap items o.0 ∙ sym is,
        e ∙ ap₂ (λ x y. x ++ y) (quantity_only (length vs) q k ∙ ap (λ n. counted (unsigned_octets n)) o.2) o.1 ∙ sym (ap (plain_octets (sequence_of size T)) is),
      )
  value_plain (choice extensible more) v b (t, p, c, e, tag, inl (x, is, k)) =
      let o = alts_plain more t x c k in
      (ap (trimmed (choice extensible more)) is ∙ ap (chosen t) o.0 ∙ sym is, e ∙ ap₂ (λ x y. x ++ y) (tag_plain t p tag) o.1 ∙ sym (ap (plain_octets (choice extensible more)) is))
  value_plain (choice extensible more) v b (t, p, c, e, tag, inr (w, is, may_be, none, k)) =
      (ap (trimmed (choice extensible more)) is ∙ sym is, e ∙ ap₂ (λ x y. x ++ y) (tag_plain t p tag) (strict_counted_only IsItself w w (λ c r. r) c k) ∙ sym (ap (plain_octets (choice extensible more)) is))

  fields_plain : (fs : Fields) → PlacesPlain (trimmed_fields fs) (plain_field_octets fs) (root_bits fs) (optional fs) (SpellsFieldsStrictly fs)
  fields_plain no_fields s ps b i (is, e) = (refl, e, nil_bits s i)
  fields_plain (field name need T fs) s ps b i x = need_plain (filled T) (trimmed T) (plain_octets T) (trimmed_fields fs) (plain_field_octets fs) (root_bits fs) (optional fs) (SpellsFieldsStrictly fs) (fields_plain fs) need (IsStrictSpelling T) (value_plain T) s ps b i x

  adds_plain : (more : Additions) → PlacesPlain (trimmed_additions more) (plain_addition_octets more) (addition_bits more) (addition_count more) (SpellsAdditionsStrictly more)
  adds_plain no_additions s ps b i (is, e) = (refl, e, nil_bits s i)
  adds_plain (addition name T more) s ps b i x = need_plain (filled T) (trimmed T) (λ v. counted (plain_octets T v)) (trimmed_additions more) (plain_addition_octets more) (addition_bits more) (addition_count more) (SpellsAdditionsStrictly more) (adds_plain more) may (StrictCounted (IsStrictSpelling T)) (counted_plain (trimmed T) (plain_octets T) (IsStrictSpelling T) (value_plain T)) s ps b i x

  alts_plain : (more : Alternatives) (t : Tag) → ArePlain (trimmed_alternative more t) (plain_alternative_octets more t) (SpellsAlternativeStrictly more t)
  alts_plain no_alternatives t v b x = absurd x
  alts_plain (alternative name u T more) t v b x = by_tag_plain (same_tag u t) (trimmed T) (trimmed_alternative more t) (plain_octets T) (plain_alternative_octets more t) (IsStrictSpelling T) (SpellsAlternativeStrictly more t) (value_plain T) (alts_plain more t) v b x
  alts_plain (later name u T more) t v b x = by_tag_plain (same_tag u t) (trimmed T) (trimmed_alternative more t) (λ v. counted (plain_octets T v)) (plain_alternative_octets more t) (StrictCounted (IsStrictSpelling T)) (SpellsAlternativeStrictly more t) (counted_plain (trimmed T) (plain_octets T) (IsStrictSpelling T) (value_plain T)) (alts_plain more t) v b x

pub form_computed : (T : AsnType) (v : AsnValue) (b : List ℕ) → HasCanonicalForm T v b → b ≡ canonical_octets T v
form_computed T v b (w, e, s) = let o = value_plain T w b s in o.1 ∙ ap (plain_octets T) (sym o.0 ∙ trims_from_fills T w v e)

pub canon_computed : CanonicalComputed
canon_computed T v b c = form_computed T v b (form_of_canonical T v b c)
