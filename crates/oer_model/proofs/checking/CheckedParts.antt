-- The checker of a type tells whether the octets are strict.
use Rattle.std.proofs.Common.{◌≡◌, ℕ, zero, suc, ◌+◌, ◌^◌, ◌<◌, ◌≤◌, max, inl, inr, List, [], ◌∷◌, ◌++◌, length, take, drop, Bool, true, false, not, ◌&&◌, leb, ltb, refl, ap, ap₂, sym, ◌∙◌, subst, arith, length-append, le-leb, leb-true, ltb-true, take-append-drop, length-take-le, drop_at, None}
use Rattle.oer_units.specs.Lawful.{Lawful}
use Rattle.oer_units.specs.Numbers.{unsigned}
use Rattle.oer_units.specs.Reader.{Reader, give, refuse, bind, then_read, guard, choose, group, within, filled_by, times}
use Rattle.oer_units.specs.Reading.{tag, counted_octets, open_type}
use Rattle.oer_units.specs.Spelling.{StandsFor, IsCounted, IsTag, IsJoined}
use Rattle.oer_units.specs.declared.fault.Why.{Why}
use Rattle.oer_units.specs.declared.fault.Why.TheVariants.{End, UnknownAddition, UnknownAlternative}
use Rattle.oer_units.specs.declared.tagging.Tag.{Tag}
use Rattle.oer_units.proofs.Closure.{Then, same_spellings, bind_lawful, within_lawful, same_refusal}
use Rattle.oer_units.proofs.Counted.{counted_octets_lawful, from_each, to_each, every_long}
use Rattle.oer_units.proofs.Leasts.{quantity_exists}
use Rattle.oer_units.proofs.TagReaders.{tag_lawful}
use Rattle.oer_units.proofs.Units.{group_lawful, open_lawful, mapped_lawful, tested_lawful, Each, times_lawful}
use Rattle.oer_model.proofs.checking.Checked.{Input, Checked, flag, with_value, read_spelt, judged_checked, checked_as, give_checked, and_checked, bind_checked, made_checked, guard_checked, same_bind_checked, within_checked, filled_checked, unlike_checked}
use Rattle.oer_model.proofs.checking.CheckedLeaves.{by_length, with_length_checked, boolean_checked, null_checked, integer_checked, enumerated_checked, bit_string_checked, content_checked, bits_by_test}
use Rattle.oer_model.proofs.canonical.Computed.{form_computed}
use Rattle.oer_model.proofs.canonical.Given.{canon_given}
use Rattle.oer_model.proofs.reading.Main.{takes_some, tag_known, open_is_lawful, value_lawful, fields_lawful, adds_lawful, alts_lawful}
use Rattle.oer_model.proofs.reading.Parts.{both_lawful, size_small, extension_lawful, chosen_lawful, preamble_lawful, bitmap_lawful, quantity_lawful, unknown_lawful}
use Rattle.oer_model.proofs.filling.Same.{same_list-true, same_list-refl}
use Rattle.oer_model.proofs.canonical.StrictEnc.{HasCanonicalForm, extension_within, bit_within, adds_within, alts_within, fields_within, counted_within, unknown_within, strict_within, canon_tells, bit_string_within}
use Rattle.oer_model.proofs.filling.Trimming.{trims_from_fills}
use Rattle.oer_model.proofs.canonical.CanonicalForms.{form_of_canonical}
use Rattle.oer_model.specs.LeafType as kind
use Rattle.oer_model.specs.LeafType.{LeafType}
use Rattle.oer_model.specs.AsnType.{Additions, Alternatives, AsnType, Fields, Need, addition, alternative, choice, default, extensible_sequence, field, later, leaf, may, must, no_additions, no_alternatives, no_fields, sequence, sequence_of}
use Rattle.oer_model.specs.AsnValue.{Unknown, unknown, AsnValue, seq, items, chosen, foreign, Places, no_places, absent, present}
use Rattle.oer_model.specs.Bits.{all_false, first_bit, later_bits, IsPreamble}
use Rattle.oer_model.specs.Canonical.{same_list, bitmap_octets, plain_octets, canonical_octets}
use Rattle.oer_model.specs.Checking.{and_also, are_least_bits, both, check_additions, check_alternative, check_bit, check_by_tag, check_choice, check_chosen, check_extensible, check_extension, check_fields, check_group, check_items, check_leaf, check_need, check_octets, check_open, check_sequence, check_times, check_unknown, check_value, ends_set, is_bitmap, is_least, judged, quantity_octets, unlike}
use Rattle.oer_model.specs.Constraints.{has_tag, same_tag, size_fits, optional, addition_count, KeepsLimits, FieldsKeepLimits, AdditionsKeepLimits, AlternativesKeepLimits, any_size}
use Rattle.oer_model.specs.Encoding.{IsItself, SpellsUnknown, IsPresent, IsAbsent, ByBit, ByTag, SpellsChosen, SpellsExtension, IsSpelling, SpellsFields, SpellsAdditions, SpellsAlternative, SpellsBitmap}
use Rattle.oer_model.specs.Filling.{filled}
use Rattle.oer_model.specs.Fits.{after_last, listed, all_absent, Fits, DefaultFits, DefaultsFit, FieldDefaultsFit, AdditionDefaultsFit, AlternativeDefaultsFit}
use Rattle.oer_model.specs.Reading.{bitmap, preamble, quantity, read_absent, read_additions, read_alternative, read_both, read_by_bit, read_by_need, read_by_tag, read_choice, read_chosen, read_extensible, read_extension, read_fields, read_items, read_leaf, read_present, read_sequence, read_unknown, read_value}
use Rattle.oer_model.specs.Strict.{IsStrictLeafSpelling, IsStrictSpelling, SpellsAdditionsStrictly, SpellsAlternativeStrictly, SpellsFieldsStrictly, StrictBitmap, StrictChosen, StrictCounted, StrictExtension, StrictNeed, StrictPreamble, StrictQuantity}
use Rattle.oer_model.specs.declared.size.Size.{Size}
use Rattle.oer_units.specs.declared.fault.Why.TheVariants as reason

abbrev itself : Bool → Bool
itself f = f

list_same : (a b : List ℕ) → a ≡ b → same_list a b ≡ true
list_same a b e = ap (λ x. same_list x b) e ∙ same_list-refl b

open_checked : (r : Reader AsnValue) (c : Reader Bool) (S S' : AsnValue → List ℕ → Type 0) → Lawful r S → Checked flag r c S' → Checked flag (open_type r) (check_open c) (StrictCounted S')
unfolding open_type check_open
open_checked r c S S' l k = with_length_checked (λ n. filled_by n r) (λ n. filled_by n c) S S' (λ n. open_lawful n r S l) (λ n. filled_checked n r c S S' l k)

group_checked : (n : ℕ) → Checked flag (group n) (check_group n) (λ w c. IsItself w c × (length c ≡ n))
unfolding check_group bind give
group_checked n = record {
  refuses = λ p why rest e. ap (then_read (λ w. give true)) e;
  tells = λ p x q e. (true, ap (then_read (λ w. give true)) e, λ b i split. (λ f. (let s = read_spelt (group n) (λ x b. (x ≡ b) × (length b ≡ n)) (group_lawful n) p x q b e split in (sym s.0, s.1)), λ s. refl));
}

octets_checked : Checked flag counted_octets check_octets (StrictCounted IsItself)
unfolding counted_octets check_octets
octets_checked = with_length_checked (λ n. group n) check_group IsItself IsItself
    (λ n. same_spellings (group_lawful n) (λ x c (e, l). (sym e, l)) (λ x c (e, l). (sym e, l))) group_checked

-- the values of places
module _ {A B D : Type 0} (f : A → B → D) (r : Reader A) (c : Reader Bool) (S S' : A → List ℕ → Type 0) (l : Lawful r S) (inside : (x : A) (b : List ℕ) → S' x b → S x b) (k : Checked flag r c S')
    (q : Reader B) (d : Reader Bool) (R R' : B → List ℕ → Type 0) (m : Lawful q R) (inside' : (x : B) (b : List ℕ) → R' x b → R x b) (kd : Checked flag q d R') where
  both_checked : Checked flag (bind r (λ x. bind q (λ y. give (f x y)))) (both c d) (Then S' (λ x z b. (y : B) × (z ≡ f x y) × R' y b))
  unfolding both
  both_checked = bind_checked flag flag r (λ x. bind q (λ y. give (f x y))) c (λ f. and_also f d) S S' (λ x z b. (y : B) × (z ≡ f x y) × R y b) (λ x z b. (y : B) × (z ≡ f x y) × R' y b)
      l inside k (λ x. mapped_lawful (f x) q R m) (λ x g. and_checked g (bind q (λ y. give (f x y))) d (λ z b. (y : B) × (z ≡ f x y) × R' y b) (made_checked (f x) itself q d R R' m inside' kd))

module _ (r : Reader AsnValue) (c : Reader Bool) (S S' : AsnValue → List ℕ → Type 0) (l : Lawful r S) (inside : (x : AsnValue) (b : List ℕ) → S' x b → S x b) (k : Checked flag r c S') where
  module _ (q : Reader Places) (d : Reader Bool) (R R' : Places → List ℕ → Type 0) (m : Lawful q R) (inside' : (x : Places) (b : List ℕ) → R' x b → R x b) (kd : Checked flag q d R') where
    present_checked : Checked flag (read_present r q) (both c d) (IsPresent S' R')
    unfolding read_present
    present_checked = checked_as (both_checked present r c S S' l inside k q d R R' m inside' kd)
        (λ ps b (v, b1, b2, s1, (qs, is, s2), e). (v, qs, b1, b2, is, e, s1, s2))
        (λ ps b (v, qs, b1, b2, is, e, s1, s2). (v, b1, b2, s1, (qs, is, s2), e))

    absent_checked : Checked flag (read_absent q) d (IsAbsent R')
    unfolding read_absent
    absent_checked = made_checked absent itself q d R R' m inside' kd

    bit_checked : (x : Bool) → Checked flag (read_by_bit x r q) (check_bit x c d) (ByBit x S' R')
    bit_checked true = present_checked
    bit_checked false = absent_checked

  by_tag_checked : (same : Bool) (q : Reader AsnValue) (d : Reader Bool) (R : AsnValue → List ℕ → Type 0) → Checked flag q d R → Checked flag (read_by_tag same r q) (check_by_tag same c d) (ByTag same S' R)
  by_tag_checked true q d R kd = k
  by_tag_checked false q d R kd = kd

  each_inside : (n : ℕ) (xs : List AsnValue) (b : List ℕ) → Each S' n xs b → Each S n xs b
  each_inside zero xs b s = s
  each_inside (suc n) xs b (x, rest, b1, b2, is, e, s, t) = (x, rest, b1, b2, is, e, inside x b1 s, each_inside n rest b2 t)

  times_checked : (n : ℕ) → Checked flag (times n r) (check_times n c) (Each S' n)
  times_checked zero = give_checked []
  times_checked (suc n) = checked_as (both_checked (λ x xs. x ∷ xs) r c S S' l inside k (times n r) (check_times n c) (Each S n) (Each S' n) (times_lawful r S l n) (each_inside n) (times_checked n))
      (λ xs b (x, b1, b2, s1, (rest, is, s2), e). (x, rest, b1, b2, is, e, s1, s2))
      (λ xs b (x, rest, b1, b2, is, e, s1, s2). (x, b1, b2, s1, (rest, is, s2), e))

-- unknown additions
pub unknown_checked : (place : ℕ) (s : List Bool) → Checked flag (read_unknown place s) (check_unknown s) (SpellsUnknown (StrictCounted IsItself) place s)
unknown_checked place [] = give_checked []
unknown_checked place (false ∷ s) = unknown_checked (suc place) s
unknown_checked place (true ∷ s) = checked_as
    (both_checked (λ w us. unknown place w ∷ us) counted_octets check_octets (IsCounted IsItself) (StrictCounted IsItself) counted_octets_lawful (λ w b p. counted_within IsItself IsItself (λ w c e. e) w b p) octets_checked
    (read_unknown (suc place) s) (check_unknown s) (SpellsUnknown (IsCounted IsItself) (suc place) s) (SpellsUnknown (StrictCounted IsItself) (suc place) s) (unknown_lawful (suc place) s) (unknown_within (suc place) s) (unknown_checked (suc place) s))
    (λ us b (w, b1, b2, s1, (rest, is, s2), e). (w, rest, b1, b2, is, e, s1, s2))
    (λ us b (w, rest, b1, b2, is, e, s1, s2). (w, b1, b2, s1, (rest, is, s2), e))

-- bitmaps
and_pair : (f g : Bool) → (f && g) ≡ true → (f ≡ true) × (g ≡ true)
and_pair true g e = (refl, e)
and_pair false g e = absurd (cc)

not_true : (f : Bool) → not f ≡ true → f ≡ false
not_true true e = absurd (cc)
not_true false e = refl

abbrev IsBitmap : ℕ → List Bool → List ℕ → Type 0
IsBitmap n s m = StrictBitmap s m × (all_false s ≡ false) × (n ≤ length s) × (ends_set (drop n s) ≡ true)

bitmap_checked : (n : ℕ) → Checked with_value bitmap (judged (is_bitmap n) bitmap) (IsBitmap n)
bitmap_checked n = judged_checked (is_bitmap n) bitmap SpellsBitmap (IsBitmap n) bitmap_lawful
    (λ s m i p. (let bits = bits_by_test None any_size s m i p in (
      λ t. (
          let a = and_pair (are_least_bits bitmap_octets s m) (not (all_false s) && (leb n (length s) && ends_set (drop n s))) t in
          let b = and_pair (not (all_false s)) (leb n (length s) && ends_set (drop n s)) a.1 in
          let c = and_pair (leb n (length s)) (ends_set (drop n s)) b.1 in
          (bits.0 a.0, not_true (all_false s) b.0, leb-true n (length s) c.0, c.1)),
      λ (k, some, few, ends). ap₂ (λ a b. a && b) (bits.1 k) (ap₂ (λ a b. a && b) (ap not some) (ap₂ (λ a b. a && b) (le-leb n (length s) few) ends)),
    )))

-- a bitmap that ends with a set bit has as many bits as places
ends_here : (n : ℕ) (w : List ℕ) (rest : List Unknown) (z : List Bool) → (z ≡ [] → rest ≡ []) → ((ends_set z ≡ true → suc n + length z ≡ max (suc n) (after_last rest)) × (suc n + length z ≡ max (suc n) (after_last rest) → ends_set z ≡ true))
    → ((ends_set (true ∷ z) ≡ true → n + length (true ∷ z) ≡ max n (after_last (unknown n w ∷ rest))) × (n + length (true ∷ z) ≡ max n (after_last (unknown n w ∷ rest)) → ends_set (true ∷ z) ≡ true))
ends_here n w rest [] none both = let is = ap (λ rest. after_last (unknown n w ∷ rest)) (none refl) in (λ e. omega arith, λ e. refl)
ends_here n w [] (y ∷ z) none (to, from) = (λ e. absurd (let i = to e in omega arith), λ e. absurd (omega arith))
ends_here n w (unknown k x ∷ us) (y ∷ z) none (to, from) = (λ e. (let i = to e in omega arith), λ e. from (omega arith))

ends_false : (n : ℕ) (us : List Unknown) (z : List Bool) → (z ≡ [] → us ≡ []) → ((ends_set z ≡ true → suc n + length z ≡ max (suc n) (after_last us)) × (suc n + length z ≡ max (suc n) (after_last us) → ends_set z ≡ true))
    → ((ends_set (false ∷ z) ≡ true → n + length (false ∷ z) ≡ max n (after_last us)) × (n + length (false ∷ z) ≡ max n (after_last us) → ends_set (false ∷ z) ≡ true))
ends_false n us [] none both = let is = ap after_last (none refl) in (λ e. absurd (cc), λ e. absurd (omega arith))
ends_false n us (y ∷ z) none (to, from) = (λ e. (let i = to e in omega arith), λ e. from (omega arith))

no_bits : (S : List ℕ → List ℕ → Type 0) (n : ℕ) (z : List Bool) (us : List Unknown) (u : List ℕ) → SpellsUnknown S n z us u → z ≡ [] → us ≡ []
no_bits S n [] us u (is, e) f = is
no_bits S n (x ∷ z) us u p f = absurd (cc)

ends_last : (S : List ℕ → List ℕ → Type 0) (n : ℕ) (z : List Bool) (us : List Unknown) (u : List ℕ) → SpellsUnknown S n z us u → (ends_set z ≡ true → n + length z ≡ max n (after_last us)) × (n + length z ≡ max n (after_last us) → ends_set z ≡ true)
ends_last S n [] us u (is, e) = let l = ap after_last is in (λ f. omega arith, λ f. refl)
ends_last S n (true ∷ z) us u (w, rest, b1, b2, is, e, k, r) =
    subst (λ us. (ends_set (true ∷ z) ≡ true → n + length (true ∷ z) ≡ max n (after_last us)) × (n + length (true ∷ z) ≡ max n (after_last us) → ends_set (true ∷ z) ≡ true)) (sym is)
    (ends_here n w rest z (no_bits S (suc n) z rest b2 r) (ends_last S (suc n) z rest b2 r))
ends_last S n (false ∷ z) us u p = ends_false n us z (no_bits S (suc n) z us u p) (ends_last S (suc n) z us u p)

-- of the bits only those of the known additions count
strict_longer : (more : Additions) (s z : List Bool) → length s ≡ addition_count more → (ps : Places) (b : List ℕ) → SpellsAdditionsStrictly more s ps b → SpellsAdditionsStrictly more (s ++ z) ps b
strict_longer no_additions s z i ps b p = p
strict_longer (addition name T more) [] z i ps b p = absurd (omega arith)
strict_longer (addition name T more) (x ∷ s) z i ps b p = bit_within x (StrictCounted (IsStrictSpelling T)) (StrictCounted (IsStrictSpelling T)) (SpellsAdditionsStrictly more s) (SpellsAdditionsStrictly more (s ++ z)) (λ v b p. p) (strict_longer more s z (omega arith)) ps b p

strict_shorter : (more : Additions) (s z : List Bool) → length s ≡ addition_count more → (ps : Places) (b : List ℕ) → SpellsAdditionsStrictly more (s ++ z) ps b → SpellsAdditionsStrictly more s ps b
strict_shorter no_additions s z i ps b p = p
strict_shorter (addition name T more) [] z i ps b p = absurd (omega arith)
strict_shorter (addition name T more) (x ∷ s) z i ps b p = bit_within x (StrictCounted (IsStrictSpelling T)) (StrictCounted (IsStrictSpelling T)) (SpellsAdditionsStrictly more (s ++ z)) (SpellsAdditionsStrictly more s) (λ v b p. p) (strict_shorter more s z (omega arith)) ps b p

abbrev pair_of : Places → List Unknown → Places × List Unknown
pair_of added us = (added, us)

abbrev Extended : (List Bool → Places → List ℕ → Type 0) → (List ℕ → List ℕ → Type 0) → ℕ → List Bool → Places × List Unknown → List ℕ → Type 0
Extended S U n s y b = (a : List ℕ) × (u : List ℕ) × (b ≡ a ++ u) × S s y.0 a × SpellsUnknown U n (drop n s) y.1 u

extended_checked : (n : ℕ) (s : List Bool) (r : Reader Places) (c : Reader Bool) (S S' : List Bool → Places → List ℕ → Type 0) → Lawful r (S s) → ((x : Places) (b : List ℕ) → S' s x b → S s x b) → Checked flag r c (S' s)
    → Checked flag (read_both r (read_unknown n (drop n s))) (both c (check_unknown (drop n s))) (Extended S' (StrictCounted IsItself) n s)
unfolding read_both
extended_checked n s r c S S' l inside k = checked_as
    (both_checked pair_of r c (S s) (S' s) l inside k (read_unknown n (drop n s)) (check_unknown (drop n s)) (SpellsUnknown (IsCounted IsItself) n (drop n s)) (SpellsUnknown (StrictCounted IsItself) n (drop n s)) (unknown_lawful n (drop n s)) (unknown_within n (drop n s)) (unknown_checked n (drop n s)))
    (λ y b (added, a, u, s1, (us, is, s2), e). (a, u, e, subst (λ x. S' s x a) (sym (ap (λ (y : Places × List Unknown). y.0) is)) s1, subst (λ us. SpellsUnknown (StrictCounted IsItself) n (drop n s) us u) (sym (ap (λ (y : Places × List Unknown). y.1) is)) s2))
    (λ y b (a, u, e, s1, s2). (y.0, a, u, s1, (y.1, refl, s2), e))

extension_checked : (x : Bool) (more : Additions) → ((s : List Bool) → Lawful (read_additions more s) (SpellsAdditions more s)) → ((s : List Bool) (ps : Places) (b : List ℕ) → SpellsAdditionsStrictly more s ps b → SpellsAdditions more s ps b) → ((s : List Bool) → Checked flag (read_additions more s) (check_additions more s) (SpellsAdditionsStrictly more s))
    → Checked flag (read_extension x more (read_additions more)) (check_extension x more (check_additions more)) (λ y b. StrictExtension x more (SpellsAdditionsStrictly more) y.0 y.1 b)
extension_checked false more l inside k = checked_as (give_checked (all_absent more, []))
    (λ y b (is, e). (ap (λ (y : Places × List Unknown). y.0) is, ap (λ (y : Places × List Unknown). y.1) is, e))
    (λ y b (is, none, e). (ap₂ pair_of is none, e))
extension_checked true more l inside k = checked_as
    (bind_checked with_value flag bitmap (λ s. guard (all_false (drop 65536 s)) UnknownAddition (read_both (read_additions more s) (read_unknown (addition_count more) (drop (addition_count more) s))))
    (judged (is_bitmap (addition_count more)) bitmap) (λ y. guard (all_false (drop 65536 y.0)) UnknownAddition (and_also y.1 (both (check_additions more y.0) (check_unknown (drop (addition_count more) y.0)))))
    SpellsBitmap (IsBitmap (addition_count more)) (λ s y b. (all_false (drop 65536 s) ≡ true) × Extended (SpellsAdditions more) (IsCounted IsItself) (addition_count more) s y b) (λ s y b. (all_false (drop 65536 s) ≡ true) × Extended (SpellsAdditionsStrictly more) (StrictCounted IsItself) (addition_count more) s y b)
    bitmap_lawful (λ s m p. bit_string_within None any_size s m p.0) (bitmap_checked (addition_count more))
    (λ s. tested_lawful (all_false (drop 65536 s)) UnknownAddition (read_both (read_additions more s) (read_unknown (addition_count more) (drop (addition_count more) s))) (Extended (SpellsAdditions more) (IsCounted IsItself) (addition_count more) s) goes_on
    (both_lawful (read_additions more s) (read_unknown (addition_count more) (drop (addition_count more) s)) (SpellsAdditions more s) (SpellsUnknown (IsCounted IsItself) (addition_count more) (drop (addition_count more) s)) (l s) (unknown_lawful (addition_count more) (drop (addition_count more) s))))
    (λ s f. guard_checked (all_false (drop 65536 s)) UnknownAddition (λ y e. f && e) (read_both (read_additions more s) (read_unknown (addition_count more) (drop (addition_count more) s))) (and_also f (both (check_additions more s) (check_unknown (drop (addition_count more) s)))) (Extended (SpellsAdditionsStrictly more) (StrictCounted IsItself) (addition_count more) s)
    (and_checked f (read_both (read_additions more s) (read_unknown (addition_count more) (drop (addition_count more) s))) (both (check_additions more s) (check_unknown (drop (addition_count more) s))) (Extended (SpellsAdditionsStrictly more) (StrictCounted IsItself) (addition_count more) s)
    (extended_checked (addition_count more) s (read_additions more s) (check_additions more s) (SpellsAdditions more) (SpellsAdditionsStrictly more) (l s) (inside s) (k s)))))
    to from
  where
    goes_on : UnknownAddition ≡ End → ⊥
    goes_on e = cc

    to : (y : Places × List Unknown) (b : List ℕ) → Then (IsBitmap (addition_count more)) (λ s y b. (all_false (drop 65536 s) ≡ true) × Extended (SpellsAdditionsStrictly more) (StrictCounted IsItself) (addition_count more) s y b) y b → StrictExtension true more (SpellsAdditionsStrictly more) y.0 y.1 b
    to y b (s, m, c, (p, some, few, ends), (low, (a, u, f, s1, s2)), e) =
        let halves : take (addition_count more) s ++ drop (addition_count more) s ≡ s = take-append-drop (addition_count more) s in
        let i : length (take (addition_count more) s) ≡ (addition_count more) = length-take-le (addition_count more) s few in
        let last = (ends_last (StrictCounted IsItself) (addition_count more) (drop (addition_count more) s) y.1 u s2).0 ends in (
          take (addition_count more) s,
          drop (addition_count more) s,
          m,
          a,
          u,
          e ∙ ap (λ w. m ++ w) f,
          subst (λ s. StrictBitmap s m) (sym halves) p,
          i,
          omega (arith, length-append (take (addition_count more) s) (drop (addition_count more) s)),
          ap all_false halves ∙ some,
          ap (λ s. all_false (drop 65536 s)) halves ∙ low,
          strict_shorter more (take (addition_count more) s) (drop (addition_count more) s) i y.0 a (subst (λ s. SpellsAdditionsStrictly more s y.0 a) (sym halves) s1),
          s2,
        )

    from : (y : Places × List Unknown) (b : List ℕ) → StrictExtension true more (SpellsAdditionsStrictly more) y.0 y.1 b → Then (IsBitmap (addition_count more)) (λ s y b. (all_false (drop 65536 s) ≡ true) × Extended (SpellsAdditionsStrictly more) (StrictCounted IsItself) (addition_count more) s y b) y b
    from y b (s, z, m, a, u, e, p, i, len, some, low, s1, s2) =
        let tail : drop (addition_count more) (s ++ z) ≡ z = drop_at s z (addition_count more) i in
        let ends = (ends_last (StrictCounted IsItself) (addition_count more) z y.1 u s2).1 (omega (arith, length-append s z)) in (
          s ++ z,
          m,
          a ++ u,
          (p, some, omega (arith, length-append s z), ap ends_set tail ∙ ends),
          (low, (a, u, refl, strict_longer more s z i y.0 a s1, subst (λ z. SpellsUnknown (StrictCounted IsItself) (addition_count more) z y.1 u) (sym tail) s2)),
          e,
        )

sequence_checked : (k : ℕ) (r : List Bool → Reader Places) (c : List Bool → Reader Bool) (S S' : List Bool → Places → List ℕ → Type 0) → ((s : List Bool) → Lawful (r s) (S s)) → ((s : List Bool) (ps : Places) (b : List ℕ) → S' s ps b → S s ps b) → ((s : List Bool) → Checked flag (r s) (c s) (S' s))
    → Checked flag (read_sequence k r) (check_sequence k c) (λ v b. (root : Places) × (s : List Bool) × (p : List ℕ) × (d : List ℕ) × (v ≡ seq root no_places []) × (b ≡ p ++ d) × (length s ≡ k) × StrictPreamble s p × S' s root d)
unfolding read_sequence check_sequence
sequence_checked k r c S S' l inside kd = checked_as
    (same_bind_checked flag (preamble k) (λ s. bind (r s) (λ root. give (seq root no_places []))) c (λ s p. (length s ≡ k) × IsPreamble s p) (λ s p. (length s ≡ k) × StrictPreamble s p)
    (λ s v b. (root : Places) × (v ≡ seq root no_places []) × S s root b) (λ s v b. (root : Places) × (v ≡ seq root no_places []) × S' s root b)
    (preamble_lawful k) (λ s p i h. (h.0, (i.octs, h.1))) (λ s p h. (h.0, h.1.1)) (λ s. mapped_lawful (λ root. seq root no_places []) (r s) (S s) (l s))
    (λ s. made_checked (λ root. seq root no_places []) itself (r s) (c s) (S s) (S' s) (l s) (inside s) (kd s)))
    (λ v b (s, p, d, (n, pre), (root, is, s2), e). (root, s, p, d, is, e, n, pre, s2))
    (λ v b (root, s, p, d, is, e, n, pre, s2). (s, p, d, (n, pre), (root, is, s2), e))

some_first : (s : List Bool) (k : ℕ) → length s ≡ suc k → s ≡ first_bit s ∷ later_bits s
some_first [] k e = absurd (omega arith)
some_first (x ∷ s) k e = refl

length-after : (s : List Bool) (k : ℕ) → length s ≡ suc k → length (later_bits s) ≡ k
length-after [] k e = absurd (omega arith)
length-after (x ∷ s) k e = omega arith

abbrev seq_of : Places → Places × List Unknown → AsnValue
seq_of root y = seq root y.0 y.1

extensible_checked : (k : ℕ) (r : List Bool → Reader Places) (c : List Bool → Reader Bool) (S S' : List Bool → Places → List ℕ → Type 0) → ((s : List Bool) → Lawful (r s) (S s)) → ((s : List Bool) (ps : Places) (b : List ℕ) → S' s ps b → S s ps b) → ((s : List Bool) → Checked flag (r s) (c s) (S' s))
    → (x : Bool → Reader (Places × List Unknown)) (d : Bool → Reader Bool) (X X' : Bool → Places → List Unknown → List ℕ → Type 0) → ((t : Bool) → Lawful (x t) (λ y. X t y.0 y.1)) → ((t : Bool) (y : Places × List Unknown) (b : List ℕ) → X' t y.0 y.1 b → X t y.0 y.1 b) → ((t : Bool) → Checked flag (x t) (d t) (λ y b. X' t y.0 y.1 b))
    → Checked flag (read_extensible k r x) (check_extensible k c d) (λ v b. (root : Places) × (added : Places) × (us : List Unknown) × (t : Bool) × (s : List Bool) × (p : List ℕ) × (b1 : List ℕ) × (b2 : List ℕ)
    × (v ≡ seq root added us) × (b ≡ p ++ (b1 ++ b2)) × (length s ≡ k) × StrictPreamble (t ∷ s) p × S' s root b1 × X' t added us b2)
unfolding read_extensible check_extensible
extensible_checked k r c S S' l inside kd x d X X' m inside' kx = checked_as
    (same_bind_checked flag (preamble (suc k)) (λ s. bind (r (later_bits s)) (λ root. bind (x (first_bit s)) (λ y. give (seq root y.0 y.1)))) (λ s. both (c (later_bits s)) (d (first_bit s))) (λ s p. (length s ≡ suc k) × IsPreamble s p) (λ s p. (length s ≡ suc k) × StrictPreamble s p)
    (λ s. Then (S (later_bits s)) (λ root v b. (y : Places × List Unknown) × (v ≡ seq root y.0 y.1) × X (first_bit s) y.0 y.1 b)) (λ s. Then (S' (later_bits s)) (λ root v b. (y : Places × List Unknown) × (v ≡ seq root y.0 y.1) × X' (first_bit s) y.0 y.1 b))
    (preamble_lawful (suc k)) (λ s p i h. (h.0, (i.octs, h.1))) (λ s p h. (h.0, h.1.1))
    (λ s. bind_lawful (r (later_bits s)) (λ root. bind (x (first_bit s)) (λ y. give (seq root y.0 y.1))) (S (later_bits s)) (λ root v b. (y : Places × List Unknown) × (v ≡ seq root y.0 y.1) × X (first_bit s) y.0 y.1 b) (l (later_bits s))
    (λ root. mapped_lawful (seq_of root) (x (first_bit s)) (λ y. X (first_bit s) y.0 y.1) (m (first_bit s))))
    (λ s. both_checked seq_of (r (later_bits s)) (c (later_bits s)) (S (later_bits s)) (S' (later_bits s)) (l (later_bits s)) (inside (later_bits s)) (kd (later_bits s)) (x (first_bit s)) (d (first_bit s)) (λ y. X (first_bit s) y.0 y.1) (λ y b. X' (first_bit s) y.0 y.1 b) (m (first_bit s)) (inside' (first_bit s)) (kx (first_bit s))))
    (λ v b (s, p, e1, (n, pre), (root, b1, b2, s1, (y, is, s2), e2), e).
    (root, y.0, y.1, first_bit s, later_bits s, p, b1, b2, is, e ∙ ap (λ w. p ++ w) e2, length-after s k n, subst (λ w. StrictPreamble w p) (some_first s k n) pre, s1, s2))
    (λ v b (root, added, us, t, s, p, b1, b2, is, e, n, pre, s1, s2). (t ∷ s, p, b1 ++ b2, (omega arith, pre), (root, b1, b2, s1, ((added, us), is, s2), refl), e))

-- SEQUENCE OF
abbrev IsNumber : ℕ → List ℕ → Type 0
IsNumber n w = (1 ≤ length w) × (unsigned w ≡ n) × (ltb n (2 ^ 127) ≡ true)

abbrev IsQuantity : ℕ → List ℕ → Type 0
IsQuantity n q = StrictQuantity n q × (ltb n (2 ^ 127) ≡ true)

quantity_inside : (n : ℕ) (q : List ℕ) → IsQuantity n q → IsCounted IsNumber n q
quantity_inside n q ((o, (l, c, e, len, (some, is)), least), t) = (l, c, e, len, (some, is, t))

quantity_checked : Checked with_value quantity (judged (is_least quantity_octets) quantity) IsQuantity
quantity_checked = judged_checked (is_least quantity_octets) quantity (IsCounted IsNumber) IsQuantity quantity_lawful
    (λ n q i (l, c, e, len, (some, is, t)). (
    let both = by_length (IsCounted (StandsFor unsigned) n) (quantity_octets n) q i.octs (l, c, e, len, (some, is)) (quantity_exists n (let small = ltb-true n (2 ^ 127) t in omega arith)) in
    (λ f. (both.0 f, t), λ h. both.1 h.0)))

items_checked : (s : Size) (r : Reader AsnValue) (c : Reader Bool) (S S' : AsnValue → List ℕ → Type 0) → Lawful r S → ((x : AsnValue) (b : List ℕ) → S' x b → S x b) → ((x : AsnValue) (b : List ℕ) → S x b → 1 ≤ length b) → Checked flag r c S'
    → Checked flag (read_items s r) (check_items (size_fits s) c) (λ v b. (vs : List AsnValue) × (q : List ℕ) × (es : List ℕ) × (v ≡ items (listed vs)) × (b ≡ q ++ es) × StrictQuantity (length vs) q × (size_fits s (length vs) ≡ true) × IsJoined S' vs es)
unfolding read_items check_items
items_checked s r c S S' l inside some k = checked_as
    (bind_checked with_value flag quantity (λ n. within n (guard (size_fits s n) reason.Size (bind (times n r) (λ vs. give (items (listed vs))))))
    (judged (is_least quantity_octets) quantity) (λ y. and_also y.1 (within y.0 (guard (size_fits s y.0) reason.Size (check_times y.0 c)))) (IsCounted IsNumber) IsQuantity Items Items'
    quantity_lawful quantity_inside quantity_checked
    (λ n. within_lawful n (guard (size_fits s n) reason.Size (bind (times n r) (λ vs. give (items (listed vs))))) (Items n)
    (tested_lawful (size_fits s n) reason.Size (bind (times n r) (λ vs. give (items (listed vs)))) (λ v b. (vs : List AsnValue) × (v ≡ items (listed vs)) × Each S n vs b) goes_on
    (mapped_lawful (λ vs. items (listed vs)) (times n r) (Each S n) (times_lawful r S l n)))
    (λ v b (t, (vs, is, each)). (let f = from_each S n vs b each in omega (arith, f.0, every_long S some vs b f.1))))
    (λ n f. and_checked f (within n (guard (size_fits s n) reason.Size (bind (times n r) (λ vs. give (items (listed vs)))))) (within n (guard (size_fits s n) reason.Size (check_times n c))) (Items' n)
    (within_checked n (guard (size_fits s n) reason.Size (bind (times n r) (λ vs. give (items (listed vs))))) (guard (size_fits s n) reason.Size (check_times n c)) (Items' n)
    (guard_checked (size_fits s n) reason.Size flag (bind (times n r) (λ vs. give (items (listed vs)))) (check_times n c) (λ v b. (vs : List AsnValue) × (v ≡ items (listed vs)) × Each S' n vs b)
    (made_checked (λ vs. items (listed vs)) itself (times n r) (check_times n c) (Each S n) (Each S' n) (times_lawful r S l n) (each_inside r c S S' l inside k n) (times_checked r c S S' l inside k n))))))
    (λ v b (n, q, es, (h, t'), (t, (vs, is, each)), e).
    (let f = from_each S' n vs es each in (vs, q, es, is, e, subst (λ n. StrictQuantity n q) (sym f.0) h, ap (size_fits s) f.0 ∙ t, f.1)))
    (λ v b (vs, q, es, is, e, h, t, every). (length vs, q, es, (h, size_small s (length vs) t), (t, (vs, is, to_each S' vs es every)), e))
  where
    Items : ℕ → AsnValue → List ℕ → Type 0
    Items n v b = (size_fits s n ≡ true) × ((vs : List AsnValue) × (v ≡ items (listed vs)) × Each S n vs b)

    Items' : ℕ → AsnValue → List ℕ → Type 0
    Items' n v b = (size_fits s n ≡ true) × ((vs : List AsnValue) × (v ≡ items (listed vs)) × Each S' n vs b)

    goes_on : reason.Size ≡ End → ⊥
    goes_on e = cc

-- CHOICE
choose_checked : {A : Type 0} (t : Bool) (r s : Reader A) (c d : Reader Bool) (S : A → List ℕ → Type 0) → (t ≡ true → Checked flag r c S) → (t ≡ false → Checked flag s d S) → Checked flag (choose t r s) (choose t c d) S
choose_checked true r s c d S f g = f refl
choose_checked false r s c d S f g = g refl

module _ (extensible : Bool) (more : Alternatives) (r : Tag → Reader AsnValue) (c : Tag → Reader Bool) (S S' : Tag → AsnValue → List ℕ → Type 0) (l : (t : Tag) → Lawful (r t) (S t)) (inside : (t : Tag) (x : AsnValue) (b : List ℕ) → S' t x b → S t x b) (k : (t : Tag) → Checked flag (r t) (c t) (S' t))
    (known : (t : Tag) (x : AsnValue) (b : List ℕ) → S t x b → has_tag t more ≡ true) where
  known_part : (t : Tag) (v : AsnValue) (b : List ℕ) → has_tag t more ≡ true → StrictChosen extensible more (S' t) t v b → (x : AsnValue) × (v ≡ chosen t x) × S' t x b
  known_part t v b here (inl s) = s
  known_part t v b here (inr (w, is, o, none, s)) = absurd (cc)

  foreign_part : (t : Tag) (v : AsnValue) (b : List ℕ) → has_tag t more ≡ false → StrictChosen extensible more (S' t) t v b → (extensible ≡ true) × ((w : List ℕ) × (v ≡ foreign t w) × StrictCounted IsItself w b)
  foreign_part t v b missing (inl (x, is, s)) = let here = known t x b (inside t x b s) in absurd (cc)
  foreign_part t v b missing (inr (w, is, o, none, s)) = (o, (w, is, s))

  one_checked : (t : Tag) → Checked flag (read_chosen extensible more r t) (check_chosen extensible more c t) (StrictChosen extensible more (S' t) t)
  one_checked t = choose_checked (has_tag t more) (bind (r t) (λ v. give (chosen t v))) (guard extensible UnknownAlternative (bind counted_octets (λ w. give (foreign t w)))) (c t) (guard extensible UnknownAlternative check_octets) (StrictChosen extensible more (S' t) t)
      (λ here. checked_as (made_checked (chosen t) itself (r t) (c t) (S t) (S' t) (l t) (inside t) (k t)) (λ v b s. inl s) (λ v b s. known_part t v b here s))
      (λ missing. checked_as (guard_checked extensible UnknownAlternative flag (bind counted_octets (λ w. give (foreign t w))) check_octets (λ v b. (w : List ℕ) × (v ≡ foreign t w) × StrictCounted IsItself w b)
      (made_checked (foreign t) itself counted_octets check_octets (IsCounted IsItself) (StrictCounted IsItself) counted_octets_lawful (counted_within IsItself IsItself (λ w c e. e)) octets_checked))
      (λ v b (o, (w, is, s)). inr (w, is, o, missing, s)) (λ v b s. foreign_part t v b missing s))

  choice_checked : Checked flag (read_choice extensible more r) (check_choice extensible more c) (λ v b. (t : Tag) × (p : List ℕ) × (d : List ℕ) × (b ≡ p ++ d) × IsTag t p × StrictChosen extensible more (S' t) t v d)
  unfolding read_choice check_choice
  choice_checked = checked_as
      (same_bind_checked flag tag (read_chosen extensible more r) (check_chosen extensible more c) IsTag IsTag (λ t. SpellsChosen extensible more (S t) t) (λ t. StrictChosen extensible more (S' t) t) tag_lawful (λ t p i h. h) (λ t p h. h) (chosen_lawful extensible more r S l known) one_checked)
      (λ v b (t, p, d, s1, s2, e). (t, p, d, e, s1, s2))
      (λ v b (t, p, d, e, s1, s2). (t, p, d, s1, s2, e))

-- a component that may be its default
other_default : (T : AsnType) → KeepsLimits T → (d : AsnValue) → Fits T d → (v : AsnValue) (b : List ℕ) → Input b → IsStrictSpelling T v b → ((filled T v ≡ filled T d → ⊥) → same_list b (canonical_octets T d) ≡ false) × (same_list b (canonical_octets T d) ≡ false → filled T v ≡ filled T d → ⊥)
other_default T wf d fits v b i s = (λ other. go (same_list b (canonical_octets T d)) refl other, λ f e. apart (sym f ∙ list_same b (canonical_octets T d) (form_computed T v b (v, refl, s) ∙ ap (plain_octets T) (trims_from_fills T v d e))))
  where
    apart : false ≡ true → ⊥
    apart e = cc

    go : (t : Bool) → same_list b (canonical_octets T d) ≡ t → (filled T v ≡ filled T d → ⊥) → t ≡ false
    go false e other = refl
    go true e other =
        let is = same_list-true b (canonical_octets T d) e in
        let given = form_of_canonical T d (canonical_octets T d) (canon_given T wf d fits (subst (λ b. length b < 2 ^ 64) is i.few)) in
        absurd (other (canon_tells T wf v d b (v, refl, s) (subst (HasCanonicalForm T d) (sym is) given)))

need_checked : (need : Need) (T : AsnType) → KeepsLimits T → DefaultFits need (Fits T) → Checked flag (read_value T) (check_value T) (IsStrictSpelling T)
    → (r : List Bool → Reader Places) (c : List Bool → Reader Bool) (R R' : List Bool → Places → List ℕ → Type 0) → ((s : List Bool) → Lawful (r s) (R s)) → ((s : List Bool) (ps : Places) (b : List ℕ) → R' s ps b → R s ps b) → ((s : List Bool) → Checked flag (r s) (c s) (R' s))
    → (s : List Bool) → Checked flag (read_by_need need (read_value T) r s) (check_need need (canonical_octets T) (check_value T) c s) (StrictNeed need (filled T) (IsStrictSpelling T) R' s)
need_checked must T wf d k r c R R' m inside kd s = present_checked (read_value T) (check_value T) (IsSpelling T) (IsStrictSpelling T) (value_lawful T wf) (strict_within T) k (r s) (c s) (R s) (R' s) (m s) (inside s) (kd s)
need_checked may T wf d k r c R R' m inside kd s = bit_checked (read_value T) (check_value T) (IsSpelling T) (IsStrictSpelling T) (value_lawful T wf) (strict_within T) k (r (later_bits s)) (c (later_bits s)) (R (later_bits s)) (R' (later_bits s)) (m (later_bits s)) (inside (later_bits s)) (kd (later_bits s)) (first_bit s)
need_checked (default v) T wf d k r c R R' m inside kd s =
    bit_checked (read_value T) (unlike (canonical_octets T v) (check_value T)) (IsSpelling T) (λ w b. IsStrictSpelling T w b × (filled T w ≡ filled T v → ⊥)) (value_lawful T wf) (λ w b p. strict_within T w b p.0)
    (unlike_checked (canonical_octets T v) (read_value T) (check_value T) (IsStrictSpelling T) (λ w. filled T w ≡ filled T v → ⊥) k (other_default T wf v d))
    (r (later_bits s)) (c (later_bits s)) (R (later_bits s)) (R' (later_bits s)) (m (later_bits s)) (inside (later_bits s)) (kd (later_bits s)) (first_bit s)

refuse_checked : {A : Type 0} (why : Why) (S : A → List ℕ → Type 0) → Checked flag (refuse why) (refuse why) S
unfolding refuse
refuse_checked {A} why S = record {
  refuses = λ p w rest e. same_refusal {A = Bool} {B = A} why w p.input rest e;
  tells = λ p x q e. absurd (cc);
}

leaf_is_checked : (kind : LeafType) → KeepsLimits (leaf kind) → Checked flag (read_leaf kind) (check_leaf kind) (IsStrictLeafSpelling kind)
leaf_is_checked kind.boolean wf = boolean_checked
leaf_is_checked kind.null wf = null_checked
leaf_is_checked (kind.integer low high) wf = integer_checked low high
leaf_is_checked (kind.enumerated numbers extensible) wf = enumerated_checked numbers extensible
leaf_is_checked (kind.bit_string z) wf = bit_string_checked z
leaf_is_checked (kind.content kind) wf = content_checked kind wf

mutual
  pub value_checked : (T : AsnType) → KeepsLimits T → DefaultsFit T → Checked flag (read_value T) (check_value T) (IsStrictSpelling T)
  value_checked (leaf kind) wf d = leaf_is_checked kind wf
  value_checked (sequence fs) wf d = sequence_checked (optional fs) (read_fields fs) (check_fields fs) (SpellsFields fs) (SpellsFieldsStrictly fs) (fields_lawful fs wf) (fields_within fs) (fields_checked fs wf d)
  value_checked (extensible_sequence fs more) wf d = extensible_checked (optional fs) (read_fields fs) (check_fields fs) (SpellsFields fs) (SpellsFieldsStrictly fs) (fields_lawful fs wf.0) (fields_within fs) (fields_checked fs wf.0 d.0)
      (λ x. read_extension x more (read_additions more)) (λ x. check_extension x more (check_additions more)) (λ x. SpellsExtension x more (SpellsAdditions more)) (λ x. StrictExtension x more (SpellsAdditionsStrictly more))
      (λ x. extension_lawful x more (read_additions more) (SpellsAdditions more) (adds_lawful more wf.1)) (λ x y b. extension_within x more (SpellsAdditionsStrictly more) (adds_within more) y.0 y.1 b) (λ x. extension_checked x more (adds_lawful more wf.1) (adds_within more) (adds_checked more wf.1 d.1))
  value_checked (sequence_of s T) wf d = items_checked s (read_value T) (check_value T) (IsSpelling T) (IsStrictSpelling T) (value_lawful T wf.1) (strict_within T) (takes_some T wf.0) (value_checked T wf.1 d)
  value_checked (choice extensible more) wf d = choice_checked extensible more (read_alternative more) (check_alternative more) (SpellsAlternative more) (SpellsAlternativeStrictly more) (alts_lawful more wf) (alts_within more) (alts_checked more wf d) (tag_known more)

  fields_checked : (fs : Fields) → FieldsKeepLimits fs → FieldDefaultsFit fs → (s : List Bool) → Checked flag (read_fields fs s) (check_fields fs s) (SpellsFieldsStrictly fs s)
  fields_checked no_fields wf d s = give_checked no_places
  fields_checked (field name need T fs) wf d s = need_checked need T wf.0 d.1 (value_checked T wf.0 d.0) (read_fields fs) (check_fields fs) (SpellsFields fs) (SpellsFieldsStrictly fs) (fields_lawful fs wf.1) (fields_within fs) (fields_checked fs wf.1 d.2) s

  adds_checked : (more : Additions) → AdditionsKeepLimits more → AdditionDefaultsFit more → (s : List Bool) → Checked flag (read_additions more s) (check_additions more s) (SpellsAdditionsStrictly more s)
  adds_checked no_additions wf d s = give_checked no_places
  adds_checked (addition name T more) wf d s = bit_checked (open_type (read_value T)) (check_open (check_value T)) (IsCounted (IsSpelling T)) (StrictCounted (IsStrictSpelling T)) (open_is_lawful (read_value T) (IsSpelling T) (value_lawful T wf.0)) (counted_within (IsStrictSpelling T) (IsSpelling T) (strict_within T))
      (open_checked (read_value T) (check_value T) (IsSpelling T) (IsStrictSpelling T) (value_lawful T wf.0) (value_checked T wf.0 d.0)) (read_additions more (later_bits s)) (check_additions more (later_bits s)) (SpellsAdditions more (later_bits s)) (SpellsAdditionsStrictly more (later_bits s)) (adds_lawful more wf.1 (later_bits s)) (adds_within more (later_bits s)) (adds_checked more wf.1 d.1 (later_bits s)) (first_bit s)

  alts_checked : (more : Alternatives) → AlternativesKeepLimits more → AlternativeDefaultsFit more → (t : Tag) → Checked flag (read_alternative more t) (check_alternative more t) (SpellsAlternativeStrictly more t)
  alts_checked no_alternatives wf d t = refuse_checked UnknownAlternative (λ v b. ⊥)
  alts_checked (alternative name u T more) wf d t = by_tag_checked (read_value T) (check_value T) (IsSpelling T) (IsStrictSpelling T) (value_lawful T wf.0) (strict_within T) (value_checked T wf.0 d.0) (same_tag u t) (read_alternative more t) (check_alternative more t) (SpellsAlternativeStrictly more t) (alts_checked more wf.1 d.1 t)
  alts_checked (later name u T more) wf d t = by_tag_checked (open_type (read_value T)) (check_open (check_value T)) (IsCounted (IsSpelling T)) (StrictCounted (IsStrictSpelling T)) (open_is_lawful (read_value T) (IsSpelling T) (value_lawful T wf.0)) (counted_within (IsStrictSpelling T) (IsSpelling T) (strict_within T))
      (open_checked (read_value T) (check_value T) (IsSpelling T) (IsStrictSpelling T) (value_lawful T wf.0) (value_checked T wf.0 d.0)) (same_tag u t) (read_alternative more t) (check_alternative more t) (SpellsAlternativeStrictly more t) (alts_checked more wf.1 d.1 t)
