-- The steps of a value.
use Rattle.std.proofs.Common.{◌≡◌, ℕ, suc, ◌-◌, ◌*◌, ◌^◌, ◌<◌, ◌≤◌, ◌&&◌, ◌||◌, List, [], ◌∷◌, ◌++◌, length, take, drop, Bool, true, false, leb, ltb, eqb, if◌then◌else◌, inl, inr, refl, ap, ap₂, sym, ◌∙◌, subst, append-nil, arith, le-leb, leb-true, leb-false, lt-ltb, eq-eqb, eqb-true, take-append-drop, length-take-le, take_at, drop_at, ℤ, Option, Some, None}
use Rattle.oer_units.specs.Lawful.{Lawful}
use Rattle.oer_units.specs.Numbers.{unsigned, signed, natural}
use Rattle.oer_units.specs.Reader.{Reader, give, bind, guard, group, within, times}
use Rattle.oer_units.specs.Reading.{octet, tag, counted_octets}
use Rattle.oer_units.specs.Spelling.{IsCounted, IsJoined, IsLength, IsTag}
use Rattle.oer_units.specs.declared.fault.Why.TheVariants.{End, BitUnused, PreamblePadding, UnknownAddition, UnknownAlternative}
use Rattle.oer_units.specs.declared.tagging.Tag.{Tag}
use Rattle.oer_units.proofs.Closure.{Then, give_lawful, bind_lawful, same_spellings, within_lawful}
use Rattle.oer_units.proofs.Counted.{counted_number_lawful, counted_form, fixed_form, counted_octets_lawful, from_each, to_each, every_long}
use Rattle.oer_units.proofs.Lengths.{both_true, true_both, octet_lawful, with_length_lawful}
use Rattle.oer_units.proofs.TagReaders.{tag_lawful}
use Rattle.oer_units.proofs.Units.{group_lawful, choose_lawful, guard_lawful, tested_lawful, mapped_lawful, Each, times_lawful}
use Rattle.oer_model.specs.AsnType.{Alternatives, Need, must, may, default, Additions}
use Rattle.oer_model.specs.AsnValue.{Unknown, unknown, foreign, AsnValue, seq, items, chosen, Places, no_places, absent, present}
use Rattle.oer_model.specs.Bits.{bits_of, all_false, first_bit, later_bits, octets_for, IsPreamble, IsBits}
use Rattle.oer_model.specs.Constraints.{HasSizeLimit, fixed, fixed_by, has_tag, size_fits, at_most, Form, unsigned_fixed, signed_fixed, unsigned_counted, signed_counted, addition_count, any_size}
use Rattle.oer_model.specs.Contents.{Sized, read_octets}
use Rattle.oer_model.specs.Encoding.{SpellsInteger, IsPresent, IsAbsent, ByBit, ByNeed, ByTag, IsItself, SpellsUnknown, SpellsChosen, SpellsExtension, SpellsBits, SpellsBitmap}
use Rattle.oer_model.specs.Fits.{listed, all_absent}
use Rattle.oer_model.specs.Reading.{read_integer, preamble, bitmap, quantity, read_present, read_absent, read_by_bit, read_by_need, read_by_tag, read_unknown, read_both, read_chosen, read_extension, read_sequence, read_extensible, read_items, read_choice, read_bits, bits_sized}
use Rattle.oer_model.specs.declared.size.Size.{Size}
use Rattle.oer_units.specs.declared.fault.Why.TheVariants as reason

pub size_goes_on : reason.Size ≡ End → ⊥
size_goes_on e = cc

padding_goes_on : PreamblePadding ≡ End → ⊥
padding_goes_on e = cc

pub unused_goes_on : BitUnused ≡ End → ⊥
unused_goes_on e = cc

addition_goes_on : UnknownAddition ≡ End → ⊥
addition_goes_on e = cc

pub form_lawful : (f : Form) (test : ℤ → Bool) → Lawful (read_integer f test) (λ z b. (test z ≡ true) × SpellsInteger f z b)
form_lawful (unsigned_fixed n) test = fixed_form natural test n
form_lawful (signed_fixed n) test = fixed_form signed test n
form_lawful unsigned_counted test = counted_form natural test
form_lawful signed_counted test = counted_form signed test

pub len_some : (n : ℕ) (b : List ℕ) → IsLength n b → 1 ≤ length b
len_some n b (inl s) = omega (arith, ap length s.0)
len_some n b (inr (k, w, e, low, high, many, is)) = omega (arith, ap length e)

-- the one size that a constraint leaves is allowed
pub fixed_fits : (low : ℕ) (high : Option ℕ) (n : ℕ) → fixed_by low high ≡ Some n → leb low 18446744073709551615 ≡ true → (leb low n && at_most high n && leb n 18446744073709551615) ≡ true
fixed_fits low None n e small = absurd (cc)
fixed_fits low (Some h) n e small = by_test (eqb low h) refl e
  where
    by_test : (c : Bool) → eqb low h ≡ c → (if c then Some low else None) ≡ Some n → (leb low n && leb n h && leb n 18446744073709551615) ≡ true
    by_test false t f = absurd (cc)
    by_test true t f =
        let one : low ≡ n = cc in
        let same : low ≡ h = eqb-true low h t in
        true_both (leb low n && leb n h) (leb n 18446744073709551615) (true_both (leb low n) (leb n h) (le-leb low n (omega arith)) (le-leb n h (omega arith))) (subst (λ k. leb k 18446744073709551615 ≡ true) one small)

-- and no other is
pub fixed_is : (low : ℕ) (high : Option ℕ) (n k : ℕ) → fixed_by low high ≡ Some n → (leb low k && at_most high k && leb k 18446744073709551615) ≡ true → k ≡ n
fixed_is low None n k e f = absurd (cc)
fixed_is low (Some h) n k e f = by_test (eqb low h) refl e
  where
    by_test : (c : Bool) → eqb low h ≡ c → (if c then Some low else None) ≡ Some n → k ≡ n
    by_test false t g = absurd (cc)
    by_test true t g =
        let one : low ≡ n = cc in
        let same : low ≡ h = eqb-true low h t in
        let both = both_true (leb low k) (leb k h) (both_true (leb low k && leb k h) (leb k 18446744073709551615) f).0 in
        let i = leb-true low k both.0 in
        let j = leb-true k h both.1 in
        omega arith

-- octets in the size
abbrev pub OfSize : Size → List ℕ → List ℕ → Type 0
OfSize s w c = (c ≡ w) × (size_fits s (length c) ≡ true)

pub octets_lawful : (fix : Option ℕ) (s : Size) → fixed s ≡ fix → HasSizeLimit s → Lawful (read_octets fix s) (Sized fix (OfSize s))
octets_lawful (Some n) s one small = same_spellings (group_lawful n)
    (λ w b (e, l). (sym e, fixed_fits s.low s.high (length b) (one ∙ ap (λ n. Some n) (sym l)) small))
    (λ w b (e, t). (sym e, fixed_is s.low s.high n (length b) one t))
octets_lawful None s one small = with_length_lawful (λ n. guard (size_fits s n) reason.Size (group n)) (OfSize s)
    (λ n. same_spellings (tested_lawful (size_fits s n) reason.Size (group n) (λ x c. (x ≡ c) × (length c ≡ n)) size_goes_on (group_lawful n))
    (λ x c (t, (e, l)). ((sym e, ap (size_fits s) l ∙ t), l))
    (λ x c ((e, t), l). (ap (size_fits s) (sym l) ∙ t, (sym e, l))))

pub length-bits_of : (p : List ℕ) → length (bits_of p) ≡ 8 * length p
length-bits_of [] = refl
length-bits_of (x ∷ p) = omega (arith, length-bits_of p)

pub preamble_lawful : (k : ℕ) → Lawful (preamble k) (λ s p. (length s ≡ k) × IsPreamble s p)
unfolding preamble octets_for
preamble_lawful k = same_spellings
    (bind_lawful (group (octets_for k)) (λ p. guard (all_false (drop k (bits_of p))) PreamblePadding (give (take k (bits_of p)))) (λ w b. (w ≡ b) × (length b ≡ octets_for k))
    (λ w s b. (all_false (drop k (bits_of w)) ≡ true) × ((s ≡ take k (bits_of w)) × (b ≡ []))) (group_lawful (octets_for k))
    (λ w. tested_lawful (all_false (drop k (bits_of w))) PreamblePadding (give (take k (bits_of w))) (λ s b. (s ≡ take k (bits_of w)) × (b ≡ [])) padding_goes_on (give_lawful (take k (bits_of w)))))
    (λ s p (w, b1, b2, s1, s2, e).
    (let whole : p ≡ b1 = e ∙ ap (λ v. b1 ++ v) s2.1.1 ∙ append-nil b1 in
    let word : w ≡ p = s1.0 ∙ sym whole in
    let many : length p ≡ octets_for k = ap length whole ∙ s1.1 in
    let is : s ≡ take k (bits_of p) = s2.1.0 ∙ ap (λ v. take k (bits_of v)) word in
    let exact : length s ≡ k = ap length is ∙ length-take-le k (bits_of p) (omega (arith, length-bits_of p)) in
    (exact, (drop k (bits_of p), many ∙ ap octets_for (sym exact), sym (take-append-drop k (bits_of p)) ∙ ap (λ v. v ++ drop k (bits_of p)) (sym is), ap (λ v. all_false (drop k (bits_of v))) (sym word) ∙ s2.0))))
    (λ s p (exact, (padding, many, e, zeros)). (
      p,
      p,
      [],
      (refl, many ∙ ap octets_for exact),
      (ap all_false (ap (drop k) e ∙ drop_at s padding k exact) ∙ zeros, (sym (ap (take k) e ∙ take_at s padding k exact), refl)),
      sym (append-nil p),
    ))

pub unused_fits : (n u : ℕ) → (leb u 7 && (leb 2 n || eqb u 0)) ≡ true → (u ≤ 7) × (n - 1 ≡ 0 → u ≡ 0)
unused_fits n u t =
    let both = both_true (leb u 7) (leb 2 n || eqb u 0) t in
    (leb-true u 7 both.0, λ none. either (leb 2 n) refl both.1 none)
  where
    either : (c : Bool) → leb 2 n ≡ c → (c || eqb u 0) ≡ true → n - 1 ≡ 0 → u ≡ 0
    either true e t none = absurd (let two : 2 ≤ n = leb-true 2 n e in omega arith)
    either false e t none = eqb-true u 0 t

pub fits_unused : (n u m : ℕ) → u ≤ 7 → (m ≡ 0 → u ≡ 0) → m ≡ n - 1 → (leb u 7 && (leb 2 n || eqb u 0)) ≡ true
fits_unused n u m l z e = true_both (leb u 7) (leb 2 n || eqb u 0) (le-leb u 7 l) (either (leb 2 n) refl)
  where
    either : (c : Bool) → leb 2 n ≡ c → (c || eqb u 0) ≡ true
    either true f = refl
    either false f = eq-eqb u 0 (z (let one : n < 2 = leb-false 2 n f in omega arith))

-- what may follow the initial octet u in a bit string of n octets
BitsAfter : Size → ℕ → ℕ → List Bool → List ℕ → Type 0
BitsAfter z n u s d = (u ≤ 7) × (length d ≡ 0 → u ≡ 0) × (length d ≡ n - 1) × (s ≡ take (length (bits_of d) - u) (bits_of d)) × (size_fits z (length s) ≡ true)

bits_sized_lawful : (z : Size) (n u : ℕ) → Lawful (bits_sized z n u) (BitsAfter z n u)
unfolding BitsAfter
bits_sized_lawful z n u = same_spellings
    (tested_lawful (leb u 7 && (leb 2 n || eqb u 0)) BitUnused _ (λ s b. (size_fits z (8 * (n - 1) - u) ≡ true) × ((d : List ℕ) × (s ≡ take (length (bits_of d) - u) (bits_of d)) × ((d ≡ b) × (length b ≡ n - 1)))) unused_goes_on
    (tested_lawful (size_fits z (8 * (n - 1) - u)) reason.Size _ (λ s b. (d : List ℕ) × (s ≡ take (length (bits_of d) - u) (bits_of d)) × ((d ≡ b) × (length b ≡ n - 1))) size_goes_on
    (mapped_lawful (λ d. take (length (bits_of d) - u) (bits_of d)) (group (n - 1)) (λ d b. (d ≡ b) × (length b ≡ n - 1)) (group_lawful (n - 1)))))
    (λ s b (t, (t', (d, is, (e, l)))).
    (let fits = unused_fits n u t in let is' = is ∙ ap (λ d. take (length (bits_of d) - u) (bits_of d)) e in
    (fits.0, (λ none. fits.1 (sym l ∙ none)), l, is', ap (size_fits z) (many s b u n is' l) ∙ t')))
    (λ s b (low, none, l, is, ok). (fits_unused n u (length b) low none l, (ap (size_fits z) (sym (many s b u n is l)) ∙ ok, (b, is, (refl, l)))))
  where
    many : (s : List Bool) (b : List ℕ) (u n : ℕ) → s ≡ take (length (bits_of b) - u) (bits_of b) → length b ≡ n - 1 → length s ≡ 8 * (n - 1) - u
    many s b u n is l = ap length is ∙ length-take-le (length (bits_of b) - u) (bits_of b) (omega arith) ∙ omega (arith, length-bits_of b)

pub bits_lawful : (fix : Option ℕ) (z : Size) → Lawful (read_bits fix z) (SpellsBits fix z)
unfolding BitsAfter
bits_lawful (Some n) z = same_spellings (mapped_lawful (λ w. take n (bits_of w)) (group (octets_for n)) (λ w b. (w ≡ b) × (length b ≡ octets_for n)) (group_lawful (octets_for n)))
    (λ s b (w, is, (e, l)). (l, is ∙ ap (λ w. take n (bits_of w)) e))
    (λ s b (l, is). (b, is, (refl, l)))
bits_lawful None z = with_length_lawful (λ n. guard (leb 1 n) BitUnused (bind octet (bits_sized z n))) (λ s c. IsBits s c × (size_fits z (length s) ≡ true))
    (λ n. same_spellings (tested_lawful (leb 1 n) BitUnused (bind octet (bits_sized z n)) (Then (λ u b. b ≡ u ∷ []) (BitsAfter z n)) unused_goes_on
    (bind_lawful octet (bits_sized z n) (λ u b. b ≡ u ∷ []) (BitsAfter z n) octet_lawful (bits_sized_lawful z n)))
    (λ s c (t, (u, b1, d, s1, (low, none, l, is, ok), e)).
    (let whole : c ≡ u ∷ d = e ∙ ap (λ w. w ++ d) s1 in
    let some : 1 ≤ n = leb-true 1 n t in
    (((u, d, whole, low, none, is), ok), omega (arith, ap length whole))))
    (λ s c (((u, d, e, low, none, is), ok), l).
    (let all : suc (length d) ≡ n = ap length (sym e) ∙ l in
    (le-leb 1 n (omega arith), (u, u ∷ [], d, refl, (low, none, omega arith, is, ok), e)))))

pub bitmap_lawful : Lawful bitmap SpellsBitmap
unfolding bitmap
bitmap_lawful = bits_lawful None any_size

pub quantity_lawful : Lawful quantity (IsCounted (λ n w. (1 ≤ length w) × (unsigned w ≡ n) × (ltb n (2 ^ 127) ≡ true)))
unfolding quantity
quantity_lawful = counted_number_lawful unsigned (λ n. ltb n (2 ^ 127))

module _ (r : Reader AsnValue) (S : AsnValue → List ℕ → Type 0) (l : Lawful r S) where
  module _ (rest : Reader Places) (Rest : Places → List ℕ → Type 0) (m : Lawful rest Rest) where
    pub present_lawful : Lawful (read_present r rest) (IsPresent S Rest)
    unfolding read_present
    present_lawful = same_spellings
        (bind_lawful r (λ v. bind rest (λ ps. give (present v ps))) S (λ v ps b. (qs : Places) × (ps ≡ present v qs) × Rest qs b) l (λ v. mapped_lawful (present v) rest Rest m))
        (λ ps b (v, b1, b2, s1, (qs, is, s2), e). (v, qs, b1, b2, is, e, s1, s2))
        (λ ps b (v, qs, b1, b2, is, e, s1, s2). (v, b1, b2, s1, (qs, is, s2), e))

    pub absent_lawful : Lawful (read_absent rest) (IsAbsent Rest)
    unfolding read_absent
    absent_lawful = mapped_lawful absent rest Rest m

    pub by_bit_lawful : (bit : Bool) → Lawful (read_by_bit bit r rest) (ByBit bit S Rest)
    by_bit_lawful true = present_lawful
    by_bit_lawful false = absent_lawful

  pub by_need_lawful : (need : Need) (rest : List Bool → Reader Places) (Rest : List Bool → Places → List ℕ → Type 0) → ((s : List Bool) → Lawful (rest s) (Rest s))
      → (s : List Bool) → Lawful (read_by_need need r rest s) (ByNeed need S Rest s)
  by_need_lawful must rest Rest m s = present_lawful (rest s) (Rest s) (m s)
  by_need_lawful may rest Rest m s = by_bit_lawful (rest (later_bits s)) (Rest (later_bits s)) (m (later_bits s)) (first_bit s)
  by_need_lawful (default d) rest Rest m s = by_bit_lawful (rest (later_bits s)) (Rest (later_bits s)) (m (later_bits s)) (first_bit s)

  pub by_tag_lawful : (same : Bool) (rest : Reader AsnValue) (Rest : AsnValue → List ℕ → Type 0) → Lawful rest Rest → Lawful (read_by_tag same r rest) (ByTag same S Rest)
  by_tag_lawful true rest Rest m = l
  by_tag_lawful false rest Rest m = m

pub unknown_lawful : (place : ℕ) (s : List Bool) → Lawful (read_unknown place s) (SpellsUnknown (IsCounted IsItself) place s)
unknown_lawful place [] = give_lawful []
unknown_lawful place (false ∷ s) = unknown_lawful (suc place) s
unknown_lawful place (true ∷ s) = same_spellings
    (bind_lawful counted_octets (λ w. bind (read_unknown (suc place) s) (λ us. give (unknown place w ∷ us))) (IsCounted IsItself) (λ w us b. (rest : List Unknown) × (us ≡ unknown place w ∷ rest) × SpellsUnknown (IsCounted IsItself) (suc place) s rest b) counted_octets_lawful
    (λ w. mapped_lawful (λ us. unknown place w ∷ us) (read_unknown (suc place) s) (SpellsUnknown (IsCounted IsItself) (suc place) s) (unknown_lawful (suc place) s)))
    (λ us b (w, b1, b2, s1, (rest, is, s2), e). (w, rest, b1, b2, is, e, s1, s2))
    (λ us b (w, rest, b1, b2, is, e, s1, s2). (w, b1, b2, s1, (rest, is, s2), e))

pub both_lawful : (r : Reader Places) (q : Reader (List Unknown)) (S : Places → List ℕ → Type 0) (Q : List Unknown → List ℕ → Type 0) → Lawful r S → Lawful q Q
    → Lawful (read_both r q) (λ x b. (a : List ℕ) × (u : List ℕ) × (b ≡ a ++ u) × S x.0 a × Q x.1 u)
unfolding read_both
both_lawful r q S Q l m = same_spellings
    (bind_lawful r (λ added. bind q (λ us. give (added, us))) S (λ added x b. (us : List Unknown) × (x ≡ (added, us)) × Q us b) l (λ added. mapped_lawful (λ us. (added, us)) q Q m))
    (λ x b (added, a, u, s1, (us, is, s2), e). (a, u, e, subst (λ y. S y a) (sym (ap (λ (y : Places × List Unknown). y.0) is)) s1, subst (λ y. Q y u) (sym (ap (λ (y : Places × List Unknown). y.1) is)) s2))
    (λ x b (a, u, e, s1, s2). (x.0, a, u, s1, (x.1, refl, s2), e))

pub extension_lawful : (x : Bool) (more : Additions) (r : List Bool → Reader Places) (S : List Bool → Places → List ℕ → Type 0) → ((s : List Bool) → Lawful (r s) (S s))
    → Lawful (read_extension x more r) (λ y. SpellsExtension x more S y.0 y.1)
extension_lawful false more r S l = same_spellings (give_lawful (all_absent more, []))
    (λ y b (is, e). (ap (λ (y : Places × List Unknown). y.0) is, ap (λ (y : Places × List Unknown). y.1) is, e))
    (λ y b (is, none, e). (pair is none, e))
  where
    both : Places → List Unknown → Places × List Unknown
    both p us = (p, us)

    pair : {p q : Places} {us vs : List Unknown} → p ≡ q → us ≡ vs → both p us ≡ both q vs
    pair e f = ap₂ both e f
extension_lawful true more r S l = same_spellings
    (bind_lawful bitmap (λ s. guard (all_false (drop 65536 s)) UnknownAddition (read_both (r s) (read_unknown (addition_count more) (drop (addition_count more) s)))) SpellsBitmap
    (λ s y b. (all_false (drop 65536 s) ≡ true) × ((a : List ℕ) × (u : List ℕ) × (b ≡ a ++ u) × S s y.0 a × SpellsUnknown (IsCounted IsItself) (addition_count more) (drop (addition_count more) s) y.1 u)) bitmap_lawful
    (λ s. tested_lawful (all_false (drop 65536 s)) UnknownAddition (read_both (r s) (read_unknown (addition_count more) (drop (addition_count more) s)))
    (λ y b. (a : List ℕ) × (u : List ℕ) × (b ≡ a ++ u) × S s y.0 a × SpellsUnknown (IsCounted IsItself) (addition_count more) (drop (addition_count more) s) y.1 u) addition_goes_on
    (both_lawful (r s) (read_unknown (addition_count more) (drop (addition_count more) s)) (S s) (SpellsUnknown (IsCounted IsItself) (addition_count more) (drop (addition_count more) s)) (l s) (unknown_lawful (addition_count more) (drop (addition_count more) s)))))
    (λ y b (s, m, c, s1, (t, (a, u, f, s2, s3)), e). (s, m, a, u, e ∙ ap (λ w. m ++ w) f, s1, t, s2, s3))
    (λ y b (s, m, a, u, e, s1, t, s2, s3). (s, m, a ++ u, s1, (t, (a, u, refl, s2, s3)), e))

pub sequence_lawful : (k : ℕ) (r : List Bool → Reader Places) (S : List Bool → Places → List ℕ → Type 0) → ((s : List Bool) → Lawful (r s) (S s))
    → Lawful (read_sequence k r) (λ v b. (root : Places) × (s : List Bool) × (p : List ℕ) × (c : List ℕ) × (v ≡ seq root no_places []) × (b ≡ p ++ c) × (length s ≡ k) × IsPreamble s p × S s root c)
unfolding read_sequence
sequence_lawful k r S l = same_spellings
    (bind_lawful (preamble k) (λ s. bind (r s) (λ root. give (seq root no_places []))) (λ s p. (length s ≡ k) × IsPreamble s p) (λ s v b. (root : Places) × (v ≡ seq root no_places []) × S s root b) (preamble_lawful k)
    (λ s. mapped_lawful (λ root. seq root no_places []) (r s) (S s) (l s)))
    (λ v b (s, p, c, (n, pre), (root, is, s2), e). (root, s, p, c, is, e, n, pre, s2))
    (λ v b (root, s, p, c, is, e, n, pre, s2). (s, p, c, (n, pre), (root, is, s2), e))

pub extensible_lawful : (k : ℕ) (r : List Bool → Reader Places) (S : List Bool → Places → List ℕ → Type 0) → ((s : List Bool) → Lawful (r s) (S s))
    → (x : Bool → Reader (Places × List Unknown)) (X : Bool → Places → List Unknown → List ℕ → Type 0) → ((c : Bool) → Lawful (x c) (λ y. X c y.0 y.1))
    → Lawful (read_extensible k r x) (λ v b. (root : Places) × (added : Places) × (us : List Unknown) × (c : Bool) × (s : List Bool) × (p : List ℕ) × (b1 : List ℕ) × (b2 : List ℕ)
    × (v ≡ seq root added us) × (b ≡ p ++ (b1 ++ b2)) × (length s ≡ k) × IsPreamble (c ∷ s) p × S s root b1 × X c added us b2)
unfolding read_extensible
extensible_lawful k r S l x X m = same_spellings
    (bind_lawful (preamble (suc k)) (λ s. bind (r (later_bits s)) (λ root. bind (x (first_bit s)) (λ added. give (seq root added.0 added.1)))) (λ s p. (length s ≡ suc k) × IsPreamble s p)
    (λ s. Then (S (later_bits s)) (λ root v b. (y : Places × List Unknown) × (v ≡ seq root y.0 y.1) × X (first_bit s) y.0 y.1 b)) (preamble_lawful (suc k))
    (λ s. bind_lawful (r (later_bits s)) (λ root. bind (x (first_bit s)) (λ added. give (seq root added.0 added.1))) (S (later_bits s)) (λ root v b. (y : Places × List Unknown) × (v ≡ seq root y.0 y.1) × X (first_bit s) y.0 y.1 b) (l (later_bits s))
    (λ root. mapped_lawful (λ y. seq root y.0 y.1) (x (first_bit s)) (λ y. X (first_bit s) y.0 y.1) (m (first_bit s)))))
    (λ v b (s, p, c, (n, pre), (root, b1, b2, s1, (y, is, s2), e2), e).
    (root, y.0, y.1, first_bit s, later_bits s, p, b1, b2, is, e ∙ ap (λ w. p ++ w) e2, length-after s k n, subst (λ w. IsPreamble w p) (some_first s k n) pre, s1, s2))
    (λ v b (root, added, us, c, s, p, b1, b2, is, e, n, pre, s1, s2). (c ∷ s, p, b1 ++ b2, (omega arith, pre), (root, b1, b2, s1, ((added, us), is, s2), refl), e))
  where
    some_first : (s : List Bool) (k : ℕ) → length s ≡ suc k → s ≡ first_bit s ∷ later_bits s
    some_first [] k e = absurd (omega arith)
    some_first (x ∷ s) k e = refl

    length-after : (s : List Bool) (k : ℕ) → length s ≡ suc k → length (later_bits s) ≡ k
    length-after [] k e = absurd (omega arith)
    length-after (x ∷ s) k e = omega arith

pub size_small : (s : Size) (n : ℕ) → size_fits s n ≡ true → ltb n (2 ^ 127) ≡ true
size_small s n t =
    let small = leb-true n 18446744073709551615 (both_true (leb s.low n && at_most s.high n) (leb n 18446744073709551615) t).1 in
    lt-ltb n (2 ^ 127) (omega arith)

pub items_lawful : (s : Size) (r : Reader AsnValue) (S : AsnValue → List ℕ → Type 0) → Lawful r S → ((x : AsnValue) (b : List ℕ) → S x b → 1 ≤ length b)
    → Lawful (read_items s r) (λ v b. (vs : List AsnValue) × (q : List ℕ) × (es : List ℕ) × (v ≡ items (listed vs)) × (b ≡ q ++ es) × IsCounted (λ n w. (1 ≤ length w) × (unsigned w ≡ n)) (length vs) q
    × (size_fits s (length vs) ≡ true) × IsJoined S vs es)
unfolding read_items
items_lawful s r S l some = same_spellings
    (bind_lawful quantity (λ n. within n (guard (size_fits s n) reason.Size (bind (times n r) (λ vs. give (items (listed vs))))))
    (IsCounted (λ n w. (1 ≤ length w) × (unsigned w ≡ n) × (ltb n (2 ^ 127) ≡ true))) Items quantity_lawful
    (λ n. within_lawful n (guard (size_fits s n) reason.Size (bind (times n r) (λ vs. give (items (listed vs))))) (Items n)
    (tested_lawful (size_fits s n) reason.Size (bind (times n r) (λ vs. give (items (listed vs)))) (λ v b. (vs : List AsnValue) × (v ≡ items (listed vs)) × Each S n vs b) size_goes_on
    (mapped_lawful (λ vs. items (listed vs)) (times n r) (Each S n) (times_lawful r S l n)))
    (λ v b (t, (vs, is, each)). (let f = from_each S n vs b each in omega (arith, f.0, every_long S some vs b f.1)))))
    (λ v b (n, q, es, (d, c, e1, len, (w1, w2, w3)), (t, (vs, is, each)), e).
    (let f = from_each S n vs es each in
    (vs, q, es, is, e, (d, c, e1, len, (w1, w2 ∙ sym f.0)), ap (size_fits s) f.0 ∙ t, f.1)))
    (λ v b (vs, q, es, is, e, (d, c, e1, len, (w1, w2)), t, every).
    (length vs, q, es, (d, c, e1, len, (w1, w2, size_small s (length vs) t)), (t, (vs, is, to_each S vs es every)), e))
  where
    Items : ℕ → AsnValue → List ℕ → Type 0
    Items n v b = (size_fits s n ≡ true) × ((vs : List AsnValue) × (v ≡ items (listed vs)) × Each S n vs b)

alternative_goes_on : UnknownAlternative ≡ End → ⊥
alternative_goes_on e = cc

module _ (extensible : Bool) (more : Alternatives) (r : Tag → Reader AsnValue) (S : Tag → AsnValue → List ℕ → Type 0) (l : (t : Tag) → Lawful (r t) (S t)) (known : (t : Tag) (x : AsnValue) (c : List ℕ) → S t x c → has_tag t more ≡ true) where
  known_one : (t : Tag) (v : AsnValue) (c : List ℕ) → has_tag t more ≡ true → SpellsChosen extensible more (S t) t v c → (x : AsnValue) × (v ≡ chosen t x) × S t x c
  known_one t v c here (inl s) = s
  known_one t v c here (inr (w, is, o, none, s)) = absurd (cc)

  foreign_one : (t : Tag) (v : AsnValue) (c : List ℕ) → has_tag t more ≡ false → SpellsChosen extensible more (S t) t v c → (extensible ≡ true) × ((w : List ℕ) × (v ≡ foreign t w) × IsCounted IsItself w c)
  foreign_one t v c missing (inl (x, is, s)) = let here = known t x c s in absurd (cc)
  foreign_one t v c missing (inr (w, is, o, none, s)) = (o, (w, is, s))

  pub chosen_lawful : (t : Tag) → Lawful (read_chosen extensible more r t) (SpellsChosen extensible more (S t) t)
  chosen_lawful t = choose_lawful (has_tag t more) _ _ (SpellsChosen extensible more (S t) t)
      (λ here. same_spellings (mapped_lawful (chosen t) (r t) (S t) (l t)) (λ v c s. inl s) (λ v c s. known_one t v c here s))
      (λ missing. guard_lawful extensible UnknownAlternative _ (SpellsChosen extensible more (S t) t) alternative_goes_on
      (λ o. same_spellings (mapped_lawful (foreign t) counted_octets (IsCounted IsItself) counted_octets_lawful) (λ v c (w, is, s). inr (w, is, o, missing, s)) (λ v c s. (foreign_one t v c missing s).1))
      (λ v c s. (foreign_one t v c missing s).0))

  pub choice_lawful : Lawful (read_choice extensible more r) (λ v b. (t : Tag) × (p : List ℕ) × (c : List ℕ) × (b ≡ p ++ c) × IsTag t p × SpellsChosen extensible more (S t) t v c)
  unfolding read_choice
  choice_lawful = same_spellings
      (bind_lawful tag (read_chosen extensible more r) IsTag (λ t. SpellsChosen extensible more (S t) t) tag_lawful chosen_lawful)
      (λ v b (t, p, c, s1, s2, e). (t, p, c, e, s1, s2))
      (λ v b (t, p, c, e, s1, s2). (t, p, c, s1, s2, e))
