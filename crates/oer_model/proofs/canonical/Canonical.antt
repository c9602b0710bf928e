-- A value, filled, has one canonical encoding.
use Rattle.std.proofs.Common.{◌≡◌, ℕ, suc, max, ◌+◌, ◌≤◌, List, [], ◌∷◌, ◌++◌, length, Bool, true, false, if◌then◌else◌, ℤ, pos, inl, inr, refl, ap, ap₂, sym, ◌∙◌, subst, arith, length-append, Option, Some, None}
use Rattle.oer_units.specs.Numbers.{unsigned, signed, natural}
use Rattle.oer_units.specs.Octets.{IsOctets, IsShortest}
use Rattle.oer_units.specs.Spelling.{IsLength, IsTag, StandsFor, IsEnumerated, IsJoined}
use Rattle.oer_units.specs.declared.tagging.Tag.{Tag}
use Rattle.oer_units.proofs.Digits.{tag_one}
use Rattle.oer_units.proofs.OneSpelling.{unsigned_one, len_one, counted_least, signed_one}
use Rattle.oer_model.proofs.fitting.Contents.{content_plain}
use Rattle.oer_model.proofs.bits.Unique.{preamble_one, bits_one}
use Rattle.oer_model.specs.LeafType as kind
use Rattle.oer_model.specs.LeafType.{LeafType}
use Rattle.oer_model.specs.AsnType.{Additions, Alternatives, AsnType, Fields, NamedNumber, Need, addition, alternative, boolean, choice, default, enumerated, extensible_sequence, field, integer, later, leaf, may, must, no_additions, no_alternatives, no_fields, sequence, sequence_of}
use Rattle.oer_model.specs.AsnValue.{Unknown, unknown, AsnValue, bool, int, enum, bit_list, seq, items, chosen, foreign, Places, no_places, absent, present}
use Rattle.oer_model.specs.Bits.{all_false}
use Rattle.oer_model.specs.Canonical.{leaf_octets}
use Rattle.oer_model.specs.Constraints.{same_tag, size_fits, fixed, Form, unsigned_fixed, signed_fixed, unsigned_counted, signed_counted, form_of, optional, optional_with, addition_count}
use Rattle.oer_model.specs.Encoding.{SpellsInteger, IsPresent, IsAbsent, ByBit, ByTag, IsItself, SpellsUnknown, IsSpelling}
use Rattle.oer_model.specs.Filling.{map_sequence, map_values, map_items, map_chosen, filled_absent, filled_place, filled_by_tag, filled, filled_fields, filled_additions, filled_alternative}
use Rattle.oer_model.specs.Fits.{after_last, listed, all_absent}
use Rattle.oer_model.specs.Strict.{IsCanonical, IsLeastSpelling, IsStrictLeafSpelling, IsStrictSpelling, SpellsAdditionsStrictly, SpellsAlternativeStrictly, SpellsFieldsStrictly, StrictBitString, StrictBits, StrictChosen, StrictCounted, StrictExtension, StrictNeed, StrictPreamble, StrictQuantity}
use Rattle.oer_model.specs.declared.size.Size.{Size}

naturals : (w z : List ℕ) → IsOctets w → IsOctets z → length w ≡ length z → unsigned w ≡ unsigned z → w ≡ z
unfolding unsigned
naturals w z o o' n e = (unsigned_one 0 0 w z n o o' e).1

quantity_one : (n : ℕ) (p q : List ℕ) → StrictQuantity n p → StrictQuantity n q → p ≡ q
quantity_one n p q s t = counted_least (λ n w. (1 ≤ length w) × (unsigned w ≡ n)) n (λ w z o o' e x y. naturals w z o o' e (x.1 ∙ sym y.1)) p q s t

-- Two lists of octets that are shortest of those for which R holds. What shows that R has just one of these goes by its own proofs.
abbrev Pair : (List ℕ → Type 0) → List ℕ → List ℕ → Type 0
Pair R b c = IsShortest R b × IsShortest R c

positive : (a b : ℕ) → pos a ≡ pos b → a ≡ b
positive a b e = cc

natural_one : (w z : List ℕ) → IsOctets w → IsOctets z → length w ≡ length z → natural w ≡ natural z → w ≡ z
natural_one w z o o' n e = naturals w z o o' n (positive (unsigned w) (unsigned z) e)

form_one : (f : Form) (z : ℤ) (b c : List ℕ) → Pair (SpellsInteger f z) b c → b ≡ c
form_one (unsigned_fixed n) z b c ((o, s, least), (o', t, least')) = natural_one b c o o' (s.0 ∙ sym t.0) (s.1 ∙ sym t.1)
form_one (signed_fixed n) z b c ((o, s, least), (o', t, least')) = signed_one b c o o' (s.0 ∙ sym t.0) (s.1 ∙ sym t.1)
form_one unsigned_counted z b c (s, t) = counted_least (StandsFor natural) z (λ w z o o' n x y. natural_one w z o o' n (x.1 ∙ sym y.1)) b c s t
form_one signed_counted z b c (s, t) = counted_least (StandsFor signed) z (λ w z o o' n x y. signed_one w z o o' n (x.1 ∙ sym y.1)) b c s t

pub integer_one : (low high : Option ℤ) (v : AsnValue) (b c : List ℕ) → IsLeastSpelling (integer low high) v b → IsLeastSpelling (integer low high) v c → b ≡ c
integer_one low high v b c (o, (z, is, ok, s), least) (o', (y, is', ok', t), least') =
    let both : int z ≡ int y = sym is ∙ is' in
    let same : z ≡ y = cc in
    form_one (form_of low high) z b c ((o, s, λ d od sd. least d od (z, is, ok, sd)), (o', subst (λ y. SpellsInteger (form_of low high) y c) (sym same) t, λ d od sd. least' d od (z, is, ok, sd)))

enum_form_one : (z : ℤ) (b c : List ℕ) → IsOctets b → IsOctets c → length b ≡ length c → IsEnumerated z b → IsEnumerated z c → b ≡ c
enum_form_one z b c o o' n (inl (x, e, l, is)) (inl (y, e', l', is')) = e ∙ ap (λ x. x ∷ []) (positive x y (sym is ∙ is')) ∙ sym e'
enum_form_one z b c o o' n (inl (x, e, l, is)) (inr (k, w, e', low, high, many, is')) = absurd (omega (arith, ap length e, ap length e'))
enum_form_one z b c o o' n (inr (k, w, e, low, high, many, is)) (inl (y, e', l', is')) = absurd (omega (arith, ap length e, ap length e'))
enum_form_one z b c o o' n (inr (k, w, e, low, high, many, is)) (inr (k', w', e', low', high', many', is')) =
    let same : k ≡ k' = omega (arith, ap length e, ap length e') in
    e ∙ ap₂ (λ x y. x ∷ y) (ap (λ k. 128 + k) same) (signed_one w w' (subst IsOctets e o).1 (subst IsOctets e' o').1 (omega arith) (is ∙ sym is')) ∙ sym e'

pub enumerated_one : (numbers : List NamedNumber) (extensible : Bool) (v : AsnValue) (b c : List ℕ) → IsLeastSpelling (enumerated numbers extensible) v b → IsLeastSpelling (enumerated numbers extensible) v c → b ≡ c
enumerated_one numbers extensible v b c (o, s, least) (o', t, least') = go s t
  where
    go : IsSpelling (enumerated numbers extensible) v b → IsSpelling (enumerated numbers extensible) v c → b ≡ c
    go (z, is, ok, listed, x) (y, is', ok', listed', x') =
        let both : enum z ≡ enum y = sym is ∙ is' in
        let same : z ≡ y = cc in
        let i = least c o' t in
        let j = least' b o s in
        enum_form_one z b c o o' (omega arith) x (subst (λ y. IsEnumerated y c) (sym same) x')

-- equal after filling, by f, and so equal with equal octets
abbrev IsOne : {A : Type 0} → (A → A) → (A → List ℕ → Type 0) → Type 0
IsOne {A} f S = (v w : A) (b c : List ℕ) → S v b → S w c → f v ≡ f w → (v ≡ w) × (b ≡ c)

counted_one : {A : Type 0} (f : A → A) (S : A → List ℕ → Type 0) → IsOne f S → IsOne f (StrictCounted S)
counted_one f S one v w b c (l, d, e, short, s) (m, d', e', short', s') same =
    let o = one v w d d' s s' same in
    let n : l ≡ m = len_one (length d) l m short (subst (λ k. IsShortest (IsLength k) m) (ap length (sym o.1)) short') in
    (o.0, e ∙ ap₂ (λ x y. x ++ y) n o.1 ∙ sym e')

-- of the components after one: n bits are left of them
abbrev AreOne : (Places → Places) → ℕ → (List Bool → Places → List ℕ → Type 0) → Type 0
AreOne g n Rest = (s t : List Bool) (ps qs : Places) (b c : List ℕ) → length s ≡ n → length t ≡ n → Rest s ps b → Rest t qs c → g ps ≡ g qs → (s ≡ t) × (ps ≡ qs) × (b ≡ c)

module _ (f : AsnValue → AsnValue) (g : Places → Places) (Rest : List Bool → Places → List ℕ → Type 0) (n : ℕ) (more : AreOne g n Rest) where
  present_one : (need : Need) (S : AsnValue → List ℕ → Type 0) → IsOne f S → (s t : List Bool) (ps qs : Places) (b c : List ℕ) → length s ≡ n → length t ≡ n → IsPresent S (Rest s) ps b → IsPresent S (Rest t) qs c
      → filled_place need f g ps ≡ filled_place need f g qs → (s ≡ t) × (ps ≡ qs) × (b ≡ c)
  present_one need S one s t ps qs b c i j (v, rest, b1, b2, is, e, x, r) (w, rest', c1, c2, is', e', y, r') same =
      let both : present (f v) (g rest) ≡ present (f w) (g rest') = sym (ap (filled_place need f g) is) ∙ same ∙ ap (filled_place need f g) is' in
      let o = one v w b1 c1 x y (cc) in
      let m = more s t rest rest' b2 c2 i j r r' (cc) in
      (m.0, is ∙ ap₂ present o.0 m.1 ∙ sym is', e ∙ ap₂ (λ x y. x ++ y) o.1 m.2 ∙ sym e')

  absent_one : (need : Need) → (s t : List Bool) (ps qs : Places) (b c : List ℕ) → length s ≡ n → length t ≡ n → IsAbsent (Rest s) ps b → IsAbsent (Rest t) qs c
      → filled_place need f g ps ≡ filled_place need f g qs → (s ≡ t) × (ps ≡ qs) × (b ≡ c)
  absent_one need s t ps qs b c i j (rest, is, r) (rest', is', r') same =
      let both : filled_absent need f (g rest) ≡ filled_absent need f (g rest') = sym (ap (filled_place need f g) is) ∙ same ∙ ap (filled_place need f g) is' in
      let m = more s t rest rest' b c i j r r' (inner need rest rest' both) in
      (m.0, is ∙ ap absent m.1 ∙ sym is', m.2)
    where
      inner : (need : Need) (rest rest' : Places) → filled_absent need f (g rest) ≡ filled_absent need f (g rest') → g rest ≡ g rest'
      inner must rest rest' e = cc
      inner may rest rest' e = cc
      inner (default d) rest rest' e = cc

  -- at a bit, where one that is present differs after filling from one that is absent
  bit_one : (need : Need) (S : AsnValue → List ℕ → Type 0) → IsOne f S → ((v : AsnValue) (b : List ℕ) (rest rest' : Places) → S v b → present (f v) (g rest) ≡ filled_absent need f (g rest') → ⊥)
      → (x y : Bool) (s t : List Bool) (ps qs : Places) (b c : List ℕ) → length s ≡ n → length t ≡ n → ByBit x S (Rest s) ps b → ByBit y S (Rest t) qs c
      → filled_place need f g ps ≡ filled_place need f g qs → (x ∷ s ≡ y ∷ t) × (ps ≡ qs) × (b ≡ c)
  bit_one need S one apart true true s t ps qs b c i j p q same = let o = present_one need S one s t ps qs b c i j p q same in (ap (λ s. true ∷ s) o.0, o.1, o.2)
  bit_one need S one apart false false s t ps qs b c i j p q same = let o = absent_one need s t ps qs b c i j p q same in (ap (λ s. false ∷ s) o.0, o.1, o.2)
  bit_one need S one apart true false s t ps qs b c i j (v, rest, b1, b2, is, e, x, r) (rest', is', r') same =
      absurd (apart v b1 rest rest' x (sym (ap (filled_place need f g) is) ∙ same ∙ ap (filled_place need f g) is'))
  bit_one need S one apart false true s t ps qs b c i j (rest', is', r') (v, rest, b1, b2, is, e, x, r) same =
      absurd (apart v b1 rest rest' x (sym (ap (filled_place need f g) is) ∙ sym same ∙ ap (filled_place need f g) is'))

  apart_may : (v : AsnValue) (rest rest' : Places) → present (f v) (g rest) ≡ absent (g rest') → ⊥
  apart_may v rest rest' e = cc

  apart_default : (d v : AsnValue) (rest rest' : Places) → (f v ≡ f d → ⊥) → present (f v) (g rest) ≡ present (f d) (g rest') → ⊥
  apart_default d v rest rest' other e = other (cc)

  need_one : (need : Need) (S : AsnValue → List ℕ → Type 0) → IsOne f S → AreOne (filled_place need f g) (optional_with need n) (StrictNeed need f S Rest)
  need_one must S one s t ps qs b c i j p q same = present_one must S one s t ps qs b c i j p q same
  need_one may S one [] t ps qs b c i j p q same = absurd (omega arith)
  need_one may S one (x ∷ s) [] ps qs b c i j p q same = absurd (omega arith)
  need_one may S one (x ∷ s) (y ∷ t) ps qs b c i j p q same =
      bit_one may S one (λ v b rest rest' z e. apart_may v rest rest' e) x y s t ps qs b c (omega arith) (omega arith) p q same
  need_one (default d) S one [] t ps qs b c i j p q same = absurd (omega arith)
  need_one (default d) S one (x ∷ s) [] ps qs b c i j p q same = absurd (omega arith)
  need_one (default d) S one (x ∷ s) (y ∷ t) ps qs b c i j p q same =
      bit_one (default d) (λ v c. S v c × (f v ≡ f d → ⊥)) (λ v w b c p q e. one v w b c p.0 q.0 e) (λ v b rest rest' z e. apart_default d v rest rest' z.1 e) x y s t ps qs b c (omega arith) (omega arith) p q same

every_one : (f : AsnValue → AsnValue) (S : AsnValue → List ℕ → Type 0) → IsOne f S → (vs ws : List AsnValue) (b c : List ℕ) → IsJoined S vs b → IsJoined S ws c → map_values f (listed vs) ≡ map_values f (listed ws) → (vs ≡ ws) × (b ≡ c)
every_one f S one [] [] b c e e' same = (refl, e ∙ sym e')
every_one f S one [] (w ∷ ws) b c s t same = absurd (cc)
every_one f S one (v ∷ vs) [] b c s t same = absurd (cc)
every_one f S one (v ∷ vs) (w ∷ ws) b c (b1, b2, e, s, r) (c1, c2, e', t, r') same =
    let o = one v w b1 c1 s t (cc) in
    let m = every_one f S one vs ws b2 c2 r r' (cc) in
    (ap₂ (λ x y. x ∷ y) o.0 m.0, e ∙ ap₂ (λ x y. x ++ y) o.1 m.1 ∙ sym e')

by_tag_one : (same : Bool) (f g : AsnValue → AsnValue) (S Rest : AsnValue → List ℕ → Type 0) → IsOne f S → IsOne g Rest → IsOne (filled_by_tag same f g) (ByTag same S Rest)
by_tag_one true f g S Rest one more = one
by_tag_one false f g S Rest one more = more

sequence_one : (k : ℕ) (g : Places → Places) (Rest : List Bool → Places → List ℕ → Type 0) → AreOne g k Rest
    → IsOne (map_sequence g (λ ps. ps)) (λ v b. (root : Places) × (s : List Bool) × (p : List ℕ) × (r : List ℕ) × (v ≡ seq root no_places []) × (b ≡ p ++ r) × (length s ≡ k) × StrictPreamble s p × Rest s root r)
sequence_one k g Rest more v w b c (root, s, p, r, is, e, i, pre, x) (root', t, q, r', is', e', j, pre', y) same =
    let both : seq (g root) no_places [] ≡ seq (g root') no_places [] = sym (ap (map_sequence g (λ ps. ps)) is) ∙ same ∙ ap (map_sequence g (λ ps. ps)) is' in
    let o = more s t root root' r r' i j x y (cc) in
    let h : p ≡ q = preamble_one s p q pre (subst (λ s. StrictPreamble s q) (sym o.0) pre') in
    (is ∙ ap (λ root. seq root no_places []) o.1 ∙ sym is', e ∙ ap₂ (λ x y. x ++ y) h o.2 ∙ sym e')

nil_one : (s t : List Bool) → length s ≡ 0 → length t ≡ 0 → s ≡ t
nil_one [] [] i j = refl
nil_one [] (y ∷ t) i j = absurd (omega arith)
nil_one (x ∷ s) t i j = absurd (omega arith)

boolean_one : IsOne (λ v. v) (IsStrictSpelling boolean)
boolean_one v w b c (x, is, e) (y, is', e') same =
    let both : bool x ≡ bool y = sym is ∙ same ∙ is' in
    let one : x ≡ y = cc in
    (same, e ∙ ap (λ (x : Bool). (if x then 255 else 0) ∷ []) one ∙ sym e')

bits_are_one : IsOne (λ s. s) StrictBits
bits_are_one s t b c x y same = (same, bits_one s b c x (subst (λ s. StrictBits s c) (sym same) y))

bit_string_one : (fix : Option ℕ) (size : Size) (s : List Bool) (b c : List ℕ) → StrictBitString fix size s b → StrictBitString fix size s c → b ≡ c
bit_string_one (Some n) size s b c (i, p) (j, q) = preamble_one s b c p q
bit_string_one None size s b c (i, p) (j, q) = (counted_one (λ s. s) StrictBits bits_are_one s s b c p q refl).1

-- A set bit makes an addition present.
some_present : (more : Additions) (s : List Bool) (ps : Places) (b : List ℕ) → length s ≡ addition_count more → all_false s ≡ false → SpellsAdditionsStrictly more s ps b → filled_additions more ps ≡ filled_additions more (all_absent more) → ⊥
some_present no_additions [] ps b i some p same = cc
some_present no_additions (x ∷ s) ps b i some p same = omega arith
some_present (addition name T more) [] ps b i some p same = omega arith
some_present (addition name T more) (true ∷ s) ps b i some (v, rest, b1, b2, is, e, x, r) same = present_absent _ _ _ (sym (ap (filled_additions (addition name T more)) is) ∙ same)
  where
    present_absent : (v : AsnValue) (p q : Places) → present v p ≡ absent q → ⊥
    present_absent v p q e = cc
some_present (addition name T more) (false ∷ s) ps b i some (rest, is, r) same = some_present more s rest b (omega arith) some r (inner _ _ (sym (ap (filled_additions (addition name T more)) is) ∙ same))
  where
    inner : (p q : Places) → absent p ≡ absent q → p ≡ q
    inner p q e = cc

itself_one : IsOne (λ w. w) IsItself
itself_one v w b c s t same = (same, s ∙ same ∙ sym t)

pub unknown_from : (n : ℕ) (s : List Bool) (m : ℕ) (w : List ℕ) (us : List Unknown) (b : List ℕ) → SpellsUnknown (StrictCounted IsItself) n s (unknown m w ∷ us) b → n ≤ m
unknown_from n [] m w us b (is, e) = absurd (cc)
unknown_from n (true ∷ s) m w us b (x, rest, b1, b2, is, e, k, r) =
    let heads : unknown m w ≡ unknown n x = cc in
    let places : m ≡ n = cc in
    omega arith
unknown_from n (false ∷ s) m w us b r = let i = unknown_from (suc n) s m w us b r in omega arith

unknown_one : (n : ℕ) (s t : List Bool) (us : List Unknown) (b c : List ℕ) → length s ≡ length t → SpellsUnknown (StrictCounted IsItself) n s us b → SpellsUnknown (StrictCounted IsItself) n t us c → (s ≡ t) × (b ≡ c)
unknown_one n [] [] us b c l (is, e) (is', e') = (refl, e ∙ sym e')
unknown_one n [] (y ∷ t) us b c l p q = absurd (omega arith)
unknown_one n (x ∷ s) [] us b c l p q = absurd (omega arith)
unknown_one n (false ∷ s) (false ∷ t) us b c l p q = let o = unknown_one (suc n) s t us b c (omega arith) p q in (ap (λ s. false ∷ s) o.0, o.1)
unknown_one n (true ∷ s) (false ∷ t) us b c l (w, rest, b1, b2, is, e, k, r) q = let i = unknown_from (suc n) t n w rest c (subst (λ us. SpellsUnknown (StrictCounted IsItself) (suc n) t us c) is q) in absurd (omega arith)
unknown_one n (false ∷ s) (true ∷ t) us b c l p (w, rest, b1, b2, is, e, k, r) = let i = unknown_from (suc n) s n w rest b (subst (λ us. SpellsUnknown (StrictCounted IsItself) (suc n) s us b) is p) in absurd (omega arith)
unknown_one n (true ∷ s) (true ∷ t) us b c l (w, rest, b1, b2, is, e, k, r) (w', rest', c1, c2, is', e', k', r') =
    let both : unknown n w ∷ rest ≡ unknown n w' ∷ rest' = sym is ∙ is' in
    let heads : unknown n w ≡ unknown n w' = cc in
    let words : w ≡ w' = cc in
    let rests : rest ≡ rest' = cc in
    let h = counted_one (λ w. w) IsItself itself_one w w' b1 c1 k k' words in
    let o = unknown_one (suc n) s t rest b2 c2 (omega arith) r (subst (λ us. SpellsUnknown (StrictCounted IsItself) (suc n) t us c2) (sym rests) r') in
    (ap (λ s. true ∷ s) o.0, e ∙ ap₂ (λ x y. x ++ y) h.1 o.1 ∙ sym e')

-- where there are no unknown additions their bits are 0
none_unknown : (n : ℕ) (s : List Bool) (us : List Unknown) (b : List ℕ) → us ≡ [] → SpellsUnknown (StrictCounted IsItself) n s us b → all_false s ≡ true
none_unknown n [] us b none p = refl
none_unknown n (true ∷ s) us b none (w, rest, b1, b2, is, e, k, r) = absurd (cc)
none_unknown n (false ∷ s) us b none p = none_unknown (suc n) s us b none p

zeros_both : (s z : List Bool) → all_false s ≡ true → all_false z ≡ true → all_false (s ++ z) ≡ true
zeros_both [] z e f = f
zeros_both (true ∷ s) z e f = absurd (cc)
zeros_both (false ∷ s) z e f = zeros_both s z e f

some_set : (c : Bool) → (c ≡ true → ⊥) → c ≡ false
some_set true f = absurd (f refl)
some_set false f = refl

extension_some : (more : Additions) (s z : List Bool) (ps : Places) (us : List Unknown) (a u : List ℕ) → length s ≡ addition_count more → all_false (s ++ z) ≡ false → SpellsAdditionsStrictly more s ps a → SpellsUnknown (StrictCounted IsItself) (addition_count more) z us u
    → filled_additions more ps ≡ filled_additions more (all_absent more) → us ≡ [] → ⊥
extension_some more s z ps us a u i some x r same none =
    let set : all_false s ≡ false = some_set (all_false s) (λ e. true_false (sym (zeros_both s z e (none_unknown (addition_count more) z us u none r)) ∙ some)) in
    some_present more s ps a i set x same
  where
    true_false : true ≡ false → ⊥
    true_false e = cc

extension_one : (x y : Bool) (more : Additions) → AreOne (filled_additions more) (addition_count more) (SpellsAdditionsStrictly more) → (ps qs : Places) (us vs : List Unknown) (b c : List ℕ)
    → StrictExtension x more (SpellsAdditionsStrictly more) ps us b → StrictExtension y more (SpellsAdditionsStrictly more) qs vs c → filled_additions more ps ≡ filled_additions more qs → us ≡ vs → (x ≡ y) × (ps ≡ qs) × (b ≡ c)
extension_one false false more one ps qs us vs b c (is, none, e) (is', none', e') same others = (refl, is ∙ sym is', e ∙ sym e')
extension_one true true more one ps qs us vs b c (s, z, m, a, u, e, k, i, len, some, low, x, r) (t, y, m', a', u', e', k', j, len', some', low', x', r') same others =
    let o = one s t ps qs a a' i j x x' same in
    let sizes : max (addition_count more) (after_last us) ≡ max (addition_count more) (after_last vs) = ap (λ us. max (addition_count more) (after_last us)) others in
    let n : length z ≡ length y = omega (arith, length-append s z, length-append t y, len ∙ sizes ∙ sym len') in
    let q = unknown_one (addition_count more) z y us u u' n r (subst (λ us. SpellsUnknown (StrictCounted IsItself) (addition_count more) y us u') (sym others) r') in
    let h = counted_one (λ s. s) StrictBits bits_are_one (s ++ z) (t ++ y) m m' k.1 k'.1 (ap₂ (λ x y. x ++ y) o.0 q.0) in
    (refl, o.1, e ∙ ap₂ (λ x y. x ++ y) h.1 (ap₂ (λ x y. x ++ y) o.2 q.1) ∙ sym e')
extension_one true false more one ps qs us vs b c (s, z, m, a, u, e, k, i, len, some, low, x, r) (is', none, e') same others =
    absurd (extension_some more s z ps us a u i some x r (same ∙ ap (filled_additions more) is') (others ∙ none))
extension_one false true more one ps qs us vs b c (is', none, e') (s, z, m, a, u, e, k, i, len, some, low, x, r) same others =
    absurd (extension_some more s z qs vs a u i some x r (sym same ∙ ap (filled_additions more) is') (sym others ∙ none))

extensible_one : (k : ℕ) (g : Places → Places) (Rest : List Bool → Places → List ℕ → Type 0) (more : Additions) → AreOne g k Rest → AreOne (filled_additions more) (addition_count more) (SpellsAdditionsStrictly more)
    → IsOne (map_sequence g (filled_additions more)) (λ v b. (root : Places) × (added : Places) × (us : List Unknown) × (x : Bool) × (s : List Bool) × (p : List ℕ) × (r : List ℕ) × (e : List ℕ)
    × (v ≡ seq root added us) × (b ≡ p ++ (r ++ e)) × (length s ≡ k) × StrictPreamble (x ∷ s) p × Rest s root r × StrictExtension x more (SpellsAdditionsStrictly more) added us e)
extensible_one k g Rest more one adds v w b c (root, added, us, x, s, p, r, a, is, e, i, pre, f, ext) (root', added', us', x', s', p', r', a', is', e', i', pre', f', ext') same =
    let both : seq (g root) (filled_additions more added) us ≡ seq (g root') (filled_additions more added') us' = sym (ap (map_sequence g (filled_additions more)) is) ∙ same ∙ ap (map_sequence g (filled_additions more)) is' in
    let others : us ≡ us' = cc in
    let o = one s s' root root' r r' i i' f f' (cc) in
    let h = extension_one x x' more adds added added' us us' a a' ext ext' (cc) others in
    let bits : x ∷ s ≡ x' ∷ s' = ap₂ (λ x s. x ∷ s) h.0 o.0 in
    let j : p ≡ p' = preamble_one (x ∷ s) p p' pre (subst (λ s. StrictPreamble s p') (sym bits) pre') in
    (is ∙ ap₂ (λ a b. seq a b us) o.1 h.1 ∙ ap (seq root' added') others ∙ sym is', e ∙ ap₂ (λ x y. x ++ y) j (ap₂ (λ x y. x ++ y) o.2 h.2) ∙ sym e')

items_one : (size : Size) (f : AsnValue → AsnValue) (S : AsnValue → List ℕ → Type 0) → IsOne f S
    → IsOne (map_items f) (λ v b. (vs : List AsnValue) × (q : List ℕ) × (es : List ℕ) × (v ≡ items (listed vs)) × (b ≡ q ++ es) × StrictQuantity (length vs) q × (size_fits size (length vs) ≡ true) × IsJoined S vs es)
items_one size f S one v w b c (vs, q, es, is, e, k, fits, x) (ws, p, ds, is', e', k', fits', y) same =
    let both : items (map_values f (listed vs)) ≡ items (map_values f (listed ws)) = sym (ap (map_items f) is) ∙ same ∙ ap (map_items f) is' in
    let o = every_one f S one vs ws es ds x y (cc) in
    let h : q ≡ p = quantity_one (length vs) q p k (subst (λ n. StrictQuantity n p) (ap length (sym o.0)) k') in
    (is ∙ ap (λ vs. items (listed vs)) o.0 ∙ sym is', e ∙ ap₂ (λ x y. x ++ y) h o.1 ∙ sym e')

choice_one : (extensible : Bool) (more : Alternatives) (f : Tag → AsnValue → AsnValue) (S : Tag → AsnValue → List ℕ → Type 0) → ((t : Tag) → IsOne (f t) (S t))
    → IsOne (map_chosen f) (λ v b. (t : Tag) × (p : List ℕ) × (c : List ℕ) × (b ≡ p ++ c) × IsTag t p × StrictChosen extensible more (S t) t v c)
choice_one extensible more f S one v w b c (t, p, d, e, tag, inl (x, is, k)) (t', p', d', e', tag', inl (x', is', k')) same =
    let both : chosen t (f t x) ≡ chosen t' (f t' x') = sym (ap (map_chosen f) is) ∙ same ∙ ap (map_chosen f) is' in
    let tags : t ≡ t' = cc in
    let o = one t x x' d d' k (subst (λ t. S t x' d') (sym tags) k') (inner t t' x x' tags both) in
    let h : p ≡ p' = tag_one t p p' tag (subst (λ t. IsTag t p') (sym tags) tag') in
    (is ∙ ap₂ chosen tags o.0 ∙ sym is', e ∙ ap₂ (λ x y. x ++ y) h o.1 ∙ sym e')
  where
    inner : (t t' : Tag) (x x' : AsnValue) → t ≡ t' → chosen t (f t x) ≡ chosen t' (f t' x') → f t x ≡ f t x'
    inner t t' x x' e same = cc
choice_one extensible more f S one v w b c (t, p, d, e, tag, inl (x, is, k)) (t', p', d', e', tag', inr (x', is', o', none', k')) same =
    absurd (apart (f t x) (sym (ap (map_chosen f) is) ∙ same ∙ ap (map_chosen f) is'))
  where
    apart : (y : AsnValue) → chosen t y ≡ foreign t' x' → ⊥
    apart y e = cc
choice_one extensible more f S one v w b c (t, p, d, e, tag, inr (x, is, o, none, k)) (t', p', d', e', tag', inl (x', is', k')) same =
    absurd (apart (f t' x') (sym (ap (map_chosen f) is) ∙ same ∙ ap (map_chosen f) is'))
  where
    apart : (y : AsnValue) → foreign t x ≡ chosen t' y → ⊥
    apart y e = cc
choice_one extensible more f S one v w b c (t, p, d, e, tag, inr (x, is, o, none, k)) (t', p', d', e', tag', inr (x', is', o', none', k')) same =
    let both : foreign t x ≡ foreign t' x' = sym (ap (map_chosen f) is) ∙ same ∙ ap (map_chosen f) is' in
    let tags : t ≡ t' = cc in
    let words : x ≡ x' = cc in
    let h : p ≡ p' = tag_one t p p' tag (subst (λ t. IsTag t p') (sym tags) tag') in
    let q = counted_one (λ w. w) IsItself itself_one x x' d d' k k' words in
    (is ∙ both ∙ sym is', e ∙ ap₂ (λ x y. x ++ y) h q.1 ∙ sym e')

leaf_one : (kind : LeafType) → IsOne (λ v. v) (IsStrictLeafSpelling kind)
leaf_one kind.boolean v w b c s t same = boolean_one v w b c s t same
leaf_one kind.null v w b c s t same = (same, s.1 ∙ sym t.1)
leaf_one (kind.integer low high) v w b c s t same = (same, integer_one low high v b c s (subst (λ w. IsLeastSpelling (integer low high) w c) (sym same) t))
leaf_one (kind.enumerated numbers extensible) v w b c s t same = (same, enumerated_one numbers extensible v b c s (subst (λ w. IsLeastSpelling (enumerated numbers extensible) w c) (sym same) t))
leaf_one (kind.bit_string size) v w b c (s, is, x) (t, is', y) same =
    let both : bit_list s ≡ bit_list t = sym is ∙ same ∙ is' in
    let h : s ≡ t = cc in
    (same, bit_string_one (fixed size) size s b c x (subst (λ s. StrictBitString (fixed size) size s c) (sym h) y))
leaf_one (kind.content inner) v w b c s t same = (same, content_plain inner v b s ∙ ap (leaf_octets (kind.content inner)) same ∙ sym (content_plain inner w c t))

mutual
  value_one : (T : AsnType) → IsOne (filled T) (IsStrictSpelling T)
  value_one (leaf kind) v w b c s t same = leaf_one kind v w b c s t same
  value_one (sequence fs) v w b c s t same = sequence_one (optional fs) (filled_fields fs) (SpellsFieldsStrictly fs) (fields_one fs) v w b c s t same
  value_one (extensible_sequence fs more) v w b c s t same = extensible_one (optional fs) (filled_fields fs) (SpellsFieldsStrictly fs) more (fields_one fs) (adds_one more) v w b c s t same
  value_one (sequence_of size T) v w b c s t same = items_one size (filled T) (IsStrictSpelling T) (value_one T) v w b c s t same
  value_one (choice extensible more) v w b c s t same = choice_one extensible more (filled_alternative more) (SpellsAlternativeStrictly more) (alts_one more) v w b c s t same

  fields_one : (fs : Fields) → AreOne (filled_fields fs) (optional fs) (SpellsFieldsStrictly fs)
  fields_one no_fields s t ps qs b c i j (is, e) (is', e') same = (nil_one s t i j, same, e ∙ sym e')
  fields_one (field name need T fs) s t ps qs b c i j p q same = need_one (filled T) (filled_fields fs) (SpellsFieldsStrictly fs) (optional fs) (fields_one fs) need (IsStrictSpelling T) (value_one T) s t ps qs b c i j p q same

  adds_one : (more : Additions) → AreOne (filled_additions more) (addition_count more) (SpellsAdditionsStrictly more)
  adds_one no_additions s t ps qs b c i j (is, e) (is', e') same = (nil_one s t i j, same, e ∙ sym e')
  adds_one (addition name T more) s t ps qs b c i j p q same = need_one (filled T) (filled_additions more) (SpellsAdditionsStrictly more) (addition_count more) (adds_one more) may (StrictCounted (IsStrictSpelling T)) (counted_one (filled T) (IsStrictSpelling T) (value_one T)) s t ps qs b c i j p q same

  alts_one : (more : Alternatives) (t : Tag) → IsOne (filled_alternative more t) (SpellsAlternativeStrictly more t)
  alts_one no_alternatives t v w b c s s' same = absurd s
  alts_one (alternative name u T more) t v w b c s s' same = by_tag_one (same_tag u t) (filled T) (filled_alternative more t) (IsStrictSpelling T) (SpellsAlternativeStrictly more t) (value_one T) (alts_one more t) v w b c s s' same
  alts_one (later name u T more) t v w b c s s' same = by_tag_one (same_tag u t) (filled T) (filled_alternative more t) (StrictCounted (IsStrictSpelling T)) (SpellsAlternativeStrictly more t) (counted_one (filled T) (IsStrictSpelling T) (value_one T)) (alts_one more t) v w b c s s' same

-- A value has one list of canonical octets, and values with the same fill have the same.
pub canon_one : (T : AsnType) (v : AsnValue) (b c : List ℕ) → IsCanonical T v b → IsCanonical T v c → b ≡ c
canon_one T v b c (g, w, e, (o, h, s)) (g', x, f, (o', h', t)) = (value_one T w x b c s t (e ∙ sym f)).1
