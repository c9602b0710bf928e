-- The laws of units.
use Rattle.std.proofs.Common.{◌≡◌, ℕ, ◌+◌, ◌*◌, ◌%◌, ◌^◌, ◌≤◌, inl, inr, Bool, true, false, leb, ℤ, pos, negsuc, List, [], ◌∷◌, ◌++◌, length, refl, sym, ap, ap₂, ◌∙◌, subst, arith, append-nil, length-append, le-leb, leb-true, leb-false}
use Rattle.std.proofs.lemmas.Int.{ints}
use Rattle.oer_units.specs.declared.fault.Why.{Why}
use Rattle.oer_units.specs.declared.fault.Why.TheVariants.{End, Limit}
use Rattle.oer_units.specs.declared.tagging.Tag.{Tag}
use Rattle.oer_units.specs.Octets.{IsOctets}
use Rattle.oer_units.specs.Numbers.{unsigned, signed}
use Rattle.oer_units.specs.Spelling.{IsLength, IsCounted, StandsFor, IsEnumerated, IsDigits, IsBase128, IsTag}
use Rattle.oer_units.specs.Least.{length_octets, counted, unsigned_octets, signed_octets, enumerated_octets, base128_octets, tag_octets}
use Rattle.oer_units.specs.Lawful.{SpokenOf, Lawful}
use Rattle.oer_units.specs.Reader.{Place, at, Outcome, got, refused, Reader, give, bind, then_read, bounded, within}
use Rattle.oer_units.specs.Reading.{determinant, with_length, counted_length, counted_number, subidentifier}
use Rattle.oer_units.specs.Laws.{NoneBeginsAnother, EachSpellsOne, HasOneShortest, IsUnsignedCounted, IsSignedCounted, Is127Octets, Is128Bits, Is64Bits, HasTagNumber, ReadsLengths, IsSubidentifierRead}
use Rattle.oer_units.proofs.Spelling as s
use Rattle.oer_units.proofs.Closure.{is_one, same_spellings, same_rests, same_whys}
use Rattle.oer_units.proofs.Lengths.{determinant_lawful}
use Rattle.oer_units.proofs.Counted.{counted_number_lawful}
use Rattle.oer_units.proofs.TagReaders.{tag_lawful, class_below}
use Rattle.oer_units.proofs.ObjectIds.{Sub, subidentifier_lawful}
use Rattle.oer_units.proofs.Digits.{base128_one, tag_one}
use Rattle.oer_units.proofs.LeastDigits.{base128_exists, base128_octet, tag_exists}
use Rattle.oer_units.proofs.Enums.{enum_only}
use Rattle.oer_units.proofs.Numbers.{needed_least, sole_unsigned, sole_signed, length-unsigned_octets}
use Rattle.oer_units.proofs.Leasts.{shortest_from, len_only, len_exists, number_exists, number_only, quantity_only, quantity_to, quantity_from, signed_to, signed_from, signed_few, few_octets, enum_to, enum_from, enum_exists, IsQuantity}

-- ---- one begins the other

-- one begins the other only where they are one
pub Alone : {A : Type 0} → (A → List ℕ → Type 0) → Type 0
Alone {A} S = (x y : A) (b c rest : List ℕ) → S x b → S y c → c ≡ b ++ rest → (x ≡ y) × (rest ≡ [])

pub lawful_alone : {A : Type 0} {r : Reader A} {S : A → List ℕ → Type 0} → Lawful r S → Alone S
unfolding Alone
lawful_alone l x y b c rest s t e =
    let one = is_one l x y b c rest [] s t (sym e ∙ sym (append-nil c)) in
    (one.0, one.2)

pub alone_begins : {A : Type 0} (S : A → List ℕ → Type 0) → Alone S → NoneBeginsAnother S
unfolding Alone
alone_begins S a x y b c rest s t e = (a x y b c rest s t e).1

pub alone_spells : {A : Type 0} (S : A → List ℕ → Type 0) → Alone S → EachSpellsOne S
unfolding Alone
alone_spells S a x y b s t = (a x y b b [] s t (sym (append-nil b))).0

pub lengths_alone : Alone IsLength
lengths_alone = lawful_alone determinant_lawful

any_number : {A : Type 0} (f : List ℕ → A) → Lawful (counted_number f (λ z. true)) (IsCounted (StandsFor f))
any_number f = same_spellings (counted_number_lawful f (λ z. true))
    (λ z b (l, c, e, len, (some, is, ok)). (l, c, e, len, (some, is)))
    (λ z b (l, c, e, len, (some, is)). (l, c, e, len, (some, is, refl)))

pub unsigned_alone : Alone IsUnsignedCounted
unsigned_alone = lawful_alone (any_number unsigned)

pub signed_alone : Alone IsSignedCounted
signed_alone = lawful_alone (any_number signed)

pub tags_alone : Alone IsTag
tags_alone = lawful_alone tag_lawful

first_same : (x y : ℕ) (v w : List ℕ) → x ∷ v ≡ y ∷ w → (x ≡ y) × (v ≡ w)
first_same x y v w e = (cc, cc)

no_more : (w v rest : List ℕ) → v ≡ w ++ rest → length v ≡ length w → (w ≡ v) × (rest ≡ [])
no_more w v [] e l = (sym (e ∙ append-nil w), refl)
no_more w v (x ∷ rest) e l = absurd (omega (arith, ap length e, length-append w (x ∷ rest)))

pub enumerations_alone : Alone IsEnumerated
unfolding Alone
enumerations_alone z y b c rest (inl (x, e, l, is)) (inl (x', e', l', is')) f =
    let heads = first_same x' x [] rest (sym e' ∙ f ∙ ap (λ w. w ++ rest) e) in
    (is ∙ ap pos (sym heads.0) ∙ sym is', sym heads.1)
enumerations_alone z y b c rest (inl (x, e, l, is)) (inr (k, w, e', low, high, many, is')) f =
    let heads = first_same (128 + k) x w rest (sym e' ∙ f ∙ ap (λ w. w ++ rest) e) in
    absurd (let h = heads.0 in omega arith)
enumerations_alone z y b c rest (inr (k, w, e, low, high, many, is)) (inl (x, e', l, is')) f =
    let heads = first_same x (128 + k) [] (w ++ rest) (sym e' ∙ f ∙ ap (λ w. w ++ rest) e) in
    absurd (let h = heads.0 in omega arith)
enumerations_alone z y b c rest (inr (k, w, e, low, high, many, is)) (inr (k', w', e', low', high', many', is')) f =
    let heads = first_same (128 + k') (128 + k) w' (w ++ rest) (sym e' ∙ f ∙ ap (λ w. w ++ rest) e) in
    let tails = no_more w w' rest heads.1 (let h = heads.0 in omega arith) in
    (sym is ∙ ap signed tails.0 ∙ is', tails.1)

digits_alone : (g h n m : ℕ) (b c rest : List ℕ) → g ≡ h → IsDigits g n b → IsDigits h m c → c ≡ b ++ rest → (n ≡ m) × (rest ≡ [])
digits_alone g h n m [] c rest same d d' f = absurd d
digits_alone g h n m (x ∷ []) [] rest same d d' f = absurd d'
digits_alone g h n m (x ∷ []) (y ∷ []) rest same (l, e) (l', e') f =
    let heads = first_same y x [] rest f in
    (e ∙ ap₂ (λ i j. i * 128 + j) same (sym heads.0) ∙ sym e', sym heads.1)
digits_alone g h n m (x ∷ []) (y ∷ z ∷ c) rest same (l, e) (l', most, r) f =
    let heads = first_same y x (z ∷ c) rest f in
    absurd (let i = heads.0 in omega arith)
digits_alone g h n m (x ∷ x' ∷ b) [] rest same d d' f = absurd d'
digits_alone g h n m (x ∷ x' ∷ b) (y ∷ []) rest same (l, most, r) (l', e') f =
    let heads = first_same y x [] ((x' ∷ b) ++ rest) f in
    absurd (let i = heads.0 in omega arith)
digits_alone g h n m (x ∷ x' ∷ b) (y ∷ z ∷ c) rest same (l, most, d) (l', most', d') f =
    let heads = first_same y x (z ∷ c) ((x' ∷ b) ++ rest) f in
    digits_alone (g * 128 + x % 128) (h * 128 + y % 128) n m (x' ∷ b) (z ∷ c) rest (ap₂ (λ i j. i * 128 + j % 128) same (sym heads.0)) d d' heads.1

pub base128_alone : Alone IsBase128
unfolding Alone
base128_alone n m [] c rest s t f = absurd s
base128_alone n m (x ∷ b) [] rest s t f = absurd t
base128_alone n m (x ∷ b) (y ∷ c) rest s t f = digits_alone 0 0 n m (x ∷ b) (y ∷ c) rest refl s.1 t.1 f

-- ---- one shortest list

pub shortest_lengths : HasOneShortest IsLength Is127Octets length_octets
shortest_lengths n h = (len_exists n (needed_least 127 n (omega arith) h), len_only n)

pub shortest_unsigned : HasOneShortest IsUnsignedCounted Is127Octets (λ n. counted (unsigned_octets n))
shortest_unsigned n h =
    let few = needed_least 127 n (omega arith) h in (
      number_exists IsQuantity n (λ w. s.unsigned w ≡ n) (quantity_to n) (quantity_from n) (unsigned_octets n) (sole_unsigned n)
          (few_octets (length (unsigned_octets n)) (subst (λ k. k ≤ 127) (sym (length-unsigned_octets n)) few)),
      quantity_only n,
    )

bits_128 : (z : ℤ) → Is128Bits z → s.Within (2 ^ 128) z
bits_128 (pos n) h = omega (arith, ints)
bits_128 (negsuc n) h = omega (arith, ints)

bits_64 : (z : ℤ) → Is64Bits z → s.Within (2 ^ 64) z
bits_64 (pos n) h = omega (arith, ints)
bits_64 (negsuc n) h = omega (arith, ints)

pub shortest_signed : HasOneShortest IsSignedCounted Is128Bits (λ z. counted (signed_octets z))
shortest_signed z h =
    let few = signed_few 16 z (bits_128 z h) (omega arith) in (
      number_exists (StandsFor signed) z (λ w. s.signed w ≡ z) (signed_to z) (signed_from z) (signed_octets z) (sole_signed z) (few_octets (length (signed_octets z)) (omega arith)),
      number_only (StandsFor signed) z (λ w. s.signed w ≡ z) (signed_to z) (signed_from z) (signed_octets z) (sole_signed z),
    )

pub shortest_enumerations : HasOneShortest IsEnumerated Is64Bits enumerated_octets
shortest_enumerations z h = (
  enum_exists z (bits_64 z h),
  λ b short. enum_only z b (shortest_from (IsEnumerated z) (s.EnumForm z) b (enum_to z b) (enum_from z) short),
)

pub shortest_base128 : HasOneShortest IsBase128 (λ n. Unit {0}) base128_octets
shortest_base128 n h =
    let is = base128_exists n in
    ((base128_octet n (base128_octets n) is, is, λ c o t. (let e = base128_one n (base128_octets n) c is t in omega (arith, ap length e))), λ b short. base128_one n b (base128_octets n) short.1 is)

tag_octet : (t : Tag) (b : List ℕ) → IsTag t b → IsOctets b
tag_octet t b (inl (e, l)) = subst IsOctets (sym e) (let c = class_below t.class in omega arith, tt)
tag_octet t b (inr (w, e, l, m, d)) = subst IsOctets (sym e) (let c = class_below t.class in omega arith, base128_octet t.number w d)

pub shortest_tags : HasOneShortest IsTag HasTagNumber tag_octets
shortest_tags t h =
    let is = tag_exists t h in
    ((tag_octet t (tag_octets t) is, is, λ c o u. (let e = tag_one t (tag_octets t) c is u in omega (arith, ap length e))), λ b short. tag_one t b (tag_octets t) short.1 is)

-- ---- lengths, with what they count

spoken : (why : Why) (n : ℕ) (b v : List ℕ) → (why ≡ End → v ≡ []) → (why ≡ Limit → length b ≤ n) → SpokenOf why n b v
spoken End n b v f g = f refl
spoken Limit n b v f g = g refl
spoken _ n b v f g = tt

counted_length_is : (p : Place) → counted_length p ≡ then_read (λ n. within n (give n)) (determinant p)
unfolding counted_length with_length bind
counted_length_is p = refl

within_is : (n : ℕ) (q : Place) (c : Bool) → leb n q.left ≡ c → within n (give n) q ≡ bounded c (give n) q
unfolding within
within_is n q c e = ap (λ c. bounded c (give n) q) e

lengths_complete : (n : ℕ) (b rest : List ℕ) (m : ℕ) → IsLength n b → n ≤ m → counted_length (at (b ++ rest) (length b + m)) ≡ got n (at rest m)
unfolding give
lengths_complete n b rest m s h =
    counted_length_is (at (b ++ rest) (length b + m))
    ∙ ap (then_read (λ n. within n (give n))) (determinant_lawful.complete n b rest m s)
    ∙ within_is n (at rest m) true (le-leb n m h)

Found : Place → ℕ → Place → Type 0
Found p n q = (b : List ℕ) × IsLength n b × (p.input ≡ b ++ q.input) × (p.left ≡ length b + q.left) × (n ≤ q.left)

lengths_sound_at : (p : Place) (n : ℕ) (q : Place) (o : Outcome ℕ) → determinant p ≡ o → then_read (λ n. within n (give n)) o ≡ got n q → Found p n q
unfolding Found give
lengths_sound_at p n q (refused why rest) e f = absurd (cc)
lengths_sound_at p n q (got k q1) e f = by (leb k q1.left) refl
  where
    by : (c : Bool) → leb k q1.left ≡ c → Found p n q
    by true fits =
        let is : got k q1 ≡ got n q = sym (within_is k q1 true fits) ∙ f in
        let value : k ≡ n = cc in
        let place : q1 ≡ q = cc in
        let d = determinant_lawful.sound p k q1 e in
        (d.0, subst (λ i. IsLength i d.0) value d.1, d.2 ∙ ap (λ (r : Place). d.0 ++ r.input) place, d.3 ∙ ap (λ (r : Place). length d.0 + r.left) place, omega (arith, leb-true k q1.left fits, value, ap (λ (r : Place). r.left) place))
    by false over = let is : refused Limit q1.input ≡ got n q = sym (within_is k q1 false over) ∙ f in absurd (cc)

Declined : Place → Why → List ℕ → Type 0
Declined p why rest = (t : List ℕ) × (p.input ≡ t ++ rest) × (length t ≤ p.left)
    × ((n : ℕ) (b u v : List ℕ) → IsLength n b → b ++ u ≡ t ++ v → (why ≡ End → v ≡ []) → (why ≡ Limit → length b + n ≤ p.left) → ⊥)
    × (why ≡ End → rest ≡ [])

lengths_refusal_at : (p : Place) (why : Why) (rest : List ℕ) (o : Outcome ℕ) → determinant p ≡ o → then_read (λ n. within n (give n)) o ≡ refused why rest → Declined p why rest
unfolding Declined give
lengths_refusal_at p why rest (refused w r1) e f =
    let d = determinant_lawful.refusal p why rest (e ∙ f) in
    (d.0, d.1, d.2, (λ n b u v s g end limit. d.3 n b u v s g (spoken why p.left b v end (λ i. (let l = limit i in omega arith)))), d.4)
lengths_refusal_at p why rest (got k q1) e f = by (leb k q1.left) refl
  where
    by : (c : Bool) → leb k q1.left ≡ c → Declined p why rest
    by true fits = let is : got k q1 ≡ refused why rest = sym (within_is k q1 true fits) ∙ f in absurd (cc)
    by false over =
        let is : refused Limit q1.input ≡ refused why rest = sym (within_is k q1 false over) ∙ f in
        let d = determinant_lawful.sound p k q1 e in
        let tail : q1.input ≡ rest = same_rests ℕ q1.input rest Limit why is in
        let named : Limit ≡ why = same_whys ℕ q1.input rest Limit why is in (
          d.0,
          d.2 ∙ ap (λ w. d.0 ++ w) tail,
          (let l = d.3 in omega arith),
          (λ n b u v s g end limit.
              (let one = is_one determinant_lawful n k b d.0 u v s d.1 g in
              let l = limit (sym named) in
              let m = d.3 in
              omega (arith, leb-false k q1.left over, one.0, ap length one.1))),
          (λ end. absurd (let i : Limit ≡ End = named ∙ end in cc)),
        )

pub lengths_are_read : ReadsLengths
unfolding Found Declined
lengths_are_read = record {
  sound = λ p n q e. (lengths_sound_at p n q (determinant p) refl (sym (counted_length_is p) ∙ e));
  complete = lengths_complete;
  refusal = λ p why rest e. (lengths_refusal_at p why rest (determinant p) refl (sym (counted_length_is p) ∙ e));
}

pub subidentifiers_are_read : (k : ℕ) → Lawful (subidentifier k) (IsSubidentifierRead k)
unfolding Sub
subidentifiers_are_read k = subidentifier_lawful k
