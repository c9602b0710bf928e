-- The least forms of a type's numbers and strings.
use Rattle.std.proofs.Common.{◌≡◌, ℕ, suc, ◌-◌, ◌^◌, ◌≤◌, ℤ, pos, negsuc, List, ◌++◌, length, refl, ap, ap₂, ◌∙◌, subst, arith, length-append}
use Rattle.oer_units.specs.Least.{big_endian, octets_needed, unsigned_octets, signed_octets, length_octets, counted}
use Rattle.oer_units.specs.Numbers.{signed, natural}
use Rattle.oer_units.specs.Octets.{IsOctets, IsShortest}
use Rattle.oer_units.specs.Spelling.{IsLength, IsCounted, StandsFor}
use Rattle.oer_units.proofs.Leasts.{octets_from, unsigned_is, signed_is, len_only, len_exists, len_small, number_exists, few_octets, natural_to, natural_from, signed_to, signed_from, signed_few, fixed_shortest}
use Rattle.oer_units.proofs.Numbers.{length-big_endian, octets-big_endian, unsigned-big_endian, needed_least, sole_unsigned, sole_signed, signed_pos_is, signed_negsuc_is, length-unsigned_octets}
use Rattle.oer_units.proofs.OneSpelling.{octets_split, octets_join}
use Rattle.oer_model.proofs.fitting.Forms.{FitsForm}
use Rattle.oer_model.specs.Canonical.{integer_octets}
use Rattle.oer_model.specs.Constraints.{Form, unsigned_fixed, signed_fixed, unsigned_counted, signed_counted}
use Rattle.oer_model.specs.Encoding.{SpellsInteger}
use Rattle.oer_model.specs.Strict.{StrictCounted}
use Rattle.oer_units.proofs.Spelling as s

-- a length and the one content
module _ {A : Type 0} (S : A → List ℕ → Type 0) (x : A) (d : List ℕ) (only : (c : List ℕ) → S x c → c ≡ d) where
  pub strict_counted_only : (b : List ℕ) → StrictCounted S x b → b ≡ counted d
  strict_counted_only b (l, c, e, short, r) =
      let is = only c r in
      e ∙ ap₂ (λ x y. x ++ y) (len_only (length c) l short ∙ ap (λ c. length_octets (length c)) is) is

  pub word_exists : IsOctets d → S x d → octets_needed (length d) ≤ 127 → IsShortest (IsCounted S x) (counted d)
  word_exists o r h =
      let short = len_exists (length d) h in
      (octets_join (length_octets (length d)) d short.0 o, (length_octets (length d), d, refl, short.1, r), least short)
    where
      least : IsShortest (IsLength (length d)) (length_octets (length d)) → (c : List ℕ) → IsOctets c → IsCounted S x c → length (counted d) ≤ length c
      least (o', len, short) c oc (l, w, e, len', r') =
          let is = only w r' in
          let parts = octets_split l w (subst IsOctets e oc) in
          let i = short l parts.0 (subst (λ w. IsLength (length w) l) is len') in
          omega (arith, ap length e, length-append l w, length-append (length_octets (length d)) d, ap length is)

  pub word_only : (b : List ℕ) → IsShortest (IsCounted S x) b → b ≡ counted d
  word_only b (o, (l, c, e, len, r), least) =
      let is = only c r in
      let parts = octets_split l c (subst IsOctets e o) in
      let h : octets_needed (length d) ≤ 127 = subst (λ c. octets_needed (length c) ≤ 127) is (len_small (length c) l parts.0 len) in
      let found = word_exists (subst IsOctets is parts.1) (subst (S x) is r) h in
      let short : length b ≤ length (counted d) = least (counted d) found.0 found.1 in
      let lens : length l ≤ length (length_octets (length d)) = omega (arith, ap length e, length-append l c, length-append (length_octets (length d)) d, ap length is) in
      let one = len_only (length d) l (parts.0, subst (λ c. IsLength (length c) l) is len, λ m om k. (let i = (len_exists (length d) h).2 m om k in omega arith)) in
      e ∙ ap₂ (λ x y. x ++ y) one is

pub strict_counted_exists : {A : Type 0} (S : A → List ℕ → Type 0) (x : A) (d : List ℕ) → S x d → octets_needed (length d) ≤ 127 → StrictCounted S x (counted d)
strict_counted_exists S x d r h = (length_octets (length d), d, refl, len_exists (length d) h, r)

pub integer_exists : (f : Form) (z : ℤ) → FitsForm f z → IsShortest (SpellsInteger f z) (integer_octets f z)
integer_exists (unsigned_fixed k) (pos m) (n, e, h) =
    let same : m ≡ n = cc in
    fixed_shortest (λ c. natural c ≡ pos m) k (big_endian k m) (octets_from _ (octets-big_endian k m)) (length-big_endian k m) (ap pos (unsigned_is (big_endian k m) ∙ unsigned-big_endian k m (omega arith)))
integer_exists (unsigned_fixed k) (negsuc m) (n, e, h) = absurd (cc)
integer_exists (signed_fixed k) (pos n) (some, h) =
    let l = length-big_endian k n in
    fixed_shortest (λ c. signed c ≡ pos n) k (big_endian k n) (octets_from _ (octets-big_endian k n)) l
    (signed_is (big_endian k n) (omega arith) ∙ signed_pos_is n (big_endian k n) (omega arith) (octets-big_endian k n) (unsigned-big_endian k n (omega arith)) (omega (arith, ap (λ j. 256 ^ j) l)))
integer_exists (signed_fixed k) (negsuc m) (some, h) =
    let u : ℕ = 256 ^ k - suc m in
    let room : suc m ≤ 256 ^ k = omega arith in
    let l = length-big_endian k u in
    let stands : s.unsigned (big_endian k u) ≡ u = unsigned-big_endian k u (omega arith) in
    let power = ap (λ j. 256 ^ j) l in
    fixed_shortest (λ c. signed c ≡ negsuc m) k (big_endian k u) (octets_from _ (octets-big_endian k u)) l
    (signed_is (big_endian k u) (omega arith) ∙ signed_negsuc_is m (big_endian k u) (omega arith) (octets-big_endian k u) (omega arith) (omega arith))
integer_exists unsigned_counted (pos m) (n, e, h) =
    let same : m ≡ n = cc in
    number_exists (StandsFor natural) (pos m) (λ w. s.unsigned w ≡ m) (natural_to m) (natural_from m) (unsigned_octets m) (sole_unsigned m)
    (few_octets (length (unsigned_octets m)) (omega (arith, length-unsigned_octets m, needed_least 16 m (omega arith) (omega arith))))
integer_exists unsigned_counted (negsuc m) (n, e, h) = absurd (cc)
integer_exists signed_counted z h =
    number_exists (StandsFor signed) z (λ w. s.signed w ≡ z) (signed_to z) (signed_from z) (signed_octets z) (sole_signed z)
    (few_octets (length (signed_octets z)) (let i = signed_few 16 z h (omega arith) in omega arith))
