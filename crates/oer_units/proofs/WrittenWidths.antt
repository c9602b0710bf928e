-- A number that fits a width has one list of that many octets.
use Rattle.std.proofs.Common.{◌≡◌, ℕ, suc, ◌-◌, ◌^◌, ◌≤◌, ℤ, pos, negsuc, List, length, sym, ap, ◌∙◌, arith}
use Rattle.std.proofs.lemmas.Int.{ints}
use Rattle.oer_units.specs.declared.width.Width.{Width}
use Rattle.oer_units.specs.declared.width.Width.TheVariants.{One, Two, Four, Eight}
use Rattle.oer_units.specs.Laws.{HasOneShortest, IsOfWidth}
use Rattle.oer_units.specs.Least.{big_endian, fixed_signed_octets}
use Rattle.oer_units.specs.Numbers.{unsigned, signed}
use Rattle.oer_units.specs.Octets.{IsOctets, IsShortest}
use Rattle.oer_units.specs.Width.{octets_of_width, FitsUnsignedWidth, FitsSignedWidth}
use Rattle.oer_units.proofs.Leasts.{octets_to, octets_from, unsigned_is, signed_is, fixed_shortest}
use Rattle.oer_units.proofs.Numbers.{length-big_endian, octets-big_endian, unsigned-big_endian, same_octets}
use Rattle.oer_units.proofs.Numbers.{signed_pos_is, signed_negsuc_is}
use Rattle.oer_units.proofs.OneSpelling.{signed_one}
use Rattle.oer_units.proofs.Spelling as s

-- octets of one length, of which no others stand for the same
sole_of_length : {A : Type 0} (f : List ℕ → A) (k : ℕ) (z : A) (w : List ℕ)
    → IsOctets w → length w ≡ k → f w ≡ z
    → ((b : List ℕ) → IsOctets b → length b ≡ k → f b ≡ z → b ≡ w)
    → IsShortest (λ c. (length c ≡ k) × (f c ≡ z)) w × ((b : List ℕ) → IsShortest (λ c. (length c ≡ k) × (f c ≡ z)) b → b ≡ w)
sole_of_length f k z w o l is one =
    (fixed_shortest (λ c. f c ≡ z) k w o l is, λ b (octets, (many, stands), least). one b octets many stands)

-- ---- from 0 on

pub shortest_unsigned_width : (width : Width)
    → HasOneShortest (IsOfWidth unsigned width) (FitsUnsignedWidth width) (λ n. big_endian (octets_of_width width) n)
shortest_unsigned_width width n fits =
    let k : ℕ = octets_of_width width in
    let w : List ℕ = big_endian k n in
    let stands : s.unsigned w ≡ n = unsigned-big_endian k n fits in
    let l : length w ≡ k = length-big_endian k n in
    let o : s.Octets w = octets-big_endian k n in
    sole_of_length unsigned k n w (octets_from w o) l (unsigned_is w ∙ stands)
    (λ b octets many is. same_octets b w (many ∙ sym l) (octets_to b octets) o (sym (unsigned_is b) ∙ is ∙ sym stands))

-- ---- in two's complement

width_some : (width : Width) → 1 ≤ octets_of_width width
width_some One = omega arith
width_some Two = omega arith
width_some Four = omega arith
width_some Eight = omega arith

fits_within : (width : Width) (z : ℤ) → FitsSignedWidth width z → s.Within (256 ^ octets_of_width width) z
fits_within One (pos n) h = let high = h.1 in omega (arith, ints)
fits_within Two (pos n) h = let high = h.1 in omega (arith, ints)
fits_within Four (pos n) h = let high = h.1 in omega (arith, ints)
fits_within Eight (pos n) h = let high = h.1 in omega (arith, ints)
fits_within One (negsuc m) h = let low = h.0 in omega (arith, ints)
fits_within Two (negsuc m) h = let low = h.0 in omega (arith, ints)
fits_within Four (negsuc m) h = let low = h.0 in omega (arith, ints)
fits_within Eight (negsuc m) h = let low = h.0 in omega (arith, ints)

length-fixed_signed : (k : ℕ) (z : ℤ) → length (fixed_signed_octets k z) ≡ k
length-fixed_signed k (pos n) = length-big_endian k n
length-fixed_signed k (negsuc m) = length-big_endian k (256 ^ k - suc m)

octets-fixed_signed : (k : ℕ) (z : ℤ) → s.Octets (fixed_signed_octets k z)
octets-fixed_signed k (pos n) = octets-big_endian k n
octets-fixed_signed k (negsuc m) = octets-big_endian k (256 ^ k - suc m)

signed-fixed_signed : (k : ℕ) (z : ℤ) → 1 ≤ k → s.Within (256 ^ k) z → signed (fixed_signed_octets k z) ≡ z
signed-fixed_signed k (pos n) some h =
    let w : List ℕ = big_endian k n in
    let l : length w ≡ k = length-big_endian k n in
    let power : 256 ^ length w ≡ 256 ^ k = ap (λ j. 256 ^ j) l in
    let any : 1 ≤ length w = omega arith in
    let stands : s.unsigned w ≡ n = unsigned-big_endian k n (omega arith) in
    signed_is w any ∙ signed_pos_is n w any (octets-big_endian k n) stands (omega arith)
signed-fixed_signed k (negsuc m) some h =
    let u : ℕ = 256 ^ k - suc m in
    let w : List ℕ = big_endian k u in
    let l : length w ≡ k = length-big_endian k u in
    let power : 256 ^ length w ≡ 256 ^ k = ap (λ j. 256 ^ j) l in
    let any : 1 ≤ length w = omega arith in
    let stands : s.unsigned w ≡ u = unsigned-big_endian k u (omega arith) in
    signed_is w any ∙ signed_negsuc_is m w any (octets-big_endian k u) (omega arith) (omega arith)

pub shortest_signed_width : (width : Width)
    → HasOneShortest (IsOfWidth signed width) (FitsSignedWidth width) (λ z. fixed_signed_octets (octets_of_width width) z)
shortest_signed_width width z fits =
    let k : ℕ = octets_of_width width in
    let w : List ℕ = fixed_signed_octets k z in
    let l : length w ≡ k = length-fixed_signed k z in
    let o : IsOctets w = octets_from w (octets-fixed_signed k z) in
    let stands : signed w ≡ z = signed-fixed_signed k z (width_some width) (fits_within width z fits) in
    sole_of_length signed k z w o l stands (λ b octets many is. signed_one b w octets o (many ∙ sym l) (is ∙ sym stands))
