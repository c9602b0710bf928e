-- The least forms in base 128: tags and object identifiers.
use Rattle.std.proofs.Common.{◌≡◌, ◌≢◌, ℕ, zero, suc, ◌+◌, ◌*◌, ◌/◌, ◌%◌, ◌^◌, ◌<◌, ◌≤◌, inl, inr, ⊎_elim, Bool, true, false, cond, eqb, if◌then◌else◌, List, [], ◌∷◌, ◌++◌, refl, sym, ap, ap₂, ◌∙◌, subst, arith, append_assoc, eqb-true}
use Rattle.std.proofs.lemmas.Bool.{lt-ltb, le-ltb, cases_lt}
use Rattle.oer_units.specs.Least.{upper_digits, base128_octets, tag_octets, subidentifier_octets, object_id_octets}
use Rattle.oer_units.specs.Octets.{IsOctets}
use Rattle.oer_units.specs.Spelling.{class_number, IsDigits, IsBase128, IsTag, IsJoined, IsSubidentifier, IsObjectId}
use Rattle.oer_units.specs.declared.tagging.Tag.{Tag}
use Rattle.oer_units.proofs.Digits.{base128_one}
use Rattle.oer_units.proofs.OneSpelling.{octets_join}

-- Base 128.
pub not_zero : (m : ℕ) → eqb m 0 ≡ false → 1 ≤ m
not_zero zero e = absurd (cc)
not_zero (suc m) e = omega arith

pub upper_step : (k m n y : ℕ) (w : List ℕ) (c : Bool) → eqb m 0 ≡ c → (m ≡ 0 → y ≢ 128) → IsDigits m n (y ∷ w) → (1 ≤ m → IsBase128 n (upper_digits k (m / 128) ++ ((128 + m % 128) ∷ y ∷ w)))
    → IsBase128 n ((if c then [] else upper_digits k (m / 128) ++ (128 + m % 128) ∷ []) ++ (y ∷ w))
upper_step k m n y w true e apart d f = let none : m ≡ 0 = eqb-true m 0 e in (apart none, subst (λ m. IsDigits m n (y ∷ w)) none d)
upper_step k m n y w false e apart d f = subst (IsBase128 n) (sym (append_assoc (upper_digits k (m / 128)) ((128 + m % 128) ∷ []) (y ∷ w))) (f (not_zero m e))

pub upper_are : (k m : ℕ) → m ≤ k → (n y : ℕ) (w : List ℕ) → (m ≡ 0 → y ≢ 128) → IsDigits m n (y ∷ w) → IsBase128 n (upper_digits k m ++ (y ∷ w))
upper_are zero m l n y w apart d = let none : m ≡ 0 = omega arith in (apart none, subst (λ m. IsDigits m n (y ∷ w)) none d)
upper_are (suc k) m l n y w apart d = upper_step k m n y w (eqb m 0) refl apart d
    (λ some. upper_are k (m / 128) (omega arith) n (128 + m % 128) (y ∷ w) (λ z f. (let i : m % 128 ≡ 0 = omega arith in omega arith)) (omega arith, omega arith, subst (λ m. IsDigits m n (y ∷ w)) (let i : m ≡ m / 128 * 128 + (128 + m % 128) % 128 = omega arith in i) d))

pub base128_exists : (n : ℕ) → IsBase128 n (base128_octets n)
unfolding base128_octets
base128_exists n = upper_are n (n / 128) (omega arith) n (n % 128) [] (λ z e. (let low : n % 128 < 128 = omega arith in omega arith)) (omega arith, omega arith)

pub digits_octets : (high n : ℕ) (w : List ℕ) → IsDigits high n w → IsOctets w
digits_octets high n [] d = tt
digits_octets high n (x ∷ []) (l, e) = (omega arith, tt)
digits_octets high n (x ∷ y ∷ w) (l, m, d) = (omega arith, digits_octets (high * 128 + x % 128) n (y ∷ w) d)

pub base128_octet : (n : ℕ) (w : List ℕ) → IsBase128 n w → IsOctets w
base128_octet n [] b = absurd b
base128_octet n (x ∷ w) b = digits_octets 0 n (x ∷ w) b.1

pub tag_exists : (t : Tag) → t.number < 2 ^ 32 → IsTag t (tag_octets t)
unfolding tag_octets
tag_exists t n = ⊎_elim
    (λ l. inl (ap (λ x. cond x ((64 * class_number t.class + t.number) ∷ []) ((64 * class_number t.class + 63) ∷ base128_octets t.number)) (lt-ltb t.number 63 l), omega arith))
    (λ l. inr (base128_octets t.number, ap (λ x. cond x ((64 * class_number t.class + t.number) ∷ []) ((64 * class_number t.class + 63) ∷ base128_octets t.number)) (le-ltb t.number 63 l), l, n, base128_exists t.number))
    (cases_lt t.number 63)

pub subs_only : (xs : List ℕ) (b : List ℕ) → IsJoined IsSubidentifier xs b → b ≡ subidentifier_octets xs
subs_only [] b e = e
subs_only (x ∷ xs) b (b1, b2, e, s, r) = e ∙ ap₂ (λ x y. x ++ y) (base128_one x b1 (base128_octets x) s.0 (base128_exists x)) (subs_only xs b2 r)

pub subs_octets : (xs : List ℕ) → IsOctets (subidentifier_octets xs)
subs_octets [] = tt
subs_octets (x ∷ xs) = octets_join (base128_octets x) (subidentifier_octets xs) (base128_octet x (base128_octets x) (base128_exists x)) (subs_octets xs)

pub oid_only : (arcs b : List ℕ) → IsObjectId arcs b → b ≡ object_id_octets arcs
oid_only arcs b (x, y, rest, is, low, under, s) = subs_only ((40 * x + y) ∷ rest) b s ∙ ap object_id_octets (sym is)
