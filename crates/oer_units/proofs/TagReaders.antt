-- Tags.
use Rattle.std.proofs.Common.{◌≡◌, ℕ, zero, suc, ◌+◌, ◌*◌, ◌/◌, ◌%◌, ◌^◌, ◌<◌, ◌≤◌, ◌⊎◌, inl, inr, ◌&&◌, not, List, [], ◌∷◌, ◌++◌, Bool, true, false, leb, ltb, eqb, refl, ap, ap₂, sym, ◌∙◌, subst, arith, le-leb, leb-true, ltb-true, ltb-false, lt-ltb, eq-eqb, eqb-true}
use Rattle.oer_units.specs.Lawful.{Lawful}
use Rattle.oer_units.specs.Reader.{Reader, guard}
use Rattle.oer_units.specs.Reading.{class_of, octet, digits_after, digits, long_number, tag_after, tag}
use Rattle.oer_units.specs.Spelling.{class_number, IsDigits, IsBase128, IsTag}
use Rattle.oer_units.specs.declared.fault.Why.TheVariants.{End, TagForm}
use Rattle.oer_units.specs.declared.tagging.Class.{Class}
use Rattle.oer_units.specs.declared.tagging.Class.TheVariants.{Universal, Application, Context, Private}
use Rattle.oer_units.specs.declared.tagging.Tag.{Tag}
use Rattle.oer_units.proofs.Closure.{Then, give_lawful, refuse_lawful, bind_lawful, same_spellings}
use Rattle.oer_units.proofs.Lengths.{both_true, true_both, octet_lawful}
use Rattle.oer_units.proofs.Units.{choose_lawful, guard_lawful, mapped_lawful}

form_goes_on : TagForm ≡ End → ⊥
form_goes_on e = cc

-- the digits of a tag's number
abbrev Number : ℕ → ℕ → List ℕ → Type 0
Number high n w = IsDigits high n w × (63 ≤ n) × (n < 2 ^ 32)

-- after the octet x
abbrev After : ℕ → ℕ → ℕ → List ℕ → Type 0
After high x n w = Number high n (x ∷ w)

pub digits-le : (high n : ℕ) (w : List ℕ) → IsDigits high n w → high * 128 ≤ n
digits-le high n [] d = absurd d
digits-le high n (x ∷ []) d = let is = d.1 in omega arith
digits-le high n (x ∷ y ∷ w) d = let on = digits-le (high * 128 + x % 128) n (y ∷ w) d.2 in omega arith

-- high after k more digits, at least
abbrev grown : ℕ → ℕ → ℕ
grown zero high = high
grown (suc k) high = grown k (high * 128)

grown_mono : (k a b : ℕ) → a ≤ b → grown k a ≤ grown k b
grown_mono zero a b l = l
grown_mono (suc k) a b l = grown_mono k (a * 128) (b * 128) (omega arith)

pub next_le : (high x n : ℕ) (w : List ℕ) → IsDigits high n (x ∷ w) → high * 128 + x % 128 ≤ n
next_le high x n [] d = let is = d.1 in let low = d.0 in omega arith
next_le high x n (y ∷ w) d = let on = digits-le (high * 128 + x % 128) n (y ∷ w) d.2 in omega arith

pub byte : (high x n : ℕ) (w : List ℕ) → IsDigits high n (x ∷ w) → x ≤ 255
byte high x n [] d = let low = d.0 in omega arith
byte high x n (y ∷ w) d = d.1

pub last_digit : (high x n : ℕ) (w : List ℕ) → x < 128 → IsDigits high n (x ∷ w) → (w ≡ []) × (n ≡ high * 128 + x % 128)
last_digit high x n [] l d = (refl, let is = d.1 in omega arith)
last_digit high x n (y ∷ w) l d = absurd (let high_bit = d.0 in omega arith)

pub further : (high x n : ℕ) (w : List ℕ) → 128 ≤ x → IsDigits high n (x ∷ w) → IsDigits (high * 128 + x % 128) n w
further high x n [] l d = absurd (let low = d.0 in omega arith)
further high x n (y ∷ w) l d = d.2

pub more_digits : (high x n : ℕ) (w : List ℕ) → 128 ≤ x → x ≤ 255 → IsDigits (high * 128 + x % 128) n w → IsDigits high n (x ∷ w)
more_digits high x n [] l m d = absurd d
more_digits high x n (y ∷ w) l m d = (l, m, d)

step_lawful : (next : ℕ → Reader ℕ) (high x : ℕ) → (128 ≤ x → x ≤ 255 → high * 128 + x % 128 < 2 ^ 32 → Lawful (next (high * 128 + x % 128)) (Number (high * 128 + x % 128))) → Lawful (digits_after next high x) (After high x)
step_lawful next high x l = guard_lawful (leb x 255 && ltb (high * 128 + x % 128) (2 ^ 32)) TagForm _ (After high x) form_goes_on
    (λ t. (let both = both_true (leb x 255) (ltb (high * 128 + x % 128) (2 ^ 32)) t in let fits = leb-true x 255 both.0 in let small = ltb-true (high * 128 + x % 128) (2 ^ 32) both.1 in
    choose_lawful (ltb x 128) _ _ (After high x)
    (λ e. (let low = ltb-true x 128 e in
    guard_lawful (leb 63 (high * 128 + x % 128)) TagForm _ (After high x) form_goes_on
    (λ f. same_spellings (give_lawful (high * 128 + x % 128))
    (λ n w (g, h). subst (λ v. After high x n v) (sym h) ((low, omega arith), (let i = leb-true 63 (high * 128 + x % 128) f in omega arith), omega arith))
    (λ n w s. (let d = last_digit high x n w low s.0 in (d.1, d.0))))
    (λ n w s. (let d = last_digit high x n w low s.0 in let i = s.1 in le-leb 63 (high * 128 + x % 128) (omega arith)))))
    (λ e. (let up = ltb-false x 128 e in
    same_spellings (l up fits small)
    (λ n w s. (more_digits high x n w up fits s.0, s.1, s.2))
    (λ n w s. (further high x n w up s.0, s.1, s.2))))))
    (λ n w s. true_both _ _ (le-leb x 255 (byte high x n w s.0)) (lt-ltb (high * 128 + x % 128) (2 ^ 32) (let i = next_le high x n w s.0 in let j = s.2 in omega arith)))

digits_lawful : (k high : ℕ) → 2 ^ 32 ≤ grown k high → Lawful (digits k high) (Number high)
unfolding digits
digits_lawful zero high l = refuse_lawful TagForm (Number high) form_goes_on (λ n w s. (let i = digits-le high n w s.0 in let j = s.2 in omega arith))
digits_lawful (suc k) high l = same_spellings
    (bind_lawful octet (digits_after (digits k) high) (λ x b. b ≡ x ∷ []) (After high) octet_lawful
    (λ x. step_lawful (digits k) high x (λ up fits small. digits_lawful k (high * 128 + x % 128) (let i = grown_mono k (high * 128) (high * 128 + x % 128) (omega arith) in omega arith))))
    (λ n b (x, b1, w, e, s, f). subst (λ v. Number high n v) (sym (f ∙ ap (λ v. v ++ w) e)) s)
    (λ n b s. split high n b s)
  where
    split : (high n : ℕ) (b : List ℕ) → Number high n b → Then (λ x b. b ≡ x ∷ []) (After high) n b
    split high n [] s = absurd s.0
    split high n (x ∷ w) s = (x, x ∷ [], w, refl, s, refl)

LongNumber : ℕ → List ℕ → Type 0
LongNumber n w = IsBase128 n w × (63 ≤ n) × (n < 2 ^ 32)

pub is_false : (a b : ℕ) → not (eqb a b) ≡ true → a ≡ b → ⊥
is_false a b t e = by_test (eqb a b) (eq-eqb a b e) t
  where
    by_test : (c : Bool) → c ≡ true → not c ≡ true → ⊥
    by_test true e t = absurd (cc)
    by_test false e t = absurd (cc)

pub is_true : (a b : ℕ) → (a ≡ b → ⊥) → not (eqb a b) ≡ true
is_true a b n = by_test (eqb a b) refl
  where
    by_test : (c : Bool) → eqb a b ≡ c → not c ≡ true
    by_test true e = absurd (n (eqb-true a b e))
    by_test false e = refl

long_number_lawful : Lawful long_number LongNumber
unfolding long_number LongNumber
long_number_lawful = same_spellings
    (bind_lawful octet (λ x. guard (not (eqb x 128)) TagForm (digits_after (digits 5) 0 x)) (λ x b. b ≡ x ∷ []) (λ x n w. (not (eqb x 128) ≡ true) × After 0 x n w) octet_lawful
    (λ x. guard_lawful (not (eqb x 128)) TagForm (digits_after (digits 5) 0 x) (λ n w. (not (eqb x 128) ≡ true) × After 0 x n w) form_goes_on
    (λ t. same_spellings (step_lawful (digits 5) 0 x (λ up fits small. digits_lawful 5 (0 * 128 + x % 128) (enough x up fits (is_false x 128 t)))) (λ n w s. (t, s)) (λ n w s. s.1))
    (λ n w s. s.0)))
    (λ n b (x, b1, w, e, (t, s), f). subst (LongNumber n) (sym (f ∙ ap (λ v. v ++ w) e)) ((is_false x 128 t, s.0), s.1, s.2))
    (λ n b s. split n b s)
  where
    enough : (x : ℕ) → 128 ≤ x → x ≤ 255 → (x ≡ 128 → ⊥) → 2 ^ 32 ≤ grown 5 (0 * 128 + x % 128)
    enough x up fits other = let i : grown 5 1 ≤ grown 5 (0 * 128 + x % 128) = grown_mono 5 1 (0 * 128 + x % 128) (omega arith) in omega arith

    split : (n : ℕ) (b : List ℕ) → LongNumber n b → Then (λ x b. b ≡ x ∷ []) (λ x n w. (not (eqb x 128) ≡ true) × After 0 x n w) n b
    split n [] s = absurd s.0
    split n (x ∷ w) s = (x, x ∷ [], w, refl, (is_true x 128 s.0.0, (s.0.1, s.1, s.2)), refl)

make : Class → ℕ → Tag
make c n = record { class = c; number = n }

-- A class is one of four numbers, and each of these is one's.
pub class_below : (c : Class) → class_number c ≤ 3
class_below Universal = omega arith
class_below Application = omega arith
class_below Context = omega arith
class_below Private = omega arith

pub class_is : (c : Class) → class_of (class_number c) ≡ c
class_is Universal = refl
class_is Application = refl
class_is Context = refl
class_is Private = refl

pub number_is : (n : ℕ) → n ≤ 3 → class_number (class_of n) ≡ n
number_is zero l = refl
number_is (suc zero) l = refl
number_is (suc (suc zero)) l = refl
number_is (suc (suc (suc zero))) l = refl
number_is (suc (suc (suc (suc n)))) l = absurd (omega arith)

TagAfter : ℕ → Tag → List ℕ → Type 0
TagAfter x t w = (x ≤ 255) × (class_number t.class ≡ x / 64) × (((x % 64 < 63) × (t.number ≡ x % 64) × (w ≡ [])) ⊎ ((x % 64 ≡ 63) × LongNumber t.number w))

only_short : (x : ℕ) (t : Tag) (w : List ℕ) → x % 64 < 63 → TagAfter x t w → (class_number t.class ≡ x / 64) × (t.number ≡ x % 64) × (w ≡ [])
unfolding TagAfter
only_short x t w l (fits, c, inl s) = (c, s.1, s.2)
only_short x t w l (fits, c, inr s) = absurd (let i = s.0 in omega arith)

only_long : (x : ℕ) (t : Tag) (w : List ℕ) → 63 ≤ x % 64 → TagAfter x t w → (class_number t.class ≡ x / 64) × LongNumber t.number w
unfolding TagAfter
only_long x t w l (fits, c, inl s) = absurd (let i = s.0 in omega arith)
only_long x t w l (fits, c, inr s) = (c, s.1)

class_from : (x : ℕ) (t : Tag) → class_number t.class ≡ x / 64 → t.class ≡ class_of (x / 64)
class_from x t e = sym (class_is t.class) ∙ ap class_of e

class_to : (x : ℕ) (t : Tag) → x ≤ 255 → t.class ≡ class_of (x / 64) → class_number t.class ≡ x / 64
class_to x t l e = ap class_number e ∙ number_is (x / 64) (omega arith)

tag_after_lawful : (x : ℕ) → Lawful (tag_after x) (TagAfter x)
unfolding TagAfter make
tag_after_lawful x = guard_lawful (leb x 255) TagForm _ (TagAfter x) form_goes_on
    (λ t. (let fits = leb-true x 255 t in
    choose_lawful (ltb (x % 64) 63) _ _ (TagAfter x)
    (λ e. (let low = ltb-true (x % 64) 63 e in
    same_spellings (give_lawful (make (class_of (x / 64)) (x % 64)))
    (λ t w (is, none). (fits, class_to x t fits (ap (λ (t : Tag). t.class) is), inl (low, ap (λ (t : Tag). t.number) is, none)))
    (λ t w s. (let o = only_short x t w low s in (ap₂ make (class_from x t o.0) o.1, o.2)))))
    (λ e. (let long = ltb-false (x % 64) 63 e in
    same_spellings (mapped_lawful (make (class_of (x / 64))) long_number LongNumber long_number_lawful)
    (λ t w (n, is, s). (fits, class_to x t fits (ap (λ (t : Tag). t.class) is), inr ((omega arith), subst (λ m. LongNumber m w) (sym (ap (λ (t : Tag). t.number) is)) s)))
    (λ t w s. (let o = only_long x t w long s in (t.number, ap (λ c. make c t.number) (class_from x t o.0), o.1)))))))
    (λ t w s. le-leb x 255 s.0)

to_form : (t : Tag) (b : List ℕ) (x : ℕ) (w : List ℕ) → b ≡ x ∷ w → TagAfter x t w → IsTag t b
unfolding TagAfter LongNumber
to_form t b x w e (fits, c, inl s) = inl (e ∙ ap₂ (λ y v. y ∷ v) (let i = s.1 in omega arith) s.2, (let i = s.1 in let j = s.0 in omega arith))
to_form t b x w e (fits, c, inr s) = inr (w, e ∙ ap (λ y. y ∷ w) (let i = s.0 in omega arith), s.1.1, s.1.2, s.1.0)

from_form : (t : Tag) (b : List ℕ) → IsTag t b → Then (λ x b. b ≡ x ∷ []) TagAfter t b
unfolding TagAfter LongNumber
from_form t b (inl s) = let c = class_below t.class in (64 * class_number t.class + t.number, (64 * class_number t.class + t.number) ∷ [], [], refl, (let i = s.1 in (omega arith, omega arith, inl (omega arith, omega arith, refl))), s.0)
from_form t b (inr (w, e, low, high, d)) = let c = class_below t.class in (64 * class_number t.class + 63, (64 * class_number t.class + 63) ∷ [], w, refl, (omega arith, omega arith, inr (omega arith, (d, low, high))), e)

pub tag_lawful : Lawful tag IsTag
unfolding tag
tag_lawful = same_spellings (bind_lawful octet tag_after (λ x b. b ≡ x ∷ []) TagAfter octet_lawful tag_after_lawful)
    (λ t b (x, b1, w, e, s, f). to_form t b x w (f ∙ ap (λ v. v ++ w) e) s)
    from_form
