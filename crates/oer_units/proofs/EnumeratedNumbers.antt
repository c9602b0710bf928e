-- The number of an ENUMERATED is read.
use Rattle.std.proofs.Common.{◌≡◌, ℕ, ◌+◌, ◌-◌, ◌<◌, ◌≤◌, ◌⊎◌, inl, inr, ◌&&◌, List, [], ◌∷◌, ◌++◌, length, true, leb, ltb, refl, ap, sym, ◌∙◌, subst, arith, le-leb, leb-true, ltb-true, ltb-false, ℤ, pos}
use Rattle.oer_units.specs.Lawful.{Lawful}
use Rattle.oer_units.specs.Numbers.{signed}
use Rattle.oer_units.specs.Reading.{octet, is_int64, enumerated_after}
use Rattle.oer_units.specs.Spelling.{IsEnumerated}
use Rattle.oer_units.specs.declared.fault.Why.TheVariants.{End, EnumForm}
use Rattle.oer_units.proofs.Closure.{Then, give_lawful, bind_lawful, same_spellings}
use Rattle.oer_units.proofs.Counted.{number_lawful}
use Rattle.oer_units.proofs.Lengths.{both_true, true_both, octet_lawful}
use Rattle.oer_units.proofs.Units.{choose_lawful, guard_lawful}
use Rattle.oer_units.specs.Reading as unit

pub enum_goes_on : EnumForm ≡ End → ⊥
enum_goes_on e = cc

-- enumerations
pub AfterEnum : ℕ → ℤ → List ℕ → Type 0
AfterEnum x z b = ((x < 128) × (z ≡ pos x) × (b ≡ [])) ⊎ ((129 ≤ x) × (x ≤ 255) × (length b ≡ x - 128) × (signed b ≡ z) × (is_int64 z ≡ true))

pub only_short : (x : ℕ) (z : ℤ) (b : List ℕ) → x < 128 → AfterEnum x z b → (z ≡ pos x) × (b ≡ [])
unfolding AfterEnum
only_short x z b l (inl s) = (s.1, s.2)
only_short x z b l (inr s) = absurd (let i = s.0 in omega arith)

pub only_long : (x : ℕ) (z : ℤ) (b : List ℕ) → 128 ≤ x → AfterEnum x z b → (129 ≤ x) × (x ≤ 255) × (length b ≡ x - 128) × (signed b ≡ z) × (is_int64 z ≡ true)
unfolding AfterEnum
only_long x z b l (inl s) = absurd (let i = s.0 in omega arith)
only_long x z b l (inr s) = s

pub enum_after_lawful : (x : ℕ) → Lawful (enumerated_after x) (AfterEnum x)
unfolding AfterEnum
enum_after_lawful x = choose_lawful (ltb x 128) _ _ (AfterEnum x)
    (λ e. (let low = ltb-true x 128 e in same_spellings (give_lawful (pos x)) (λ z b s. inl (low, s.0, s.1)) (λ z b s. only_short x z b low s)))
    (λ e. (let up = ltb-false x 128 e in
    guard_lawful (leb 129 x && leb x 255) EnumForm _ (AfterEnum x) enum_goes_on
    (λ t. (let both = both_true (leb 129 x) (leb x 255) t in
    same_spellings (number_lawful EnumForm enum_goes_on signed is_int64 (x - 128))
    (λ z b s. inr (leb-true 129 x both.0, leb-true x 255 both.1, s.0, s.1, s.2))
    (λ z b s. (let o = only_long x z b up s in (o.2, o.3, o.4)))))
    (λ z b s. (let o = only_long x z b up s in true_both _ _ (le-leb 129 x o.0) (le-leb x 255 o.1)))))

pub small_enum : (x : ℕ) → x < 128 → is_int64 (pos x) ≡ true
unfolding is_int64
small_enum x l = le-leb x 9223372036854775807 (omega arith)

pub enumeration_lawful : Lawful unit.enumerated (λ z b. (is_int64 z ≡ true) × IsEnumerated z b)
unfolding unit.enumerated AfterEnum
enumeration_lawful = same_spellings (bind_lawful octet enumerated_after (λ x b. b ≡ x ∷ []) AfterEnum octet_lawful enum_after_lawful)
    (λ z b (x, b1, w, e, s, f). to_form z b x w (f ∙ ap (λ v. v ++ w) e) s)
    (λ z b (ok, s). from_form z b ok s)
  where
    to_form : (z : ℤ) (b : List ℕ) (x : ℕ) (w : List ℕ) → b ≡ x ∷ w → AfterEnum x z w → (is_int64 z ≡ true) × IsEnumerated z b
    to_form z b x w e (inl s) = (subst (λ y. is_int64 y ≡ true) (sym s.1) (small_enum x s.0), inl (x, e ∙ ap (λ v. x ∷ v) s.2, s.0, s.1))
    to_form z b x w e (inr s) = (s.4, inr (x - 128, w, e ∙ ap (λ y. y ∷ w) (let i = s.0 in omega arith), (let i = s.0 in omega arith), (let i = s.1 in omega arith), s.2, s.3))

    from_form : (z : ℤ) (b : List ℕ) → is_int64 z ≡ true → IsEnumerated z b → Then (λ x b. b ≡ x ∷ []) AfterEnum z b
    from_form z b ok (inl (x, e, l, is)) = (x, x ∷ [], [], refl, inl (l, is, refl), e)
    from_form z b ok (inr (k, w, e, low, high, n, is)) = (128 + k, (128 + k) ∷ [], w, refl, inr (omega arith, omega arith, omega arith, is, ok), e)
