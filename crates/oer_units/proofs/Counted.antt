-- Counted numbers and octets are read.
use Rattle.std.proofs.Common.{◌≡◌, ℕ, zero, suc, ◌≤◌, List, [], ◌∷◌, ◌++◌, length, Bool, true, leb, refl, ap, sym, ◌∙◌, subst, append-nil, arith, length-append, le-leb, leb-true, ℤ}
use Rattle.oer_units.specs.Lawful.{Lawful}
use Rattle.oer_units.specs.Reader.{give, guard, group}
use Rattle.oer_units.specs.Reading.{number, counted_number, counted_octets}
use Rattle.oer_units.specs.Spelling.{IsCounted, IsJoined, StandsFor}
use Rattle.oer_units.specs.declared.fault.Why.{Why}
use Rattle.oer_units.specs.declared.fault.Why.TheVariants.{End, EmptyNumber, IntegerRange}
use Rattle.oer_units.proofs.Closure.{give_lawful, bind_lawful, same_spellings}
use Rattle.oer_units.proofs.Lengths.{with_length_lawful}
use Rattle.oer_units.proofs.Units.{group_lawful, tested_lawful, Each}

pub range_goes_on : IntegerRange ≡ End → ⊥
range_goes_on e = cc

pub empty_goes_on : EmptyNumber ≡ End → ⊥
empty_goes_on e = cc

module _ {A : Type 0} (why : Why) (goes_on : why ≡ End → ⊥) (f : List ℕ → A) (test : A → Bool) where
  pub number_lawful : (n : ℕ) → Lawful (number why f test n) (λ z b. (length b ≡ n) × (f b ≡ z) × (test z ≡ true))
  unfolding number
  number_lawful n = same_spellings
      (bind_lawful (group n) (λ w. guard (test (f w)) why (give (f w))) (λ w b. (w ≡ b) × (length b ≡ n)) (λ w z b. (test (f w) ≡ true) × ((z ≡ f w) × (b ≡ []))) (group_lawful n)
      (λ w. tested_lawful (test (f w)) why (give (f w)) (λ z b. (z ≡ f w) × (b ≡ [])) goes_on (give_lawful (f w))))
      (λ z b (w, b1, b2, s1, s2, e).
      (let whole : b ≡ b1 = e ∙ ap (λ v. b1 ++ v) s2.1.1 ∙ append-nil b1 in
      let word : w ≡ b = s1.0 ∙ sym whole in
      let is : z ≡ f w = s2.1.0 in
      (ap length whole ∙ s1.1, ap f (sym word) ∙ sym is, subst (λ y. test y ≡ true) (sym is) s2.0)))
      (λ z b (e, is, ok). (b, b, [], (refl, e), (subst (λ y. test y ≡ true) (sym is) ok, (sym is, refl)), sym (append-nil b)))

module _ {A : Type 0} (f : List ℕ → A) (test : A → Bool) where
  pub counted_number_lawful : Lawful (counted_number f test) (IsCounted (λ z w. (1 ≤ length w) × (f w ≡ z) × (test z ≡ true)))
  unfolding counted_number
  counted_number_lawful = with_length_lawful (λ n. guard (leb 1 n) EmptyNumber (number IntegerRange f test n)) (λ z w. (1 ≤ length w) × (f w ≡ z) × (test z ≡ true))
      (λ n. same_spellings (tested_lawful (leb 1 n) EmptyNumber (number IntegerRange f test n) (λ z b. (length b ≡ n) × (f b ≡ z) × (test z ≡ true)) empty_goes_on (number_lawful IntegerRange range_goes_on f test n))
      (λ z w (t, (e, is, ok)). (let some : 1 ≤ n = leb-true 1 n t in ((omega arith, is, ok), e)))
      (λ z w ((l, is, ok), e). (le-leb 1 n (omega arith), (e, is, ok))))

pub counted_form : (f : List ℕ → ℤ) (test : ℤ → Bool) → Lawful (counted_number f test) (λ z b. (test z ≡ true) × IsCounted (StandsFor f) z b)
counted_form f test = same_spellings (counted_number_lawful f test)
    (λ z b (l, c, e, len, (some, is, ok)). (ok, (l, c, e, len, (some, is))))
    (λ z b (ok, (l, c, e, len, (some, is))). (l, c, e, len, (some, is, ok)))

pub fixed_form : (f : List ℕ → ℤ) (test : ℤ → Bool) (n : ℕ) → Lawful (number IntegerRange f test n) (λ z b. (test z ≡ true) × ((length b ≡ n) × (f b ≡ z)))
fixed_form f test n = same_spellings (number_lawful IntegerRange range_goes_on f test n)
    (λ z b (e, is, ok). (ok, (e, is)))
    (λ z b (ok, (e, is)). (e, is, ok))

pub counted_octets_lawful : Lawful counted_octets (IsCounted (λ w c. c ≡ w))
unfolding counted_octets
counted_octets_lawful = with_length_lawful (λ n. group n) (λ w c. c ≡ w)
    (λ n. same_spellings (group_lawful n) (λ x c (e, l). (sym e, l)) (λ x c (e, l). (sym e, l)))

pub from_each : {A : Type 0} (S : A → List ℕ → Type 0) (n : ℕ) (xs : List A) (b : List ℕ) → Each S n xs b → (length xs ≡ n) × IsJoined S xs b
from_each S zero [] b (e, f) = (refl, f)
from_each S zero (x ∷ xs) b (e, f) = absurd (cc)
from_each S (suc n) [] b (x, rest, b1, b2, e, f, s, t) = absurd (cc)
from_each S (suc n) (y ∷ ys) b (x, rest, b1, b2, e, f, s, t) =
    let g : y ≡ x = cc in
    let h : ys ≡ rest = cc in
    let i = from_each S n ys b2 (subst (λ w. Each S n w b2) (sym h) t) in
    (omega (arith, i.0), (b1, b2, f, subst (λ z. S z b1) (sym g) s, i.1))

pub to_each : {A : Type 0} (S : A → List ℕ → Type 0) (xs : List A) (b : List ℕ) → IsJoined S xs b → Each S (length xs) xs b
to_each S [] b e = (refl, e)
to_each S (x ∷ xs) b (b1, b2, e, s, t) = (x, xs, b1, b2, refl, e, s, to_each S xs b2 t)

pub every_long : {A : Type 0} (S : A → List ℕ → Type 0) → ((x : A) (b : List ℕ) → S x b → 1 ≤ length b) → (xs : List A) (b : List ℕ) → IsJoined S xs b → length xs ≤ length b
every_long S some [] b e = omega arith
every_long S some (x ∷ xs) b (b1, b2, e, s, t) = omega (arith, ap length e, length-append b1 b2, some x b1 s, every_long S some xs b2 t)
