-- Lengths and counted numbers.
use Rattle.std.proofs.Common.{◌≡◌, ℕ, ◌+◌, ◌-◌, ◌<◌, ◌≤◌, ◌⊎◌, inl, inr, ◌&&◌, List, [], ◌∷◌, ◌++◌, length, get_or, Bool, true, false, leb, ltb, refl, ap, ap₂, sym, ◌∙◌, subst, arith, le-leb, leb-true, ltb-true, ltb-false}
use Rattle.oer_units.specs.Lawful.{Lawful}
use Rattle.oer_units.specs.Numbers.{unsigned}
use Rattle.oer_units.specs.Reader.{Reader, give, bind, guard, group, within, filled_by}
use Rattle.oer_units.specs.Reading.{octet, length_after, determinant, with_length}
use Rattle.oer_units.specs.Spelling.{IsLength, IsCounted}
use Rattle.oer_units.specs.declared.fault.Why.TheVariants.{End, LengthForm}
use Rattle.oer_units.proofs.Closure.{give_lawful, bind_lawful, same_spellings, within_lawful}
use Rattle.oer_units.proofs.Units.{group_lawful, open_lawful, choose_lawful, guard_lawful, mapped_lawful}

one_octet : (b : List ℕ) → length b ≡ 1 → b ≡ get_or b 0 0 ∷ []
one_octet [] e = absurd (omega arith)
one_octet (x ∷ []) e = refl
one_octet (x ∷ y ∷ b) e = absurd (omega arith)

pub octet_lawful : Lawful octet (λ x b. b ≡ x ∷ [])
unfolding octet
octet_lawful =
    same_spellings (mapped_lawful (λ w. get_or w 0 0) (group 1) (λ x b. (x ≡ b) × (length b ≡ 1)) (group_lawful 1))
    (λ x b (w, e, s). one_octet b s.1 ∙ ap (λ y. y ∷ []) (ap (λ v. get_or v 0 0) (sym s.0) ∙ sym e))
    (λ x b e. (b, ap (λ w. get_or w 0 0) (sym e), (refl, ap length e)))

-- what may follow the first octet x of a length determinant
AfterFirst : ℕ → ℕ → List ℕ → Type 0
AfterFirst x n b = ((x < 128) × (n ≡ x) × (b ≡ [])) ⊎ ((129 ≤ x) × (x ≤ 255) × (length b ≡ x - 128) × (unsigned b ≡ n))

pub both_true : (a b : Bool) → (a && b) ≡ true → (a ≡ true) × (b ≡ true)
both_true true b e = (refl, e)
both_true false b e = absurd (cc)

pub true_both : (a b : Bool) → a ≡ true → b ≡ true → (a && b) ≡ true
true_both a b e f = rw (e, f)

form_not_ended : LengthForm ≡ End → ⊥
form_not_ended e = cc

only_short : (x n : ℕ) (b : List ℕ) → x < 128 → AfterFirst x n b → (n ≡ x) × (b ≡ [])
unfolding AfterFirst
only_short x n b l (inl s) = (s.1, s.2)
only_short x n b l (inr s) = absurd (omega arith)

only_long : (x n : ℕ) (b : List ℕ) → 128 ≤ x → AfterFirst x n b → (129 ≤ x) × (x ≤ 255) × (length b ≡ x - 128) × (unsigned b ≡ n)
unfolding AfterFirst
only_long x n b l (inl s) = absurd (omega arith)
only_long x n b l (inr s) = s

after_first_lawful : (x : ℕ) → Lawful (length_after x) (AfterFirst x)
unfolding AfterFirst
after_first_lawful x = choose_lawful (ltb x 128) (give x) (guard (leb 129 x && leb x 255) LengthForm (bind (group (x - 128)) (λ w. give (unsigned w)))) (AfterFirst x)
    (λ e. same_spellings (give_lawful x) (λ n b s. inl (ltb-true x 128 e, s.0, s.1)) (λ n b s. only_short x n b (ltb-true x 128 e) s))
    (λ e. guard_lawful (leb 129 x && leb x 255) LengthForm _ (AfterFirst x) form_not_ended
    (λ t. same_spellings (mapped_lawful unsigned (group (x - 128)) (λ w b. (w ≡ b) × (length b ≡ x - 128)) (group_lawful (x - 128)))
    (λ n b (w, e', s). (let both = both_true (leb 129 x) (leb x 255) t in inr (leb-true 129 x both.0, leb-true x 255 both.1, s.1, ap unsigned (sym s.0) ∙ sym e')))
    (λ n b s. (let l = only_long x n b (ltb-false x 128 e) s in (b, sym l.3, (refl, l.2)))))
    (λ n b s. (let l = only_long x n b (ltb-false x 128 e) s in true_both _ _ (le-leb 129 x l.0) (le-leb x 255 l.1))))

len_from : (n x : ℕ) (b c : List ℕ) → b ≡ x ∷ c → AfterFirst x n c → IsLength n b
unfolding AfterFirst
len_from n x b c e (inl s) = inl (e ∙ ap₂ (λ y w. y ∷ w) (sym s.1) s.2, (let is = s.1 in let low = s.0 in omega arith))
len_from n x b c e (inr s) = (let long = s.0 in let byte = s.1 in let many = s.2 in inr (x - 128, c, e ∙ ap (λ y. y ∷ c) (omega arith), omega arith, omega arith, many, s.3))

to_len : (n : ℕ) (b : List ℕ) → IsLength n b → (x : ℕ) × (c : List ℕ) × (b ≡ x ∷ c) × AfterFirst x n c
unfolding AfterFirst
to_len n b (inl s) = (n, [], s.0, inl (s.1, refl, refl))
to_len n b (inr (k, w, e, low, high, many, is)) = (128 + k, w, e, inr (omega arith, omega arith, omega arith, is))

pub determinant_lawful : Lawful determinant IsLength
unfolding determinant
determinant_lawful = same_spellings (bind_lawful octet length_after (λ x b. b ≡ x ∷ []) AfterFirst octet_lawful after_first_lawful)
    (λ n b (x, b1, c, e1, s, e). len_from n x b c (e ∙ ap (λ w. w ++ c) e1) s)
    (λ n b s. (let t = to_len n b s in (t.0, t.0 ∷ [], t.1, refl, t.3, t.2)))

pub with_length_lawful : {A : Type 0} (k : ℕ → Reader A) (S : A → List ℕ → Type 0) → ((n : ℕ) → Lawful (k n) (λ x b. S x b × (length b ≡ n))) → Lawful (with_length k) (IsCounted S)
unfolding with_length
with_length_lawful k S l = same_spellings
    (bind_lawful determinant (λ n. within n (k n)) IsLength (λ n x b. S x b × (length b ≡ n)) determinant_lawful
    (λ n. within_lawful n (k n) (λ x b. S x b × (length b ≡ n)) (l n) (λ x b s. (let e = s.1 in omega arith))))
    (λ x b (n, d, c, s1, s2, e). (d, c, e, subst (λ m. IsLength m d) (sym s2.1) s1, s2.0))
    (λ x b (d, c, e, s1, s2). (length c, d, c, s1, (s2, refl), e))

-- as an open type, and as a string
pub open_type_lawful : {A : Type 0} (r : Reader A) (S : A → List ℕ → Type 0) → Lawful r S → Lawful (with_length (λ n. filled_by n r)) (IsCounted S)
open_type_lawful r S l = with_length_lawful (λ n. filled_by n r) S (λ n. open_lawful n r S l)
