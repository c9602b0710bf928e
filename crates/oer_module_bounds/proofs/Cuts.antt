-- Cuts in order, and the numbers between them.
use Rattle.std.proofs.Common.{◌≡◌, List, [], ◌∷◌, ◌++◌, Bool, true, false, not, if◌then◌else◌, refl, sym, subst, arith}
use Rattle.std.specs.Prelude.{ℤ, ◌≤ℤ◌, ◌<ℤ◌, int_le}
use Rattle.std.specs.Ordering.{int_eq}
use Rattle.std.proofs.lemmas.Int.{ints, by_lt_z}
use Rattle.std.proofs.lemmas.Bool.{both_ways}
use Rattle.std.proofs.lemmas.Bool.Decides.{Decides-int_eq}
use Rattle.oer_module_bounds.specs.Sets.{Each}
use Rattle.oer_module_bounds.specs.Steps.{at, Rises, toggled}

-- ---- tests of order

pub le_true : (a b : ℤ) → int_le a b ≡ true → a ≤ℤ b
le_true a b h = omega (arith, ints)

pub le_false : (a b : ℤ) → int_le a b ≡ false → b <ℤ a
le_false a b h = omega (arith, ints)

pub true_le : (a b : ℤ) → a ≤ℤ b → int_le a b ≡ true
true_le a b h = sym (omega (arith, ints))

pub false_le : (a b : ℤ) → b <ℤ a → int_le a b ≡ false
false_le a b h = sym (omega (arith, ints))

pub same_number : (a b : ℤ) → a ≤ℤ b → b ≤ℤ a → a ≡ b
same_number a b h k = omega (arith, ints)

pub eq_true : (a b : ℤ) → int_eq a b ≡ true → a ≡ b
eq_true a b h = (Decides-int_eq a b).0 h

pub eq_false : (a b : ℤ) → int_eq a b ≡ false → a ≤ℤ b → a <ℤ b
eq_false a b h l = by_lt_z a b (λ k. k) (λ k. absurd (both_ways (int_eq a b) h ((Decides-int_eq a b).1 (same_number a b l k))))

-- ---- each

pub each_weaker : {A : Type 0} (P Q : A → Type 0) → ((x : A) → P x → Q x) → (xs : List A) → Each P xs → Each Q xs
each_weaker P Q f [] h = tt
each_weaker P Q f (x ∷ xs) h = (f x h.0, each_weaker P Q f xs h.1)

pub each_append : {A : Type 0} (P : A → Type 0) (xs ys : List A) → Each P xs → Each P ys → Each P (xs ++ ys)
each_append P [] ys h k = k
each_append P (x ∷ xs) ys h k = (h.0, each_append P xs ys h.1 k)

pub each_first : {A : Type 0} (P : A → Type 0) (xs ys : List A) → Each P (xs ++ ys) → Each P xs
each_first P [] ys h = tt
each_first P (x ∷ xs) ys h = (h.0, each_first P xs ys h.1)

pub each_second : {A : Type 0} (P : A → Type 0) (xs ys : List A) → Each P (xs ++ ys) → Each P ys
each_second P [] ys h = h
each_second P (x ∷ xs) ys h = each_second P xs ys h.1

-- ---- in or not

not_not : (b : Bool) → not (not b) ≡ b
not_not true = refl
not_not false = refl

-- where all cuts are up to n, and where all are past it
pub settled : (b : Bool) (cs : List ℤ) (n m : ℤ) → Each (λ c. c ≤ℤ n) cs → Each (λ c. c ≤ℤ m) cs → at b cs n ≡ at b cs m
settled b [] n m h k = refl
settled b (c ∷ cs) n m h k =
    rw (true_le c n h.0) (rw (true_le c m k.0) (settled (not b) cs n m h.1 k.1))

pub unmoved : (b : Bool) (cs : List ℤ) (n : ℤ) → Each (λ c. n <ℤ c) cs → at b cs n ≡ b
unmoved b [] n h = refl
unmoved b (c ∷ cs) n h = rw (false_le c n h.0) (unmoved b cs n h.1)

one_toggled : (b t : Bool) (d c n : ℤ) → t ≡ int_eq d c
    → at b (if t then [] else d ∷ c ∷ []) n ≡ (if int_le c n then not (at b (d ∷ []) n) else at b (d ∷ []) n)
one_toggled b false d c n e = refl
one_toggled b true d c n e = subst (λ (x : ℤ). b ≡ (if int_le x n then not (at b (d ∷ []) n) else at b (d ∷ []) n)) (eq_true d c (sym e)) (twice (int_le d n))
  where
    twice : (t : Bool) → b ≡ (if t then not (if t then not b else b) else (if t then not b else b))
    twice true = sym (not_not b)
    twice false = refl

pub at_toggled : (b : Bool) (cs : List ℤ) (c n : ℤ)
    → at b (toggled cs c) n ≡ (if int_le c n then not (at b cs n) else at b cs n)
at_toggled b [] c n = refl
at_toggled b (d ∷ []) c n = one_toggled b (int_eq d c) d c n refl
at_toggled b (d ∷ e ∷ cs) c n = at_toggled (if int_le d n then not b else b) (e ∷ cs) c n

-- ---- cuts that are added

one_each : (P : ℤ → Type 0) (t : Bool) (d c : ℤ) → P d → P c → Each P (if t then [] else d ∷ c ∷ [])
one_each P true d c h k = tt
one_each P false d c h k = (h, (k, tt))

pub each_toggled : (P : ℤ → Type 0) (cs : List ℤ) (c : ℤ) → Each P cs → P c → Each P (toggled cs c)
each_toggled P [] c h k = (k, tt)
each_toggled P (d ∷ []) c h k = one_each P (int_eq d c) d c h.0 k
each_toggled P (d ∷ e ∷ cs) c h k = (h.0, each_toggled P (e ∷ cs) c h.1 k)

one_rises : (t : Bool) (d c : ℤ) → t ≡ int_eq d c → d ≤ℤ c → Rises (if t then [] else d ∷ c ∷ [])
one_rises true d c e h = tt
one_rises false d c e h = ((eq_false d c (sym e) h, tt), (tt, tt))

pub rises_toggled : (cs : List ℤ) (c : ℤ) → Rises cs → Each (λ d. d ≤ℤ c) cs → Rises (toggled cs c)
rises_toggled [] c r h = (tt, tt)
rises_toggled (d ∷ []) c r h = one_rises (int_eq d c) d c refl h.0
rises_toggled (d ∷ e ∷ cs) c r h =
    (each_toggled (λ x. d <ℤ x) (e ∷ cs) c r.0 (first_below (r.0.0) (h.1.0)), rises_toggled (e ∷ cs) c r.1 h.1)
  where
    first_below : d <ℤ e → e ≤ℤ c → d <ℤ c
    first_below p q = omega (arith, ints)
