-- As many numbers as items; and a fault in them is about one of the items.
use Rattle.std.proofs.Common.{◌≡◌, ℕ, suc, ◌+◌, ◌<◌, ℤ, pos, ◌+ℤ◌, List, [], ◌∷◌, ◌++◌, length, true, false, Option, Some, None, Result, Ok, Err}
use Rattle.std.proofs.Common.{refl, sym, ap, subst, ◌∙◌, arith}
use Rattle.std.proofs.lemmas.List.{length-append}
use Rattle.std.specs.Prelude.{if◌then◌else◌}
use Rattle.oer_module_parts.specs.Numbering.{behind_root, first_free, free_later, given_from, is_above, is_among, later_number, later_numbers}
use Rattle.oer_module_parts.specs.Numbering.{number_items, root_numbers, set_of, unless_too_large, with_number, ◌>>=◌}
use Rattle.oer_module_parts.specs.declared.numbering.NumberFault.{NumberFault}
use Rattle.oer_module_parts.specs.declared.numbering.NumberFault.TheVariants.{Memory, Repeated, NotAscending, TooLarge}

-- the item is one of so many
abbrev pub IsWithin : ℕ → NumberFault → Type 0
IsWithin k (Repeated i) = i < k
IsWithin k (NotAscending i) = i < k
IsWithin k (TooLarge i) = i < k
IsWithin k Memory = Unit {0}

abbrev IsFaultWithin : {A : Type 0} → ℕ → Result A NumberFault → Type 0
IsFaultWithin k (Ok x) = Unit {0}
IsFaultWithin k (Err f) = IsWithin k f

-- so many numbers, or a fault in one of so many items
abbrev pub IsCounted : ℕ → Result (List ℤ) NumberFault → Type 0
IsCounted k (Ok ns) = length ns ≡ k
IsCounted k (Err f) = IsWithin k f

then_counted : {A : Type 0} (k : ℕ) (r : Result A NumberFault) (f : A → Result (List ℤ) NumberFault) → IsFaultWithin k r
    → ((x : A) → IsCounted k (f x)) → IsCounted k (r >>= f)
then_counted k (Ok x) f within next = next x
then_counted k (Err e) f within next = within

weaker : (j k : ℕ) (f : NumberFault) → j < suc k → IsWithin j f → IsWithin k f
weaker j k (Repeated i) less within = omega arith
weaker j k (NotAscending i) less within = omega arith
weaker j k (TooLarge i) less within = omega arith
weaker j k Memory less within = tt

-- ---- the root

given_within : (i : ℕ) (xs : List (Option ℤ)) (found : List ℤ) → IsFaultWithin (i + length xs) (given_from i xs found)
given_within i [] found = tt
given_within i (None ∷ xs) found =
    let e : suc i + length xs ≡ i + suc (length xs) = omega arith in
    subst (λ k. IsFaultWithin k (given_from (suc i) xs found)) e (given_within (suc i) xs found)
given_within i (Some n ∷ xs) found =
    let e : suc i + length xs ≡ i + suc (length xs) = omega arith in
    elim (is_among n found) as (λ b. IsFaultWithin (i + suc (length xs)) (if b then Err (Repeated i) else given_from (suc i) xs (with_number found n))) [
      | true ↦ omega arith
      | false ↦ subst (λ k. IsFaultWithin k (given_from (suc i) xs (with_number found n))) e (given_within (suc i) xs (with_number found n))
    ]

root_counted : (given : List ℤ) (n : ℤ) (xs : List (Option ℤ)) → length (root_numbers given n xs) ≡ length xs
root_counted given n [] = refl
root_counted given n (Some m ∷ xs) = ap suc (root_counted given n xs)
root_counted given n (None ∷ xs) = ap suc (root_counted given (first_free given n +ℤ pos 1) xs)

-- ---- behind it

later_within : (taken : List ℤ) (last : Option ℤ) (i : ℕ) (x : Option ℤ) → IsFaultWithin (suc i) (later_number taken last i x)
later_within taken last i (Some n) =
    elim (is_among n taken) as (λ b. IsFaultWithin (suc i) (if b then Err (Repeated i) else if is_above last n then Ok n else Err (NotAscending i))) [
      | true ↦ omega arith
      | false ↦ (elim (is_above last n) as (λ b. IsFaultWithin (suc i) (if b then Ok n else Err (NotAscending i))) [ true ↦ tt | false ↦ omega arith ])
    ]
later_within taken last i None =
    elim (free_later taken last) as (λ o. IsFaultWithin (suc i) (unless_too_large i o)) [ Some n ↦ tt | None ↦ omega arith ]

fault_weaker : {A : Type 0} (j k : ℕ) (r : Result A NumberFault) → j < suc k → IsFaultWithin j r → IsFaultWithin k r
fault_weaker j k (Ok x) less within = tt
fault_weaker j k (Err f) less within = weaker j k f less within

later_counted : (taken : List ℤ) (last : Option ℤ) (xs : List (Option ℤ)) (found : List ℤ)
    → IsCounted (length found + length xs) (later_numbers taken last xs found)
later_counted taken last [] found = omega arith
later_counted taken last (x ∷ xs) found =
    then_counted (length found + suc (length xs)) (later_number taken last (length found) x) (λ n. later_numbers taken (Some n) xs (found ++ n ∷ []))
    (fault_weaker (suc (length found)) (length found + suc (length xs)) (later_number taken last (length found) x) (omega arith)
    (later_within taken last (length found) x))
    (λ n. let more = length-append found (n ∷ []) in
    let e : length (found ++ n ∷ []) + length xs ≡ length found + suc (length xs) = omega arith in
    subst (λ k. IsCounted k (later_numbers taken (Some n) xs (found ++ n ∷ []))) e (later_counted taken (Some n) xs (found ++ n ∷ [])))

-- ---- all

pub numbers_counted : (root more : List (Option ℤ)) → IsCounted (length root + length more) (number_items root more)
unfolding number_items
numbers_counted root more =
    then_counted (length root + length more) (given_from 0 root []) (λ given. behind_root (root_numbers given (pos 0) root) more)
    (fault_weaker (0 + length root) (length root + length more) (given_from 0 root []) (omega arith) (given_within 0 root []))
    (λ given. let ns = root_numbers given (pos 0) root in
    subst (λ k. IsCounted (k + length more) (later_numbers (set_of [] ns) None more ns)) (root_counted given (pos 0) root)
    (later_counted (set_of [] ns) None more ns))

-- of a result that is known
pub counted_ok : (root more : List (Option ℤ)) (ns : List ℤ) → number_items root more ≡ Ok ns → length ns ≡ length root + length more
counted_ok root more ns is = subst (IsCounted (length root + length more)) is (numbers_counted root more)

fault_within : (root more : List (Option ℤ)) (f : NumberFault) → number_items root more ≡ Err f → IsWithin (length root + length more) f
fault_within root more f is = subst (IsCounted (length root + length more)) is (numbers_counted root more)

-- the same where the fault is known by its parts
pub fault_named : (root more : List (Option ℤ)) (k : ℕ) (f g : NumberFault) → k ≡ length root + length more → f ≡ g → (g ≡ Memory → ⊥)
    → ((f ≡ Memory → ⊥) → number_items root more ≡ Err f) → IsWithin k g
fault_named root more k f g count is not_memory h =
    let found : number_items root more ≡ Err g = h (λ m. not_memory (sym is ∙ m)) ∙ ap (λ x. let r : Result (List ℤ) NumberFault = Err x in r) is in
    rw count (fault_within root more g found)
