-- The numbers of the items of an ENUMERATED, as they are found (X.680, 20.3 to 20.8).
use Rattle.std.specs.Prelude.{◌≡◌, ℕ, zero, suc, ◌^◌, ℤ, pos, ◌+ℤ◌, int_lt, List, [], ◌∷◌, ◌++◌, length, Bool, true}
use Rattle.std.specs.Prelude.{Option, Some, None, Result, Ok, Err, if◌then◌else◌}
use Rattle.std.specs.BTreeMap.{is_at}
use Rattle.std.specs.BTreeSet.{insert_key}
use Rattle.std.specs.List.{list_any}
use Rattle.std.specs.Ordering.{int_cmp}
use Rattle.oer_module_parts.specs.declared.numbering.NumberFault as raw
use Rattle.oer_module_parts.specs.declared.numbering.NumberFault.TheVariants.{Memory, Repeated, NotAscending, TooLarge}

-- What a function returned, seen by view, is the answer, unless memory ran out.
abbrev pub IsAnswer : {X Y : Type 0} → (X → Y) → Result X raw.NumberFault → Result Y raw.NumberFault → Type 0
IsAnswer view (Ok x) answer = answer ≡ Ok (view x)
IsAnswer view (Err e) answer = (e ≡ Memory → ⊥) → answer ≡ Err e

infixl 10 ◌>>=◌
abbrev pub ◌>>=◌ : {A B : Type 0} → Result A raw.NumberFault → (A → Result B raw.NumberFault) → Result B raw.NumberFault
(Ok x) >>= f = f x
(Err e) >>= f = Err e

-- ---- sets of numbers, each a list of numbers that ascend

unfoldable pub is_among : ℤ → List ℤ → Bool
is_among n ns = list_any (is_at (int_cmp n)) ns

unfoldable pub with_number : List ℤ → ℤ → List ℤ
with_number ns n = insert_key int_cmp ns n

-- these and those that were found
abbrev pub set_of : List ℤ → List ℤ → List ℤ
set_of found [] = found
set_of found (n ∷ ns) = set_of (with_number found n) ns

-- ---- the numbers that are given in the root

-- those of the items from an index on, and those that were found
abbrev pub given_from : ℕ → List (Option ℤ) → List ℤ → Result (List ℤ) raw.NumberFault
given_from i [] found = Ok found
given_from i (None ∷ xs) found = given_from (suc i) xs found
given_from i (Some n ∷ xs) found = if is_among n found then Err (Repeated i) else given_from (suc i) xs (with_number found n)

-- ---- numbers that are free

-- the first from n on that isn't taken, of so many and the one behind them
unfoldable pub free_within : ℕ → List ℤ → ℤ → ℤ
free_within zero taken n = n
free_within (suc k) taken n = if is_among n taken then free_within k taken (n +ℤ pos 1) else n

-- the least number from n on that isn't taken
abbrev pub first_free : List ℤ → ℤ → ℤ
first_free taken n = free_within (length taken) taken n

-- a number that has 128 bits
unfoldable pub representable : ℤ → Option ℤ
representable n = if int_lt n (pos (2 ^ 127)) then Some n else None

-- ---- the numbers of the root, where these are given and the next one without gets one from n on

abbrev pub root_numbers : List ℤ → ℤ → List (Option ℤ) → List ℤ
root_numbers given n [] = []
root_numbers given n (Some m ∷ xs) = m ∷ root_numbers given n xs
root_numbers given n (None ∷ xs) = first_free given n ∷ root_numbers given (first_free given n +ℤ pos 1) xs

-- ---- the numbers of additional items, where the root has those taken and the last one so far is this

-- the least number that one without may have
abbrev pub least_after : Option ℤ → ℤ
least_after None = pos 0
least_after (Some n) = if int_lt n (pos 0) then pos 0 else n +ℤ pos 1

abbrev pub is_above : Option ℤ → ℤ → Bool
is_above None n = true
is_above (Some m) n = int_lt m n

abbrev pub given_later : List ℤ → Option ℤ → ℕ → ℤ → Result ℤ raw.NumberFault
given_later taken last i n =
    if is_among n taken then Err (Repeated i) else if is_above last n then Ok n else Err (NotAscending i)

abbrev pub unless_too_large : ℕ → Option ℤ → Result ℤ raw.NumberFault
unless_too_large i (Some n) = Ok n
unless_too_large i None = Err (TooLarge i)

-- what one without gets
abbrev pub free_later : List ℤ → Option ℤ → Option ℤ
free_later taken last = representable (first_free taken (least_after last))

abbrev pub later_number : List ℤ → Option ℤ → ℕ → Option ℤ → Result ℤ raw.NumberFault
later_number taken last i (Some n) = given_later taken last i n
later_number taken last i None = unless_too_large i (free_later taken last)

-- beside those that were found
abbrev pub later_numbers : List ℤ → Option ℤ → List (Option ℤ) → List ℤ → Result (List ℤ) raw.NumberFault
later_numbers taken last [] found = Ok found
later_numbers taken last (x ∷ xs) found =
    later_number taken last (length found) x >>= λ n. later_numbers taken (Some n) xs (found ++ n ∷ [])

-- ---- all

abbrev pub behind_root : List ℤ → List (Option ℤ) → Result (List ℤ) raw.NumberFault
behind_root ns more = later_numbers (set_of [] ns) None more ns

-- the number of each item, or the first fault
unfoldable pub number_items : List (Option ℤ) → List (Option ℤ) → Result (List ℤ) raw.NumberFault
number_items root more = given_from 0 root [] >>= λ given. behind_root (root_numbers given (pos 0) root) more
