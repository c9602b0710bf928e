-- The number that is found is the least that is free.
use Rattle.std.proofs.Common.{◌≡◌, ℤ, pos, ◌+ℤ◌, ◌<ℤ◌, ◌≤ℤ◌, ℕ, zero, suc, ◌<◌, ◌≤◌, List, [], ◌∷◌, length, Bool, true, false, inl, inr, refl, subst, arith}
use Rattle.std.specs.Prelude.{int_lt, if◌then◌else◌}
use Rattle.std.proofs.lemmas.Int.{ints, by_lt_z}
use Rattle.oer_module_parts.specs.Numbered.{IsAmong}
use Rattle.oer_module_parts.specs.Numbering.{is_among, first_free, free_within}
use Rattle.oer_module_parts.proofs.NumberSets.{among_true, among_false}

is_less : (m n : ℤ) → m <ℤ n → int_lt m n ≡ true
is_less m n h = grind (arith, ints)

not_less : (m n : ℤ) → n ≤ℤ m → int_lt m n ≡ false
not_less m n h = grind (arith, ints)

-- how many of these are n or above
above : ℤ → List ℤ → ℕ
above n [] = 0
above n (m ∷ ms) = if int_lt m n then above n ms else suc (above n ms)

above_here : (n m : ℤ) (ms : List ℤ) → n ≤ℤ m → above n (m ∷ ms) ≡ suc (above n ms)
unfolding above
above_here n m ms h = rw (not_less m n h) refl

above_not : (n m : ℤ) (ms : List ℤ) → m <ℤ n → above n (m ∷ ms) ≡ above n ms
unfolding above
above_not n m ms h = rw (is_less m n h) refl

above_most : (n : ℤ) (ms : List ℤ) → above n ms ≤ length ms
unfolding above
above_most n [] = omega arith
above_most n (m ∷ ms) =
    let rest = above_most n ms in
    elim (int_lt m n) as (λ b. (if b then above n ms else suc (above n ms)) ≤ suc (length ms)) [ true ↦ omega arith | false ↦ omega arith ]

above_next : (n : ℤ) (ms : List ℤ) → above (n +ℤ pos 1) ms ≤ above n ms
unfolding above
above_next n [] = omega arith
above_next n (m ∷ ms) =
    let rest = above_next n ms in
    by_lt_z m n
    (λ less. let a = above_not n m ms less in let b = above_not (n +ℤ pos 1) m ms (omega (arith, ints)) in omega arith)
    (λ from. let a = above_here n m ms from in
    by_lt_z m (n +ℤ pos 1)
    (λ less. let b = above_not (n +ℤ pos 1) m ms less in omega arith)
    (λ more. let b = above_here (n +ℤ pos 1) m ms more in omega arith))

-- one that is among them isn't above itself
above_less : (n : ℤ) (ms : List ℤ) → IsAmong n ms → above (n +ℤ pos 1) ms < above n ms
above_less n [] is = absurd is
above_less n (m ∷ ms) (inl e) =
    let rest = above_next n ms in
    let a = above_here n m ms (subst (λ k. n ≤ℤ k) e (omega (arith, ints))) in
    let b = above_not (n +ℤ pos 1) m ms (subst (λ k. k <ℤ (n +ℤ pos 1)) e (omega (arith, ints))) in omega arith
above_less n (m ∷ ms) (inr is) =
    let rest = above_less n ms is in
    by_lt_z m n
    (λ less. let a = above_not n m ms less in let b = above_not (n +ℤ pos 1) m ms (omega (arith, ints)) in omega arith)
    (λ from. let a = above_here n m ms from in
    by_lt_z m (n +ℤ pos 1)
    (λ less. let b = above_not (n +ℤ pos 1) m ms less in omega arith)
    (λ more. let b = above_here (n +ℤ pos 1) m ms more in omega arith))

new_within : (k : ℕ) (taken : List ℤ) (n : ℤ) → above n taken ≤ k → ¬ IsAmong (free_within k taken n) taken
unfolding free_within
new_within zero taken n few = λ is. let less = above_less n taken is in absurd (omega arith)
new_within (suc k) taken n few =
    let by : (b : Bool) → is_among n taken ≡ b → ¬ IsAmong (if b then free_within k taken (n +ℤ pos 1) else n) taken =
    λ b. elim b as (λ b. is_among n taken ≡ b → ¬ IsAmong (if b then free_within k taken (n +ℤ pos 1) else n) taken) [
      | true ↦ λ e. new_within k taken (n +ℤ pos 1) (let less = above_less n taken (among_true n taken e) in omega arith)
      | false ↦ λ e. among_false n taken e
    ] in
    by (is_among n taken) refl

-- it isn't taken
pub free_is_new : (taken : List ℤ) (n : ℤ) → ¬ IsAmong (first_free taken n) taken
free_is_new taken n = new_within (length taken) taken n (above_most n taken)

passed_within : (k : ℕ) (taken : List ℤ) (n m : ℤ) → n ≤ℤ m → m <ℤ free_within k taken n → IsAmong m taken
unfolding free_within
passed_within zero taken n m from less = absurd (omega (arith, ints))
passed_within (suc k) taken n m from less =
    let by : (b : Bool) → is_among n taken ≡ b → m <ℤ (if b then free_within k taken (n +ℤ pos 1) else n) → IsAmong m taken =
    λ b. elim b as (λ b. is_among n taken ≡ b → m <ℤ (if b then free_within k taken (n +ℤ pos 1) else n) → IsAmong m taken) [
      | true ↦ λ e below. by_lt_z n m
          (λ behind. passed_within k taken (n +ℤ pos 1) m (omega (arith, ints)) below)
          (λ here. subst (λ j. IsAmong j taken) (let same : n ≡ m = omega (arith, ints) in same) (among_true n taken e))
      | false ↦ λ e below. absurd (omega (arith, ints))
    ] in
    by (is_among n taken) refl less

-- those before it are
pub free_passes : (taken : List ℤ) (n m : ℤ) → n ≤ℤ m → m <ℤ first_free taken n → IsAmong m taken
free_passes taken n m from less = passed_within (length taken) taken n m from less
