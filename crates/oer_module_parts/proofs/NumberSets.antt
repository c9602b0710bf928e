-- Which numbers are among a set of numbers.
use Rattle.std.proofs.Common.{◌≡◌, ℤ, List, [], ◌∷◌, Bool, true, false, ◌⊎◌, inl, inr, refl, sym, ap, ◌∙◌, arith}
use Rattle.std.specs.Prelude.{◌||◌}
use Rattle.std.specs.Ordering.{int_cmp, is_eq, match_ordering}
use Rattle.std.specs.declared.cmp.Ordering.{Ordering}
use Rattle.std.specs.declared.cmp.Ordering.TheVariants.{Less, Equal, Greater}
use Rattle.std.proofs.lemmas.Cmp.{int_ranked}
use Rattle.std.proofs.lemmas.Int.{ints}
use Rattle.oer_module_parts.specs.Numbered.{IsAmong}
use Rattle.oer_module_parts.specs.Numbering.{is_among, with_number, set_of}

same_by : (n m : ℤ) (r : Ordering) → r ≡ int_cmp n m → is_eq r ≡ true → n ≡ m
same_by n m Less e h = absurd (cc)
same_by n m Equal e h = int_ranked n m Equal e
same_by n m Greater e h = absurd (cc)

self_by : (n : ℤ) (r : Ordering) → r ≡ int_cmp n n → is_eq r ≡ true
self_by n Less e = absurd (let h = int_ranked n n Less e in omega (arith, ints))
self_by n Equal e = refl
self_by n Greater e = absurd (let h = int_ranked n n Greater e in omega (arith, ints))

first_or : (a b : Bool) → (a || b) ≡ true → (a ≡ true) ⊎ (b ≡ true)
first_or true b h = inl refl
first_or false b h = inr h

pub among_true : (n : ℤ) (ns : List ℤ) → is_among n ns ≡ true → IsAmong n ns
unfolding is_among
among_true n [] h = absurd (cc)
among_true n (m ∷ ms) h = either (among_true n ms) (first_or (is_eq (int_cmp n m)) (is_among n ms) h)
  where
    either : (is_among n ms ≡ true → IsAmong n ms) → (is_eq (int_cmp n m) ≡ true) ⊎ (is_among n ms ≡ true) → (n ≡ m) ⊎ IsAmong n ms
    either later (inl e) = inl (same_by n m (int_cmp n m) refl e)
    either later (inr e) = inr (later e)

or_true : (a b : Bool) → b ≡ true → (a || b) ≡ true
or_true true b h = refl
or_true false b h = h

pub among_is : (n : ℤ) (ns : List ℤ) → IsAmong n ns → is_among n ns ≡ true
unfolding is_among
among_is n [] h = absurd h
among_is n (m ∷ ms) (inl e) = ap (λ k. is_eq (int_cmp n k) || is_among n ms) (sym e) ∙ ap (λ b. b || is_among n ms) (self_by n (int_cmp n n) refl)
among_is n (m ∷ ms) (inr h) = or_true (is_eq (int_cmp n m)) (is_among n ms) (among_is n ms h)

pub among_false : (n : ℤ) (ns : List ℤ) → is_among n ns ≡ false → ¬ IsAmong n ns
among_false n ns h = λ is. let true_too = among_is n ns is in absurd (cc)

-- ---- with one more

-- q is n or among these
abbrev pub OneMore : ℤ → ℤ → List ℤ → Type 0
OneMore q n ns = (q ≡ n) ⊎ IsAmong q ns

added_by : (q n m : ℤ) (ms : List ℤ) (r : Ordering) → r ≡ int_cmp n m → (IsAmong q (with_number ms n) → OneMore q n ms)
    → IsAmong q (match_ordering r (n ∷ m ∷ ms) (m ∷ ms) (m ∷ with_number ms n)) → OneMore q n (m ∷ ms)
added_by q n m ms Less e later (inl is) = inl is
added_by q n m ms Less e later (inr is) = inr is
added_by q n m ms Equal e later is = inr is
added_by q n m ms Greater e later (inl is) = inr (inl is)
added_by q n m ms Greater e later (inr is) = behind (later is)
  where
    behind : OneMore q n ms → OneMore q n (m ∷ ms)
    behind (inl is) = inl is
    behind (inr is) = inr (inr is)

pub added_from : (q n : ℤ) (ms : List ℤ) → IsAmong q (with_number ms n) → OneMore q n ms
unfolding with_number
added_from q n [] (inl is) = inl is
added_from q n [] (inr is) = absurd is
added_from q n (m ∷ ms) is = added_by q n m ms (int_cmp n m) refl (added_from q n ms) is

added_to_by : (q n m : ℤ) (ms : List ℤ) (r : Ordering) → r ≡ int_cmp n m → (OneMore q n ms → IsAmong q (with_number ms n))
    → OneMore q n (m ∷ ms) → IsAmong q (match_ordering r (n ∷ m ∷ ms) (m ∷ ms) (m ∷ with_number ms n))
added_to_by q n m ms Less e later (inl is) = inl is
added_to_by q n m ms Less e later (inr is) = inr is
added_to_by q n m ms Equal e later (inl is) = inl (is ∙ int_ranked n m Equal e)
added_to_by q n m ms Equal e later (inr is) = is
added_to_by q n m ms Greater e later (inl is) = inr (later (inl is))
added_to_by q n m ms Greater e later (inr (inl is)) = inl is
added_to_by q n m ms Greater e later (inr (inr is)) = inr (later (inr is))

pub added_to : (q n : ℤ) (ms : List ℤ) → OneMore q n ms → IsAmong q (with_number ms n)
unfolding with_number
added_to q n [] (inl is) = inl is
added_to q n [] (inr is) = absurd is
added_to q n (m ∷ ms) is = added_to_by q n m ms (int_cmp n m) refl (added_to q n ms) is

-- ---- the same numbers

pub record AreSame (ms ns : List ℤ) : Type 0 where
  pub there : (q : ℤ) → IsAmong q ms → IsAmong q ns
  pub back : (q : ℤ) → IsAmong q ns → IsAmong q ms

set_from : (q : ℤ) (found ns : List ℤ) → IsAmong q (set_of found ns) → IsAmong q found ⊎ IsAmong q ns
set_from q found [] is = inl is
set_from q found (n ∷ ns) is = either (set_from q (with_number found n) ns is)
  where
    one : OneMore q n found → IsAmong q found ⊎ IsAmong q (n ∷ ns)
    one (inl e) = inr (inl e)
    one (inr e) = inl e

    either : IsAmong q (with_number found n) ⊎ IsAmong q ns → IsAmong q found ⊎ IsAmong q (n ∷ ns)
    either (inl e) = one (added_from q n found e)
    either (inr e) = inr (inr e)

set_to : (q : ℤ) (found ns : List ℤ) → IsAmong q found ⊎ IsAmong q ns → IsAmong q (set_of found ns)
set_to q found [] (inl is) = is
set_to q found [] (inr is) = absurd is
set_to q found (n ∷ ns) (inl is) = set_to q (with_number found n) ns (inl (added_to q n found (inr is)))
set_to q found (n ∷ ns) (inr (inl is)) = set_to q (with_number found n) ns (inl (added_to q n found (inl is)))
set_to q found (n ∷ ns) (inr (inr is)) = set_to q (with_number found n) ns (inr is)

pub set_same : (ns : List ℤ) → AreSame (set_of [] ns) ns
set_same ns = record { there = λ q is. only q (set_from q [] ns is); back = λ q is. set_to q [] ns (inr is) }
  where
    only : (q : ℤ) → IsAmong q [] ⊎ IsAmong q ns → IsAmong q ns
    only q (inl is) = absurd is
    only q (inr is) = is
