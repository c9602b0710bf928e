-- The numbers that are found are those of the items, and they have no others.
use Rattle.std.proofs.Common.{◌≡◌, ℤ, pos, ◌+ℤ◌, ◌<ℤ◌, ◌≤ℤ◌, ◌^◌, ℕ, suc, List, [], ◌∷◌, ◌++◌, length, Bool, true, false, Option, Some, None, Result, Ok, Err, ◌⊎◌, inl, inr}
use Rattle.std.proofs.Common.{refl, sym, ap, subst, ◌∙◌, arith, append_assoc}
use Rattle.std.proofs.lemmas.List.{append-nil}
use Rattle.std.specs.Prelude.{int_lt, if◌then◌else◌}
use Rattle.std.proofs.lemmas.Int.{ints, by_lt_z}
use Rattle.oer_module_parts.specs.Numbered.{AreBelow, AreDistinct, AreNumbered, IsAmong, IsFree, IsLeast, IsNew, LaterHave, RootHas, given_in}
use Rattle.oer_module_parts.specs.Numbered.{root_none, root_its_own, root_least, later_none, later_its_own, later_least}
use Rattle.oer_module_parts.specs.Numbering.{behind_root, first_free, free_later, given_from, given_later, is_above, is_among, later_numbers, least_after, number_items}
use Rattle.oer_module_parts.specs.Numbering.{representable, root_numbers, set_of, unless_too_large, with_number, ◌>>=◌}
use Rattle.oer_module_parts.specs.declared.numbering.NumberFault.{NumberFault}
use Rattle.oer_module_parts.specs.declared.numbering.NumberFault.TheVariants.{Repeated, NotAscending}
use Rattle.oer_module_parts.proofs.FreeNumbers.{free_is_new, free_passes}
use Rattle.oer_module_parts.proofs.NumberSets.{AreSame, OneMore, added_from, added_to, among_false, among_true, set_same}
use Rattle.oer_module_parts.proofs.NumberSteps.{free_from, representable_same}

bind_ok : {A B : Type 0} (r : Result A NumberFault) (f : A → Result B NumberFault) (b : B) → (r >>= f) ≡ Ok b → (a : A) × (r ≡ Ok a) × (f a ≡ Ok b)
bind_ok (Ok a) f b h = (a, refl, h)
bind_ok (Err e) f b h = absurd (cc)

-- ---- the numbers that are given

-- They are distinct, none of them was found before, and they and those are all.
pub record AreGiven (given found keys : List ℤ) : Type 0 where
  pub distinct : AreDistinct given
  pub fresh : (q : ℤ) → IsAmong q given → ¬ IsAmong q found
  pub there : (q : ℤ) → IsAmong q keys → IsAmong q found ⊎ IsAmong q given
  pub back : (q : ℤ) → IsAmong q found ⊎ IsAmong q given → IsAmong q keys

none_given : (found keys : List ℤ) → found ≡ keys → AreGiven [] found keys
none_given found keys e = record {
  distinct = tt;
  fresh = λ q is. absurd is;
  there = λ q is. inl (subst (λ ns. IsAmong q ns) (sym e) is);
  back = λ q is. subst (λ ns. IsAmong q ns) e (only q is);
}
  where
    only : (q : ℤ) → IsAmong q found ⊎ IsAmong q [] → IsAmong q found
    only q (inl is) = is
    only q (inr is) = absurd is

one_given : (n : ℤ) (given found keys : List ℤ) → ¬ IsAmong n found → AreGiven given (with_number found n) keys → AreGiven (n ∷ given) found keys
one_given n given found keys new more = record {
  distinct = ((λ is. more.fresh n is (added_to n n found (inl refl))), more.distinct);
  fresh = not_found;
  there = λ q is. from q (more.there q is);
  back = λ q is. more.back q (to q is);
}
  where
    not_found : (q : ℤ) → IsAmong q (n ∷ given) → ¬ IsAmong q found
    not_found q (inl e) = λ is. new (subst (λ k. IsAmong k found) e is)
    not_found q (inr is) = λ there. more.fresh q is (added_to q n found (inr there))

    split : (q : ℤ) → OneMore q n found → IsAmong q found ⊎ IsAmong q (n ∷ given)
    split q (inl e) = inr (inl e)
    split q (inr is) = inl is

    from : (q : ℤ) → IsAmong q (with_number found n) ⊎ IsAmong q given → IsAmong q found ⊎ IsAmong q (n ∷ given)
    from q (inl is) = split q (added_from q n found is)
    from q (inr is) = inr (inr is)

    to : (q : ℤ) → IsAmong q found ⊎ IsAmong q (n ∷ given) → IsAmong q (with_number found n) ⊎ IsAmong q given
    to q (inl is) = inl (added_to q n found (inr is))
    to q (inr (inl e)) = inl (added_to q n found (inl e))
    to q (inr (inr is)) = inr is

pub given_sound : (i : ℕ) (xs : List (Option ℤ)) (found keys : List ℤ) → given_from i xs found ≡ Ok keys → AreGiven (given_in xs) found keys
given_sound i [] found keys h = none_given found keys (cc)
given_sound i (None ∷ xs) found keys h = given_sound (suc i) xs found keys h
given_sound i (Some n ∷ xs) found keys h =
    let by : (b : Bool) → is_among n found ≡ b → (if b then Err (Repeated i) else given_from (suc i) xs (with_number found n)) ≡ Ok keys → AreGiven (n ∷ given_in xs) found keys =
    λ b. elim b as (λ b. is_among n found ≡ b → (if b then Err (Repeated i) else given_from (suc i) xs (with_number found n)) ≡ Ok keys → AreGiven (n ∷ given_in xs) found keys) [
      | true ↦ λ e f. absurd (cc)
      | false ↦ λ e f. one_given n (given_in xs) found keys (among_false n found e) (given_sound (suc i) xs (with_number found n) keys f)
    ] in
    by (is_among n found) refl h

-- ---- the root

-- The items without a number so far have those before, which are below the next one, and no number below is free.
pub record RootSoFar (given before : List ℤ) (next : ℤ) : Type 0 where
  pub from : pos 0 ≤ℤ next
  pub below : AreBelow next before
  pub passed : (m : ℤ) → pos 0 ≤ℤ m → m <ℤ next → IsAmong m given ⊎ IsAmong m before

below_more : (m n : ℤ) (ms : List ℤ) → m ≤ℤ n → AreBelow m ms → AreBelow n ms
below_more m n [] le h = tt
below_more m n (k ∷ ks) le h = (let less = h.0 in omega (arith, ints), below_more m n ks le h.1)

not_among : (n : ℤ) (ms : List ℤ) → AreBelow n ms → ¬ IsAmong n ms
not_among n [] h = λ is. is
not_among n (m ∷ ms) h = here (not_among n ms h.1)
  where
    here : ¬ IsAmong n ms → IsAmong n (m ∷ ms) → ⊥
    here later (inl e) = absurd (let less = subst (λ k. k <ℤ n) (sym e) h.0 in omega (arith, ints))
    here later (inr is) = later is

module _ (given keys : List ℤ) (same : AreSame keys given) (before : List ℤ) (next : ℤ) (so_far : RootSoFar given before next) where
  free_least : IsLeast (IsFree given before) (first_free keys next)
  free_least = record {
    from_zero = let low = so_far.from in let up = free_from (length keys) keys next in omega (arith, ints);
    holds = ((λ is. free_is_new keys next (same.back _ is)), not_among _ before (below_more next _ before (free_from (length keys) keys next) so_far.below));
    least = λ m low less free. by_lt_z m next
        (λ passed. neither m free (so_far.passed m low passed))
        (λ from. free.0 (same.there m (free_passes keys next m from less)));
  }
    where
      neither : (m : ℤ) → IsFree given before m → IsAmong m given ⊎ IsAmong m before → ⊥
      neither m free (inl is) = free.0 is
      neither m free (inr is) = free.1 is

  so_far_next : RootSoFar given (first_free keys next ∷ before) (first_free keys next +ℤ pos 1)
  so_far_next = record {
    from = let low = so_far.from in let up = free_from (length keys) keys next in omega (arith, ints);
    below = (omega (arith, ints), below_more next _ before (let up = free_from (length keys) keys next in omega (arith, ints)) so_far.below);
    passed = λ m low less. by_lt_z m (first_free keys next)
        (λ passed. by_lt_z m next
        (λ earlier. later m (so_far.passed m low earlier))
        (λ from. inl (same.there m (free_passes keys next m from passed))))
        (λ from. inr (inl (let is : m ≡ first_free keys next = omega (arith, ints) in is)));
  }
    where
      later : (m : ℤ) → IsAmong m given ⊎ IsAmong m before → IsAmong m given ⊎ IsAmong m (first_free keys next ∷ before)
      later m (inl is) = inl is
      later m (inr is) = inr (inr is)

pub root_sound : (given keys : List ℤ) → AreSame keys given → (before : List ℤ) (next : ℤ) → RootSoFar given before next → (xs : List (Option ℤ)) → RootHas given before xs (root_numbers keys next xs)
root_sound given keys same before next so_far [] = root_none
root_sound given keys same before next so_far (Some n ∷ xs) = root_its_own (root_sound given keys same before next so_far xs)
root_sound given keys same before next so_far (None ∷ xs) =
    root_least (free_least given keys same before next so_far)
    (root_sound given keys same (first_free keys next ∷ before) (first_free keys next +ℤ pos 1) (so_far_next given keys same before next so_far) xs)

-- ---- the additional items

-- above the last one is above all before
pub record LaterSoFar (before : List ℤ) (last : Option ℤ) : Type 0 where
  pub above : (n : ℤ) → is_above last n ≡ true → AreBelow n before
  pub back : (n : ℤ) → AreBelow n before → is_above last n ≡ true

is_less : (m n : ℤ) → m <ℤ n → int_lt m n ≡ true
is_less m n h = grind (arith, ints)

less_is : (m n : ℤ) → int_lt m n ≡ true → m <ℤ n
less_is m n h = grind (arith, ints)

none_so_far : LaterSoFar [] None
none_so_far = record { above = λ n h. tt; back = λ n h. refl }

one_so_far : (before : List ℤ) (n : ℤ) → AreBelow n before → LaterSoFar (n ∷ before) (Some n)
one_so_far before n h = record {
  above = λ k e. (less_is n k e, below_more n k before (let less = less_is n k e in omega (arith, ints)) h);
  back = λ k below. is_less n k below.0;
}

-- what may follow the last one is above it, and no less may
above_last : (last : Option ℤ) (n : ℤ) → least_after last ≤ℤ n → is_above last n ≡ true
above_last None n h = refl
above_last (Some m) n h =
    let by : (b : Bool) → int_lt m (pos 0) ≡ b → (if b then pos 0 else m +ℤ pos 1) ≤ℤ n → m <ℤ n =
    λ b. elim b as (λ b. int_lt m (pos 0) ≡ b → (if b then pos 0 else m +ℤ pos 1) ≤ℤ n → m <ℤ n) [
      | true ↦ λ e f. (let less = less_is m (pos 0) e in omega (arith, ints))
      | false ↦ λ e f. omega (arith, ints)
    ] in
    is_less m n (by (int_lt m (pos 0)) refl h)

least_from : (last : Option ℤ) (n : ℤ) → pos 0 ≤ℤ n → is_above last n ≡ true → least_after last ≤ℤ n
least_from None n low h = low
least_from (Some m) n low h =
    let less = less_is m n h in
    elim (int_lt m (pos 0)) as (λ b. (if b then pos 0 else m +ℤ pos 1) ≤ℤ n) [ true ↦ low | false ↦ omega (arith, ints) ]

least_low : (last : Option ℤ) → pos 0 ≤ℤ least_after last
least_low None = omega (arith, ints)
least_low (Some m) =
    let by : (b : Bool) → int_lt m (pos 0) ≡ b → pos 0 ≤ℤ (if b then pos 0 else m +ℤ pos 1) =
    λ b. elim b as (λ b. int_lt m (pos 0) ≡ b → pos 0 ≤ℤ (if b then pos 0 else m +ℤ pos 1)) [
      | true ↦ λ e. omega (arith, ints)
      | false ↦ λ e. by_lt_z m (pos 0) (λ less. let yes = is_less m (pos 0) less in absurd (cc)) (λ from. omega (arith, ints))
    ] in
    by (int_lt m (pos 0)) refl

module _ (root taken : List ℤ) (same : AreSame taken root) (before : List ℤ) (last : Option ℤ) (so_far : LaterSoFar before last) where
  free_new : IsLeast (IsNew root before) (first_free taken (least_after last))
  free_new =
      let up = free_from (length taken) taken (least_after last) in
      record {
        from_zero = let low = least_low last in omega (arith, ints);
        holds = ((λ is. free_is_new taken (least_after last) (same.back _ is)), so_far.above _ (above_last last _ up));
        least = λ m low less new. new.0 (same.there m (free_passes taken (least_after last) m (least_from last m low (so_far.back m new.1)) less));
      }

  given_new : (i : ℕ) (n m : ℤ) → given_later taken last i n ≡ Ok m → IsNew root before n × (n ≡ m)
  given_new i n m h = by_taken (is_among n taken) refl h
    where
      by_above : (c : Bool) → is_above last n ≡ c → ¬ IsAmong n taken → (if c then Ok n else Err (NotAscending i)) ≡ Ok m → IsNew root before n × (n ≡ m)
      by_above true e new h = (((λ is. new (same.back n is)), so_far.above n e), cc)
      by_above false e new h = absurd (cc)

      by_taken : (b : Bool) → is_among n taken ≡ b → (if b then Err (Repeated i) else if is_above last n then Ok n else Err (NotAscending i)) ≡ Ok m → IsNew root before n × (n ≡ m)
      by_taken true e h = absurd (cc)
      by_taken false e h = by_above (is_above last n) refl (among_false n taken e) h

  free_found : (i : ℕ) (m : ℤ) → unless_too_large i (free_later taken last) ≡ Ok m → first_free taken (least_after last) ≡ m
  free_found i m h = by (free_later taken last) refl h
    where
      by : (o : Option ℤ) → o ≡ free_later taken last → unless_too_large i o ≡ Ok m → first_free taken (least_after last) ≡ m
      by (Some k) e h = sym (representable_same (first_free taken (least_after last)) k e) ∙ cc
      by None e h = absurd (cc)

-- the numbers behind those found are those of the items
LaterFound : List ℤ → List ℤ → List (Option ℤ) → List ℤ → List ℤ → Type 0
LaterFound root before xs found ns = (ms : List ℤ) × (ns ≡ found ++ ms) × LaterHave root before xs ms

later_more : (root before : List ℤ) (x : Option ℤ) (xs : List (Option ℤ)) (found ns : List ℤ) (n : ℤ) → ((ms : List ℤ) → LaterHave root (n ∷ before) xs ms → LaterHave root before (x ∷ xs) (n ∷ ms))
    → LaterFound root (n ∷ before) xs (found ++ n ∷ []) ns → LaterFound root before (x ∷ xs) found ns
unfolding LaterFound
later_more root before x xs found ns n one (ms, is, has) = (n ∷ ms, is ∙ append_assoc found (n ∷ []) ms, one ms has)

later_sound : (root taken : List ℤ) → AreSame taken root → (before : List ℤ) (last : Option ℤ) → LaterSoFar before last → (xs : List (Option ℤ)) (found ns : List ℤ)
    → later_numbers taken last xs found ≡ Ok ns → LaterFound root before xs found ns
unfolding LaterFound
later_sound root taken same before last so_far [] found ns h = ([], (cc) ∙ sym (append-nil found), later_none)
later_sound root taken same before last so_far (Some n ∷ xs) found ns h =
    let step = bind_ok (given_later taken last (length found) n) (λ k. later_numbers taken (Some k) xs (found ++ k ∷ [])) ns h in
    let new = given_new root taken same before last so_far (length found) n step.0 step.1 in
    let rest = subst (λ k. later_numbers taken (Some k) xs (found ++ k ∷ []) ≡ Ok ns) (sym new.1) step.2 in
    later_more root before (Some n) xs found ns n (λ ms has. later_its_own new.0 has)
    (later_sound root taken same (n ∷ before) (Some n) (one_so_far before n new.0.1) xs (found ++ n ∷ []) ns rest)
later_sound root taken same before last so_far (None ∷ xs) found ns h =
    let step = bind_ok (unless_too_large (length found) (free_later taken last)) (λ k. later_numbers taken (Some k) xs (found ++ k ∷ [])) ns h in
    let n = first_free taken (least_after last) in
    let is = free_found root taken same before last so_far (length found) step.0 step.1 in
    let rest = subst (λ k. later_numbers taken (Some k) xs (found ++ k ∷ []) ≡ Ok ns) (sym is) step.2 in
    let new = free_new root taken same before last so_far in
    later_more root before None xs found ns n (λ ms has. later_least new has)
    (later_sound root taken same (n ∷ before) (Some n) (one_so_far before n new.holds.1) xs (found ++ n ∷ []) ns rest)

-- ---- all

-- nothing is numbered yet
root_start : (given : List ℤ) → RootSoFar given [] (pos 0)
root_start given = record { from = omega (arith, ints); below = tt; passed = λ m low less. absurd (omega (arith, ints)) }

-- the root's numbers, where those that are given were found
root_found : (root : List (Option ℤ)) (keys : List ℤ) → given_from 0 root [] ≡ Ok keys → RootHas (given_in root) [] root (root_numbers keys (pos 0) root)
root_found root keys h =
    let given = given_sound 0 root [] keys h in
    root_sound (given_in root) keys (record { there = λ q is. only q (given.there q is); back = λ q is. given.back q (inr is) }) [] (pos 0) (root_start (given_in root)) root
  where
    only : (q : ℤ) → IsAmong q [] ⊎ IsAmong q (given_in root) → IsAmong q (given_in root)
    only q (inl is) = absurd is
    only q (inr is) = is

pub numbers_sound : (root more : List (Option ℤ)) (ns : List ℤ) → number_items root more ≡ Ok ns → AreNumbered root more ns
unfolding number_items LaterFound
numbers_sound root more ns h =
    let step = bind_ok (given_from 0 root []) (λ given. behind_root (root_numbers given (pos 0) root) more) ns h in
    let rs = root_numbers step.0 (pos 0) root in
    let later = later_sound rs (set_of [] rs) (set_same rs) [] None none_so_far more rs ns step.2 in
    record {
      distinct = (given_sound 0 root [] step.0 step.1).distinct;
      of_root = rs;
      of_more = later.0;
      split = later.1;
      root_has = root_found root step.0 step.1;
      more_have = later.2;
    }

-- ---- no others

least_same : (P : ℤ → Type 0) (m n : ℤ) → IsLeast P m → IsLeast P n → m ≡ n
least_same P m n a b =
    by_lt_z m n (λ less. absurd (b.least m a.from_zero less a.holds))
    (λ from. by_lt_z n m (λ less. absurd (a.least n b.from_zero less b.holds)) (λ to. let is : m ≡ n = omega (arith, ints) in is))

root_same : (given before : List ℤ) (xs : List (Option ℤ)) (ms ns : List ℤ) → RootHas given before xs ms → RootHas given before xs ns → ms ≡ ns
root_same given before [] ms ns root_none root_none = refl
root_same given before (Some n ∷ xs) ms ns (root_its_own a) (root_its_own b) = ap (λ ks. n ∷ ks) (root_same given before xs _ _ a b)
root_same given before (None ∷ xs) [] ns a b = elim a [ ]
root_same given before (None ∷ xs) (m ∷ ms) [] a b = elim b [ ]
root_same given before (None ∷ xs) (m ∷ ms) (n ∷ ns) (root_least a as_m) (root_least b as_n) =
    let same = least_same (IsFree given before) m n a b in
    ap (λ k. k ∷ ms) same ∙ ap (λ ks. n ∷ ks) (root_same given (n ∷ before) xs ms ns (subst (λ k. RootHas given (k ∷ before) xs ms) same as_m) as_n)

later_same : (root before : List ℤ) (xs : List (Option ℤ)) (ms ns : List ℤ) → LaterHave root before xs ms → LaterHave root before xs ns → ms ≡ ns
later_same root before [] ms ns later_none later_none = refl
later_same root before (Some n ∷ xs) ms ns (later_its_own a as_m) (later_its_own b as_n) = ap (λ ks. n ∷ ks) (later_same root (n ∷ before) xs _ _ as_m as_n)
later_same root before (None ∷ xs) [] ns a b = elim a [ ]
later_same root before (None ∷ xs) (m ∷ ms) [] a b = elim b [ ]
later_same root before (None ∷ xs) (m ∷ ms) (n ∷ ns) (later_least a as_m) (later_least b as_n) =
    let same = least_same (IsNew root before) m n a b in
    ap (λ k. k ∷ ms) same ∙ ap (λ ks. n ∷ ks) (later_same root (n ∷ before) xs ms ns (subst (λ k. LaterHave root (k ∷ before) xs ms) same as_m) as_n)

pub numbers_unique : (root more : List (Option ℤ)) (ms ns : List ℤ) → AreNumbered root more ms → AreNumbered root more ns → ms ≡ ns
numbers_unique root more ms ns a b =
    let roots = root_same (given_in root) [] root a.of_root b.of_root a.root_has b.root_has in
    let laters = later_same b.of_root [] more a.of_more b.of_more (subst (λ rs. LaterHave rs [] more a.of_more) roots a.more_have) b.more_have in
    a.split ∙ ap (λ rs. rs ++ a.of_more) roots ∙ ap (λ ks. b.of_root ++ ks) laters ∙ sym b.split

-- ---- they are found

not_found : (n : ℤ) (ns : List ℤ) → ¬ IsAmong n ns → is_among n ns ≡ false
not_found n ns new = by (is_among n ns) refl
  where
    by : (b : Bool) → is_among n ns ≡ b → b ≡ false
    by true e = absurd (new (among_true n ns e))
    by false e = refl

given_next : (i : ℕ) (n : ℤ) (xs : List (Option ℤ)) (found : List ℤ) → ¬ IsAmong n found → given_from i (Some n ∷ xs) found ≡ given_from (suc i) xs (with_number found n)
given_next i n xs found new = rw (not_found n found new) refl

given_complete : (i : ℕ) (xs : List (Option ℤ)) (found : List ℤ) → AreDistinct (given_in xs) → ((q : ℤ) → IsAmong q (given_in xs) → ¬ IsAmong q found)
    → (keys : List ℤ) × (given_from i xs found ≡ Ok keys)
given_complete i [] found distinct fresh = (found, refl)
given_complete i (None ∷ xs) found distinct fresh = given_complete (suc i) xs found distinct fresh
given_complete i (Some n ∷ xs) found distinct fresh =
    let rest = given_complete (suc i) xs (with_number found n) distinct.1 (λ q is there. later q is (added_from q n found there)) in
    (rest.0, given_next i n xs found (fresh n (inl refl)) ∙ rest.1)
  where
    later : (q : ℤ) → IsAmong q (given_in xs) → OneMore q n found → ⊥
    later q is (inl e) = distinct.0 (subst (λ k. IsAmong k (given_in xs)) e is)
    later q is (inr there) = fresh q (inr is) there

representable_below : (n : ℤ) → n <ℤ pos (2 ^ 127) → representable n ≡ Some n
unfolding representable
representable_below n less = rw (is_less n (pos (2 ^ 127)) less) refl

given_ok : (root taken : List ℤ) → AreSame taken root → (before : List ℤ) (last : Option ℤ) → LaterSoFar before last → (i : ℕ) (n : ℤ) → IsNew root before n → given_later taken last i n ≡ Ok n
given_ok root taken same before last so_far i n new = rw (not_found n taken (λ is. new.0 (same.there n is)), so_far.back n new.1) refl

free_ok : (root taken : List ℤ) → AreSame taken root → (before : List ℤ) (last : Option ℤ) → LaterSoFar before last → (i : ℕ) (n : ℤ) → IsLeast (IsNew root before) n → n <ℤ pos (2 ^ 127)
    → unless_too_large i (free_later taken last) ≡ Ok n
free_ok root taken same before last so_far i n new less =
    let is = least_same (IsNew root before) (first_free taken (least_after last)) n (free_new root taken same before last so_far) new in
    ap (λ k. unless_too_large i (representable k)) is ∙ ap (unless_too_large i) (representable_below n less)

later_complete : (root taken : List ℤ) → AreSame taken root → (before : List ℤ) (last : Option ℤ) → LaterSoFar before last → (xs : List (Option ℤ)) (found ms : List ℤ)
    → LaterHave root before xs ms → AreBelow (pos (2 ^ 127)) ms → later_numbers taken last xs found ≡ Ok (found ++ ms)
later_complete root taken same before last so_far [] found ms later_none below = ap Ok (sym (append-nil found))
later_complete root taken same before last so_far (Some n ∷ xs) found ms (later_its_own {ns = ns} new has) below =
    ap (λ r. r >>= λ k. later_numbers taken (Some k) xs (found ++ k ∷ [])) (given_ok root taken same before last so_far (length found) n new)
    ∙ later_complete root taken same (n ∷ before) (Some n) (one_so_far before n new.1) xs (found ++ n ∷ []) ns has below.1
    ∙ ap Ok (append_assoc found (n ∷ []) ns)
later_complete root taken same before last so_far (None ∷ xs) found [] has below = elim has [ ]
later_complete root taken same before last so_far (None ∷ xs) found (n ∷ ns) (later_least new has) below =
    ap (λ r. r >>= λ k. later_numbers taken (Some k) xs (found ++ k ∷ [])) (free_ok root taken same before last so_far (length found) n new below.0)
    ∙ later_complete root taken same (n ∷ before) (Some n) (one_so_far before n new.holds.1) xs (found ++ n ∷ []) ns has below.1
    ∙ ap Ok (append_assoc found (n ∷ []) ns)

below_behind : (n : ℤ) (ms ks : List ℤ) → AreBelow n (ms ++ ks) → AreBelow n ks
below_behind n [] ks h = h
below_behind n (m ∷ ms) ks h = below_behind n ms ks h.1

pub numbers_complete : (root more : List (Option ℤ)) (ns : List ℤ) → AreNumbered root more ns → AreBelow (pos (2 ^ 127)) ns → number_items root more ≡ Ok ns
unfolding number_items
numbers_complete root more ns has below =
    let found = given_complete 0 root [] has.distinct (λ q is there. there) in
    let keys = found.0 in
    let rs = root_numbers keys (pos 0) root in
    let roots : has.of_root ≡ rs = root_same (given_in root) [] root has.of_root rs has.root_has (root_found root keys found.1) in
    let more_below = below_behind (pos (2 ^ 127)) has.of_root has.of_more (subst (λ ks. AreBelow (pos (2 ^ 127)) ks) has.split below) in
    ap (λ r. r >>= λ given. behind_root (root_numbers given (pos 0) root) more) found.1
    ∙ later_complete rs (set_of [] rs) (set_same rs) [] None none_so_far more rs has.of_more (subst (λ ks. LaterHave ks [] more has.of_more) roots has.more_have) more_below
    ∙ ap Ok (ap (λ ks. ks ++ has.of_more) (sym roots) ∙ sym has.split)
