-- The numbers that items of modules have, where all are given or none is.
use Rattle.std.proofs.Common.{◌≡◌, ℤ, pos, ◌<ℤ◌, ◌≤ℤ◌, ℕ, suc, ◌+◌, ◌≤◌, List, [], ◌∷◌, ◌++◌, length, map, Bool, true, false, Option, Some, None, Ok, inl, inr, refl, sym, ap, subst, ◌∙◌, arith}
use Rattle.std.proofs.lemmas.Int.{ints, by_lt_z}
use Rattle.oer_model.specs.AsnType.{NamedNumber}
use Rattle.oer_module_parts.specs.Numbered.{AreBelow, AreNumbered, IsAmong, IsFree, IsLeast, IsNew, LaterHave, RootHas, given_in, root_none, root_its_own, root_least, later_none, later_its_own, later_least}
use Rattle.oer_module_parts.specs.Numbering.{number_items}
use Rattle.oer_module_parts.proofs.NumberLaws.{numbers_sound}

-- each of them is given, or none is
pub data AllGiven : Bool → List (Option ℤ) → Type 0 where
  none_left : {numbered : Bool} → AllGiven numbered []
  given : {z : ℤ} {os : List (Option ℤ)} → AllGiven true os → AllGiven true (Some z ∷ os)
  not_given : {os : List (Option ℤ)} → AllGiven false os → AllGiven false (None ∷ os)

-- ---- all are given

given_append : (os qs : List (Option ℤ)) → given_in (os ++ qs) ≡ given_in os ++ given_in qs
given_append [] qs = refl
given_append (Some z ∷ os) qs = ap (λ l. z ∷ l) (given_append os qs)
given_append (None ∷ os) qs = given_append os qs

root_given : (given_ones before : List ℤ) (os : List (Option ℤ)) (ns : List ℤ) → AllGiven true os → RootHas given_ones before os ns → ns ≡ given_in os
root_given _ _ _ _ none_left root_none = refl
root_given gs before _ _ (given {z} a) (root_its_own r) = ap (λ l. z ∷ l) (root_given gs before _ _ a r)

later_given : (root before : List ℤ) (os : List (Option ℤ)) (ns : List ℤ) → AllGiven true os → LaterHave root before os ns → ns ≡ given_in os
later_given _ _ _ _ none_left later_none = refl
later_given root before _ _ (given {z} a) (later_its_own new r) = ap (λ l. z ∷ l) (later_given root (z ∷ before) _ _ a r)

-- ---- none is given

-- numbers from one on, one for each
abbrev pub count_from : ℕ → List (Option ℤ) → List ℤ
count_from k [] = []
count_from k (o ∷ os) = pos k ∷ count_from (k + 1) os

count_append : (k : ℕ) (os qs : List (Option ℤ)) → count_from k (os ++ qs) ≡ count_from k os ++ count_from (k + length os) qs
count_append k [] qs = ap (λ n. count_from n qs) (let is : k ≡ k + 0 = omega arith in is)
count_append k (o ∷ os) qs =
    ap (λ l. pos k ∷ l) (count_append (k + 1) os qs ∙ ap (λ n. count_from (k + 1) os ++ count_from n qs) (let is : k + 1 + length os ≡ k + suc (length os) = omega arith in is))

-- the least number that has what no less one has
least_is : (Holds : ℤ → Type 0) (n : ℤ) (k : ℕ) → IsLeast Holds n → Holds (pos k) → ((m : ℤ) → pos 0 ≤ℤ m → m <ℤ pos k → ¬ Holds m) → n ≡ pos k
least_is Holds n k least holds no_less =
    by_lt_z n (pos k) (λ less. absurd (no_less n least.from_zero less least.holds))
    (λ from. by_lt_z (pos k) n (λ less. absurd (least.least (pos k) (omega (arith, ints)) less holds)) (λ to. let is : n ≡ pos k = omega (arith, ints) in is))

above_all : (n : ℤ) (ms : List ℤ) → AreBelow n ms → ¬ IsAmong n ms
above_all n [] h = λ is. is
above_all n (m ∷ ms) h = here (above_all n ms h.1)
  where
    here : ¬ IsAmong n ms → IsAmong n (m ∷ ms) → ⊥
    here later (inl e) = absurd (let less = subst (λ k. k <ℤ n) (sym e) h.0 in omega (arith, ints))
    here later (inr is) = later is

below_later : (m n : ℤ) (ms : List ℤ) → m ≤ℤ n → AreBelow m ms → AreBelow n ms
below_later m n [] le h = tt
below_later m n (k ∷ ks) le h = (let less = h.0 in omega (arith, ints), below_later m n ks le h.1)

-- these are the numbers up to k
record Upto (k : ℕ) (ms : List ℤ) : Type 0 where
  below : AreBelow (pos k) ms
  all : (m : ℤ) → pos 0 ≤ℤ m → m <ℤ pos k → IsAmong m ms

none_upto : Upto 0 []
none_upto = record { below = tt; all = λ m from less. absurd (omega (arith, ints)) }

upto_next : (k : ℕ) (ms : List ℤ) → Upto k ms → Upto (k + 1) (pos k ∷ ms)
upto_next k ms u = record {
  below = (omega (arith, ints), below_later (pos k) (pos (k + 1)) ms (omega (arith, ints)) u.below);
  all = λ m from less. by_lt_z m (pos k) (λ less. inr (u.all m from less)) (λ to. inl (let is : m ≡ pos k = omega (arith, ints) in is));
}

free_counted : (k : ℕ) (before : List ℤ) (n : ℤ) → Upto k before → IsLeast (IsFree [] before) n → n ≡ pos k
free_counted k before n u least =
    least_is (IsFree [] before) n k least ((λ is. is), above_all (pos k) before u.below) (λ m from less free. free.1 (u.all m from less))

root_counted : (k : ℕ) (before : List ℤ) (os : List (Option ℤ)) (ns : List ℤ) → Upto k before → AllGiven false os → RootHas [] before os ns → ns ≡ count_from k os
root_counted k before _ _ u none_left root_none = refl
root_counted k before _ _ u (not_given {os} a) (root_least {n} {ns} least more) =
    let is = free_counted k before n u least in
    ap (λ m. m ∷ ns) is ∙ ap (λ l. pos k ∷ l) (root_counted (k + 1) (pos k ∷ before) os ns (upto_next k before u) a (subst (λ m. RootHas [] (m ∷ before) os ns) is more))

-- those of additional items, behind a root that has the numbers up to k
record LaterUpto (k j : ℕ) (root before : List ℤ) : Type 0 where
  of_root : Upto k root
  behind : k ≤ j
  below : AreBelow (pos j) before
  no_less : (m : ℤ) → pos 0 ≤ℤ m → m <ℤ pos j → ¬ IsNew root before m

later_start : (k : ℕ) (root : List ℤ) → Upto k root → LaterUpto k k root []
later_start k root u = record { of_root = u; behind = omega arith; below = tt; no_less = λ m from less new. new.0 (u.all m from less) }

later_next : (k j : ℕ) (root before : List ℤ) → LaterUpto k j root before → LaterUpto k (j + 1) root (pos j ∷ before)
later_next k j root before u = record {
  of_root = u.of_root;
  behind = let low = u.behind in omega arith;
  below = (omega (arith, ints), below_later (pos j) (pos (j + 1)) before (omega (arith, ints)) u.below);
  no_less = λ m from less new. absurd (let above = new.1.0 in omega (arith, ints));
}

new_counted : (k j : ℕ) (root before : List ℤ) (n : ℤ) → LaterUpto k j root before → IsLeast (IsNew root before) n → n ≡ pos j
new_counted k j root before n u least =
    let low = u.behind in
    least_is (IsNew root before) n j least (above_all (pos j) root (below_later (pos k) (pos j) root (omega (arith, ints)) u.of_root.below), u.below) u.no_less

later_counted : (k j : ℕ) (root before : List ℤ) (os : List (Option ℤ)) (ns : List ℤ) → LaterUpto k j root before → AllGiven false os → LaterHave root before os ns
    → ns ≡ count_from j os
later_counted k j root before _ _ u none_left later_none = refl
later_counted k j root before _ _ u (not_given {os} a) (later_least {n} {ns} least more) =
    let is = new_counted k j root before n u least in
    ap (λ m. m ∷ ns) is
    ∙ ap (λ l. pos j ∷ l) (later_counted k (j + 1) root (pos j ∷ before) os ns (later_next k j root before u) a (subst (λ m. LaterHave root (m ∷ before) os ns) is more))

-- ---- all

none_given : (os : List (Option ℤ)) → AllGiven false os → given_in os ≡ []
none_given _ none_left = refl
none_given _ (not_given a) = none_given _ a

count_below : (k : ℕ) (os : List (Option ℤ)) → AreBelow (pos (k + length os)) (count_from k os)
count_below k [] = tt
count_below k (o ∷ os) =
    (omega (arith, ints), subst (λ n. AreBelow (pos n) (count_from (k + 1) os)) (let is : k + 1 + length os ≡ k + suc (length os) = omega arith in is) (count_below (k + 1) os))

count_all : (k : ℕ) (os : List (Option ℤ)) (m : ℤ) → pos k ≤ℤ m → m <ℤ pos (k + length os) → IsAmong m (count_from k os)
count_all k [] m from less = absurd (omega (arith, ints))
count_all k (o ∷ os) m from less =
    by_lt_z (pos k) m (λ above. inr (count_all (k + 1) os m (omega (arith, ints)) (omega (arith, ints)))) (λ to. inl (let is : m ≡ pos k = omega (arith, ints) in is))

count_upto : (os : List (Option ℤ)) → Upto (0 + length os) (count_from 0 os)
count_upto os = record { below = count_below 0 os; all = count_all 0 os }

module _ (os qs : List (Option ℤ)) (ns : List ℤ) (has : AreNumbered os qs ns) where
  -- where all are given
  numbers_given : AllGiven true os → AllGiven true qs → ns ≡ given_in (os ++ qs)
  numbers_given a b =
      has.split ∙ ap (λ l. l ++ has.of_more) (root_given (given_in os) [] os has.of_root a has.root_has)
      ∙ ap (λ l. given_in os ++ l) (later_given has.of_root [] qs has.of_more b has.more_have) ∙ sym (given_append os qs)

  -- where none is
  numbers_counted : AllGiven false os → AllGiven false qs → ns ≡ count_from 0 (os ++ qs)
  numbers_counted a b =
      let root = root_counted 0 [] os has.of_root none_upto a (subst (λ l. RootHas l [] os has.of_root) (none_given os a) has.root_has) in
      let upto : Upto (0 + length os) has.of_root = subst (λ l. Upto (0 + length os) l) (sym root) (count_upto os) in
      has.split ∙ ap (λ l. l ++ has.of_more) root
      ∙ ap (λ l. count_from 0 os ++ l) (later_counted (0 + length os) (0 + length os) has.of_root [] qs has.of_more (later_start (0 + length os) has.of_root upto) b has.more_have)
      ∙ sym (count_append 0 os qs)

-- ---- those of the notation

-- the number of the item at a place that is given, or none
pub data IsGiven : Bool → ℕ → ℤ → Option ℤ → Type 0 where
  its_own : {place : ℕ} {z : ℤ} → IsGiven true place z (Some z)
  by_place : {place : ℕ} → IsGiven false place (pos place) None

-- those of items from a place on
pub data AreGiven (numbered : Bool) : ℕ → List NamedNumber → List (Option ℤ) → Type 0 where
  no_more : {place : ℕ} → AreGiven numbered place [] []
  one_more : {place : ℕ} {w : List ℕ} {z : ℤ} {o : Option ℤ} {items : List NamedNumber} {os : List (Option ℤ)} → IsGiven numbered place z o
      → AreGiven numbered (place + 1) items os → AreGiven numbered place (record { name = w; number = z } ∷ items) (o ∷ os)

all_given : {numbered : Bool} {place : ℕ} {items : List NamedNumber} {os : List (Option ℤ)} → AreGiven numbered place items os → AllGiven numbered os
all_given no_more = none_left
all_given (one_more its_own more) = given (all_given more)
all_given (one_more by_place more) = not_given (all_given more)

-- two lists of which this holds together
record Both (numbered : Bool) (os qs : List (Option ℤ)) : Type 0 where
  front : AllGiven numbered os
  behind : AllGiven numbered qs

both : (numbered : Bool) (os qs : List (Option ℤ)) → AllGiven numbered (os ++ qs) → Both numbered os qs
both numbered [] qs a = record { front = none_left; behind = a }
both _ (Some z ∷ os) qs (given a) = let b = both true os qs a in record { front = given b.front; behind = b.behind }
both _ (None ∷ os) qs (not_given a) = let b = both false os qs a in record { front = not_given b.front; behind = b.behind }

own_values : {place : ℕ} {items : List NamedNumber} {os : List (Option ℤ)} → AreGiven true place items os → given_in os ≡ map (λ i. i.number) items
own_values no_more = refl
own_values (one_more {z} its_own more) = ap (λ l. z ∷ l) (own_values more)

place_values : {place : ℕ} {items : List NamedNumber} {os : List (Option ℤ)} → AreGiven false place items os → count_from place os ≡ map (λ i. i.number) items
place_values no_more = refl
place_values (one_more {place} by_place more) = ap (λ l. pos place ∷ l) (place_values more)

-- The numbers that X.680 gives them are those of the items.
pub numbers_are : (numbered : Bool) (items : List NamedNumber) (os qs : List (Option ℤ)) (ns : List ℤ) → AreGiven numbered 0 items (os ++ qs)
    → AreNumbered os qs ns → ns ≡ map (λ i. i.number) items
numbers_are true items os qs ns g has = let a = both true os qs (all_given g) in numbers_given os qs ns has a.front a.behind ∙ own_values g
numbers_are false items os qs ns g has = let a = both false os qs (all_given g) in numbers_counted os qs ns has a.front a.behind ∙ place_values g

-- So are those that the reader of modules finds.
pub numbers_same : (numbered : Bool) (items : List NamedNumber) (os qs : List (Option ℤ)) (ns : List ℤ) → AreGiven numbered 0 items (os ++ qs)
    → number_items os qs ≡ Ok ns → ns ≡ map (λ i. i.number) items
numbers_same numbered items os qs ns g h = numbers_are numbered items os qs ns g (numbers_sound os qs ns h)
