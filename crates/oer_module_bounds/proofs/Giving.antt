-- Steps and the set that they give.
use Rattle.std.proofs.Common.{◌≡◌, ℕ, suc, ◌-◌, List, [], ◌∷◌, ◌++◌, Bool, true, false, not, ◌&&◌, if◌then◌else◌, leb, length}
use Rattle.std.proofs.Common.{Option, Some, None, is_none, is_some, drop, take, refl, sym, ap, ap₂, subst, ◌∙◌, arith}
use Rattle.std.specs.Prelude.{ℤ, pos, ◌+ℤ◌, ◌-ℤ◌, ◌≤ℤ◌, ◌<ℤ◌, int_le, IsPermutation, MatchOption, slice_get}
use Rattle.std.specs.List.Sorted.{IsSortedByKey}
use Rattle.std.specs.Option.{option_to_list}
use Rattle.std.specs.Ordering.{int_cmp, int_eq}
use Rattle.std.proofs.lemmas.Int.{ints, by_lt_z}
use Rattle.std.proofs.lemmas.List.{append-nil, drop_all, map-append, take_all}
use Rattle.std.proofs.lemmas.List.Sorted.{length_permutation}
use Rattle.oer_module_bounds.specs.Hull.{hull}
use Rattle.oer_module_bounds.specs.Numbers.{is_from, is_to, within, allows}
use Rattle.oer_module_bounds.specs.Sets.{Each, Span, Set, crossed}
use Rattle.oer_module_bounds.specs.Steps.{numbers, number_of, at, Rises, Gives, last_of, is_it, ends_with, ends_of, high_end, past, toggled}
use Rattle.oer_module_bounds.specs.Tally.{number_at, reached, sweep}
use Rattle.oer_module_bounds.specs.declared.ends.Cut.{Cut}
use Rattle.oer_module_bounds.specs.declared.steps.Steps.{Steps}
use Rattle.oer_module_bounds.specs.declared.tally.Turn.{Turn}
use Rattle.oer_module_bounds.proofs.Cuts.{le_true, le_false, true_le, false_le}
use Rattle.oer_module_bounds.proofs.Deciding.{hull_is_told}
use Rattle.oer_module_bounds.proofs.Hulls.{Told, Cutting, cuts_are_hull, one_hull}
use Rattle.oer_module_bounds.proofs.Sweeping.{start, swept, past_cuts, in_order, reached_moved}

-- ---- the last cut

pub last_slice : (cs : List Cut) (c : Cut) → Some c ≡ slice_get cs (length cs - 1) → last_of (numbers cs) ≡ Some c.number
last_slice [] c e = absurd (cc)
last_slice (x ∷ []) c e = let same : c ≡ x = (cc) in ap (λ y. Some y.number) (sym same)
last_slice (x ∷ y ∷ cs) c e =
    let next : length (x ∷ y ∷ cs) - 1 ≡ suc (length (y ∷ cs) - 1) = omega arith in
    last_slice (y ∷ cs) c (e ∙ ap (slice_get (x ∷ y ∷ cs)) next)

pub high_is : (highest : Bool) (cs : List Cut) (c : Cut) → highest ≡ false → Some c ≡ slice_get cs (length cs - 1)
    → high_end highest (numbers cs) ≡ Some (c.number -ℤ pos 1)
high_is highest cs c h e = rw h (rw (last_slice cs c e) refl)

toggled_push : (cs : List ℤ) (n : ℤ) → ends_with cs n ≡ false → toggled cs n ≡ cs ++ n ∷ []
toggled_push [] n h = refl
toggled_push (c ∷ []) n h = rw h refl
toggled_push (c ∷ d ∷ cs) n h = ap (λ xs. c ∷ xs) (toggled_push (d ∷ cs) n h)

toggled_last : (cs : List ℤ) (c n : ℤ) → int_eq c n ≡ true → toggled (cs ++ c ∷ []) n ≡ cs
toggled_last [] c n h = rw h refl
toggled_last (d ∷ []) c n h = ap (λ xs. d ∷ xs) (toggled_last [] c n h)
toggled_last (d ∷ e ∷ cs) c n h = ap (λ xs. d ∷ xs) (toggled_last (e ∷ cs) c n h)

last_push : (cs : List ℤ) (c : ℤ) → last_of (cs ++ c ∷ []) ≡ Some c
last_push [] c = refl
last_push (d ∷ []) c = refl
last_push (d ∷ e ∷ cs) c = last_push (e ∷ cs) c

pub pushed : (old new : List Cut) (c : Cut) → new ≡ old ++ c ∷ [] → ends_with (numbers old) c.number ≡ false → numbers new ≡ toggled (numbers old) c.number
pushed old new c e h = ap numbers e ∙ map-append (λ x. x.number) old (c ∷ []) ∙ sym (toggled_push (numbers old) c.number h)

pub popped : (old new : List Cut) (r : Option Cut) (n : ℤ) (k m : ℕ) (R : Cut → Type 0) → k ≡ length old → old ≡ new ++ option_to_list r
    → MatchOption r ((k ≡ 0) × (m ≡ 0)) R → ends_with (numbers old) n ≡ true → numbers new ≡ toggled (numbers old) n
popped [] new None n k m R l e h t = absurd (cc)
popped (x ∷ old) new None n k m R l e h t = absurd (let none = h.0 in omega arith)
popped old new (Some c) n k m R l e h t =
    let same : numbers old ≡ numbers new ++ c.number ∷ [] = ap numbers e ∙ map-append (λ x. x.number) new (c ∷ []) in
    let last : int_eq c.number n ≡ true = sym (ap (λ cs. ends_with cs n) same ∙ ap (λ l. is_it l n) (last_push (numbers new) c.number)) ∙ t in
    sym (ap (λ cs. toggled cs n) same ∙ toggled_last (numbers new) c.number n last)

-- ---- another test of the same set

pub gives_same : (s : Steps) (p q : ℤ → Bool) → Gives s p → ((n : ℤ) → p n ≡ q n) → Gives s q
gives_same s p q g h = record { rises = g.rises; says = λ n. g.says n ∙ h n; ends = λ n k. sym (h n) ∙ g.ends n k }

pub gives_opposite : (s t : Steps) (p : ℤ → Bool) → t.lowest ≡ not s.lowest → t.highest ≡ not s.highest → t.cuts ≡ s.cuts → Gives s p → Gives t (λ n. not (p n))
gives_opposite s t p e f h g = record {
  rises = subst (λ v. Rises (numbers v.items)) (sym h) g.rises;
  says = λ n. ap₂ (λ b v. at b (numbers v.items) n) e h ∙ other s.lowest (numbers s.cuts.items) n ∙ ap not (g.says n);
  ends = λ n k. ap not (g.ends n (subst (λ v. Each (λ c. c ≤ℤ n) (numbers v.items)) h k)) ∙ sym f;
}
  where
    other : (b : Bool) (cs : List ℤ) (n : ℤ) → at (not b) cs n ≡ not (at b cs n)
    other b [] n = refl
    other b (c ∷ cs) n = turned (int_le c n) ∙ other (if int_le c n then not b else b) cs n
      where
        turned : (t : Bool) → at (if t then not (not b) else not b) cs n ≡ at (not (if t then not b else b)) cs n
        turned true = refl
        turned false = refl

-- ---- a range

none_within : (low high : Option ℤ) (n : ℤ) → crossed low high ≡ true → false ≡ (is_from low n && is_to high n)
none_within None high n h = absurd (cc)
none_within (Some l) None n h = absurd (cc)
none_within (Some l) (Some m) n h = by (int_le l n) refl
  where
    by : (t : Bool) → int_le l n ≡ t → false ≡ (t && int_le n m)
    by false k = refl
    by true k = sym (false_le n m (let x = le_true l n k in omega (arith, ints)))

pub empty_gives : (s : Steps) (r : Span) → crossed r.low r.high ≡ true → Gives s (λ n. false) → Gives s (within r)
empty_gives s r h g = gives_same s (λ n. false) (within r) g (λ n. none_within r.low r.high n h)

past_it : (h n : ℤ) → int_le (h +ℤ pos 1) n ≡ not (int_le n h)
past_it h n = by_lt_z h n
    (λ l. true_le (h +ℤ pos 1) n (omega (arith, ints)) ∙ ap not (sym (false_le n h l)))
    (λ l. false_le (h +ℤ pos 1) n (omega (arith, ints)) ∙ ap not (sym (true_le n h l)))

one_cut : (t : Bool) → (if not t then not true else true) ≡ t
one_cut true = refl
one_cut false = refl

first_cut : (t : Bool) → (if t then not false else false) ≡ (t && true)
first_cut true = refl
first_cut false = refl

two_cuts : (l h n : ℤ) (t u : Bool) → l ≤ℤ h → int_le l n ≡ t → int_le n h ≡ u
    → (if not u then not (if t then not false else false) else (if t then not false else false)) ≡ (t && u)
two_cuts l h n true true k a b = refl
two_cuts l h n true false k a b = refl
two_cuts l h n false true k a b = refl
two_cuts l h n false false k a b = absurd (let x = le_false l n a in let y = le_false n h b in apart x y)
  where
    apart : n <ℤ l → h <ℤ n → ⊥
    apart x y = omega (arith, ints)

under : (m n : ℤ) → (m +ℤ pos 1) ≤ℤ n → m <ℤ n
under m n h = omega (arith, ints)

-- the steps of a range that isn't crossed
ranged : (low high : Option ℤ) → crossed low high ≡ false
    → Cutting (λ n. is_from low n && is_to high n) (is_none low) (is_none high) (option_to_list low ++ option_to_list (past high))
ranged None None h = record { rises = tt; says = λ n. refl; ends = λ n k. refl }
ranged None (Some m) h = record {
  rises = (tt, tt);
  says = λ n. ap (λ t. if t then not true else true) (past_it m n) ∙ one_cut (int_le n m);
  ends = λ n k. false_le n m (let x = k.0 in under m n x);
}
ranged (Some l) None h = record {
  rises = (tt, tt);
  says = λ n. first_cut (int_le l n);
  ends = λ n k. ap (λ t. t && true) (true_le l n k.0);
}
ranged (Some l) (Some m) h = record {
  rises = ((order, tt), (tt, tt));
  says = λ n. ap (λ t. if t then not (if int_le l n then not false else false) else (if int_le l n then not false else false)) (past_it m n)
      ∙ two_cuts l m n (int_le l n) (int_le n m) straight refl refl;
  ends = λ n k. ap (λ t. int_le l n && t) (false_le n m (under m n k.1.0)) ∙ none (int_le l n);
}
  where
    straight : l ≤ℤ m
    straight = omega (arith, ints)

    order : l <ℤ (m +ℤ pos 1)
    order = let k = straight in omega (arith, ints)

    none : (t : Bool) → (t && false) ≡ false
    none true = refl
    none false = refl

-- cuts that were pushed one after the other
pub pushed_both : (a b d : List Cut) (x y : Option Cut) (l h : Option ℤ) → a ≡ [] → numbers b ≡ numbers a ++ option_to_list (number_of x)
    → numbers d ≡ numbers b ++ option_to_list (number_of y) → number_of x ≡ l → number_of y ≡ h → numbers d ≡ option_to_list l ++ option_to_list h
pushed_both a b d x y l h none one two e f =
    two ∙ ap₂ (λ xs o. xs ++ option_to_list o) (one ∙ ap₂ (λ xs o. numbers xs ++ option_to_list o) none e) f

pub range_gives : (s : Steps) (r : Span) → crossed r.low r.high ≡ false → numbers s.cuts.items ≡ option_to_list r.low ++ option_to_list (past r.high)
    → s.lowest ≡ is_none r.low → s.highest ≡ is_none r.high → Gives s (within r)
range_gives s r h e f g =
    let c = ranged r.low r.high h in
    record {
      rises = subst Rises (sym e) c.rises;
      says = λ n. ap₂ (λ b cs. at b cs n) f e ∙ c.says n;
      ends = λ n k. c.ends n (subst (Each (λ x. x ≤ℤ n)) e k) ∙ sym g;
    }

pub absent : (o : Option ℤ) (b : Bool) → is_some o ≡ not b → b ≡ is_none o
absent None true h = refl
absent None false h = absurd (cc)
absent (Some n) true h = absurd (cc)
absent (Some n) false h = refl

-- ---- so many of some sets

-- a slice of all turns was sorted
pub whole : {A : Type 0} (xs ys : List A) (n : ℕ) → n ≡ length ys → IsPermutation ys xs → take n (xs ++ drop (length xs) ys) ≡ xs
whole xs ys n l m =
    let same : length xs ≡ length ys = length_permutation ys xs m in
    ap (λ zs. take n (xs ++ zs)) (drop_all (length xs) ys (omega arith)) ∙ ap (take n) (append-nil xs) ∙ take_all n xs (omega arith)

pub sweep_gives : (least holding : ℕ) (ts us : List Turn) (s : Steps) → IsPermutation ts us → IsSortedByKey number_at int_cmp us
    → s.lowest ≡ leb least holding → s.highest ≡ (sweep least (start least holding) us).inside → numbers s.cuts.items ≡ (sweep least (start least holding) us).cuts
    → Gives s (reached least holding ts)
sweep_gives least holding ts us s m o low high cuts =
    let p = swept least holding us (in_order us o) in
    let w = sweep least (start least holding) us in
    record {
      rises = subst Rises (sym cuts) p.rises;
      says = λ n. ap₂ (λ b cs. at b cs n) low cuts ∙ p.says n ∙ reached_moved least holding ts us m n;
      ends = λ n h. sym (reached_moved least holding ts us m n) ∙ past_cuts least holding us w p n (subst (Each (λ c. c ≤ℤ n)) cuts h) ∙ sym high;
    }

-- ---- the hull

pub hull_given : (s : Steps) (x : Set) → Gives s (allows true x) → ends_of s.lowest s.highest (numbers s.cuts.items) ≡ hull x
hull_given s x g =
    one_hull (Told (allows true x)) (ends_of s.lowest s.highest (numbers s.cuts.items)) (hull x)
    (cuts_are_hull (allows true x) s.lowest s.highest (numbers s.cuts.items) (record { rises = g.rises; says = g.says; ends = g.ends }))
    (hull_is_told x)
