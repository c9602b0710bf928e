-- Open types.
use Rattle.std.proofs.Common.{◌≡◌, ℕ, zero, suc, ◌+◌, ◌-◌, ◌<◌, ◌≤◌, Bool, true, false, List, ◌++◌, Option, Some, None, Ok, Err, arith, refl, sym, ap, ◌∙◌, subst}
use Rattle.std.proofs.lemmas.Bool.{le-leb}
use Rattle.oer_units.specs.declared.fault.Why.{Why}
use Rattle.oer_units.specs.declared.fault.Why.TheVariants.{Device, Limit, Window}
use Rattle.oer_units.specs.declared.fault.ReadFault.{ReadFault}
use Rattle.oer_units.specs.Reader.{Place, at, Outcome, got, refused, Reader, named_inside, leave_at, leave, filled_by}
use Rattle.oer_units.specs.Reading.{open_type, counted_length}
use Rattle.oer_units.specs.Reads.{Span, place, named, renamed, count_after, Exactly, State, Reads, entered, returned}
use Rattle.oer_units.proofs.ReadSteps.{got_named}
use Rattle.oer_units.proofs.ReadLengths.{with_stop, with_then}

named_twice : (w : Why) (i : Bool) → named i (named_inside w) ≡ named_inside w
named_twice w false = refl
named_twice Limit true = refl
named_twice _ true = refl

-- what is refused in the open type is refused
leave_refused : {A : Type 0} (i : Bool) (n : ℕ) (o : Outcome A) (why : Why) (rest : List ℕ) → renamed true o ≡ refused why rest → renamed i (leave n o) ≡ refused why rest
leave_refused i n (got x q) why rest e = cc
leave_refused i n (refused w r) why rest e =
    let p : named_inside w ≡ why = cc in
    let q : r ≡ rest = cc in
    ap (λ (v : Why). refused v r) (named_twice w i ∙ p) ∙ ap (λ (l : List ℕ). refused why l) q

inner_place : (xs : List ℕ) (n : ℕ) (b : Span) → place xs (record { taken = b.taken; end = b.taken + n; limit = b.limit; inside = true }) ≡ at xs n
inner_place xs n b = ap (λ (l : ℕ). at xs l) (omega arith)

filled_is : {A : Type 0} (n : ℕ) (r : Reader A) (xs : List ℕ) (left : ℕ) → n ≤ left → filled_by n r (at xs left) ≡ leave (left - n) (r (at xs n))
unfolding filled_by
filled_is n r xs left le = rw (le-leb n left le) refl

exact_stop : {A : Type 0} (n : ℕ) (r : Reader A) (s : State) (known known' : Option (List ℕ)) (b' : Span) (e : ReadFault) → n ≤ s.bound.end - s.bound.taken → Exactly r known (entered n s).bound (Err e) known' b' → Exactly (filled_by n r) known s.bound (Err e) known' b'
exact_stop n r s None known' b' e le h = tt
exact_stop n r s (Some xs) None b' e le h = absurd h
exact_stop {A} n r s (Some xs) (Some ys) b' e le h = λ d m.
    let left = s.bound.end - s.bound.taken in
    let inner : renamed true (r (at xs n)) ≡ refused e.why ys = subst (λ (p : Place). renamed true (r p) ≡ refused e.why ys) (inner_place xs n s.bound) (h d m) in
    ap (λ (o : Outcome A). renamed s.bound.inside o) (filled_is n r xs left le) ∙ leave_refused s.bound.inside (left - n) (r (at xs n)) e.why ys inner

exact_got : {A : Type 0} (n : ℕ) (r : Reader A) (s : State) (known known' : Option (List ℕ)) (b' : Span) (x : A) → n ≤ s.bound.end - s.bound.taken → b'.end ≡ s.bound.taken + n → b'.taken ≡ b'.end → Exactly r known (entered n s).bound (Ok x) known' b' → Exactly (filled_by n r) known s.bound (Ok x) known' (record { taken = b'.taken; end = s.bound.end; limit = b'.limit; inside = s.bound.inside })
exact_got n r s None known' b' x le end filled h = tt
exact_got n r s (Some xs) None b' x le end filled h = absurd h
exact_got {A} n r s (Some xs) (Some ys) b' x le end filled h =
    let left = s.bound.end - s.bound.taken in
    let inner : renamed true (r (at xs n)) ≡ got x (place ys b') = subst (λ (p : Place). renamed true (r p) ≡ got x (place ys b')) (inner_place xs n s.bound) h in
    let plain : r (at xs n) ≡ got x (place ys b') = got_named true (r (at xs n)) x (place ys b') inner in
    let none : b'.end - b'.taken ≡ zero = omega arith in
    let done : leave (left - n) (got x (place ys b')) ≡ got x (at ys (left - n)) = ap (λ (k : ℕ). leave_at x ys (left - n) k) none in
    ap (λ (o : Outcome A). renamed s.bound.inside o) (filled_is n r xs left le ∙ ap (λ (o : Outcome A). leave (left - n) o) plain ∙ done)
    ∙ ap (λ (l : ℕ). got x (at ys l)) (omega arith)

window_named : (i : Bool) → named i Window ≡ Window
window_named true = refl
window_named false = refl

exact_short : {A : Type 0} (n : ℕ) (r : Reader A) (s : State) (known known' : Option (List ℕ)) (b' : Span) (x : A) (e : ReadFault) (k : ℕ) → n ≤ s.bound.end - s.bound.taken → e.why ≡ Window → b'.end - b'.taken ≡ suc k → Exactly r known (entered n s).bound (Ok x) known' b' → Exactly (filled_by n r) known s.bound (Err e) known' b'
exact_short n r s None known' b' x e k le why some h = tt
exact_short n r s (Some xs) None b' x e k le why some h = absurd h
exact_short {A} n r s (Some xs) (Some ys) b' x e k le why some h = λ d m.
    let left = s.bound.end - s.bound.taken in
    let inner : renamed true (r (at xs n)) ≡ got x (place ys b') = subst (λ (p : Place). renamed true (r p) ≡ got x (place ys b')) (inner_place xs n s.bound) h in
    let plain : r (at xs n) ≡ got x (place ys b') = got_named true (r (at xs n)) x (place ys b') inner in
    let done : leave (left - n) (got x (place ys b')) ≡ refused Window ys = ap (λ (j : ℕ). leave_at x ys (left - n) j) some in
    ap (λ (o : Outcome A). renamed s.bound.inside o) (filled_is n r xs left le ∙ ap (λ (o : Outcome A). leave (left - n) o) plain ∙ done)
    ∙ ap (λ (w : Why). refused w ys) (window_named s.bound.inside ∙ sym why)

-- An open type as the code reads it: the window is entered, its content is read, and it is left.
within_stop : {A : Type 0} (n : ℕ) (r : Reader A) (s s' : State) (e : ReadFault) → n ≤ s.bound.end - s.bound.taken → Reads r (entered n s) (Err e) s' → Reads (filled_by n r) s (Err e) s'
within_stop n r s s' e le p = record { reader = p.reader; loan = p.loan; kept = tt; limit = p.limit; within = λ h. let start : s.bound.taken ≤ s.bound.taken + n = omega arith in let inner : s'.bound.taken ≤ s.bound.taken + n = p.within start in omega arith; count = p.count; fault = p.fault; made = tt; took = p.took; exact = exact_stop n r s s.known s'.known s'.bound e le p.exact }

within_got : {A : Type 0} (n : ℕ) (r : Reader A) (s s' : State) (x : A) → n ≤ s.bound.end - s.bound.taken → Reads r (entered n s) (Ok x) s' → s'.bound.taken ≡ s'.bound.end → Reads (filled_by n r) s (Ok x) (returned s.bound.end s.bound.inside s')
within_got n r s s' x le p filled = record {
  reader = p.reader;
  loan = p.loan;
  kept = record { end = refl; limit = p.limit; inside = refl; grows = let h = p.kept.grows in omega arith };
  limit = p.limit;
  within = λ h. let start : s.bound.taken ≤ s.bound.taken + n = omega arith in let inner : s'.bound.taken ≤ s.bound.taken + n = p.within start in omega arith;
  count = p.count;
  fault = tt;
  made = (p.made.0, p.made.1, p.made.2, λ rest. exact_got n r s (Some (p.made.0 ++ rest)) (Some rest) s'.bound x le p.kept.end filled (p.made.3 rest));
  took = p.took;
  exact = exact_got n r s s.known s'.known s'.bound x le p.kept.end filled p.exact;
}

count_window : (n : ℕ) (w : Why) → w ≡ Window → n ≡ count_after n w
count_window n Device h = absurd cc
count_window n _ h = refl

within_short : {A : Type 0} (n : ℕ) (r : Reader A) (s s' : State) (x : A) (e : ReadFault) → n ≤ s.bound.end - s.bound.taken → Reads r (entered n s) (Ok x) s' → s'.bound.taken < s'.bound.end → e.why ≡ Window → e.taken ≡ s'.bound.taken → Reads (filled_by n r) s (Err e) s'
within_short n r s s' x e le p less why taken = record {
  reader = p.reader;
  loan = p.loan;
  kept = tt;
  limit = p.limit;
  within = λ h. let start : s.bound.taken ≤ s.bound.taken + n = omega arith in let inner : s'.bound.taken ≤ s.bound.taken + n = p.within start in omega arith;
  count = p.count ∙ count_window s.failed e.why why;
  fault = taken;
  made = tt;
  took = p.took;
  exact = exact_short n r s s.known s'.known s'.bound x e (s'.bound.end - s'.bound.taken - 1) le why (omega arith) p.exact;
}

pub open_stop : {A : Type 0} (r : Reader A) (s s' : State) (e : ReadFault) → Reads counted_length s (Err e) s' → Reads (open_type r) s (Err e) s'
unfolding open_type
open_stop r s s' e p = with_stop (λ n. filled_by n r) s s' e p

pub open_value_stop : {A : Type 0} (r : Reader A) (s s1 inner s2 : State) (n : ℕ) (e : ReadFault) → n ≤ s1.bound.end - s1.bound.taken → Reads counted_length s (Ok n) s1 → inner ≡ entered n s1 → Reads r inner (Err e) s2 → Reads (open_type r) s (Err e) s2
unfolding open_type
open_value_stop r s s1 inner s2 n e le p is q = with_then (λ n. filled_by n r) s s1 s2 n (Err e) p (within_stop n r s1 s2 e le (subst (λ (t : State). Reads r t (Err e) s2) is q))

pub open_unfilled : {A : Type 0} (r : Reader A) (s s1 inner s2 s3 : State) (n : ℕ) (x : A) (e : ReadFault) → n ≤ s1.bound.end - s1.bound.taken → Reads counted_length s (Ok n) s1 → inner ≡ entered n s1 → Reads r inner (Ok x) s2 → s2.bound.taken < s2.bound.end → e.why ≡ Window → e.taken ≡ s2.bound.taken → s3 ≡ s2 → Reads (open_type r) s (Err e) s3
unfolding open_type
open_unfilled r s s1 inner s2 s3 n x e le p is q less why taken same =
    subst (λ (t : State). Reads (open_type r) s (Err e) t) (sym same)
    (with_then (λ n. filled_by n r) s s1 s2 n (Err e) p (within_short n r s1 s2 x e le (subst (λ (t : State). Reads r t (Ok x) s2) is q) less why taken))

pub open_filled : {A : Type 0} (r : Reader A) (s s1 inner s2 s3 : State) (n : ℕ) (x : A) (end : ℕ) (inside : Bool) → n ≤ s1.bound.end - s1.bound.taken → Reads counted_length s (Ok n) s1 → inner ≡ entered n s1 → Reads r inner (Ok x) s2 → s2.bound.taken ≡ s2.bound.end → s3 ≡ returned end inside s2 → end ≡ s1.bound.end → inside ≡ s1.bound.inside → Reads (open_type r) s (Ok x) s3
unfolding open_type
open_filled r s s1 inner s2 s3 n x end inside le p is q filled back end_is inside_is =
    let as_was : s3 ≡ returned s1.bound.end s1.bound.inside s2 = back ∙ ap (λ (k : ℕ). returned k inside s2) end_is ∙ ap (λ (i : Bool). returned s1.bound.end i s2) inside_is in
    subst (λ (t : State). Reads (open_type r) s (Ok x) t) (sym as_was)
    (with_then (λ n. filled_by n r) s s1 (returned s1.bound.end s1.bound.inside s2) n (Ok x) p (within_got n r s1 s2 x le (subst (λ (t : State). Reads r t (Ok x) s2) is q) filled))
