-- Lengths and counted numbers, step by step.
use Rattle.std.proofs.Common.{◌≡◌, ◌≢◌, ℕ, ◌-◌, ◌^◌, min, ◌<◌, ◌≤◌, Bool, true, false, ltb, leb, List, Result, Ok, Err, arith, refl, sym, ◌∙◌, inl, inr, subst}
use Rattle.std.proofs.lemmas.Bool.{le-leb, lt-leb, le-ltb, lt-ltb, cases_lt}
use Rattle.oer_units.specs.declared.fault.Why.TheVariants.{Device, LengthForm}
use Rattle.oer_units.specs.declared.fault.ReadFault.{ReadFault}
use Rattle.oer_units.specs.Reader.{Place, Outcome, got, refused, Reader, bind, give, group, within, bounded, then_read}
use Rattle.oer_units.specs.Numbers.{unsigned}
use Rattle.oer_units.specs.Reading.{octet, length_after, determinant, with_length, counted_length}
use Rattle.oer_units.specs.Fixed.{group_as}
use Rattle.oer_units.specs.ReadingSteps.{size_after, allow_at, long_length_at}
use Rattle.oer_units.specs.Reads.{place, named, State, Reads}
use Rattle.oer_units.proofs.ReadNumbers.{assoc, group_agree, size_whole}
use Rattle.oer_units.proofs.ReadSteps.{Reads-then, Reads-stop, Reads-give, Reads-same, Reads-refused}

-- a refusal whose name the bound does not change
other_name : (i : Bool) → named i LengthForm ≡ LengthForm
other_name true = refl
other_name false = refl

-- ---- a number that is held up to a bound is as good as the number, where only smaller ones are taken

allow_capped : (w : List ℕ) (q : Place) → q.left < 2 ^ 64 → bind (give (size_after false 0 w)) allow_at q ≡ bind (give (unsigned w)) allow_at q
unfolding bind give within
allow_capped w q fits = rw (size_whole w) (elim (cases_lt q.left (unsigned w)) [
  | inl less ↦ rw (lt-leb (min (unsigned w) (2 ^ 128 - 1)) q.left (omega arith), lt-leb (unsigned w) q.left less) refl
  | inr le ↦ let e : min (unsigned w) (2 ^ 128 - 1) ≡ unsigned w = omega arith in rw e refl
])

capped_length : (k : ℕ) (p : Place) → p.left < 2 ^ 64 → bind (group_as k (size_after false 0)) allow_at p ≡ long_length_at k p
capped_length k p fits =
    assoc (group k) (λ w. give (size_after false 0 w)) allow_at p
    ∙ group_agree k (λ w. bind (give (size_after false 0 w)) allow_at) (λ w. bind (give (unsigned w)) allow_at) p (λ w q le. allow_capped w q (omega arith))
    ∙ sym (assoc (group k) (λ w. give (unsigned w)) allow_at p)

pub long_length_then : (k : ℕ) (s s' s'' : State) (n : ℕ) (result : Result ℕ ReadFault) → s.bound.end < 2 ^ 64 → Reads (group_as k (size_after false 0)) s (Ok n) s' → Reads (allow_at n) s' result s'' → Reads (long_length_at k) s result s''
long_length_then k s s' s'' n result fits p q =
    Reads-same (bind (group_as k (size_after false 0)) allow_at) (long_length_at k) s s'' result (λ xs. capped_length k (place xs s.bound) (omega arith)) (Reads-then (group_as k (size_after false 0)) allow_at s s' s'' n result p q)

pub long_length_stop : (k : ℕ) (s s' : State) (e : ReadFault) → s.bound.end < 2 ^ 64 → Reads (group_as k (size_after false 0)) s (Err e) s' → Reads (long_length_at k) s (Err e) s'
long_length_stop k s s' e fits p =
    Reads-same (bind (group_as k (size_after false 0)) allow_at) (long_length_at k) s s' (Err e) (λ xs. capped_length k (place xs s.bound) (omega arith)) (Reads-stop (group_as k (size_after false 0)) allow_at s s' e p)

-- ---- lengths

pub length_stop : (s s' : State) (e : ReadFault) → Reads octet s (Err e) s' → Reads counted_length s (Err e) s'
unfolding counted_length with_length determinant
length_stop s s' e r = Reads-stop determinant allow_at s s' e (Reads-stop octet length_after s s' e r)

pub length_short : (s s' s'' : State) (first : ℕ) (result : Result ℕ ReadFault) → first < 128 → Reads octet s (Ok first) s' → Reads (allow_at first) s' result s'' → Reads counted_length s result s''
unfolding counted_length with_length determinant
length_short s s' s'' first result less p q =
    let short : ltb first 128 ≡ true = lt-ltb _ _ less in
    let one : Reads (length_after first) s' (Ok first) s' = rw short (Reads-give first s') in
    Reads-then determinant allow_at s s' s'' first result (Reads-then octet length_after s s' s' first (Ok first) p one) q

pub length_form : (s s' : State) (first : ℕ) (e : ReadFault) → first ≡ 128 → e.why ≡ LengthForm → e.taken ≡ s'.bound.taken → Reads octet s (Ok first) s' → Reads counted_length s (Err e) s'
unfolding counted_length with_length determinant
length_form s s' first e is why taken p =
    let long : ltb first 128 ≡ false = le-ltb _ _ (omega arith) in
    let none : leb 129 first ≡ false = lt-leb 129 first (omega arith) in
    let refused = Reads-refused ℕ LengthForm e s' (λ (device : e.why ≡ Device). cc) (other_name s'.bound.inside ∙ sym why) taken in
    let after : Reads (length_after first) s' (Err e) s' = rw (long, none) refused in
    Reads-stop determinant allow_at s s' e (Reads-then octet length_after s s' s' first (Err e) p after)

-- after the first octet of a long length
after_long : (first : ℕ) → 128 ≤ first → first ≢ 128 → first < 256 → length_after first ≡ group_as (first - 128) unsigned
after_long first le other most =
    let long : ltb first 128 ≡ false = le-ltb _ _ le in
    let low : leb 129 first ≡ true = le-leb 129 first (omega arith) in
    let high : leb first 255 ≡ true = le-leb first 255 (omega arith) in
    rw (long, low, high) refl

long_is : (first : ℕ) (p : Place) → length_after first ≡ group_as (first - 128) unsigned → bind octet (λ x. long_length_at (first - 128)) p ≡ bind octet (λ x. long_length_at (first - 128)) p
long_is first p e = refl

pub length_long : (s s' s'' : State) (first : ℕ) (result : Result ℕ ReadFault) → 128 ≤ first → first ≢ 128 → first < 256 → Reads octet s (Ok first) s' → Reads (long_length_at (first - 128)) s' result s'' → Reads counted_length s result s''
unfolding counted_length with_length determinant
length_long s s' s'' first result le other most p q =
    let same : Reads (bind (length_after first) allow_at) s' result s'' = subst (λ (r : Reader ℕ). Reads (bind r allow_at) s' result s'') (sym (after_long first le other most)) q in
    Reads-same (bind octet (λ x. bind (length_after x) allow_at)) (bind (bind octet length_after) allow_at) s s'' result (λ xs. sym (assoc octet length_after allow_at (place xs s.bound)))
    (Reads-then octet (λ x. bind (length_after x) allow_at) s s' s'' first result p same)

-- ---- what a length asks for

-- a length, and then what it asks for
with_is : {A : Type 0} (k : ℕ → Reader A) (p : Place) → bind counted_length k p ≡ with_length k p
unfolding counted_length bind with_length within give
with_is k p = cases (determinant p) where
  inner : (c : Bool) (n : ℕ) (q : Place) → then_read k (bounded c (give n) q) ≡ bounded c (k n) q
  inner true n q = refl
  inner false n q = refl

  cases : (o : Outcome ℕ) → then_read k (then_read (λ n q. bounded (leb n q.left) (give n) q) o) ≡ then_read (λ n q. bounded (leb n q.left) (k n) q) o
  cases (got n q) = inner (leb n q.left) n q
  cases (refused w rest) = refl

pub with_stop : {A : Type 0} (k : ℕ → Reader A) (s s' : State) (e : ReadFault) → Reads counted_length s (Err e) s' → Reads (with_length k) s (Err e) s'
with_stop k s s' e p = Reads-same (bind counted_length k) (with_length k) s s' (Err e) (λ xs. with_is k (place xs s.bound)) (Reads-stop counted_length k s s' e p)

pub with_then : {A : Type 0} (k : ℕ → Reader A) (s s' s'' : State) (n : ℕ) (result : Result A ReadFault) → Reads counted_length s (Ok n) s' → Reads (k n) s' result s'' → Reads (with_length k) s result s''
with_then k s s' s'' n result p q = Reads-same (bind counted_length k) (with_length k) s s'' result (λ xs. with_is k (place xs s.bound)) (Reads-then counted_length k s s' s'' n result p q)
