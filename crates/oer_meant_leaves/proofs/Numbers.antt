-- Which numbers amounts are, and which sets single values and ranges.
use Rattle.std.proofs.Common.{◌≡◌, ℕ, ℤ, pos, ◌+ℤ◌, ◌-ℤ◌, List, Bool, true, false, ◌||◌, if◌then◌else◌, Option, Some, None, Ok, refl, sym, subst}
use Rattle.oer_module_bounds.specs.Sets.{Set, Span, is_greatest, is_least, range}
use Rattle.oer_module_limits.specs.Ends.{high_by, low_by, lowered, raised, ranged, single, spanned, spanned_by, told_number, value_number}
use Rattle.oer_module_limits.specs.Sets.{number}
use Rattle.oer_module_names.specs.declared.error.Place.{Place}
use Rattle.oer_module_syntax.specs.Tree.{Module}
use Rattle.oer_module_terms.specs.Trees.{Amount, Bound, Value, amount, atom, bits, braces, choice, digits, fixed, numbered, real, simple, text, value}
use Rattle.oer_module_terms.specs.Trees as terms
use Rattle.oer_module_values.proofs.Denoted.{counted, numbered_under}
use Rattle.oer_module_values.specs.Errors.{place_in}
use Rattle.oer_module_values.specs.Numbers.{bare}
use Rattle.oer_module_values.specs.Types.{TypeIn}
use Rattle.oer_meant_leaves.specs.Sets.{IsHigh, IsLow, IsNumber, IsSet, above, below, by_range, by_value, from, governed, max, min, to, ungoverned}
use Rattle.oer_meant_leaves.proofs.Results.{limit_step, limit_told, same_ok, unless_ok}

module _ (ms : List Module) where
  number_is : (g : Option TypeIn) (p : Place) (a : Amount) (n : ℤ) → told_number ms g p a ≡ Ok n → IsNumber ms g p.«module» a n
  number_is None p a n h = ungoverned p.«module» a n (counted ms (record { place = p; governor = bare p.«module»; amount = a }) n h)
  number_is (Some t) p a n h = let d = numbered_under ms t.«module» t.type p a n h in governed t d.0 p.«module» a n d.1 d.2

  value_is : (g : Option TypeIn) (m : ℕ) (v : Value) (n : ℤ) → value_number ms g m v ≡ Ok n
      → (at : ℕ) × (a : Amount) × (v ≡ atom at (amount a)) × IsNumber ms g m a n
  value_is g m (atom at (amount a)) n h = (at, a, refl, number_is g (place_in m at) a n (limit_told (told_number ms g (place_in m at) a) n h))
  value_is g m (atom at (real b w)) n h = absurd (cc)
  value_is g m (atom at (fixed f)) n h = absurd (cc)
  value_is g m (atom at (bits w)) n h = absurd (cc)
  value_is g m (atom at (digits w)) n h = absurd (cc)
  value_is g m (atom at (text w)) n h = absurd (cc)
  value_is g m (numbered at w a) n h = absurd (cc)
  value_is g m (choice at w v) n h = absurd (cc)
  value_is g m (braces at xs) n h = absurd (cc)

  -- ---- ends

  module _ (g : Option TypeIn) (m at : ℕ) (p : Place) (a : Amount) (n k : ℤ) (is : IsNumber ms g m a n) where
    low_amount : (b : Bool) → raised p b n ≡ Ok k → IsLow ms g m (Some (atom at (amount a))) b (Some k)
    low_amount false h = subst (λ j. IsLow ms g m (Some (atom at (amount a))) false (Some j)) (same_ok h) (from at a n is)
    low_amount true h =
        let u = unless_ok (is_greatest (Some n)) _ (Ok (n +ℤ pos 1)) k h in
        subst (λ j. IsLow ms g m (Some (atom at (amount a))) true (Some j)) (same_ok u.1) (above at a n is)

    high_amount : (b : Bool) → lowered p b n ≡ Ok k → IsHigh ms g m (Some (atom at (amount a))) b (Some k)
    high_amount false h = subst (λ j. IsHigh ms g m (Some (atom at (amount a))) false (Some j)) (same_ok h) (to at a n is)
    high_amount true h =
        let u = unless_ok (is_least (Some n)) _ (Ok (n -ℤ pos 1)) k h in
        subst (λ j. IsHigh ms g m (Some (atom at (amount a))) true (Some j)) (same_ok u.1) (below at a n is)

  low_is : (g : Option TypeIn) (p : Place) (v : Option Value) (b : Bool) (o : Option ℤ) → low_by ms g p v b ≡ Ok o → IsLow ms g p.«module» v b o
  low_is g p None true o h = absurd (cc)
  low_is g p None false o h = subst (IsLow ms g p.«module» None false) (same_ok h) min
  low_is g p (Some v) b o h =
      let s = limit_step (value_number ms g p.«module» v) _ o h in
      let t = limit_step (raised p b s.0) _ o s.2 in
      let w = value_is g p.«module» v s.0 s.1 in
      subst (IsLow ms g p.«module» (Some v) b) (same_ok t.2)
      (subst (λ u. IsLow ms g p.«module» (Some u) b (Some t.0)) (sym w.2) (low_amount g p.«module» w.0 p w.1 s.0 t.0 w.3 b t.1))

  high_is : (g : Option TypeIn) (p : Place) (v : Option Value) (b : Bool) (o : Option ℤ) → high_by ms g p v b ≡ Ok o → IsHigh ms g p.«module» v b o
  high_is g p None true o h = absurd (cc)
  high_is g p None false o h = subst (IsHigh ms g p.«module» None false) (same_ok h) max
  high_is g p (Some v) b o h =
      let s = limit_step (value_number ms g p.«module» v) _ o h in
      let t = limit_step (lowered p b s.0) _ o s.2 in
      let w = value_is g p.«module» v s.0 s.1 in
      subst (IsHigh ms g p.«module» (Some v) b) (same_ok t.2)
      (subst (λ u. IsHigh ms g p.«module» (Some u) b (Some t.0)) (sym w.2) (high_amount g p.«module» w.0 p w.1 s.0 t.0 w.3 b t.1))

  -- ---- sets

  spanned_if : (p : Place) (b : Bool) (r : Span) (s : Set) → spanned_by p (if b then None else Some r) ≡ Ok s → range r ≡ s
  spanned_if p true r s h = absurd (cc)
  spanned_if p false r s h = same_ok h

  spanned_is : (p : Place) (low high : Option ℤ) (s : Set) → spanned p low high ≡ Ok s → range (record { low = low; high = high }) ≡ s
  spanned_is p low high s h = spanned_if p (is_least low || is_greatest high) (record { low = low; high = high }) s h

  pub single_is : (g : Option TypeIn) (p : Place) (v : Value) (s : Set) → single ms g p v ≡ Ok s → IsSet ms (number g) p.«module» (simple (value v)) s
  unfolding single
  single_is g p v s h =
      let t = limit_step (value_number ms g p.«module» v) _ s h in
      let w = value_is g p.«module» v t.0 t.1 in
      subst (IsSet ms (number g) p.«module» (simple (value v))) (spanned_is p (Some t.0) (Some t.0) s t.2)
      (subst (λ u. IsSet ms (number g) p.«module» (simple (value u)) (range (record { low = Some t.0; high = Some t.0 }))) (sym w.2)
      (by_value g p.«module» w.0 w.1 t.0 w.3))

  pub range_is : (g : Option TypeIn) (p : Place) (at : ℕ) (low high : Bound) (s : Set) → ranged ms g p low high ≡ Ok s
      → IsSet ms (number g) p.«module» (simple (terms.range at low high)) s
  unfolding ranged
  range_is g p at low high s h =
      let l = limit_step (low_by ms g p low.limit low.excluded) _ s h in
      let u = limit_step (high_by ms g p high.limit high.excluded) _ s l.2 in
      subst (IsSet ms (number g) p.«module» (simple (terms.range at low high))) (spanned_is p l.0 u.0 s u.2)
      (by_range g p.«module» at low high l.0 u.0 (low_is g p low.limit low.excluded l.0 l.1) (high_is g p high.limit high.excluded u.0 u.1))
