-- Inside an open type the program names Window what the readers here name Limit until the open type is left: its answers are theirs, renamed.
use Rattle.std.proofs.Common.{◌≡◌, ℕ, zero, suc, ◌-◌, List, Bool, true, false, leb, refl, ap, ◌∙◌}
use Rattle.oer_units.specs.Reader.{Place, at, Outcome, got, refused, Reader, bind, then_read, named_inside, leave, leave_at, open_by, filled_by}
use Rattle.oer_units.specs.declared.fault.Why.{Why}
use Rattle.oer_units.specs.declared.fault.Why.TheVariants.{Limit}

-- how a refusal is named, inside an open type or not
abbrev pub named_by : Bool → Why → Why
named_by true why = named_inside why
named_by false why = why

abbrev pub renamed : {A : Type 0} → Bool → Outcome A → Outcome A
renamed inside (got x q) = got x q
renamed inside (refused why rest) = refused (named_by inside why) rest

-- as the program leaves an open type: refusals have their names already
abbrev pub left_named : {A : Type 0} → ℕ → Outcome A → Outcome A
left_named outer (got x q) = leave_at x q.input outer q.left
left_named outer (refused why rest) = refused why rest

twice_inside : (why : Why) → named_inside (named_inside why) ≡ named_inside why
twice_inside Limit = refl
twice_inside _ = refl

after_inside : (inside : Bool) (why : Why) → named_by inside (named_inside why) ≡ named_inside why
after_inside true why = twice_inside why
after_inside false why = refl

pub renamed-bind : {A B : Type 0} (inside : Bool) (r : Reader A) (k : A → Reader B) (p : Place) → renamed inside (bind r k p) ≡ then_read (λ x q. renamed inside (k x q)) (renamed inside (r p))
unfolding bind
renamed-bind {A} {B} inside r k p = go (r p)
  where
    go : (o : Outcome A) → renamed inside (then_read k o) ≡ then_read (λ x q. renamed inside (k x q)) (renamed inside o)
    go (got x q) = refl
    go (refused why rest) = refl

left_at : {A : Type 0} (inside : Bool) (k : ℕ) (x : A) (rest : List ℕ) (outer : ℕ) → renamed inside (leave_at x rest outer k) ≡ leave_at x rest outer k
left_at true zero x rest outer = refl
left_at false zero x rest outer = refl
left_at true (suc k) x rest outer = refl
left_at false (suc k) x rest outer = refl

-- Where n octets are within the bound, an open type is its content read inside, and then left.
pub renamed-filled_by : {A : Type 0} (inside : Bool) (n : ℕ) (r : Reader A) (p : Place) → leb n p.left ≡ true → renamed inside (filled_by n r p) ≡ left_named (p.left - n) (renamed true (r (at p.input n)))
unfolding filled_by
renamed-filled_by {A} inside n r p fits = ap (λ c. renamed inside (open_by c n p (r (at p.input n)))) fits ∙ go (r (at p.input n))
  where
    go : (o : Outcome A) → renamed inside (leave (p.left - n) o) ≡ left_named (p.left - n) (renamed true o)
    go (got x q) = left_at inside q.left x q.input (p.left - n)
    go (refused why rest) = ap (λ w. refused w rest) (after_inside inside why)
