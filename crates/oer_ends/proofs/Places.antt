-- The place where octets nest too deep.
use Rattle.std.proofs.Common.{◌≡◌, ◌≢◌, ◌∙◌, ◌↔◌, ◌⊎◌, ℕ, Bool, true, false, List, Option, Some, None, refl, sym, ap, subst, inl, inr}
use Rattle.std.specs.Prelude.{eqb, if◌then◌else◌}
use Rattle.std.proofs.lemmas.Bool.{eq-eqb}
use Rattle.std.proofs.lemmas.Bool.Decides.{eqb_tells}
use Rattle.oer_model.specs.AsnType.{AsnType}
use Rattle.oer_model.specs.FaultTest.{first_fault}
use Rattle.oer_model.specs.WellFormed.{IsFirstFault, IsWellFormed}
use Rattle.oer_model.specs.declared.fault.SchemaFault.{SchemaFault}
use Rattle.oer_model.proofs.faults.Faults.{first_fault_found, no_fault_found}
use Rattle.oer_ends.specs.Ends.{has_end}
use Rattle.oer_ends.specs.Nests.{NestsAt, if_sound, nests_at, unknown_at, unless_same}
use Rattle.oer_ends.specs.Opened.{opened}
use Rattle.oer_ends.proofs.OpenEnds.{endless}

-- ---- the plain function

by_test : (n m : ℕ) (b : Bool) → eqb n m ≡ b → unless_same (Some n) (Some m) ≡ (if b then None else Some n)
by_test n m b is = ap (λ (x : Bool). if x then None else Some n) is

same_place : (n m : ℕ) → n ≡ m → unless_same (Some n) (Some m) ≡ None
same_place n m is = by_test n m true (eq-eqb n m is)

other_place : (n m : ℕ) → n ≢ m → unless_same (Some n) (Some m) ≡ Some n
other_place n m other = by (eqb_tells n m) where
  by : ((eqb n m ≡ true) × (n ≡ m)) ⊎ ((eqb n m ≡ false) × (n ≢ m)) → unless_same (Some n) (Some m) ≡ Some n
  by (inl (is, e)) = absurd (other e)
  by (inr (is, e)) = by_test n m false is

-- where the places differ it is the first
pub differs : (n : ℕ) (other : Option ℕ) → other ≢ Some n → unless_same (Some n) other ≡ Some n
differs n None other = refl
differs n (Some m) other = other_place n m (λ e. other (ap Some (sym e)))

pub agrees : (n : ℕ) (other : Option ℕ) → other ≡ Some n → unless_same (Some n) other ≡ None
agrees n other is = subst (λ o. unless_same (Some n) o ≡ None) (sym is) (same_place n n refl)

pub none_without : (fault : Option SchemaFault) (place : Option ℕ) → place ≡ None → if_sound fault place ≡ None
none_without None place is = is
none_without (Some fault) place is = refl

pub none_unsound : (fault : Option SchemaFault) (f : SchemaFault) (place : Option ℕ) → fault ≡ Some f → if_sound fault place ≡ None
none_unsound fault f place is = subst (λ o. if_sound o place ≡ None) (sym is) refl

pub one_sound : (fault : Option SchemaFault) (place : Option ℕ) → fault ≡ None → if_sound fault place ≡ place
one_sound fault place is = subst (λ o. if_sound o place ≡ place) (sym is) refl

-- ---- what the code asks

pub sound : (T : AsnType) → IsWellFormed T → first_fault T ≡ None
sound T wf = (no_fault_found T).1 wf.faultless

pub unsound : (T : AsnType) (f : SchemaFault) → IsFirstFault T f → first_fault T ≡ Some f
unsound T f first = (first_fault_found T f).1 first

pub no_place : (T : AsnType) (b : List ℕ) → unknown_at T b ≡ None → nests_at T b ≡ None
no_place T b is = none_without (first_fault (opened T)) (unless_same (unknown_at T b) (unknown_at (opened T) b))
    (ap (λ o. unless_same o (unknown_at (opened T) b)) is)

pub no_type : (T : AsnType) (b : List ℕ) (f : SchemaFault) → IsFirstFault (opened T) f → nests_at T b ≡ None
no_type T b f first = none_unsound (first_fault (opened T)) f (unless_same (unknown_at T b) (unknown_at (opened T) b)) (unsound (opened T) f first)

place_by : (T : AsnType) (b : List ℕ) (n : ℕ) (place : Option ℕ) → unknown_at T b ≡ Some n → first_fault (opened T) ≡ None
    → unless_same (Some n) (unknown_at (opened T) b) ≡ place → nests_at T b ≡ place
place_by T b n place is none same = one_sound (first_fault (opened T)) (unless_same (unknown_at T b) (unknown_at (opened T) b)) none
    ∙ ap (λ o. unless_same o (unknown_at (opened T) b)) is ∙ same

pub stays_there : (T : AsnType) (b : List ℕ) (n : ℕ) → unknown_at T b ≡ Some n → first_fault (opened T) ≡ None → unknown_at (opened T) b ≡ Some n → nests_at T b ≡ None
stays_there T b n is none same = place_by T b n None is none (agrees n (unknown_at (opened T) b) same)

pub goes_on : (T : AsnType) (b : List ℕ) (n : ℕ) → unknown_at T b ≡ Some n → first_fault (opened T) ≡ None → unknown_at (opened T) b ≢ Some n → nests_at T b ≡ Some n
goes_on T b n is none other = place_by T b n (Some n) is none (differs n (unknown_at (opened T) b) other)

-- ---- the law

from_places : (place other : Option ℕ) (n : ℕ) → unless_same place other ≡ Some n → (place ≡ Some n) × (other ≢ Some n)
from_places None other n is = absurd (cc)
from_places (Some k) None n is = (is, λ e. cc)
from_places (Some k) (Some m) n is = by (eqb_tells k m) where
  by : ((eqb k m ≡ true) × (k ≡ m)) ⊎ ((eqb k m ≡ false) × (k ≢ m)) → (Some k ≡ Some n) × (Some m ≢ Some n)
  by (inl (same, e)) = let none : Some n ≡ None = sym is ∙ by_test k m true same in absurd (cc)
  by (inr (same, e)) = let one : Some k ≡ Some n = sym (by_test k m false same) ∙ is in (one, λ two. e (let t = one ∙ sym two in cc))

from_sound : (fault : Option SchemaFault) (place : Option ℕ) (n : ℕ) → if_sound fault place ≡ Some n → (fault ≡ None) × (place ≡ Some n)
from_sound None place n is = (refl, is)
from_sound (Some fault) place n is = absurd (cc)

pub place_found : (T : AsnType) (b : List ℕ) (n : ℕ) → (nests_at T b ≡ Some n) ↔ NestsAt T b n
place_found T b n = (found, λ h. goes_on T b n h.stops h.sound h.goes_on) where
  found : nests_at T b ≡ Some n → NestsAt T b n
  found is =
      let s = from_sound (first_fault (opened T)) (unless_same (unknown_at T b) (unknown_at (opened T) b)) n is in
      let p = from_places (unknown_at T b) (unknown_at (opened T) b) n s.1 in
      record { stops = p.0; sound = s.0; goes_on = p.1 }

pub endless_nests : (T : AsnType) (b : List ℕ) (n : ℕ) → has_end T ≡ false → NestsAt T b n → ⊥
endless_nests T b n none h = h.goes_on (ap (λ U. unknown_at U b) (endless T none) ∙ h.stops)

-- What the code finds, by a type that is the opened one.
pub found_by : (T U : AsnType) (b : List ℕ) (n : ℕ) → unknown_at T b ≡ Some n → U ≡ opened T → IsWellFormed (opened T)
    → unless_same (Some n) (unknown_at U b) ≡ nests_at T b
found_by T U b n is same wf = ap (λ V. unless_same (Some n) (unknown_at V b)) same
    ∙ sym (place_by T b n (unless_same (Some n) (unknown_at (opened T) b)) is (sound (opened T) wf) refl)
