-- Results that are taken apart.
use Rattle.std.proofs.Common.{◌≡◌, Bool, true, false, Some, None, Ok, Err, if◌then◌else◌, refl, ap}
use Rattle.oer_module_text.specs.Errors.{Error, Read}

pub same_ok : {A : Type 0} (x y : A) → ◌≡◌ {A = Read A} (Ok x) (Ok y) → x ≡ y
same_ok x y h = cc

-- the first of two that are found
pub front_ok : {A B : Type 0} (a : A) (b : B) (x : A × B) → ◌≡◌ {A = Read (A × B)} (Ok (a, b)) (Ok x) → a ≡ x.0
front_ok a b x h = ap (λ y. y.0) (same_ok (a, b) x h)

pub then_ok : {A : Type 0} (b : Bool) (r : Read A) (e : Error) (x : A) → (if b then r else Err e) ≡ Ok x → (b ≡ true) × (r ≡ Ok x)
then_ok true r e x h = (refl, h)
then_ok false r e x h = absurd (cc)

pub else_ok : {A : Type 0} (b : Bool) (r : Read A) (e : Error) (x : A) → (if b then Err e else r) ≡ Ok x → (b ≡ false) × (r ≡ Ok x)
else_ok true r e x h = absurd (cc)
else_ok false r e x h = (refl, h)

pub then_some : {A : Type 0} (b : Bool) (x y : A) → (if b then Some x else None) ≡ Some y → (b ≡ true) × (x ≡ y)
then_some true x y h = (refl, cc)
then_some false x y h = absurd (cc)
