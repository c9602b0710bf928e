-- What is known where steps, one after another, gave something.
use Rattle.std.proofs.Common.{◌≡◌, ℕ, Bool, true, false, if◌then◌else◌, Result, Ok, Err, refl, ap}
use Rattle.oer_module_limits.specs.Errors as limits
use Rattle.oer_module_syntax.specs.declared.fault.Fault.{Fault}
use Rattle.oer_module_text.specs.Errors as texts
use Rattle.oer_module_values.specs.Errors as values

pub same_ok : {A E : Type 0} {x y : A} → ◌≡◌ {A = Result A E} (Ok x) (Ok y) → x ≡ y
same_ok h = cc

-- of two pairs that are one, also the first parts are
pub first_same : {A B E : Type 0} (x y : A) (a b : B) → ◌≡◌ {A = Result (A × B) E} (Ok (x, a)) (Ok (y, b)) → x ≡ y
first_same x y a b h = ap (λ p. p.0) (same_ok h)

-- the second was chosen, as the first is an error
pub unless_ok : {A E : Type 0} (b : Bool) (e : E) (r : Result A E) (x : A) → (if b then Err e else r) ≡ Ok x → (b ≡ false) × (r ≡ Ok x)
unless_ok true e r x h = absurd (cc)
unless_ok false e r x h = (refl, h)

-- the first was
pub when_ok : {A E : Type 0} (b : Bool) (e : E) (r : Result A E) (x : A) → (if b then r else Err e) ≡ Ok x → (b ≡ true) × (r ≡ Ok x)
when_ok true e r x h = (refl, h)
when_ok false e r x h = absurd (cc)

-- ---- of limits

pub limit_step : {A B : Type 0} (r : limits.Read A) (f : A → limits.Read B) (y : B) → limits.◌>>=◌ r f ≡ Ok y → (x : A) × (r ≡ Ok x) × (f x ≡ Ok y)
limit_step (Ok x) f y h = (x, refl, h)
limit_step (Err e) f y h = absurd (cc)

pub limit_told : {A : Type 0} (r : Result A values.Error) (x : A) → limits.told_by r ≡ Ok x → r ≡ Ok x
limit_told (Ok y) x h = ap Ok (same_ok h)
limit_told (Err e) x h = absurd (cc)

-- ---- of texts

pub text_step : {A B : Type 0} (r : texts.Read A) (f : A → texts.Read B) (y : B) → texts.◌>>=◌ r f ≡ Ok y → (x : A) × (r ≡ Ok x) × (f x ≡ Ok y)
text_step (Ok x) f y h = (x, refl, h)
text_step (Err e) f y h = absurd (cc)

pub text_told : {A : Type 0} (r : Result A values.Error) (x : A) → texts.told_by r ≡ Ok x → r ≡ Ok x
text_told (Ok y) x h = ap Ok (same_ok h)
text_told (Err e) x h = absurd (cc)

pub text_limited : {A : Type 0} (r : Result A limits.Error) (x : A) → texts.limited_by r ≡ Ok x → r ≡ Ok x
text_limited (Ok y) x h = ap Ok (same_ok h)
text_limited (Err e) x h = absurd (cc)

pub text_read : {A : Type 0} (m : ℕ) (r : Result A Fault) (x : A) → texts.in_module m r ≡ Ok x → r ≡ Ok x
text_read m (Ok y) x h = ap Ok (same_ok h)
text_read m (Err e) x h = absurd (cc)

-- ---- of values

pub value_step : {A B : Type 0} (r : Result A values.Error) (f : A → Result B values.Error) (y : B) → values.◌>>=◌ r f ≡ Ok y
    → (x : A) × (r ≡ Ok x) × (f x ≡ Ok y)
value_step (Ok x) f y h = (x, refl, h)
value_step (Err e) f y h = absurd (cc)

pub value_read : {A : Type 0} (m : ℕ) (r : Result A Fault) (x : A) → values.in_module m r ≡ Ok x → r ≡ Ok x
value_read m (Ok y) x h = ap Ok (same_ok h)
value_read m (Err e) x h = absurd (cc)
