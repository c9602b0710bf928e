-- What led to an answer.
use Rattle.std.proofs.Common.{◌≡◌, Bool, true, false, cond, Option, Some, None, option_and_then, Result, Ok, Err, refl, ap}
use Rattle.oer_json.specs.Answer.{◌>>=◌, some_or}
use Rattle.oer_json.specs.declared.fault.JsonFault.{JsonFault}

pub bound_ok : {A B : Type 0} (r : Result A JsonFault) (f : A → Result B JsonFault) (y : B) → (r >>= f) ≡ Ok y → (x : A) × (r ≡ Ok x) × (f x ≡ Ok y)
bound_ok (Ok x) f y h = (x, refl, h)
bound_ok (Err e) f y h = absurd (cc)

pub ok_is : {A : Type 0} (x y : A) → ◌≡◌ {A = Result A JsonFault} (Ok x) (Ok y) → x ≡ y
ok_is x y h = cc

pub some_is : {A : Type 0} (x y : A) → Some x ≡ Some y → x ≡ y
some_is x y h = cc

pub given : {A : Type 0} (e : JsonFault) (o : Option A) (x : A) → some_or e o ≡ Ok x → o ≡ Some x
given e None x h = absurd (cc)
given e (Some y) x h = ap Some (ok_is y x h)

pub if_ok : {A : Type 0} (b : Bool) (r : Result A JsonFault) (e : JsonFault) (x : A) → cond b r (Err e) ≡ Ok x → (b ≡ true) × (r ≡ Ok x)
if_ok true r e x h = (refl, h)
if_ok false r e x h = absurd (cc)

pub if_some : {A : Type 0} (b : Bool) (x y : A) → cond b (Some x) None ≡ Some y → (b ≡ true) × (x ≡ y)
if_some true x y h = (refl, some_is x y h)
if_some false x y h = absurd (cc)

pub then_some : {A B : Type 0} (f : A → Option B) (o : Option A) (y : B) → option_and_then f o ≡ Some y → (x : A) × (o ≡ Some x) × (f x ≡ Some y)
then_some f None y h = absurd (cc)
then_some f (Some x) y h = (x, refl, h)
