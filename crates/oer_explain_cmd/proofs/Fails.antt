-- What is found out unless memory is refused.
use Rattle.std.proofs.Common.{◌≡◌, Bool, Result, Ok, Err, IfOk, false, true}
use Rattle.std.specs.Result.{result_unwrap_or}

pub unless_refused : {E : Type 0} (P : Type 0) (r : Result Bool E) → IfOk r (λ is. is ≡ true → P) → result_unwrap_or r false ≡ true → P
unless_refused P (Ok is) h found = h found
unless_refused P (Err e) h found = absurd (let differ : false ≡ true = found in cc)
