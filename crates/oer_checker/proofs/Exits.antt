-- The exit of a `?` that passes the callee's refusal on.
use Rattle.std.proofs.Common.{◌≡◌, Result, Err, ap, ◌∙◌}
use Rattle.std.specs.Result.{IsErrAnd}
use Rattle.std.proofs.lemmas.Result.{err_from_is_err_and}

pub at_stop : {A E : Type 0} (r : Result A E) (e : E) → IsErrAnd r (λ y. y ≡ e) → r ≡ Err e
at_stop {E = E} r e h = let p = err_from_is_err_and r h in p.1 ∙ ap (λ (y : E). Err y) p.2
