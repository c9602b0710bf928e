-- The exits of a `?`: one that passes an error on, and one that takes its reason.
use Rattle.std.proofs.Common.{◌≡◌, ℕ, Result, Err, ap, refl, subst, ◌∙◌}
use Rattle.std.specs.Result.{IsErrAnd}
use Rattle.std.proofs.lemmas.Result.{err_from_is_err_and}
use Rattle.oer_units.specs.declared.fault.ReadFault.{ReadFault}
use Rattle.oer_units.specs.declared.fault.Why.{Why}
use Rattle.oer_units.specs.Reader.{Reader}
use Rattle.oer_units.specs.Reads.{Reads, State}
use Rattle.oer_decoder.specs.declared.stop.Stop.{Stop}

pub at_stop : {A : Type 0} (r : Result A Stop) (e : Stop) → IsErrAnd r (λ y. y ≡ e) → r ≡ Err e
at_stop r e h = let p = err_from_is_err_and r h in p.1 ∙ ap (λ (y : Stop). Err y) p.2

stop_is : (s : Stop) (e : ReadFault) → s.why ≡ e.why → s ≡ record { why = e.why }
stop_is s e is = ap (λ (w : Why). record { why = w }) is

pub at_fault : {A : Type 0} (r : Result A Stop) (e : ReadFault) → IsErrAnd r (λ y. y.why ≡ e.why) → r ≡ Err (record { why = e.why })
at_fault r e h = let p = err_from_is_err_and r h in p.1 ∙ ap (λ (y : Stop). Err y) (stop_is p.0 e p.2)

-- an error, and the one with its reason at the place that was reached
same_fault : (e : ReadFault) (n : ℕ) (w : Why) → e.taken ≡ n → e.why ≡ w → e ≡ record { taken = n; why = w }
same_fault e n w at is = ap (λ (k : ℕ). record { taken = k; why = e.why }) at ∙ ap (λ (v : Why). record { taken = n; why = v }) is

pub here : {A : Type 0} (r : Reader A) (s s' : State) (e : ReadFault) → Reads r s (Err e) s' → Reads r s (Err (record { taken = s'.bound.taken; why = e.why })) s'
here r s s' e h = subst (λ (y : ReadFault). Reads r s (Err y) s') (same_fault e s'.bound.taken e.why h.fault refl) h
