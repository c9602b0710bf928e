-- What the plain function's answer tells of the JSON.
use Rattle.std.proofs.Common.{◌≡◌, IfErr, IfOk, Result, Ok, Err, sym, subst, ◌∙◌}
use Rattle.serde_json.specs.Data.{Data}
use Rattle.oer_model.specs.AsnType.{AsnType}
use Rattle.oer_model.specs.AsnValue.{AsnValue}
use Rattle.oer_model.specs.Fits.{Fits}
use Rattle.oer_values.specs.ValueView.{value_of}
use Rattle.oer_model.specs.WellFormed.{IsWellFormed}
use Rattle.oer_values.specs.declared.value.Value.{Value}
use Rattle.oer_json.specs.Answer.{IsSameOrMemory}
use Rattle.oer_json.specs.Denotes.{IsJsonOf}
use Rattle.oer_json.specs.Made.{made}
use Rattle.oer_json.specs.Take.{taken}
use Rattle.oer_json.specs.declared.fault.JsonFault.{JsonFault}
use Rattle.oer_json.specs.declared.fault.JsonFault.TheVariants.{Memory}
use Rattle.oer_json.proofs.Complete.{taken_complete}
use Rattle.oer_json.proofs.MadeDenotes.{made_taken}
use Rattle.oer_json.proofs.Sound.{taken_sound}

module _ (T : AsnType) (j : Data) where
  pub takes : (r : Result Value JsonFault) → IsSameOrMemory value_of r (taken T j) → IfOk r (λ v. IsJsonOf T (value_of v) j)
  takes (Ok v) h = taken_sound T j (value_of v) h
  takes (Err e) h = tt

  pub fits : (r : Result Value JsonFault) → IsSameOrMemory value_of r (taken T j) → IfOk r (λ v. Fits T (value_of v))
  fits (Ok v) h = (taken_sound T j (value_of v) h).1
  fits (Err e) h = tt

  ok_or_err : (v : AsnValue) (e : JsonFault) → ◌≡◌ {A = Result AsnValue JsonFault} (Ok v) (Err e) → ⊥
  ok_or_err v e h = cc

  module _ (w : IsWellFormed T) where
    pub refused : (r : Result Value JsonFault) → IsSameOrMemory value_of r (taken T j) → IfErr r (λ e. (e ≡ Memory → ⊥) → (v : AsnValue) → IsJsonOf T v j → ⊥)
    refused (Ok v) h = tt
    refused (Err e) h = λ other v t. ok_or_err v e (sym (taken_complete T w j v t) ∙ h other)

    pub again : (r : Result Value JsonFault) → IsSameOrMemory value_of r (taken T j) → (v : AsnValue) → Fits T v → j ≡ made T v → IsSameOrMemory value_of r (Ok v)
    again r h v f e = subst (IsSameOrMemory value_of r) (taken_complete T w j v (subst (IsJsonOf T v) (sym e) (made_taken T w v f))) h
