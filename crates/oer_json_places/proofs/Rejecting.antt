-- A type that rejects JSON with a fault.
use Rattle.std.proofs.Common.{◌≡◌, true, Some, None, Result, Ok, Err, refl, ap, sym}
use Rattle.serde_json.specs.Data.{Data}
use Rattle.oer_model.specs.AsnType.{AsnType}
use Rattle.oer_model.specs.AsnValue.{AsnValue}
use Rattle.oer_json.specs.Take.{taken}
use Rattle.oer_json.specs.declared.fault.JsonFault.{JsonFault}
use Rattle.oer_json.specs.declared.fault.JsonFault.TheVariants.{Memory, Kind, Name, Missing, Range, Misfit}
use Rattle.oer_json_places.specs.Rejected.{fault_among, fault_of, is_rejected, is_that, same_fault}

same : (f g : JsonFault) → same_fault f g ≡ true → f ≡ g
same Memory Memory h = refl
same Memory Kind h = absurd (cc)
same Memory Name h = absurd (cc)
same Memory Missing h = absurd (cc)
same Memory Range h = absurd (cc)
same Memory Misfit h = absurd (cc)
same Kind Memory h = absurd (cc)
same Kind Kind h = refl
same Kind Name h = absurd (cc)
same Kind Missing h = absurd (cc)
same Kind Range h = absurd (cc)
same Kind Misfit h = absurd (cc)
same Name Memory h = absurd (cc)
same Name Kind h = absurd (cc)
same Name Name h = refl
same Name Missing h = absurd (cc)
same Name Range h = absurd (cc)
same Name Misfit h = absurd (cc)
same Missing Memory h = absurd (cc)
same Missing Kind h = absurd (cc)
same Missing Name h = absurd (cc)
same Missing Missing h = refl
same Missing Range h = absurd (cc)
same Missing Misfit h = absurd (cc)
same Range Memory h = absurd (cc)
same Range Kind h = absurd (cc)
same Range Name h = absurd (cc)
same Range Missing h = absurd (cc)
same Range Range h = refl
same Range Misfit h = absurd (cc)
same Misfit Memory h = absurd (cc)
same Misfit Kind h = absurd (cc)
same Misfit Name h = absurd (cc)
same Misfit Missing h = absurd (cc)
same Misfit Range h = absurd (cc)
same Misfit Misfit h = refl

among : {A : Type 0} (f : JsonFault) (r : Result A JsonFault) → fault_among r ≡ Some f → r ≡ Err f
among f (Ok x) h = absurd (cc)
among f (Err g) h = let e : g ≡ f = cc in ap Err e

pub of_fault : (f : JsonFault) (T : AsnType) (j : Data) → fault_of T j ≡ Some f → taken T j ≡ Err f
of_fault f T j h = among f (taken T j) h

by_that : {A : Type 0} (f : JsonFault) (r : Result A JsonFault) → is_that f (fault_among r) ≡ true → r ≡ Err f
by_that f (Ok x) h = absurd (cc)
by_that f (Err g) h = let e : f ≡ g = same f g h in ap Err (sym e)

pub of_rejected : (f : JsonFault) (T : AsnType) (j : Data) → is_rejected f T j ≡ true → taken T j ≡ Err f
unfolding is_rejected
of_rejected f T j h = by_that f (taken T j) h

none_among : {A : Type 0} (r : Result A JsonFault) → fault_among r ≡ None → (x : A) × (r ≡ Ok x)
none_among (Ok x) h = (x, refl)
none_among (Err g) h = absurd (cc)

pub of_none : (T : AsnType) (j : Data) → fault_of T j ≡ None → (v : AsnValue) × (taken T j ≡ Ok v)
of_none T j h = none_among (taken T j) h
