-- What the checker finds in octets has at most one proof, as the fact of a ghost field must.
use Rattle.std.specs.Prelude.{ℕ, List}
use Rattle.std.proofs.Props.{props}
use Rattle.oer_model.specs.AsnType.{AsnType}
use Rattle.oer_checker.specs.Check.{IsFound}
use Rattle.oer_checker.specs.declared.verdict.Verdict.{Verdict}

pub IsFound-prop : (T : AsnType) (octets : List ℕ) (verdict : Verdict) → IsProp (IsFound T octets verdict)
IsFound-prop T octets verdict = hlevel props
