use Rattle.std.proofs.Common.{SFits}
use Rattle.std.specs.Prelude.{FitsSigned, ℤ}
use Rattle.std.specs.Int.{w64}
use Rattle.std.proofs.lemmas.Int.{to_z-of_z}
use Rattle.oer_checker.proofs.UnitSteps.{range_ok}
use Rattle.oer_checker.proofs.units.long_enumerated_at.Goals as goal

pub returns-in-Ok-clause-range : goal.returns-in-Ok-clause-range
returns-in-Ok-clause-range c =
    let fits : SFits w64 c.in-Ok.number = record { sfits = (rw c.in-Ok.is at c.enumerated-answer.type_inv).1.1.1.1.0.1 } in
    range_ok (λ (x : ℤ). FitsSigned w64 x) c.in-Ok.number c.after.result c.after.new.self _ c.taken-taken.result (rw (to_z-of_z w64 c.in-Ok.number fits) at c.after.ensures) fits
