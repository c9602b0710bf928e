use Rattle.std.proofs.Common.{not, eqb, Ok}
use Rattle.oer_units.specs.Reading.{octet}
use Rattle.oer_units.proofs.ReadSteps.{Reads-stop, Reads-map}
use Rattle.oer_model.specs.AsnValue.{bool}
use Rattle.oer_decoder.proofs.Exits.{at_fault, here}
use Rattle.oer_decoder.proofs.numbers.truth.Goals as goal

pub returns-in_err-octet-clause-reads : goal.returns-in_err-octet-clause-reads
returns-in_err-octet-clause-reads g c = rw (at_fault c.from_residual.result c.in_err-octet.field-0.0 c.from_residual.ensures.1) (here _ _ _ _ (Reads-stop octet _ _ _ _ c.in_err-octet.ensures.reads))

pub returns-clause-reads : goal.returns-clause-reads
returns-clause-reads g c = Reads-map octet (λ x. bool (not (eqb x 0))) _ _ (Ok c.in_ok-octet.octet) c.in_ok-octet.ensures.reads
