use Rattle.std.proofs.Common.{Ok}
use Rattle.oer_units.specs.Reader.{give}
use Rattle.oer_units.proofs.ReadSteps.{Reads-map, Reads-stop}
use Rattle.oer_model.specs.AsnValue.{octets}
use Rattle.oer_model.specs.Constraints.{fixed}
use Rattle.oer_model.specs.Reading.{read_octets}
use Rattle.oer_values.proofs.Values.{value_of-Octets}
use Rattle.oer_decoder.proofs.Exits.{at_stop}
use Rattle.oer_decoder.proofs.strings.read_octet_string.Goals as goal

pub returns-in_err-octets : goal.returns-in_err-octets
returns-in_err-octets g c = rw (at_stop c.from_residual.result c.in_err-octets.field-0.0 c.from_residual.ensures.1) (Reads-stop (read_octets (fixed c.args.size.now) c.args.size.now) (λ w. give (octets w)) _ _ _ c.in_err-octets.ensures)

pub returns : goal.returns
returns g c = rw (c.set.ensures, value_of-Octets) (Reads-map (read_octets (fixed c.args.size.now) c.args.size.now) octets _ _ (Ok c.in_ok-octets.octets.items) c.in_ok-octets.ensures)
