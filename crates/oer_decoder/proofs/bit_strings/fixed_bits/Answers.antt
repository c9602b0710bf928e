use Rattle.std.proofs.Common.{Ok, take}
use Rattle.oer_units.specs.Reader.{give, group}
use Rattle.oer_units.proofs.ReadSteps.{Reads-map, Reads-stop}
use Rattle.oer_model.specs.Bits.{bits_of, octets_for}
use Rattle.oer_decoder.proofs.Exits.{at_fault, here}
use Rattle.oer_decoder.proofs.bit_strings.fixed_bits.Goals as goal

pub returns-in_err-octets : goal.returns-in_err-octets
returns-in_err-octets g c = rw (at_fault c.from_residual.result c.in_err-octets.field-0.0 c.from_residual.ensures.1) (here _ _ _ _ (Reads-stop (group (octets_for c.args.count)) (λ w. give (take c.args.count (bits_of w))) _ _ _ (rw c.octets_needed.ensures.value at c.in_err-octets.ensures.reads)))

pub returns : goal.returns
returns g c = rw c.packed.ensures (Reads-map (group (octets_for c.args.count)) (λ w. take c.args.count (bits_of w)) _ _ (Ok c.in_ok-octets.octets.items) (rw c.octets_needed.ensures.value at c.in_ok-octets.ensures.reads))
