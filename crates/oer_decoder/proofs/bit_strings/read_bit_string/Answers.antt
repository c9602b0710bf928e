use Rattle.std.proofs.Common.{Ok}
use Rattle.oer_units.specs.Reader.{give}
use Rattle.oer_model.specs.AsnValue.{bit_list}
use Rattle.oer_model.specs.Constraints.{fixed}
use Rattle.oer_model.specs.Reading.{read_bits}
use Rattle.oer_units.proofs.ReadSteps.{Reads-map, Reads-stop}
use Rattle.oer_decoder.proofs.Values.{value_of-Bits}
use Rattle.oer_decoder.proofs.Exits.{at_stop}
use Rattle.oer_decoder.proofs.bit_strings.read_bit_string.Goals as goal

pub returns-in_err-bits : goal.returns-in_err-bits
returns-in_err-bits g c = rw (at_stop c.from_residual.result c.in_err-bits.field-0.0 c.from_residual.ensures.1) (Reads-stop (read_bits (fixed c.args.size.now) c.args.size.now) (λ w. give (bit_list w)) _ _ _ c.in_err-bits.ensures)

pub returns : goal.returns
returns g c = rw (c.set.ensures, value_of-Bits) (Reads-map (read_bits (fixed c.args.size.now) c.args.size.now) bit_list _ _ (Ok c.in_ok-bits.bits) c.in_ok-bits.ensures)
